-- What a turner stands for.
use Rattle.std.specs.Prelude.{◌≡◌, ◌<◌, ◌≤◌, ℕ, List, Bool, true, false, Option, length, drop, slice_index, slice_index_or}
use Rattle.policy_core.specs.Rotation as rotation
use Rattle.policy_core.specs.Rotation.{rotation_of, pick, turns_from}
use Rattle.egress_pool.specs.declared.turner.Place.{Place}

-- the weights of a pool's entrants, and the place of the last pick in their rotation
pub record Turns : Type 0 where
  pub weights : List ℕ
  pub last : Option rotation.Place

-- the place of the next pick
abbrev pub next_place : Turns → List Bool → Option rotation.Place
next_place turns eligible = pick (rotation_of turns.weights) eligible turns.last

-- no entrant with a weight above 0 is eligible
abbrev pub NoneEligible : List ℕ → List Bool → Type 0
NoneEligible weights eligible =
    (k : ℕ) → k < length weights → slice_index_or eligible k false ≡ true → slice_index weights k ≡ 0

abbrev pub place_of : Place → rotation.Place
place_of p = record { round = p.round; entrant = p.entrant }

-- an entrant with a turn in the round
pub record IsTurn (weights : List ℕ) (place : Place) : Type 0 where
  pub round : 1 ≤ place.round
  pub entrant : place.entrant < length weights
  pub weight : place.round ≤ slice_index weights place.entrant

-- the turns of a round from an entrant on
abbrev pub turns_behind : List ℕ → ℕ → ℕ → List rotation.Place
turns_behind weights round i = turns_from round i (drop i weights)
