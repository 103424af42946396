-- The weighted rotation of a pool (KumoMTA's manual, egress pools): the cyclic list of its turns, and the pick of the next.
use Rattle.std.specs.Prelude.{ℕ, zero, suc, ◌+◌, ◌==◌, nat_le, max, List, [], ◌∷◌, ◌++◌, Bool, false, ◌&&◌, Option, Some, None, map, filter, find, fold, slice_index_or}
use Rattle.std.specs.List.{enumerate_from, before_first, after_first}
use Rattle.policy_core.specs.declared.sources.Pool.{Pool}

-- a place of the cyclic list: a round, counted from 1, and an entrant with a turn in it, counted from 0
pub record Place : Type 0 where
  pub round : ℕ
  pub entrant : ℕ

-- the turns of a round: of the entrants whose weight is at least its number, in entry order, where they are counted from i on
abbrev pub turns_from : ℕ → ℕ → List ℕ → List Place
turns_from round i weights =
    map (λ e. record { round = round; entrant = e.0 }) (filter (λ e. nat_le round e.1) (enumerate_from i weights))

abbrev pub turns_of_round : List ℕ → ℕ → List Place
turns_of_round weights round = turns_from round 0 weights

-- n rounds from a round on, one after another
abbrev pub rounds_from : List ℕ → ℕ → ℕ → List Place
rounds_from weights round zero = []
rounds_from weights round (suc n) = turns_of_round weights round ++ rounds_from weights (round + 1) n

abbrev pub greatest : List ℕ → ℕ
greatest weights = fold max 0 weights

-- the cyclic list: the rounds from the first to that of the greatest weight
unfoldable pub rotation_of : List ℕ → List Place
rotation_of weights = rounds_from weights 1 (greatest weights)

abbrev pub weights_of : Pool → List ℕ
weights_of pool = map (λ e. e.weight) pool.entrants

abbrev pub rotation : Pool → List Place
rotation pool = rotation_of (weights_of pool)

abbrev pub is_same_place : Place → Place → Bool
is_same_place p q = p.round == q.round && p.entrant == q.entrant

-- the places in the order in which they are tried: those behind the last pick's, then from the front up to it, it last; all
-- from the front where there was no pick
abbrev pub tried_after : Option Place → List Place → List Place
tried_after None places = places
tried_after (Some last) places =
    after_first (is_same_place last) places ++ (before_first (is_same_place last) places ++ last ∷ [])

abbrev pub is_eligible : List Bool → Place → Bool
is_eligible eligible p = slice_index_or eligible p.entrant false

-- the first of these whose entrant is eligible
unfoldable pub pick : List Place → List Bool → Option Place → Option Place
pick places eligible last = find (is_eligible eligible) (tried_after last places)
