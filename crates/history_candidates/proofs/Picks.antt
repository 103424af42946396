-- The source of the entrant that a rotation picks.
use Rattle.std.proofs.Common.{◌≡◌, refl, sym, ap, ◌∙◌, ℕ, ◌<◌, List, length, get_or, Bool, Option, Some, None, option_map}
use Rattle.std.specs.Option.{option_and_then}
use Rattle.std.specs.Prelude.{slice_get}
use Rattle.std.proofs.lemmas.Option.{same_Some, slice_get_read}
use Rattle.policy_core.specs.declared.sources.Pool.{Pool}
use Rattle.policy_core.specs.declared.sources.Entrant.{Entrant}
use Rattle.policy_core.specs.Rotation.{Place, weights_of, rotation, pick}
use Rattle.egress_pool.specs.Turner.{Turns, next_place}
use Rattle.history_core.specs.Candidates.{source_at}

source_picked : (pool : Pool) (o : Option Place) (entrant : ℕ) (e : Entrant) → Some entrant ≡ option_map (λ place. place.entrant) o
    → entrant < length pool.entrants → e ≡ get_or pool.entrants entrant e → Some e.source ≡ option_and_then (source_at pool) o
source_picked pool None entrant e is within here = absurd cc
source_picked pool (Some place) entrant e is within here =
    let same : entrant ≡ place.entrant = same_Some entrant place.entrant is in
    sym (ap (option_map (λ (x : Entrant). x.source)) (ap (slice_get pool.entrants) (sym same)
    ∙ slice_get_read pool.entrants (length pool.entrants) entrant e refl within here))

pub picked : (turner : Turns) (pool : Pool) (flags eligible : List Bool) (place : Option Place) (result : Option ℕ) (entrant : ℕ)
    (e : Entrant) (source : List ℕ) → turner ≡ record { weights = weights_of pool; last = place } → flags ≡ eligible
    → result ≡ option_map (λ place. place.entrant) (next_place turner flags) → result ≡ Some entrant
    → entrant < length pool.entrants → e ≡ get_or pool.entrants entrant e → source ≡ e.source
    → Some source ≡ option_and_then (source_at pool) (pick (rotation pool) eligible place)
picked turner pool flags eligible place result entrant e source at same by is within here copied =
    ap Some copied ∙ source_picked pool (pick (rotation pool) eligible place) entrant e
    (sym is ∙ by ∙ ap (λ fs. option_map (λ place. place.entrant) (next_place turner fs)) same
    ∙ ap (λ turns. option_map (λ place. place.entrant) (next_place turns eligible)) at)
    within here
