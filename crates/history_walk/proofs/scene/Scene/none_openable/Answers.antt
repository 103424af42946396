use Rattle.std.proofs.Common.{◌≡◌, Bool, true, false, not, Option, Some, None, is_some, IsTrue, option_map, sym, refl}
use Rattle.history_core.specs.declared.path.Path.{Path}
use Rattle.history_core.specs.History.{text_of, paths}
use Rattle.history_core.specs.Openable.{is_openable, opened_rank}
use Rattle.history_walk.proofs.NoneFound.{no_least, least_of_none}
use Rattle.history_walk.proofs.scene.Scene.none_openable.Goals as goal

none_is : {K : Type 0} (o : Option K) (f : K → Path) (least : Option Path) (is_none : Bool) → option_map f o ≡ least → is_some o ≡ not is_none
    → (IsTrue is_none → least ≡ None) × (least ≡ None → IsTrue is_none)
none_is None f least true e s = (λ yes. sym e, λ none. refl)
none_is None f least false e s = absurd cc
none_is (Some k) f least true e s = absurd cc
none_is (Some k) f least false e s = (λ yes. absurd cc, λ none. absurd cc)

pub returns : goal.returns
returns c =
    let s = c.args.self.now in
    let rank = λ (p : Path). opened_rank s.history (text_of p) in
    let openable = is_openable s.policy s.history s.moment in
    let ways = paths s.policy s.history in
    let both = none_is c.next_to_open.result (λ k. k.now.path) _ c.is_none.result c.next_to_open.ensures.next c.is_none.ensures in
    (λ yes. no_least rank openable ways (both.0 yes), λ none. both.1 (least_of_none rank openable ways none))
