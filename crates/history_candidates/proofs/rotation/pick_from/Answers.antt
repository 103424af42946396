use Rattle.std.proofs.Common.{arith, refl}
use Rattle.std.proofs.lemmas.List.{length-map}
use Rattle.policy_core.specs.declared.sources.Entrant.{Entrant}
use Rattle.policy_core.specs.Rotation.{weights_of}
use Rattle.history_core.specs.History.{path_for}
use Rattle.history_core.specs.Candidates.{has_room, eligible, place_of}
use Rattle.history_candidates.proofs.Picks.{picked}
use Rattle.history_candidates.proofs.rotation.pick_from.Goals as goal

pub returns-in-Some : goal.returns-in-Some
returns-in-Some c =
    let flags = eligible c.args.policy.now c.args.entries.now c.args.t c.args.message.now c.args.pool.now in
    let place = place_of c.args.policy.now c.args.pool.now c.args.entries.now in
    picked (record { weights = weights_of c.args.pool.now; last = place }) c.args.pool.now flags flags place c.pick.result c.in-Some.entrant
    c.index-as_slice-entrant.result c.in_ok-copy-in-Some.field-0 refl refl
    (grind (arith, c.pick.ensures.picked, c.in_ok-turner.ensures, c.in_ok-flags.ensures, c.as_slice.ensures.value))
    (grind (arith, c.in-Some.is))
    (grind (
      arith,
      c.in-Some.ensures.within,
      c.in_ok-flags.ensures,
      c.as_slice.ensures.value,
      length-map c.args.pool.now.entrants
          (λ (e : Entrant). has_room c.args.policy.now c.args.entries.now c.args.t (path_for c.args.policy.now c.args.message.now e.source)),
    ))
    (grind (arith, c.index-as_slice-entrant.is, c.as_slice-in-Some.ensures))
    (grind (arith, c.in_ok-copy-in-Some.ensures))
