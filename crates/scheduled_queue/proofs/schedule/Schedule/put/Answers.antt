use Rattle.std.proofs.Common.{◌≡◌, ◌<◌, false, min, vec_len, nat_eq, is_some, length, sym, ap, ◌∙◌, subst, arith}
use Rattle.std.specs.Option.{option_to_list}
use Rattle.indexmap.specs.IndexMap.{get, index_map_len, spare}
use Rattle.scheduled_queue.specs.declared.due.Due.{Due}
use Rattle.scheduled_queue.specs.Dues.{contains}
use Rattle.scheduled_queue.specs.Kept.{in_order, IsKept}
use Rattle.scheduled_queue.proofs.KeptLemmas.{kept_put, known, at_ok, one_more}
use Rattle.scheduled_queue.proofs.schedule.Schedule.put.Goals as goal

pub invariant_of-self : goal.invariant_of-self
invariant_of-self c =
    let inside = c.self.inside in
    let members = in_order inside.tree in
    let n = c.args.number in
    let is = c.self.invariant.0 in
    let e = c.insert-noted.ensures in
    let member : Due = record { due = c.min.result; number = n } in
    let new : contains n members ≡ false = ap (λ w. contains n w.members) c.self.view_is ∙ c.requires.new in
    let absent : is_some (get nat_eq inside.dues n) ≡ false = ap is_some (is.knows n) ∙ known n members ∙ new in
    let room : min (vec_len inside.spares) (spare inside.dues) ≡ c.args.self.now.spare = ap (λ w. w.spare) c.self.view_is in
    let some : 0 < spare inside.dues = omega (arith, room, c.requires.room) in
    let ok = e.succeeds some in
    let updates = at_ok c.insert-noted.result ok e.updates in
    let len = one_more c.insert-noted.result (get nat_eq inside.dues n) (index_map_len c.insert-noted.new.self) (index_map_len inside.dues) ok e.old e.len absent in
    let kept = kept_put inside.dues c.insert-noted.new.self member members is new updates.0 len in
    let popped = ap (λ o. length (option_to_list o)) c.unwrap-spare.ensures in (
      subst (λ l. IsKept c.insert-noted.new.self l) (sym c.insert.ensures) kept,
      omega (arith, c.self.invariant.1, len, c.pop.ensures.len, popped, c.pop.ensures.capacity),
    )
