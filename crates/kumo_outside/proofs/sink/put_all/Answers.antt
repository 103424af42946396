use Rattle.std.proofs.Common.{sym, arith, take-add}
use Rattle.kumo_outside.proofs.ContentLemmas.{told_with-nil, told_with-next}
use Rattle.kumo_outside.proofs.sink.put_all.Goals as goal

pub loop-at-init : goal.loop-at-init
loop-at-init g c = record { within = omega arith; taken = sym (told_with-nil _); later = omega arith }

pub loop-at-preserved : goal.loop-at-preserved
loop-at-preserved g c = record {
  within = omega (arith, c.in_ok-at.ensures.taken.1);
  taken = rw (take-add, ← c.split_at.ensures.back) (told_with-next _ _ _ _ _ c.loop-at.invariant.taken c.in_ok-at.ensures.bytes);
  later = omega (arith, c.put.ensures.cause.later, c.loop-at.invariant.later);
}
