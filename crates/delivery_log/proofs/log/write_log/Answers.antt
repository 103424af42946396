-- What was put and gathered over the whole history.
use Rattle.std.proofs.Common.{◌+◌, ◌∙◌, ap, refl, arith, subst}
use Rattle.kumo_outside.specs.Content.{told_with, TakesPrefix, TakesProperPrefix}
use Rattle.kumo_outside.proofs.ContentLemmas.{TakesPrefix-none}
use Rattle.delivery_log.specs.inside.LogGathered.{Gathers}
use Rattle.delivery_log.proofs.LogWriting.{OnErr-from, gathers_all, gathers_more, gathers_put, front_put, front_next, front_last, front_of_log, log_text_of_next, log_text_of_all}
use Rattle.delivery_log.proofs.log.write_log.Goals as goal

pub returns-in_err-buffer-clause-err : goal.returns-in_err-buffer-clause-err
returns-in_err-buffer-clause-err g c = OnErr-from _ (TakesPrefix-none _ _ _ refl)

pub loop-entry-init : goal.loop-entry-init
loop-entry-init g c = record { gathered = gathers_all _ _ _ c.in_ok-buffer.ensures; later = omega arith }

pub returns-in_err-line-clause-err : goal.returns-in_err-line-clause-err
returns-in_err-line-clause-err g c =
    OnErr-from _ (front_of_log _ _ _ c.loop-entry.entry-index (front_put _ _ _ _ c.loop-entry.invariant.gathered))

pub returns-in_err-write_line-clause-err : goal.returns-in_err-write_line-clause-err
returns-in_err-write_line-clause-err g c =
    let line = c.as_bytes.ensures.value ∙ c.as_str.ensures ∙ c.in_ok-line.ensures in
    let next = log_text_of_next _ _ _ c.entry-item.result _ c.entries-entry-items.ensures c.loop-entry-test.true c.entry-item.is line in
    let front = front_next _ _ _ _ _ _ c.loop-entry.invariant.gathered c.in_err-write_line.ensures.err in
    OnErr-from _ (front_of_log _ _ _ (c.loop-entry.entry-index + 1) (subst (TakesPrefix _ _) next front))

pub loop-entry-preserved : goal.loop-entry-preserved
loop-entry-preserved g c =
    let line = c.as_bytes.ensures.value ∙ c.as_str.ensures ∙ c.in_ok-line.ensures in
    let next = log_text_of_next _ _ _ c.entry-item.result _ c.entries-entry-items.ensures c.loop-entry-test.true c.entry-item.is line in
    record {
      gathered = subst (Gathers _ _ _) next (gathers_more _ _ _ _ _ _ _ c.loop-entry.invariant.gathered c.in_ok-write_line.ensures.ok);
      later = omega (arith, c.write_line.ensures.later);
    }

pub returns-in_err-put_all-clause-err : goal.returns-in_err-put_all-clause-err
returns-in_err-put_all-clause-err g c =
    let part = subst (TakesProperPrefix _ _) c.bytes.ensures c.in_err-put_all.ensures.part in
    OnErr-from _ (front_of_log _ _ _ c.loop-entry.entry-index (front_last _ _ _ _ _ c.loop-entry.invariant.gathered part))

pub returns-clause-ok : goal.returns-clause-ok
returns-clause-ok g c =
    let put = c.in_ok-put_all.ensures.whole ∙ ap (told_with (g.O.Sink.seen c.loop-entry.out).told) c.bytes.ensures in
    let all = log_text_of_all _ _ _ c.entries-entry-items.ensures c.loop-entry-test.false in
    gathers_put _ _ _ _ _ c.loop-entry.invariant.gathered put ∙ ap (told_with (g.O.Sink.seen c.args.out.now).told) all
