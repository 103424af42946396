use Rattle.std.proofs.Common.{◌≡◌, ◌+◌, ◌<◌, ◌≤◌, Err, length, sym, ap, ◌∙◌, arith}
use Rattle.std.proofs.lemmas.Result.{err_from_is_err_and}
use Rattle.kumo_base.specs.Duration.{is_space, behind}
use Rattle.kumo_base.specs.declared.duration.TheConstants.{LONGEST_DURATION}
use Rattle.kumo_base.proofs.DurationLemmas.{reads_first, reads_empty, reads_end, reads_fault, reads_too_long, reads_more, is_none, is_some, within_cap, past_cap}
use Rattle.kumo_base.proofs.duration.duration_of.Goals as goal

pub returns-then-is_empty-clause-value : goal.returns-then-is_empty-clause-value
returns-then-is_empty-clause-value c =
    let start : c.without_spaces-rest.result.now ≡ behind is_space c.args.text.now =
    c.without_spaces-rest.ensures.value ∙ ap (behind is_space) c.as_bytes.ensures.value in
    sym (reads_empty c.args.text.now (ap length (sym start) ∙ is_none _ c.if-is_empty.ensures))

pub loop-rest-init : goal.loop-rest-init
loop-rest-init c =
    let start : c.without_spaces-rest.result.now ≡ behind is_space c.args.text.now =
    c.without_spaces-rest.ensures.value ∙ ap (behind is_space) c.as_bytes.ensures.value in
    let some : 0 < length c.without_spaces-rest.result.now = is_some _ c.if-is_empty.ensures in
    record {
      limit = omega arith;
      within = omega (arith, c.without_spaces-rest.ensures.within, c.as_bytes.ensures.len);
      same = rw start (reads_first c.args.text.now (rw start at some));
    }

pub returns-in_err-group-clause-value : goal.returns-in_err-group-clause-value
returns-in_err-group-clause-value c =
    let p = err_from_is_err_and c.from_residual.result c.from_residual.ensures.1 in
    rw (p.1, p.2) (sym (reads_fault c.args.text.now _ _ c.loop-rest.rest.now _ c.loop-rest.invariant.same (is_some _ c.loop-rest-test.ensures) c.in_err-group.ensures.value))

pub returns-then-sum-gt-LONGEST_DURATION-clause-value :
    goal.returns-then-sum-gt-LONGEST_DURATION-clause-value
returns-then-sum-gt-LONGEST_DURATION-clause-value c =
    let found = c.in_ok-group.ensures.value in
    let long = past_cap c.loop-rest.sum found.0 c.in_ok-group.group.milliseconds found.2 c.if-sum-gt-LONGEST_DURATION.true in
    ap Err c.fault_at.ensures
    ∙ sym (reads_too_long c.args.text.now _ _ c.loop-rest.rest.now _ c.loop-rest.invariant.same
    (is_some _ c.loop-rest-test.ensures) found.1 long)

pub loop-rest-preserved : goal.loop-rest-preserved
loop-rest-preserved c =
    let found = c.in_ok-group.ensures.value in
    let short : c.loop-rest.sum + c.in_ok-group.group.milliseconds ≤ LONGEST_DURATION = c.if-sum-gt-LONGEST_DURATION.false in
    let exact : c.in_ok-group.group.milliseconds ≡ found.0 =
    within_cap c.loop-rest.sum found.0 c.in_ok-group.group.milliseconds found.2 short in
    let more =
    reads_more c.args.text.now _ c.loop-rest.sum c.loop-rest.rest.now _ c.loop-rest.invariant.same
    (is_some _ c.loop-rest-test.ensures) found.1 (rw exact at short) c.in_ok-group.ensures.shorter in
    record {
      limit = short;
      within = omega (arith, c.without_spaces-rest-in-loop-rest.ensures.within, c.in_ok-group.ensures.shorter, c.loop-rest.invariant.within);
      same = rw (exact, c.without_spaces-rest-in-loop-rest.ensures.value) more;
    }

pub returns-clause-value : goal.returns-clause-value
returns-clause-value c =
    sym (reads_end c.args.text.now _ _ c.loop-rest.rest.now c.loop-rest.invariant.same (is_none _ c.loop-rest-test.ensures))
