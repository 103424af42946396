use Rattle.std.proofs.Common.{refl}
use Rattle.std.proofs.lemmas.Result.{err_from_is_err_and}
use Rattle.mx_table.specs.MxText.{rows_in, reported}
use Rattle.policy_texts.proofs.Given.{too_many, mx_rows, mx_cause}
use Rattle.policy_texts.proofs.stages.mx_in.Goals as goal

pub returns-then-text-gt-TEXT_LIMIT-clause-err : goal.returns-then-text-gt-TEXT_LIMIT-clause-err
returns-then-text-gt-TEXT_LIMIT-clause-err c = too_many reported rows_in c.args.text.now c.if-text-gt-TEXT_LIMIT.true

pub returns-in_err-read_mx-clause-err : goal.returns-in_err-read_mx-clause-err
returns-in_err-read_mx-clause-err c =
    let p = err_from_is_err_and c.from_residual.result c.from_residual.ensures.1 in
    rw (p.1, p.2) (mx_cause rows_in c.args.text.now _ c.if-text-gt-TEXT_LIMIT.false c.in_err-read_mx.ensures.err)

pub returns-clause-ok : goal.returns-clause-ok
returns-clause-ok c = mx_rows rows_in c.args.text.now c.in_ok-read_mx.field-0 (rows_in c.args.text.now) c.if-text-gt-TEXT_LIMIT.false refl c.in_ok-read_mx.ensures.ok
