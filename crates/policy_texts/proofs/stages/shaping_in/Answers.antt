use Rattle.std.proofs.lemmas.Result.{err_from_is_err_and}
use Rattle.policy_fault.specs.declared.fault.PolicyFile.TheVariants as file
use Rattle.policy_toml.specs.Reports.{reported}
use Rattle.shaping_policy.specs.ShapingFile.{ShapingFile, shaping_file}
use Rattle.policy_texts.proofs.Given.{too_many, given_ok, shaping_cause}
use Rattle.policy_texts.proofs.stages.shaping_in.Goals as goal

pub returns-then-text-gt-TEXT_LIMIT-clause-err : goal.returns-then-text-gt-TEXT_LIMIT-clause-err
returns-then-text-gt-TEXT_LIMIT-clause-err g c = too_many (reported file.Shaping) shaping_file c.args.text.now c.if-text-gt-TEXT_LIMIT.true

pub returns-in_err-read_shaping-clause-err : goal.returns-in_err-read_shaping-clause-err
returns-in_err-read_shaping-clause-err g c =
    let p = err_from_is_err_and c.from_residual.result c.from_residual.ensures.1 in
    rw (p.1, p.2) (shaping_cause shaping_file c.args.text.now _ _ _ c.if-text-gt-TEXT_LIMIT.false c.in_err-read_shaping.ensures.err c.in_err-read_shaping.ensures.cause.failed)

pub returns-clause-ok : goal.returns-clause-ok
returns-clause-ok g c =
    let read : ShapingFile = record { shaping = c.in_ok-read_shaping.field-0.0; ignored = c.in_ok-read_shaping.field-0.1.items } in
    given_ok (reported file.Shaping) shaping_file c.args.text.now read c.if-text-gt-TEXT_LIMIT.false c.in_ok-read_shaping.ensures.ok
