use Rattle.std.proofs.lemmas.Result.{err_from_is_err_and}
use Rattle.policy_fault.specs.declared.fault.PolicyFile.TheVariants as file
use Rattle.policy_toml.specs.Reports.{reported}
use Rattle.sources_policy.specs.SourcesFile.{SourcesFile, sources_file}
use Rattle.policy_texts.proofs.Given.{too_many, given_ok, file_cause}
use Rattle.policy_texts.proofs.stages.sources_in.Goals as goal

pub returns-then-text-gt-TEXT_LIMIT-clause-err : goal.returns-then-text-gt-TEXT_LIMIT-clause-err
returns-then-text-gt-TEXT_LIMIT-clause-err c = too_many (reported file.Sources) sources_file c.args.text.now c.if-text-gt-TEXT_LIMIT.true

pub returns-in_err-read_sources-clause-err : goal.returns-in_err-read_sources-clause-err
returns-in_err-read_sources-clause-err c =
    let p = err_from_is_err_and c.from_residual.result c.from_residual.ensures.1 in
    rw (p.1, p.2) (file_cause file.Sources sources_file c.args.text.now _ c.if-text-gt-TEXT_LIMIT.false c.in_err-read_sources.ensures.err)

pub returns-clause-ok : goal.returns-clause-ok
returns-clause-ok c =
    let read : SourcesFile = record { sources = c.in_ok-read_sources.field-0.0; ignored = c.in_ok-read_sources.field-0.1.items } in
    given_ok (reported file.Sources) sources_file c.args.text.now read c.if-text-gt-TEXT_LIMIT.false c.in_ok-read_sources.ensures.ok
