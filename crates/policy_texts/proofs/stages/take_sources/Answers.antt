use Rattle.policy_fault.specs.declared.fault.PolicyFile.TheVariants as file
use Rattle.policy_toml.specs.Reports.{reported}
use Rattle.sources_policy.specs.SourcesFile.{sources_file}
use Rattle.policy_texts.specs.inside.Stages.{no_counts, texts_counts}
use Rattle.policy_texts.proofs.Causes.{never_rose}
use Rattle.policy_texts.proofs.Taken.{as_read, taken_ok, taken_err}
use Rattle.policy_texts.proofs.stages.take_sources.Goals as goal

pub returns-clause-ok : goal.returns-clause-ok
returns-clause-ok g c =
    taken_ok (reported file.Sources) sources_file _ c.as_slice.result.now c.sources_in.result (λ r. record { sources = r.0; ignored = r.1.items })
    (as_read _ _ _ c.as_slice.ensures c.in_ok-text.ensures.ok) c.sources_in.ensures.ok

pub returns-clause-err : goal.returns-clause-err
returns-clause-err g c =
    taken_err (reported file.Sources) sources_file _ c.as_slice.result.now no_counts (texts_counts _ _) c.sources_in.result
    (as_read _ _ _ c.as_slice.ensures c.in_ok-text.ensures.ok) c.sources_in.ensures.err
    (λ rose. absurd (never_rose rose)) (λ rose. absurd (never_rose rose))
