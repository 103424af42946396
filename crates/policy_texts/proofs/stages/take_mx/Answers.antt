use Rattle.mx_table.specs.MxText.{rows_in, reported}
use Rattle.policy_texts.specs.inside.Stages.{no_counts, texts_counts}
use Rattle.policy_texts.proofs.Causes.{never_rose}
use Rattle.policy_texts.proofs.Taken.{as_read, taken_rows, taken_err}
use Rattle.policy_texts.proofs.stages.take_mx.Goals as goal

pub returns-clause-ok : goal.returns-clause-ok
returns-clause-ok g c =
    taken_rows reported rows_in _ c.as_slice.result.now c.mx_in.result (as_read _ _ _ c.as_slice.ensures c.in_ok-text.ensures.ok) c.mx_in.ensures.ok

pub returns-clause-err : goal.returns-clause-err
returns-clause-err g c =
    taken_err reported rows_in _ c.as_slice.result.now no_counts (texts_counts _ _) c.mx_in.result
    (as_read _ _ _ c.as_slice.ensures c.in_ok-text.ensures.ok) c.mx_in.ensures.err
    (λ rose. absurd (never_rose rose)) (λ rose. absurd (never_rose rose))
