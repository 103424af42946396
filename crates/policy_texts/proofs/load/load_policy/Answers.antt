use Rattle.std.proofs.Common.{◌∙◌, arith}
use Rattle.std.proofs.lemmas.Result.{err_from_is_err_and}
use Rattle.command_words.specs.SeenCommands.{seen_names}
use Rattle.sources_policy.specs.SourcesFile.{SourcesFile}
use Rattle.queues_policy.specs.QueuesFile.{QueuesFile}
use Rattle.shaping_policy.specs.ShapingFile.{ShapingFile}
use Rattle.policy_texts.specs.inside.Stages.{no_counts, texts_counts}
use Rattle.policy_texts.proofs.Causes.{never_rose, rose_since, cause_as}
use Rattle.policy_texts.proofs.Loading.{is_policy, comes_as, loads}
use Rattle.policy_texts.proofs.Loading.{stops_at_sources, stops_at_queues, stops_at_shaping, stops_at_mx, stops_at_pools}
use Rattle.policy_texts.proofs.load.load_policy.Goals as goal

pub returns-in_err-sources-clause-err : goal.returns-in_err-sources-clause-err
returns-in_err-sources-clause-err g c =
    let p = err_from_is_err_and c.from_residual.result c.from_residual.ensures.1 in
    let told = (g.T.Texts.seen c.args.texts.now).told in
    let names = seen_names c.args.names.now in
    rw (p.1, p.2)
    (cause_as _ _ (texts_counts _ _) _ _
    (λ stop e. stops_at_sources told names stop e)
    c.in_err-sources.ensures.err
    (λ rose. rose)
    (λ rose. absurd (never_rose rose)))

pub returns-in_err-queues-clause-err : goal.returns-in_err-queues-clause-err
returns-in_err-queues-clause-err g c =
    let p = err_from_is_err_and c.from_residual-in_err-queues.result c.from_residual-in_err-queues.ensures.1 in
    let told = (g.T.Texts.seen c.args.texts.now).told in
    let names = seen_names c.args.names.now in
    let same_q = c.in_ok-sources.ensures.told in
    rw (p.1, p.2)
    (cause_as _ _ (texts_counts _ _) _ _
    (λ stop e. stops_at_queues told names _ c.in_ok-sources.ensures.ok stop (comes_as names.queues same_q e))
    c.in_err-queues.ensures.err
    (λ rose. rose_since _ _ _ c.in_ok-sources.ensures.later rose)
    (λ rose. absurd (never_rose rose)))

pub returns-in_err-shaping-clause-err : goal.returns-in_err-shaping-clause-err
returns-in_err-shaping-clause-err g c =
    let p = err_from_is_err_and c.from_residual-in_err-shaping.result c.from_residual-in_err-shaping.ensures.1 in
    let told = (g.T.Texts.seen c.args.texts.now).told in
    let names = seen_names c.args.names.now in
    let same_q = c.in_ok-sources.ensures.told in
    let same_h = c.in_ok-queues.ensures.told ∙ same_q in
    rw (p.1, p.2)
    (cause_as _ _ _ _ _
    (λ stop e. stops_at_shaping told names _ c.in_ok-sources.ensures.ok
    _ (comes_as names.queues same_q c.in_ok-queues.ensures.ok)
    stop (comes_as names.shaping same_h e))
    c.in_err-shaping.ensures.err
    (λ rose. rose_since _ _ _ (omega (arith, c.in_ok-sources.ensures.later, c.in_ok-queues.ensures.later)) rose)
    (λ rose. rose))

pub returns-in_err-mx-clause-err : goal.returns-in_err-mx-clause-err
returns-in_err-mx-clause-err g c =
    let p = err_from_is_err_and c.from_residual-in_err-mx.result c.from_residual-in_err-mx.ensures.1 in
    let told = (g.T.Texts.seen c.args.texts.now).told in
    let names = seen_names c.args.names.now in
    let same_q = c.in_ok-sources.ensures.told in
    let same_h = c.in_ok-queues.ensures.told ∙ same_q in
    let same_m = c.in_ok-shaping.ensures.told ∙ same_h in
    rw (p.1, p.2)
    (cause_as _ _ (texts_counts _ _) _ _
    (λ stop e. stops_at_mx told names _ c.in_ok-sources.ensures.ok
    _ (comes_as names.queues same_q c.in_ok-queues.ensures.ok)
    _ (comes_as names.shaping same_h c.in_ok-shaping.ensures.ok)
    stop (comes_as names.mx same_m e))
    c.in_err-mx.ensures.err
    (λ rose. rose_since _ _ _
    (omega (arith, c.in_ok-sources.ensures.later, c.in_ok-queues.ensures.later, c.in_ok-shaping.ensures.later)) rose)
    (λ rose. absurd (never_rose rose)))

pub returns-in_err-policy-clause-err : goal.returns-in_err-policy-clause-err
returns-in_err-policy-clause-err g c =
    let p = err_from_is_err_and c.from_residual-in_err-policy.result c.from_residual-in_err-policy.ensures.1 in
    let told = (g.T.Texts.seen c.args.texts.now).told in
    let names = seen_names c.args.names.now in
    let same_q = c.in_ok-sources.ensures.told in
    let same_h = c.in_ok-queues.ensures.told ∙ same_q in
    let same_m = c.in_ok-shaping.ensures.told ∙ same_h in
    let m = c.in_ok-mx.ensures.ok in
    rw (p.1, p.2)
    (cause_as _ _ no_counts _ _
    (λ stop e. stops_at_pools told names _ c.in_ok-sources.ensures.ok
    _ (comes_as names.queues same_q c.in_ok-queues.ensures.ok)
    _ (comes_as names.shaping same_h c.in_ok-shaping.ensures.ok)
    m.0 (comes_as names.mx same_m m.1) stop e)
    c.in_err-policy.ensures.err
    (λ rose. absurd (never_rose rose))
    (λ rose. absurd (never_rose rose)))

pub returns-clause-ok : goal.returns-clause-ok
returns-clause-ok g c =
    let told = (g.T.Texts.seen c.args.texts.now).told in
    let names = seen_names c.args.names.now in
    let same_q = c.in_ok-sources.ensures.told in
    let same_h = c.in_ok-queues.ensures.told ∙ same_q in
    let same_m = c.in_ok-shaping.ensures.told ∙ same_h in
    let m = c.in_ok-mx.ensures.ok in
    let s : SourcesFile = record { sources = c.in_ok-sources.sources; ignored = c.in_ok-sources.of_sources.items } in
    let q : QueuesFile = record { queues = c.in_ok-queues.queues; ignored = c.in_ok-queues.of_queues.items } in
    let h : ShapingFile = record { shaping = c.in_ok-shaping.shaping; ignored = c.in_ok-shaping.of_shaping.items } in
    loads told names s c.in_ok-sources.ensures.ok
    q (comes_as names.queues same_q c.in_ok-queues.ensures.ok)
    h (comes_as names.shaping same_h c.in_ok-shaping.ensures.ok)
    m.0 (comes_as names.mx same_m m.1)
    c.in_ok-policy.policy _ c.in_ok-policy.ensures.known
    (is_policy s q h c.in_ok-mx.mx m.0 c.in_ok-policy.policy c.in_ok-policy.ensures.ok m.2)
    c.in_ok-ignored.ensures
