use Rattle.command_words.specs.SeenCommands.{seen_names}
use Rattle.kumo_run.proofs.PolicyLemmas.{refuses_policy}
use Rattle.kumo_run.proofs.policy_answers.check_text.Goals as goal

pub returns-in-Err-clause-err : goal.returns-in-Err-clause-err
returns-in-Err-clause-err g c =
    refuses_policy (g.T.Texts.seen c.args.texts.now) (g.T.Texts.seen c.load_policy.new.texts)
    (g.S.Search.seen c.args.search.now) (g.S.Search.seen c.load_policy.new.search) (seen_names c.args.names.now)
    c.in-Err.fault c.refusal_of_load.result c.refusal_of_load.ensures c.in-Err.ensures.err
