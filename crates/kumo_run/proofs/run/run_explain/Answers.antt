use Rattle.command_words.specs.Commands.{explain}
use Rattle.std.proofs.Common.{Some, [], refl}
use Rattle.command_words.specs.SeenCommands.{seen_question}
use Rattle.kumo_run.proofs.EndLemmas.{ends_answered, ends_refused}
use Rattle.kumo_run.proofs.run.run_explain.Goals as goal

pub returns-in-Ok-clause-ends : goal.returns-in-Ok-clause-ends
returns-in-Ok-clause-ends g c = λ disk.
    ends_answered (explain (seen_question c.args.asked.now)) _ _ _ _ c.as_str.result.now
    (c.as_str.result.now, rw c.as_str.ensures c.in-Ok.ensures.ok, refl) c.printed.ensures.history c.printed.ensures.wrote

pub returns-in-Err-clause-ends : goal.returns-in-Err-clause-ends
returns-in-Err-clause-ends g c = λ disk.
    ends_refused (Some (explain (seen_question c.args.asked.now))) _ _ _ _ [] c.in-Err.why
    (c.in-Err.ensures.err (g.O.Sink.seen c.args.out.now) (g.O.Sink.seen c.refused.new.out) disk)
    c.refused.ensures.status c.refused.ensures.history c.refused.ensures.wrote
