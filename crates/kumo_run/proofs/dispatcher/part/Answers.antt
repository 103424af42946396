use Rattle.smtp_reply.specs.ReplyText.{IsProperOutcome}
use Rattle.std.proofs.Common.{subst}
use Rattle.kumo_run.proofs.StepLemmas.{may_end}
use Rattle.kumo_run.proofs.dispatcher.part.Goals as goal

pub end_delivered-requires-clause-follows : goal.end_delivered-requires-clause-follows
end_delivered-requires-clause-follows g c =
    rw c.requires.history (may_end c.args.message.now c.in-Delivered.reply (subst IsProperOutcome c.in-Delivered.is c.requires.outcome))
