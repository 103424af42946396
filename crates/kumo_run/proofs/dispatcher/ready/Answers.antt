use Rattle.kumo_run.proofs.StepLemmas.{may_promote}
use Rattle.kumo_run.proofs.dispatcher.ready.Goals as goal

pub promote-requires-clause-follows : goal.promote-requires-clause-follows
promote-requires-clause-follows c =
    rw (c.accept.ensures.history, c.in_ok-registry.ensures.empty, c.in_ok-copy.ensures, c.in_ok-source.ensures)
    (may_promote c.args.message.now c.requires.due)
