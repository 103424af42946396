use Rattle.spool_store.proofs.GatherLemmas.{waiting_same}
use Rattle.spool_store.proofs.gather.kept_of.Goals as goal

pub returns-then-message-place-clause-waiting : goal.returns-then-message-place-clause-waiting
returns-then-message-place-clause-waiting c = waiting_same c.args.place c.in-Ok.message c.args.payload.now c.if-message-place.true c.in-Ok.ensures.ok c.requires
