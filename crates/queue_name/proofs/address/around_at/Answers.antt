use Rattle.queue_name.proofs.AddressLemmas.{around_at_is}
use Rattle.queue_name.proofs.address.around_at.Goals as goal

pub returns : goal.returns
returns c = around_at_is c.args.address.now _ c.rsplit_once.ensures.cases
