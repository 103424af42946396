use Rattle.kumo_base.proofs.MarkLemmas.{around_is}
use Rattle.kumo_base.proofs.borrowed.around_first.Goals as goal

pub returns : goal.returns
returns c = around_is c.args.mark c.args.text.now _ c.requires c.split_once.ensures.cases
