use Rattle.std.proofs.Common.{codes}
use Rattle.throttle_spec.proofs.TextLemmas.{around_text}
use Rattle.throttle_spec.proofs.parse.around_burst.Goals as goal

pub returns : goal.returns
returns c = around_text (codes ",max_burst=") c.args.rate.now c.split_once.result c.split_once.ensures.cases
