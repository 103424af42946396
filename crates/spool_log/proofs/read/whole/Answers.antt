use Rattle.std.proofs.Common.{arith}
use Rattle.spool_log.proofs.Records.{some_record}
use Rattle.spool_log.proofs.read.whole.Goals as goal

pub returns-clause-judged : goal.returns-clause-judged
returns-clause-judged c = λ area placed whole one.
    some_record c.args.at c.args.n c.size_of-size.result c.args.long area c.args.head.now placed (omega arith) (omega arith) one (λ i. omega (arith, c.fits-head i)) c.size_of-size.ensures.value
    c.size_of-size.ensures.small whole (omega arith) (omega arith)
