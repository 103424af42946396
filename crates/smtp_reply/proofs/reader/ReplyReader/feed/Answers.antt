use Rattle.std.proofs.Common.{arith}
use Rattle.smtp_reply.proofs.ReadLemmas.{feeds_part}
use Rattle.smtp_reply.proofs.reader.ReplyReader.feed.Goals as goal

pub returns-then-not-needs_more-clause-fed : goal.returns-then-not-needs_more-clause-fed
returns-then-not-needs_more-clause-fed c so_far reads =
    feeds_part so_far c.args.bytes.now c.loop-used.used c.loop-used.self (omega arith) (λ more. grind (arith, c.needs_more.ensures.1 more)) (c.loop-used.invariant so_far reads)
