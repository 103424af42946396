use Rattle.std.proofs.Common.{◌++◌, ℕ, List, take}
use Rattle.smtp_reply.specs.Reading.{Reads}
use Rattle.smtp_reply.proofs.reader.ReplyReader.feed.Given as goal

abbrev pub invariant-loop-used : goal.invariant-loop-used
invariant-loop-used l = (so_far : List ℕ) → Reads l.fn.self so_far → Reads l.self (so_far ++ take l.used l.bytes)
