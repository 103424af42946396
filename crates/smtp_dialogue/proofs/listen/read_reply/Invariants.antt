use Rattle.std.proofs.Common.{length, ◌-◌, ◌≡◌}
use Rattle.smtp_dialogue.specs.Speaks.{side}
use Rattle.smtp_dialogue.proofs.Listening.{IsReading}
use Rattle.smtp_dialogue.proofs.listen.read_reply.Given as goal

-- what came so far is what the reader took and what is unread
abbrev pub invariant-loop-left : goal.invariant-loop-left
invariant-loop-left g l = record {
  opening : (g.L.Link.seen l.link).opening ≡ (g.L.Link.seen l.fn.link).opening;
  reading : IsReading (side (g.L.Link.seen l.fn.link) l.fn.unread) (side (g.L.Link.seen l.link) l.unread) l.reader l.left;
}

abbrev pub decreases-loop-left : goal.decreases-loop-left
decreases-loop-left g l = l.left - length l.unread
