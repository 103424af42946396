use Rattle.std.proofs.Common.{length, ◌-◌, ◌≡◌, ◌≤◌, take}
use Rattle.smtp_dialogue.specs.inside.Asking.{Sends}
use Rattle.smtp_dialogue.proofs.send.send_all.Given as goal

-- the bytes before the place were sent
abbrev pub invariant-loop-at : goal.invariant-loop-at
invariant-loop-at g l = record {
  within : l.at ≤ length l.bytes;
  opening : (g.L.Link.seen l.link).opening ≡ (g.L.Link.seen l.fn.link).opening;
  sends : Sends (take l.at l.bytes) (g.L.Link.seen l.fn.link) (g.L.Link.seen l.link);
}

abbrev pub decreases-loop-at : goal.decreases-loop-at
decreases-loop-at g l = length l.bytes - l.at
