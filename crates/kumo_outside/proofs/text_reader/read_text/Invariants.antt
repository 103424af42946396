use Rattle.std.proofs.Common.{◌≡◌, ◌≤◌, ◌+◌, ◌-◌, length, take, IfSome}
use Rattle.kumo_outside.proofs.text_reader.read_text.Given as goal

-- what was read so far is the front of the text
abbrev pub invariant-loop-buffer : goal.invariant-loop-buffer
invariant-loop-buffer g l = record {
  front : IfSome ((g.T.Texts.seen l.fn.texts).told l.name) (λ text. (l.bytes ≡ take (length l.bytes) text) × (length l.bytes ≤ length text));
  told : (g.T.Texts.seen l.texts).told ≡ (g.T.Texts.seen l.fn.texts).told;
  later : (g.T.Texts.seen l.fn.texts).faults ≤ (g.T.Texts.seen l.texts).faults;
}

abbrev pub decreases-loop-buffer : goal.decreases-loop-buffer
decreases-loop-buffer g l = l.limit + 1 - length l.bytes
