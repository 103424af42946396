use Rattle.std.proofs.Common.{◌≡◌, ◌+◌, ◌<◌, ◌^◌, length}
use Rattle.std.specs.Str.Lines.{lines}
use Rattle.kumo_base.specs.Lines.{numbered_from, left}
use Rattle.kumo_base.proofs.lines.Lines.next_line.Given as goal

-- the lines passed were empty
abbrev pub invariant-loop-line : goal.invariant-loop-line
invariant-loop-line l = record {
  same : left l.fn.self ≡ numbered_from l.self-inside.number (lines l.self-inside.rest.now);
  fits : l.self-inside.number + length l.self-inside.rest.now < 2 ^ 64;
}

abbrev pub decreases-loop-line : goal.decreases-loop-line
decreases-loop-line l = length l.self-inside.rest.now
