-- The lines so far.
use Rattle.std.proofs.Common.{◌≡◌, take}
use Rattle.kumo_run.specs.Spool.{lines_of}
use Rattle.kumo_run.proofs.spool.lines_of.Given as goal

abbrev pub invariant-loop-one : goal.invariant-loop-one
invariant-loop-one l = l.text ≡ lines_of (take l.one-index l.kept)
