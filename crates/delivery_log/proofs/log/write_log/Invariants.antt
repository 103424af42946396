-- The lines so far were put, or are gathered.
use Rattle.std.proofs.Common.{◌≤◌, take}
use Rattle.delivery_log.specs.LogText.{log_text}
use Rattle.delivery_log.specs.inside.LogGathered.{Gathers}
use Rattle.delivery_log.proofs.log.write_log.Given as goal

abbrev pub invariant-loop-entry : goal.invariant-loop-entry
invariant-loop-entry g l = record {
  gathered : Gathers (g.O.Sink.seen l.fn.out).told (g.O.Sink.seen l.out).told l.buffer (log_text (take l.entry-index l.fn.history));
  later : (g.O.Sink.seen l.fn.out).faults ≤ (g.O.Sink.seen l.out).faults;
}
