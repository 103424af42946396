use Rattle.std.proofs.Common.{◌≤◌, ◌-◌, length}
use Rattle.sending_state.specs.State.{IsFurther}
use Rattle.sending_state.proofs.state.SendingState.examine.Given as goal

abbrev pub invariant-loop-self : goal.invariant-loop-self
invariant-loop-self g l = record {
  further : IsFurther l.fn.self l.self;
  later : (g.S.Search.seen l.fn.search).faults ≤ (g.S.Search.seen l.search).faults;
}

abbrev pub decreases-loop-self : goal.decreases-loop-self
decreases-loop-self g l = length l.self.history - l.self.examined
