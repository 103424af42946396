use Rattle.std.proofs.Common.{◌≡◌, ◌++◌, drop}
use Rattle.sending_state.specs.inside.Among.{met_among}
use Rattle.sending_state.proofs.orders.met_by.Given as goal

abbrev pub invariant-loop-entry : goal.invariant-loop-entry
invariant-loop-entry l =
    met_among l.entries l.criteria l.entries ≡ l.ids.items ++ met_among l.entries l.criteria (drop l.entry-index l.entries)
