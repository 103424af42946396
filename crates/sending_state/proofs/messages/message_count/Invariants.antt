use Rattle.std.proofs.Common.{◌≡◌, ◌≤◌, ◌+◌, drop, length}
use Rattle.history_core.specs.History.{messages}
use Rattle.sending_state.proofs.messages.message_count.Given as goal

abbrev pub invariant-loop-entry : goal.invariant-loop-entry
invariant-loop-entry l =
    (length (messages l.entries) ≡ l.count + length (messages (drop l.entry-index l.entries))) × (l.count ≤ l.entry-index)
