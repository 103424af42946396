use Rattle.std.proofs.Common.{◌≡◌, ◌+◌, drop}
use Rattle.toml.specs.View.{items_view}
use Rattle.policy_toml.specs.Places.{first_of}
use Rattle.shaping_policy.specs.Faults.{faults_of_entries}
use Rattle.shaping_policy.proofs.faults.note_entries.Given as goal

abbrev pub invariant-loop-index : goal.invariant-loop-index
invariant-loop-index l =
    first_of l.faults (faults_of_entries l.place (l.index + 1) (items_view (drop l.index l.entries))) ≡ first_of l.fn.faults (faults_of_entries l.place 1 (items_view l.entries))
