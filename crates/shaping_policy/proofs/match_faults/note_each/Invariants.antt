use Rattle.std.proofs.Common.{◌≡◌, ◌+◌, drop, codes}
use Rattle.toml.specs.View.{items_view}
use Rattle.policy_toml.specs.Places.{first_of}
use Rattle.shaping_policy.specs.Faults.{match_at, faults_from}
use Rattle.shaping_policy.proofs.match_faults.note_each.Given as goal

abbrev pub invariant-loop-index : goal.invariant-loop-index
invariant-loop-index l =
    first_of l.faults (faults_from match_at l.place 0 (codes "match") (l.index + 1) (items_view (drop l.index l.matches))) ≡ first_of l.fn.faults (faults_from match_at l.place 0 (codes "match") 1 (items_view l.matches))
