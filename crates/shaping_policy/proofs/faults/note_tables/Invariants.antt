use Rattle.std.proofs.Common.{◌≡◌, map, drop}
use Rattle.std.specs.List.{flat_map}
use Rattle.policy_toml.specs.Places.{first_of}
use Rattle.shaping_policy.specs.inside.Seen.{seen_table}
use Rattle.shaping_policy.specs.Faults.{faults_of_table}
use Rattle.shaping_policy.proofs.faults.note_tables.Given as goal

abbrev pub invariant-loop-table : goal.invariant-loop-table
invariant-loop-table l =
    first_of l.faults (flat_map faults_of_table (map seen_table (drop l.table-index l.tables))) ≡ first_of l.fn.faults (flat_map faults_of_table (map seen_table l.tables))
