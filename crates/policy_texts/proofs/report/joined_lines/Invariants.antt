use Rattle.std.proofs.Common.{◌≡◌, ◌++◌, map, flat_map, drop, string_bytes}
use Rattle.policy_texts.specs.Report.{ended_line}
use Rattle.policy_texts.proofs.report.joined_lines.Given as goal

abbrev pub invariant-loop-line : goal.invariant-loop-line
invariant-loop-line l =
    string_bytes l.text ++ flat_map ended_line (map string_bytes (drop l.line-index l.lines)) ≡ flat_map ended_line (map string_bytes l.lines)
