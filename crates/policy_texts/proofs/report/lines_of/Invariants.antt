use Rattle.std.proofs.Common.{◌≡◌, ◌++◌, map, drop, string_bytes}
use Rattle.policy_texts.specs.Report.{ignored_line}
use Rattle.policy_texts.proofs.report.lines_of.Given as goal

abbrev pub invariant-loop-key : goal.invariant-loop-key
invariant-loop-key l =
    map string_bytes l.lines.items ++ map ignored_line (drop l.key-index l.keys) ≡ map ignored_line l.keys
