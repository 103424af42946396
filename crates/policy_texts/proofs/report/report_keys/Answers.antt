use Rattle.std.proofs.Common.{◌∙◌, ap, subst, List, ℕ, ◌++◌, map, flat_map, codes, string_bytes}
use Rattle.std.proofs.lemmas.List.Sorted.{IsPermutation-map}
use Rattle.std.specs.Ordering.{nat_cmp, is_lt}
use Rattle.std.specs.Cmp.Lexicographic.{slice_cmp}
use Rattle.std.specs.List.Sorted.{IsPermutation}
use Rattle.policy_texts.specs.Report.{ended_line}
use Rattle.policy_texts.proofs.SortedLines.{sorted_map}
use Rattle.policy_texts.proofs.report.report_keys.Goals as goal

pub returns : goal.returns
returns c =
    let lines = c.sort.new.self.items in
    record {
      lines = map string_bytes lines;
      same = subst (λ (from : List (List ℕ)). IsPermutation from (map string_bytes lines)) c.in_ok-lines.ensures (IsPermutation-map string_bytes _ _ c.sort.ensures.permutation);
      ordered = sorted_map string_bytes (λ a b. is_lt (slice_cmp nat_cmp a b)) lines c.in_ok-sort.ensures.sorted;
      text_is = c.in_ok-push_str.ensures.bytes ∙ ap (λ (text : List ℕ). text ++ codes "ok\n")
          (c.in_ok-text.ensures ∙ ap (λ lines. flat_map ended_line (map string_bytes lines)) c.as_slice.ensures.value);
    }
