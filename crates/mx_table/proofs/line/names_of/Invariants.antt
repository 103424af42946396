use Rattle.std.proofs.Common.{◌≡◌, IsTrue, map, string_bytes, take}
use Rattle.std.specs.List.{list_all}
use Rattle.policy_core.specs.Names.{is_host_name}
use Rattle.mx_table.specs.MxText.{name_of}
use Rattle.mx_table.proofs.line.names_of.Given as goal

abbrev pub invariant-loop-word : goal.invariant-loop-word
invariant-loop-word l = record {
  names : map string_bytes l.names.items ≡ map (λ word. name_of word.now) (take l.word-index l.words);
  good : IsTrue (list_all is_host_name (map (λ word. name_of word.now) (take l.word-index l.words)));
}
