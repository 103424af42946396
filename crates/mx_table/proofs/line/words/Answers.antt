use Rattle.std.proofs.Common.{◌∙◌, ap, ℕ, nat_lt, length, List, Bor, map, rules}
use borrow.Author.Tests.{tests}
use Rattle.std.proofs.lemmas.Iterator.{items_from_drains}
use Rattle.std.proofs.lemmas.Iterator.Consumers.{YieldsList-from_filter}
use Rattle.std.proofs.lemmas.Iterator.Splits.{YieldsList-from_slice_split}
use Rattle.mx_table.specs.MxText.{is_space}
use Rattle.mx_table.proofs.line.words.Goals as goal

pub returns : goal.returns
returns c =
    let ran = c.in_ok-collect.ensures.ran in
    ap (map (λ (word : Bor (List ℕ)). word.now)) ran.2.0 ∙
    items_from_drains ran.0 ran.1
    (YieldsList-from_filter _ (λ word. nat_lt 0 (length word))
    (YieldsList-from_slice_split _ is_space c.args.line.now (cc) (cc) (cc) (λ x b q k. search (rules, tests)))
    c.filter.ensures.closure (λ x b q k. search (rules, tests)))
