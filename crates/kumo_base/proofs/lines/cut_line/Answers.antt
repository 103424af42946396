use Rattle.std.proofs.Common.{◌≡◌, ◌<◌, ◌+◌, sym, ap, ◌∙◌, arith, List, ℕ, drop, length, length-drop}
use Rattle.std.proofs.lemmas.List.{drop-drop}
use Rattle.kumo_base.proofs.SplitLemmas.{lines_at, lines_without}
use Rattle.kumo_base.proofs.lines.cut_line.Goals as goal

pub returns-in-Some : goal.returns-in-Some
returns-in-Some c =
    let text = c.args.text.now in
    let cut = lines_at text c.in-Some.i (sym c.line_end.ensures.value ∙ c.in-Some.is) in
    let behind : c.split_at-in-Some.result.1.now ≡ drop (c.in-Some.i + 1) text =
    c.split_at-in-Some.ensures.back ∙ ap (λ (xs : List ℕ). drop 1 xs) c.split_at.ensures.back ∙ drop-drop 1 c.in-Some.i text in
    let shorter : length (drop (c.in-Some.i + 1) text) < length text = omega (arith, length-drop (c.in-Some.i + 1) text, cut.1) in
    rw (c.without_return.ensures, c.split_at.ensures.front, behind) (cut.0, shorter)

pub returns-in-None : goal.returns-in-None
returns-in-None c = lines_without c.args.text.now (sym c.line_end.ensures.value ∙ c.in-None.is)
