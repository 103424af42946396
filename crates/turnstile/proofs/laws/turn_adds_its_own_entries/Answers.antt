use Rattle.std.proofs.Common.{◌≡◌, eqb, ◌++◌, sym, ap, ◌∙◌}
use Rattle.std.proofs.lemmas.List.{append_cancel_left}
use Rattle.std.proofs.lemmas.List.Elements.{filter-append}
use Rattle.turnstile.specs.Entries.{own_entries}
use Rattle.turnstile.proofs.laws.turn_adds_its_own_entries.Goals as goal

pub returns : goal.returns
returns c = λ w y x more f e. let same : more ≡ f.more = append_cancel_left y.entries more f.more (sym e ∙ f.entries) in
    ap (own_entries w) e ∙ filter-append (λ n. eqb n.by w) y.entries more ∙ ap (λ z. own_entries w y.entries ++ z) (ap (own_entries w) same ∙ f.by ∙ sym same)
