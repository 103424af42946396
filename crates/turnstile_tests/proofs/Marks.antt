-- What a turn over a ledger adds to the entries of its pass.
use Rattle.std.proofs.Common.{◌≡◌, ℕ, eqb, eq-eqb, cond, List, [], ◌∷◌, ◌++◌, map, sym, refl, ap, ◌∙◌, Bool, true, false, append-nil, MatchBool}
use Rattle.std.proofs.lemmas.List.{map-append}
use Rattle.std.proofs.lemmas.List.Elements.{filter-append}
use Rattle.turnstile.specs.declared.chronicle.Note.{Note}
use Rattle.turnstile_tests.specs.declared.ledger.Mark.{Mark}
use Rattle.turnstile.specs.Entries.{own_entries}
use Rattle.turnstile_tests.specs.inside.Ledgers.{note, notes_made}

pub one_marked : (b : Bool) (n k : ℕ) (before after : List Mark) (seen : List Note) → MatchBool b (after ≡ before ++ record { by = n; number = k } ∷ []) (after ≡ before)
    → own_entries n (map note before) ≡ own_entries n seen → own_entries n (map note after) ≡ own_entries n seen ++ notes_made b n k
one_marked false n k before after seen is e = ap (λ ms. own_entries n (map note ms)) is ∙ e ∙ sym (append-nil (own_entries n seen))
one_marked true n k before after seen is e =
    let mine : own_entries n (note record { by = n; number = k } ∷ []) ≡ note record { by = n; number = k } ∷ [] = ap (λ b. cond b (note record { by = n; number = k } ∷ []) []) (eq-eqb n n refl) in
    ap (λ ms. own_entries n (map note ms)) is ∙ ap (own_entries n) (map-append note before (record { by = n; number = k } ∷ []))
    ∙ filter-append (λ x. eqb x.by n) (map note before) (note record { by = n; number = k } ∷ [])
    ∙ ap (λ z. z ++ own_entries n (note record { by = n; number = k } ∷ [])) e
    ∙ ap (λ z. own_entries n seen ++ z) mine
