use Rattle.std.proofs.Common.{◌≡◌, ℕ, List, Result, Option, Ok, Err, Some, None, IsOk, ◌↔◌, refl, sym, true≢false}
use Rattle.mail_input.proofs.fields.id_of.Goals as goal

-- no text is read where the answer is an error
none_read : {E : Type 0} (r : Result (List ℕ) E) (o : Option (List ℕ)) (e : E) → (IsOk r ↔ ((u : List ℕ) × (o ≡ Some u)))
    → r ≡ Err e → o ≡ None
none_read r None e h is = refl
none_read (Ok x) (Some u) e h is = absurd cc
none_read (Err x) (Some u) e h is = absurd (true≢false (sym (h.1 (u, refl))))

pub returns-in-Err : goal.returns-in-Err
returns-in-Err c = rw (none_read c.try_parse.result _ _ c.try_parse.ensures.ok c.in-Err.is) refl
