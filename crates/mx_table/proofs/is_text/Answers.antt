use Rattle.std.proofs.Common.{◌≡◌, ℕ, List, Bool, true, false, IsUtf8, Result, Ok, Err, is_ok, MatchResult, refl, sym, ◌∙◌}
use Rattle.std.specs.Str.{is_utf8}
use Rattle.std.proofs.lemmas.Str.{IsUtf8-from_is_utf8, is_utf8-from_IsUtf8}
use Rattle.mx_table.proofs.is_text.Goals as goal

no_text : (bytes : List ℕ) (b : Bool) → is_utf8 bytes ≡ b → (IsUtf8 bytes → ⊥) → b ≡ false
no_text bytes true is not_it = absurd (not_it (IsUtf8-from_is_utf8 bytes is))
no_text bytes false is not_it = refl

tested : {A E : Type 0} (r : Result A E) (bytes : List ℕ) (P : A → Type 0) (Q : E → Type 0)
    → MatchResult r (λ a. P a × IsUtf8 bytes) (λ e. (IsUtf8 bytes → ⊥) × Q e) → is_ok r ≡ is_utf8 bytes
tested (Ok a) bytes P Q h = sym (is_utf8-from_IsUtf8 bytes h.1)
tested (Err e) bytes P Q h = sym (no_text bytes _ refl h.0)

pub returns : goal.returns
returns c = c.is_ok.ensures.value ∙ tested c.from_utf8.result c.args.bytes.now _ _ c.from_utf8.ensures.cases
