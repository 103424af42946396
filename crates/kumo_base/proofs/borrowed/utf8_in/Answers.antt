use Rattle.std.proofs.Common.{◌≡◌, ℕ, List, Bool, true, false, IsUtf8, refl}
use Rattle.std.proofs.lemmas.Str.{IsUtf8-from_is_utf8, is_utf8-from_IsUtf8}
use Rattle.std.specs.Str.{is_utf8}
use Rattle.kumo_base.proofs.borrowed.utf8_in.Goals as goal

-- bytes that are no text fail the test
not_text : (bytes : List ℕ) (b : Bool) → is_utf8 bytes ≡ b → ¬ IsUtf8 bytes → b ≡ false
not_text bytes true is not_it = absurd (not_it (IsUtf8-from_is_utf8 bytes is))
not_text bytes false is not_it = refl

pub returns-in-Ok : goal.returns-in-Ok
returns-in-Ok c = let cases = c.in-Ok.ensures.cases in rw (is_utf8-from_IsUtf8 _ cases.1, cases.0) refl

pub returns-in-Err : goal.returns-in-Err
returns-in-Err c = rw (not_text c.args.bytes.now _ refl c.in-Err.ensures.cases.0) refl
