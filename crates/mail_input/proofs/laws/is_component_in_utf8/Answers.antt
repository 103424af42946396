use Rattle.std.proofs.Common.{◌≡◌, ℕ, List, true, subst}
use Rattle.std.specs.Str.{is_utf8}
use Rattle.std.proofs.lemmas.Str.{is_utf8-from_IsUtf8}
use Rattle.mail_input.proofs.laws.is_component_in_utf8.Goals as goal

pub returns-in-Some : goal.returns-in-Some
returns-in-Some c =
    let text = subst (λ (xs : List ℕ). is_utf8 xs ≡ true) c.as_str-text.ensures (is_utf8-from_IsUtf8 _ c.as_str-text.utf8) in
    rw c.in-Some.is text
