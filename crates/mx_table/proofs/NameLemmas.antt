-- Names are ASCII, and ASCII is UTF-8.
use Rattle.std.proofs.Common.{◌≡◌, ℕ, ◌<◌, List, [], ◌∷◌, Bool, true, false, ◌&&◌, nat_le, nat_lt, length, refl, arith, IsUtf8}
use Rattle.std.specs.Char.{to_ascii_lowercase}
use Rattle.std.specs.List.{list_all}
use Rattle.std.specs.Str.{IsAscii, str_to_ascii_lowercase}
use Rattle.std.proofs.lemmas.Bool.Decides.{nat_tests}
use Rattle.std.proofs.lemmas.Str.{IsUtf8-from_ascii}
use Rattle.std.proofs.lemmas.Str.Ascii.{IsAscii-nil, IsAscii-cons}
use Rattle.policy_core.proofs.MxLemmas.{first_of_both, second_of_both}
use Rattle.policy_core.specs.Names.{is_host_name_byte, is_host_name}
use Rattle.policy_core.specs.declared.names.TheConstants.{POLICY_NAME_LIMIT}

byte_ascii : (b : ℕ) → is_host_name_byte (to_ascii_lowercase b) ≡ true → b < 128
byte_ascii b good = grind (arith, nat_tests)

bytes_ascii : (word : List ℕ) → list_all is_host_name_byte (str_to_ascii_lowercase word) ≡ true → IsAscii word
bytes_ascii [] good = IsAscii-nil
bytes_ascii (b ∷ word) good =
    IsAscii-cons b word (byte_ascii b (first_of_both _ (list_all is_host_name_byte (str_to_ascii_lowercase word)) good))
    (bytes_ascii word (second_of_both (is_host_name_byte (to_ascii_lowercase b)) _ good))

name_utf8 : (word : List ℕ) → is_host_name (str_to_ascii_lowercase word) ≡ true → IsUtf8 word
name_utf8 word good =
    let name = str_to_ascii_lowercase word in
    IsUtf8-from_ascii word (bytes_ascii word (second_of_both (nat_lt 0 (length name) && nat_le (length name) POLICY_NAME_LIMIT) _ good))

no_name_by : (word : List ℕ) (b : Bool) → is_host_name (str_to_ascii_lowercase word) ≡ b → (IsUtf8 word → ⊥) → b ≡ false
no_name_by word true is not_it = absurd (not_it (name_utf8 word is))
no_name_by word false is not_it = refl

-- what is no text is no name
pub no_name : (word : List ℕ) → (IsUtf8 word → ⊥) → is_host_name (str_to_ascii_lowercase word) ≡ false
no_name word not_it = no_name_by word _ refl not_it
