-- Names whose domain counts in lower case, by their parts as they stand.
use Rattle.std.proofs.Common.{◌≡◌, ◌++◌, ℕ, List, [], ◌∷◌, ◌&&◌, true, false, Bool, nat_le, nat_lt, length, Option, Some, None, refl, arith}
use Rattle.std.proofs.lemmas.List.{length-map, length-append}
use Rattle.std.proofs.lemmas.List.Folds.{list_all-map}
use Rattle.std.proofs.lemmas.Bool.Decides.{nat_tests}
use Rattle.std.specs.List.{list_all}
use Rattle.std.specs.Char.{to_ascii_lowercase}
use Rattle.std.specs.Str.{str_to_ascii_lowercase}
use Rattle.queue_name.specs.Address.{is_no_mark, is_routed_domain}
use Rattle.queue_name.specs.QueueName.{is_component, is_component_byte, is_domain_byte, is_optional_component, is_name, spelled}
use Rattle.queue_name.specs.declared.name.TheConstants.{NAME_LIMIT}

-- a byte in lower case may stand in a domain where the byte may stand in a component
lowered_at : (b : ℕ) (small capital : Bool) → nat_lt b 65 ≡ small → nat_lt b 91 ≡ capital
    → is_domain_byte (to_ascii_lowercase b) ≡ is_component_byte b
lowered_at b true capital low high = grind (arith, nat_tests)
lowered_at b false true low high = grind (arith, nat_tests)
lowered_at b false false low high = grind (arith, nat_tests)

lowered_byte : (b : ℕ) → is_domain_byte (to_ascii_lowercase b) ≡ is_component_byte b
lowered_byte b = lowered_at b _ _ refl refl

lowered_bytes : (d : List ℕ) → list_all is_domain_byte (str_to_ascii_lowercase d) ≡ list_all is_component_byte d
lowered_bytes [] = refl
lowered_bytes (b ∷ d) = rw (lowered_byte b, lowered_bytes d) refl

lowered_spelling : (campaign tenant : Option (List ℕ)) (d : List ℕ)
    → length (spelled campaign tenant (str_to_ascii_lowercase d)) ≡ length (spelled campaign tenant d)
lowered_spelling None None d = rw length-map refl
lowered_spelling None (Some t) d = rw (length-append t (64 ∷ str_to_ascii_lowercase d), length-append t (64 ∷ d), length-map) refl
lowered_spelling (Some c) None d =
    rw (length-append c (58 ∷ (64 ∷ str_to_ascii_lowercase d)), length-append c (58 ∷ (64 ∷ d)), length-map) refl
lowered_spelling (Some c) (Some t) d =
    let lowered = length-append c (58 ∷ (t ++ (64 ∷ str_to_ascii_lowercase d))) in
    let given = length-append c (58 ∷ (t ++ (64 ∷ d))) in
    rw (lowered, given, length-append t (64 ∷ str_to_ascii_lowercase d), length-append t (64 ∷ d), length-map) refl

-- the test of a name with its domain in lower case
pub is_name_lowered : (campaign tenant : Option (List ℕ)) (d : List ℕ)
    → is_name (record { campaign = campaign; tenant = tenant; domain = str_to_ascii_lowercase d })
    ≡ (is_optional_component campaign && is_optional_component tenant && is_component d
    && nat_le (length (spelled campaign tenant d)) NAME_LIMIT)
is_name_lowered campaign tenant d = rw (lowered_bytes d, length-map, lowered_spelling campaign tenant d) refl

-- the test of a domain in lower case that routes
pub routed_is : (d : List ℕ)
    → is_routed_domain (str_to_ascii_lowercase d) ≡ (is_component d && list_all (λ b. is_no_mark (to_ascii_lowercase b)) d)
routed_is d = rw (lowered_bytes d, length-map, list_all-map) refl
