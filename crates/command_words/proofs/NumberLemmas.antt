-- Numbers that no type holds.
use Rattle.std.proofs.Common.{◌≡◌, ◌<◌, ◌≤◌, ◌^◌, ◌&&◌, ℕ, List, true, false, Bool, nat_lt, nat_le, length, ◌⊎◌, inl, inr, Some, None, Err, refl, arith, rules, cond}
use Rattle.std.specs.List.{list_all}
use Rattle.std.specs.Char.{is_ascii_digit}
use Rattle.std.specs.Str.Parse.{digits_value, IsNumeral, without_leading_plus}
use Rattle.std.proofs.lemmas.Bool.{and_parts, lt-leb, ltb-true, cases_lt}
use Rattle.std.proofs.lemmas.Str.Parse.{IsNumeralModel, numerals_by_value, parse_digits}
use Rattle.command_words.specs.Options.{is_number, number_in}

own : IsNumeralModel (λ ds. list_all is_ascii_digit ds ≡ true) (digits_value 10)
own = numerals_by_value _ (search rules)

within : (n : ℕ) (s t : Bool) → t ≡ false → None ≡ cond (s && t) (Some n) None
within n true true test = absurd cc
within n true false test = refl
within n false t test = refl

at_least : (m n : ℕ) → (m < n) ⊎ (n ≤ m) → ¬ (m < n) → n ≤ m
at_least m n (inl below) refused = absurd (refused below)
at_least m n (inr above) refused = above

-- takes the clause of `parse` at an error
pub number_past_type : (least greatest : ℕ) (text : List ℕ) → is_number text ≡ true → greatest < 2 ^ 64
    → ¬ (IsNumeral 10 (without_leading_plus text) × (digits_value 10 (without_leading_plus text) < 2 ^ 64))
    → None ≡ number_in least greatest text
unfolding number_in
number_past_type least greatest text is fits clause =
    let parts = and_parts (nat_lt 0 (length text) && nat_le (length text) 20) (list_all is_ascii_digit text) is in
    let some = and_parts (nat_lt 0 (length text)) (nat_le (length text) 20) parts.0 in
    let refused : ¬ ((0 < length text) × (digits_value 10 text < 2 ^ 64)) =
    parse_digits own {E = ℕ} 64 text (Err 0) clause parts.1 in
    let past : 2 ^ 64 ≤ digits_value 10 text =
    at_least _ _ (cases_lt (digits_value 10 text) (2 ^ 64)) (λ short. refused (ltb-true 0 (length text) some.0, short)) in
    rw is (within (digits_value 10 text) (nat_le least (digits_value 10 text)) _
    (lt-leb (digits_value 10 text) greatest (omega arith)))
