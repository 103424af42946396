-- Reading a duration group by group, and numbers that are kept below a cap.
use Rattle.std.proofs.Common.{◌≡◌, ◌+◌, ◌*◌, ◌-◌, ◌<◌, ◌≤◌, ◌==◌, ℕ, zero, suc, List, true, false, min, length, take, get_or, Some, None, Ok, Err, refl, sym, ap, ◌∙◌, arith, length-drop}
use Rattle.std.proofs.Math.Nat.{mul-le-mul_left}
use Rattle.std.proofs.lemmas.Bool.{ne_eqb, lt-ltb, le-ltb, leb-true, and_parts}
use Rattle.std.proofs.lemmas.Bool.Decides.{nat_tests}
use Rattle.std.proofs.lemmas.Int.Digits.{digits_value_more}
use Rattle.std.proofs.lemmas.List.{get_or-take}
use Rattle.std.proofs.lemmas.List.Sums.{prefix_len_passes}
use Rattle.std.specs.List.{prefix_len, take_while}
use Rattle.std.specs.Char.{IsAsciiDigit, is_ascii_digit, is_ascii_alphabetic, digit_value}
use Rattle.std.specs.Str.Parse.{digits_value}
use Rattle.kumo_base.specs.Duration.{is_space, behind, unit_milliseconds, fault_at, Group, timed, longest, group, groups, duration_in}
use Rattle.kumo_base.specs.declared.duration.TheConstants.{TOO_LONG}
use Rattle.kumo_base.specs.declared.duration.DurationFault.{DurationFault}
use Rattle.kumo_base.specs.declared.duration.DurationWhy.TheVariants.{Empty, NoNumber, BadUnit, TooLong}

-- what a text gives is what the groups of a rest of it give behind a sum, in some number of steps
pub record ReadsOn (text : List ℕ) (whole sum : ℕ) (rest : List ℕ) : Type 0 where
  pub steps : ℕ
  pub enough : length rest ≤ steps
  pub same : duration_in text ≡ groups steps whole sum rest

-- before the first group
pub reads_first : (text : List ℕ) → 0 < length (behind is_space text) → ReadsOn text (length text) 0 (behind is_space text)
unfolding duration_in
reads_first text some = record {
  steps = length text;
  enough = omega (arith, length-drop (prefix_len is_space text) text);
  same = rw (ne_eqb (length (behind is_space text)) 0 (λ none. omega arith)) refl;
}

-- nothing but spaces
pub reads_empty : (text : List ℕ) → length (behind is_space text) ≡ 0 → duration_in text ≡ Err (record { at = 0; why = Empty })
unfolding duration_in
reads_empty text none = rw none refl

groups_end : (steps whole sum : ℕ) (rest : List ℕ) → length rest ≡ 0 → groups steps whole sum rest ≡ Ok sum
unfolding groups
groups_end zero whole sum rest none = refl
groups_end (suc steps) whole sum rest none = rw none refl

-- behind the last group
pub reads_end : (text : List ℕ) (whole sum : ℕ) (rest : List ℕ) → ReadsOn text whole sum rest → length rest ≡ 0
    → duration_in text ≡ Ok sum
reads_end text whole sum rest on none = on.same ∙ groups_end on.steps whole sum rest none

groups_fault : (steps whole sum : ℕ) (rest : List ℕ) (fault : DurationFault) → length rest ≤ steps → 0 < length rest
    → group whole rest ≡ Err fault → groups steps whole sum rest ≡ Err fault
unfolding groups
groups_fault zero whole sum rest fault enough some is = absurd (omega arith)
groups_fault (suc steps) whole sum rest fault enough some is = rw (ne_eqb (length rest) 0 (λ none. omega arith), is) refl

-- where a group is wrong
pub reads_fault : (text : List ℕ) (whole sum : ℕ) (rest : List ℕ) (fault : DurationFault) → ReadsOn text whole sum rest
    → 0 < length rest
    → group whole rest ≡ Err fault → duration_in text ≡ Err fault
reads_fault text whole sum rest fault on some is = on.same ∙ groups_fault on.steps whole sum rest fault on.enough some is

groups_too_long : (steps whole sum : ℕ) (rest : List ℕ) (found : Group) → length rest ≤ steps → 0 < length rest
    → group whole rest ≡ Ok found → longest < sum + found.milliseconds
    → groups steps whole sum rest ≡ Err (fault_at whole rest TooLong)
unfolding groups
groups_too_long zero whole sum rest found enough some is long = absurd (omega arith)
groups_too_long (suc steps) whole sum rest found enough some is long =
    rw (ne_eqb (length rest) 0 (λ none. omega arith), is, lt-ltb longest (sum + found.milliseconds) long) refl

-- where the sum passes the limit
pub reads_too_long : (text : List ℕ) (whole sum : ℕ) (rest : List ℕ) (found : Group) → ReadsOn text whole sum rest
    → 0 < length rest
    → group whole rest ≡ Ok found → longest < sum + found.milliseconds → duration_in text ≡ Err (fault_at whole rest TooLong)
reads_too_long text whole sum rest found on some is long =
    on.same ∙ groups_too_long on.steps whole sum rest found on.enough some is long

groups_more : (text : List ℕ) (steps whole sum : ℕ) (rest : List ℕ) (found : Group) → length rest ≤ steps → 0 < length rest
    → duration_in text ≡ groups steps whole sum rest → group whole rest ≡ Ok found → sum + found.milliseconds ≤ longest
    → length found.rest < length rest → ReadsOn text whole (sum + found.milliseconds) (behind is_space found.rest)
unfolding groups
groups_more text zero whole sum rest found enough some same is short shorter = absurd (omega arith)
groups_more text (suc steps) whole sum rest found enough some same is short shorter = record {
  steps = steps;
  enough = omega (arith, length-drop (prefix_len is_space found.rest) found.rest);
  same = same ∙ rw (ne_eqb (length rest) 0 (λ none. omega arith), is, le-ltb longest (sum + found.milliseconds) short) refl;
}

-- behind a group
pub reads_more : (text : List ℕ) (whole sum : ℕ) (rest : List ℕ) (found : Group) → ReadsOn text whole sum rest → 0 < length rest
    → group whole rest ≡ Ok found → sum + found.milliseconds ≤ longest → length found.rest < length rest
    → ReadsOn text whole (sum + found.milliseconds) (behind is_space found.rest)
reads_more text whole sum rest found on some is short shorter =
    groups_more text on.steps whole sum rest found on.enough some on.same is short shorter

digit_of : (d : ℕ) → IsAsciiDigit d → digit_value d ≡ d - 48
digit_of d h = rw (le-ltb d 48 h.0, lt-ltb d 58 (omega arith)) refl

-- one more digit of a number that is kept below a cap
pub capped_digit : (digits : List ℕ) (i number cap : ℕ) → i < length digits → IsAsciiDigit (get_or digits i 0)
    → number ≡ min (digits_value 10 (take i digits)) cap
    → min (number * 10 + (get_or digits i 0 - 48)) cap ≡ min (digits_value 10 (take (i + 1) digits)) cap
capped_digit digits i number cap below digit is =
    rw (digits_value_more 10 digits i below, digit_of (get_or digits i 0) digit) (omega arith)

-- a product of a number that is kept below a cap
pub capped_product : (number factor cap : ℕ) → 0 < factor → min (min number cap * factor) cap ≡ min (number * factor) cap
capped_product number factor cap some =
    let one : cap * 1 ≤ cap * factor = mul-le-mul_left cap some in
    let more : cap ≤ number → factor * cap ≤ factor * number = λ h. mul-le-mul_left factor h in
    grind arith

-- the digits in front are digits
pub digits_in_front : (bytes : List ℕ) (k : ℕ) → k < prefix_len is_ascii_digit bytes
    → IsAsciiDigit (get_or (take (prefix_len is_ascii_digit bytes) bytes) k 0)
digits_in_front bytes k below =
    let parts = and_parts _ _ (prefix_len_passes is_ascii_digit bytes k 0 below) in
    rw (get_or-take (prefix_len is_ascii_digit bytes) bytes k 0 below) (leb-true _ _ parts.0, leb-true _ _ parts.1)

pub is_none : (n : ℕ) → true ≡ (n == 0) → n ≡ 0
is_none zero h = refl
is_none (suc n) h = grind (arith, nat_tests)

pub is_some : (n : ℕ) → false ≡ (n == 0) → 0 < n
is_some zero h = absurd cc
is_some (suc n) h = omega arith

-- no digit in front
pub group_none : (whole : ℕ) (bytes : List ℕ) → prefix_len is_ascii_digit bytes ≡ 0
    → group whole bytes ≡ Err (fault_at whole bytes NoNumber)
unfolding group
group_none whole bytes none = rw none refl

-- no unit that is known
pub group_bad : (whole : ℕ) (bytes unit name : List ℕ) → 0 < prefix_len is_ascii_digit bytes
    → unit ≡ behind is_space (behind is_ascii_digit bytes)
    → name ≡ take_while is_ascii_alphabetic unit → unit_milliseconds name ≡ None
    → group whole bytes ≡ Err (fault_at whole unit BadUnit)
unfolding group
group_bad whole bytes unit name some is named none =
    let at : unit_milliseconds (take_while is_ascii_alphabetic (behind is_space (behind is_ascii_digit bytes))) ≡ None =
    ap (λ u. unit_milliseconds (take_while is_ascii_alphabetic u)) (sym is) ∙ ap unit_milliseconds (sym named) ∙ none in
    rw (ne_eqb (prefix_len is_ascii_digit bytes) 0 (λ none. omega arith))
    (ap (timed whole (digits_value 10 (take_while is_ascii_digit bytes)) (behind is_space (behind is_ascii_digit bytes))) at
    ∙ ap (λ u. Err (fault_at whole u BadUnit)) (sym is))

-- a number and a unit
pub group_is : (whole : ℕ) (bytes unit name rest : List ℕ) (factor : ℕ) → 0 < prefix_len is_ascii_digit bytes
    → unit ≡ behind is_space (behind is_ascii_digit bytes)
    → name ≡ take_while is_ascii_alphabetic unit → rest ≡ behind is_ascii_alphabetic unit → unit_milliseconds name ≡ Some factor
    → group whole bytes ≡ Ok (record { milliseconds = digits_value 10 (take_while is_ascii_digit bytes) * factor; rest = rest })
unfolding group
group_is whole bytes unit name rest factor some is named left found =
    let at : unit_milliseconds (take_while is_ascii_alphabetic (behind is_space (behind is_ascii_digit bytes))) ≡ Some factor =
    ap (λ u. unit_milliseconds (take_while is_ascii_alphabetic u)) (sym is) ∙ ap unit_milliseconds (sym named) ∙ found in
    let back : behind is_ascii_alphabetic (behind is_space (behind is_ascii_digit bytes)) ≡ rest =
    ap (behind is_ascii_alphabetic) (sym is) ∙ sym left in
    let number = digits_value 10 (take_while is_ascii_digit bytes) in
    rw (ne_eqb (prefix_len is_ascii_digit bytes) 0 (λ none. omega arith))
    (ap (timed whole number (behind is_space (behind is_ascii_digit bytes))) at
    ∙ ap (λ (r : List ℕ). Ok (record { milliseconds = number * factor; rest = r })) back)

-- a number that its cap leaves within the longest duration is as it was, and one that it does not is too long
pub within_cap : (sum number capped : ℕ) → capped ≡ min number TOO_LONG → sum + capped ≤ longest → capped ≡ number
within_cap sum number capped is short = omega arith

pub past_cap : (sum number capped : ℕ) → capped ≡ min number TOO_LONG → longest < sum + capped → longest < sum + number
past_cap sum number capped is long = omega arith
