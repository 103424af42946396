-- Words in texts, and numbers with `_`.
use Rattle.std.proofs.Common.{◌≡◌, ◌≢◌, ◌<◌, ◌≤◌, ◌+◌, ◌-◌, ◌*◌, ◌==◌, ℕ, zero, suc, min, Bool, true, false, cond, List, [], ◌∷◌, ◌++◌, length, get_or, take, drop, filter, leb, Option, Some, None, MatchOption, option_map, refl, sym, ap, ◌∙◌, arith, eq-eqb, append-nil, le_of_suc-le-suc, suc-le-suc}
use Rattle.std.specs.Str.Pattern.{LacksTextAt, FindsText, SplitsAroundMatch}
use Rattle.std.specs.Char.{is_ascii_digit, digit_value}
use Rattle.std.specs.Str.Parse.{digits_value}
use Rattle.std.proofs.lemmas.Bool.{eqb-true, and_parts, leb-true, le-ltb, lt-ltb}
use Rattle.std.proofs.lemmas.Int.Digits.{digits_value_push}
use Rattle.std.proofs.lemmas.List.Elements.{filter_more}
use Rattle.throttle_spec.specs.ThrottleText.{behind_word, around_word, here_or_later, put_before}
use denote.Ref.{Bor}

-- a word at the front of a text
behind_found : (word rest : List ℕ) → behind_word word (word ++ rest) ≡ Some rest
behind_found [] rest = refl
behind_found (w ∷ word) rest = rw (eq-eqb w w refl) (behind_found word rest)

behind_step : (w b : ℕ) (word text : List ℕ) (t : Bool) → (w == b) ≡ t → ((rest : List ℕ) → b ∷ text ≢ (w ∷ word) ++ rest)
    → (((rest : List ℕ) → text ≢ word ++ rest) → behind_word word text ≡ None) → behind_word (w ∷ word) (b ∷ text) ≡ None
behind_step w b word text false test lacks more = rw test refl
behind_step w b word text true test lacks more =
    let same : b ≡ w = sym (eqb-true w b test) in
    rw test (more (λ rest is. lacks rest (λ i. same i ∷ is i)))

behind_lacks : (word text : List ℕ) → ((rest : List ℕ) → text ≢ word ++ rest) → behind_word word text ≡ None
behind_lacks [] text lacks = absurd (lacks text refl)
behind_lacks (w ∷ word) [] lacks = refl
behind_lacks (w ∷ word) (b ∷ text) lacks = behind_step w b word text (w == b) refl lacks (behind_lacks word text)

behind_is : (word text rest : List ℕ) → text ≡ word ++ rest → behind_word word text ≡ Some rest
behind_is word text rest is = ap (behind_word word) is ∙ behind_found word rest

-- a word at its first place in a text
around_at : (word text rest : List ℕ) (i : ℕ) → ((k : ℕ) → k < i → LacksTextAt word text k) → drop i text ≡ word ++ rest → i ≤ length text
    → around_word word text ≡ Some (record { before = take i text; behind = rest })
around_at word [] rest zero lacks is within = ap (λ o. here_or_later 0 o None) (behind_is word [] rest is)
around_at word [] rest (suc i) lacks is within = absurd (omega arith)
around_at word (b ∷ text) rest zero lacks is within =
    ap (λ o. here_or_later b o (around_word word text)) (behind_is word (b ∷ text) rest is)
around_at word (b ∷ text) rest (suc i) lacks is within =
    ap (λ o. here_or_later b o (around_word word text)) (behind_lacks word (b ∷ text) (lacks zero (omega arith)))
    ∙ ap (put_before b) (around_at word text rest i (λ k below. lacks (suc k) (suc-le-suc below)) is (le_of_suc-le-suc within))

around_none : (word text : List ℕ) → ((i : ℕ) → i ≤ length text → LacksTextAt word text i) → around_word word text ≡ None
around_none word [] lacks = ap (λ o. here_or_later 0 o None) (behind_lacks word [] (lacks zero (omega arith)))
around_none word (b ∷ text) lacks =
    ap (λ o. here_or_later b o (around_word word text)) (behind_lacks word (b ∷ text) (lacks zero (omega arith)))
    ∙ ap (put_before b) (around_none word text (λ i below. lacks (suc i) (suc-le-suc below)))

-- takes the clause of `split_once` at a text
pub around_text : (word text : List ℕ) (r : Option (Bor (List ℕ) × Bor (List ℕ)))
    → MatchOption r (FindsText word text None) (λ x. SplitsAroundMatch (FindsText word) text x.0.now x.1.now)
    → around_word word text ≡ option_map (λ p. record { before = p.0.now; behind = p.1.now }) r
around_text word text None h = around_none word text h
around_text word text (Some x) h =
    let found = h.2 in
    around_at word text (drop h.1 text) h.0 found.0 found.1.split (omega (arith, h.5, h.7))
    ∙ ap (λ (front : List ℕ). Some (record { before = front; behind = drop h.1 text })) (sym h.3)
    ∙ ap (λ (back : List ℕ). Some (record { before = x.0.now; behind = back })) (sym h.4)

-- one more byte of a number that is kept below a cap
digit_of : (d : ℕ) → is_ascii_digit d ≡ true → digit_value d ≡ d - 48
digit_of d is =
    let parts = and_parts (leb 48 d) (leb d 57) is in
    rw (le-ltb d 48 (leb-true 48 d parts.0), lt-ltb d 58 (omega (arith, leb-true d 57 parts.1))) refl

filter_yes : (text : List ℕ) (i : ℕ) → i < length text → is_ascii_digit (get_or text i 0) ≡ true
    → filter is_ascii_digit (take (i + 1) text) ≡ filter is_ascii_digit (take i text) ++ get_or text i 0 ∷ []
filter_yes text i below is =
    filter_more is_ascii_digit text i 0 below ∙ ap (λ b. filter is_ascii_digit (take i text) ++ cond b (get_or text i 0 ∷ []) []) is

pub digit_more : (text : List ℕ) (i number cap : ℕ) → i < length text → is_ascii_digit (get_or text i 0) ≡ true
    → number ≡ min (digits_value 10 (filter is_ascii_digit (take i text))) cap
    → min (number * 10 + (get_or text i 0 - 48)) cap ≡ min (digits_value 10 (filter is_ascii_digit (take (i + 1) text))) cap
digit_more text i number cap below is so_far =
    rw (filter_yes text i below is, digits_value_push 10 (filter is_ascii_digit (take i text)) (get_or text i 0), digit_of (get_or text i 0) is) (omega arith)

pub other_more : (text : List ℕ) (i : ℕ) → i < length text → is_ascii_digit (get_or text i 0) ≡ false
    → filter is_ascii_digit (take (i + 1) text) ≡ filter is_ascii_digit (take i text)
other_more text i below is =
    filter_more is_ascii_digit text i 0 below ∙ ap (λ b. filter is_ascii_digit (take i text) ++ cond b (get_or text i 0 ∷ []) []) is
    ∙ append-nil (filter is_ascii_digit (take i text))
