-- What the tests of an address stand on.
use Rattle.std.proofs.Common.{◌≡◌, ◌<◌, ◌≤◌, ◌-◌, ◌+◌, ℕ, List, true, false, not, nat_lt, nat_le, length, get_or, take, drop, Option, Some, None, MatchOption, refl, sym, ap, ◌∙◌, eq-eqb, ne_eqb, arith, length-drop, get_or-drop}
use Rattle.std.proofs.lemmas.List.{length-map}
use Rattle.std.proofs.lemmas.List.Elements.{All-from_get_or}
use Rattle.std.proofs.lemmas.Bool.{and_parts, leb-true, le-leb}
use Rattle.std.specs.List.{list_any, list_all, before_last, after_last, suffix_len}
use Rattle.std.specs.Str.Pattern.{RFindsChar}
use Rattle.std.proofs.lemmas.List.Sums.{suffix_len_is}
use Rattle.std.proofs.lemmas.List.Folds.{list_any_at, list_any_none}
use Rattle.std.proofs.lemmas.Str.Pattern.{NoCharPasses-char}
use Rattle.std.proofs.lemmas.Str.{len_utf8_ascii}
use Rattle.queue_name.specs.QueueName.{is_domain, is_name}
use Rattle.queue_name.specs.declared.message.TheConstants.{ADDRESS_LIMIT}
use Rattle.queue_name.specs.declared.name.TheConstants.{NAME_LIMIT}
use Rattle.queue_name.specs.Address.{is_at, is_routed_domain, is_address, is_address_byte, domain_of}
use denote.Ref.{Bor}

-- what stands before and behind the last `@`, by its place
last_at : (s : List ℕ) (i : ℕ) → i < length s → get_or s i 0 ≡ 64 → ((k : ℕ) → i < k → k < length s → get_or s k 0 ≡ 64 → ⊥)
    → (list_any is_at s ≡ true) × (before_last is_at s ≡ take i s) × (after_last is_at s ≡ drop (i + 1) s)
last_at s i within here behind =
    let stops : not (is_at (get_or s (i + 1 - 1) 0)) ≡ false =
    ap (λ k. not (is_at (get_or s k 0))) {x = i + 1 - 1} {y = i} (omega arith) ∙ ap not (eq-eqb _ 64 here) in
    let tail =
    suffix_len_is (λ b. not (is_at b)) s (i + 1) 0 (omega arith) (λ k l m. ap not (ne_eqb _ 64 (behind k (omega arith) m)))
    (λ _. stops) in
    let place : length s - suffix_len (λ b. not (is_at b)) s ≡ i + 1 = omega (arith, tail) in
    let front : length s - suffix_len (λ b. not (is_at b)) s - 1 ≡ i = omega (arith, tail) in
    (list_any_at is_at s i 0 within (eq-eqb _ 64 here), ap (λ k. take k s) front, ap (λ k. drop k s) place)

-- where no byte is `@` all of them stand behind it
pub no_at : (s : List ℕ) → ((k : ℕ) → k < length s → get_or s k 0 ≡ 64 → ⊥)
    → (list_any is_at s ≡ false) × (after_last is_at s ≡ s)
no_at s none =
    let tail =
    suffix_len_is (λ b. not (is_at b)) s 0 0 (omega arith) (λ k l m. ap not (ne_eqb _ 64 (none k m)))
    (λ l. absurd (omega arith)) in
    let place : length s - suffix_len (λ b. not (is_at b)) s ≡ 0 = omega (arith, tail) in
    (list_any_none is_at s (All-from_get_or (λ b. is_at b ≡ false) s 0 (λ k l. ne_eqb _ 64 (none k l))), ap (λ k. drop k s) place)

-- takes the clause of `rsplit_once` at `@`
pub around_at_is : (s : List ℕ) (r : Option (Bor (List ℕ) × Bor (List ℕ)))
    → MatchOption r (RFindsChar 64 s None)
    (λ x. (i : ℕ) × (j : ℕ) × RFindsChar 64 s (Some (i, j)) × (x.0.now ≡ take i s) × (x.1.now ≡ drop j s) × (i ≤ j)
    × (length x.0.now ≡ i) × (length x.1.now + j ≡ length s))
    → MatchOption r ((list_any is_at s ≡ false) × (after_last is_at s ≡ s))
    (λ p. (list_any is_at s ≡ true) × (before_last is_at s ≡ p.0.now) × (after_last is_at s ≡ p.1.now))
around_at_is s None h = no_at s (λ k. NoCharPasses-char 64 s k h (omega arith))
around_at_is s (Some x) h =
    let i = h.0 in
    let j = h.1 in
    let next : j ≡ i + 1 = omega (arith, h.2.1.ends, len_utf8_ascii 64 (omega arith)) in
    let behind : (k : ℕ) → i < k → k < length s → get_or s k 0 ≡ 64 → ⊥ = λ k a l e.
    let back : j + (k - j) ≡ k = omega arith in
    NoCharPasses-char 64 (drop j s) (k - j) h.2.0 (omega arith) (omega (arith, length-drop j s))
    (get_or-drop j s (k - j) 0 ∙ ap (λ n. get_or s n 0) back ∙ e) in
    let parts = last_at s i (omega (arith, h.7)) (h.2.1.byte (omega arith)) behind in
    (parts.0, parts.1 ∙ sym h.3, parts.2 ∙ ap (λ n. drop n s) (sym next) ∙ sym h.4)

-- a domain is no longer than the address that has it
length-domain_of : (a : List ℕ) → length (domain_of a) ≤ length a
length-domain_of a = rw length-map (omega (arith, length-drop (length a - suffix_len (λ b. not (is_at b)) a) a))

-- a domain within the limit is a name by itself
names : (d : List ℕ) → is_domain d ≡ true → length d ≤ NAME_LIMIT
    → is_name (record { campaign = None; tenant = None; domain = d }) ≡ true
names d is within = rw (is, le-leb (length d) NAME_LIMIT within) refl

-- an address keeps its limit, and its domain may stand in a name
pub address_keeps : (a : List ℕ) → is_address a ≡ true → (length a ≤ ADDRESS_LIMIT) × (is_domain (domain_of a) ≡ true)
unfolding is_address
address_keeps a h =
    let routed = and_parts _ (is_routed_domain (domain_of a)) h in
    let local = and_parts _ (nat_lt 0 (length (before_last is_at a))) routed.0 in
    let at = and_parts _ (list_any is_at a) local.0 in
    let visible = and_parts _ (list_all is_address_byte a) at.0 in
    let within = and_parts _ (nat_le (length a) ADDRESS_LIMIT) visible.0 in
    (leb-true _ _ within.1, (and_parts (is_domain (domain_of a)) _ routed.1).0)

-- the domain that an address routes by is a name by itself
pub is_name-domain_of : (a : List ℕ) → is_address a ≡ true
    → is_name (record { campaign = None; tenant = None; domain = domain_of a }) ≡ true
is_name-domain_of a h =
    let keeps = address_keeps a h in
    names (domain_of a) keeps.1 (omega (arith, keeps.0, length-domain_of a))
