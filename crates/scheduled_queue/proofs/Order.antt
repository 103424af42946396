-- The order in which messages come due.
use Rattle.std.proofs.Common.{◌≡◌, ◌<◌, ◌≤◌, ◌⊎◌, true, false, ◌||◌, ◌&&◌, nat_eq, nat_lt, sym, ◌∙◌, arith, inl, inr}
use Rattle.std.proofs.lemmas.Bool.{ltb-true, ltb-false, eqb-true, eqb-false, lt-ltb, eq-eqb, or_cases, or_parts, or_left, or_right, and_parts, and_cases, and_from, true≢false, cases_order, cases_Bool, or_from}
use Rattle.scheduled_queue.specs.declared.due.Due.{Due}
use Rattle.scheduled_queue.specs.Dues.{is_before}

-- what the test says of the numbers
abbrev pub Before : Due → Due → Type 0
Before a b = (a.due < b.due) ⊎ ((a.due ≡ b.due) × (a.number < b.number))

abbrev pub NotBefore : Due → Due → Type 0
NotBefore a b = (b.due < a.due) ⊎ ((a.due ≡ b.due) × (b.number ≤ a.number))

pub reads : (a b : Due) → is_before a b ≡ true → Before a b
reads a b e =
    elim (or_cases (nat_lt a.due b.due) (nat_eq a.due b.due && nat_lt a.number b.number) e) [
      | inl p ↦ inl (ltb-true a.due b.due p)
      | inr p ↦
          let q = and_parts (nat_eq a.due b.due) (nat_lt a.number b.number) p in
          inr (eqb-true a.due b.due q.0, ltb-true a.number b.number q.1)
    ]

pub writes : (a b : Due) → Before a b → is_before a b ≡ true
writes a b h =
    elim h [
      | inl p ↦ or_left (nat_lt a.due b.due) (nat_eq a.due b.due && nat_lt a.number b.number) (lt-ltb a.due b.due p)
      | inr p ↦
          or_right (nat_lt a.due b.due) (nat_eq a.due b.due && nat_lt a.number b.number)
          (and_from (nat_eq a.due b.due) (nat_lt a.number b.number) (eq-eqb a.due b.due p.0) (lt-ltb a.number b.number p.1))
    ]

pub reads_not : (a b : Due) → is_before a b ≡ false → NotBefore a b
reads_not a b e =
    let parts = or_parts (nat_lt a.due b.due) (nat_eq a.due b.due && nat_lt a.number b.number) e in
    let le : b.due ≤ a.due = ltb-false a.due b.due parts.0 in
    elim (and_cases (nat_eq a.due b.due) (nat_lt a.number b.number) parts.1) [
      | inl p ↦
          elim (cases_order a.due b.due) [
            | inl q ↦ absurd (eqb-false a.due b.due p q)
            | inr q ↦ inl (elim q [ inl r ↦ absurd (omega (arith, r, le)) | inr r ↦ r ])
          ]
      | inr p ↦
          elim (cases_order a.due b.due) [
            | inl q ↦ inr (q, ltb-false a.number b.number p)
            | inr q ↦ inl (elim q [ inl r ↦ absurd (omega (arith, r, le)) | inr r ↦ r ])
          ]
    ]

before_then : (a b c : Due) → Before a b → Before b c → Before a c
before_then a b c p q = grind arith

both_ways : (a b : Due) → Before a b → NotBefore a b → ⊥
both_ways a b p q = grind arith

tied : (a b : Due) → NotBefore a b → NotBefore b a → (a.due ≡ b.due) × (a.number ≡ b.number)
tied a b p q = grind arith

turned : (a b : Due) → Before a b → NotBefore b a
turned a b p = grind arith

other_way : (a b : Due) → NotBefore a b → (a.number ≡ b.number → ⊥) → Before b a
other_way a b p ne = grind arith

not_back : (a b : Due) → NotBefore a b → is_before a b ≡ false
not_back a b h = elim (cases_Bool (is_before a b)) [ inl t ↦ absurd (both_ways a b (reads a b t) h) | inr f ↦ f ]

pub before_trans : (a b c : Due) → is_before a b ≡ true → is_before b c ≡ true → is_before a c ≡ true
before_trans a b c p q = writes a c (before_then a b c (reads a b p) (reads b c q))

pub before_turned : (a b : Due) → is_before a b ≡ true → is_before b a ≡ false
before_turned a b p = not_back b a (turned a b (reads a b p))

-- what is not behind one is not behind a later one
pub before_behind : (a b c : Due) → is_before a b ≡ true → is_before c b ≡ false → is_before c a ≡ false
before_behind a b c p q =
    elim (cases_Bool (is_before c a)) [ inl t ↦ absurd (true≢false (sym (before_trans c a b t p) ∙ q)) | inr f ↦ f ]

pub same_place : (a b : Due) → is_before a b ≡ false → is_before b a ≡ false → (a.due ≡ b.due) × (a.number ≡ b.number)
same_place a b p q = tied a b (reads_not a b p) (reads_not b a q)

pub one_way : (a b : Due) → is_before a b ≡ false → (a.number ≡ b.number → ⊥) → is_before b a ≡ true
one_way a b p ne = writes b a (other_way a b (reads_not a b p) ne)

reach : (d e x : Due) → NotBefore e d → Before e x → Before d x
reach d e x p q = grind arith

-- what is behind one is behind all that are not behind this one
pub reaches : (d e x : Due) → is_before e d ≡ false → is_before e x ≡ true → is_before d x ≡ true
reaches d e x f t = writes d x (reach d e x (reads_not e d f) (reads e x t))

reach_back : (x e d : Due) → Before x e → NotBefore d e → Before x d
reach_back x e d p q = grind arith

pub reached : (x e d : Due) → is_before x e ≡ true → is_before d e ≡ false → is_before x d ≡ true
reached x e d t f = writes x d (reach_back x e d (reads x e t) (reads_not d e f))

not_later : (a b : Due) → Before a b → a.due ≤ b.due
not_later a b p = grind arith

-- what is before another is due no later
pub before_due : (a b : Due) → is_before a b ≡ true → a.due ≤ b.due
before_due a b t = not_later a b (reads a b t)

-- none is before another of its moment and number
pub irreflexive_at : (a b : Due) → b.due ≡ a.due → b.number ≡ a.number → (is_before a b || is_before b a) ≡ false
irreflexive_at a b due number =
    or_from (is_before a b) (is_before b a) (not_back a b (inr (sym due, omega (arith, number)))) (not_back b a (inr (due, omega (arith, number))))
