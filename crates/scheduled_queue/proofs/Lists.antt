-- Lists of messages in order, and what the functions of a tree do with them.
use Rattle.std.proofs.Common.{◌≡◌, ◌<◌, ◌≤◌, ℕ, Option, Some, None, nat_lt, arith, List, [], ◌∷◌, ◌++◌, Bool, true, false, ◌||◌, cond, refl, sym, ap, ◌∙◌, inl, inr}
use Rattle.std.specs.List.{list_all, filter, find, slice_get}
use Rattle.std.specs.Option.{option_or, option_map}
use Rattle.std.proofs.lemmas.Bool.{cond-true, cond-false, and_parts, and_from, cases_Bool, or_left, or_right, or_from, lt-ltb, le-ltb}
use Rattle.std.proofs.lemmas.List.Folds.{list_all-append, find-append}
use Rattle.std.proofs.lemmas.List.Elements.{filter-append}
use Rattle.scheduled_queue.specs.declared.due.Due.{Due}
use Rattle.scheduled_queue.specs.Dues.{is_before, are_in_order, inserted}
use Rattle.scheduled_queue.specs.inside.Parts.{until, beyond, without_due, next_after}
use Rattle.scheduled_queue.proofs.Order.{before_turned, before_behind, before_due, reaches, reached}

-- a list in order, about one of its members
pub record About (ls : List Due) (e : Due) (rs : List Due) : Type 0 where
  pub left : are_in_order ls ≡ true
  pub right : are_in_order rs ≡ true
  pub before : list_all (λ d. is_before d e) ls ≡ true
  pub behind : list_all (is_before e) rs ≡ true

pub about : (ls : List Due) (e : Due) (rs : List Due) → are_in_order (ls ++ e ∷ rs) ≡ true → About ls e rs
about [] e rs h =
    let p = and_parts (list_all (is_before e) rs) (are_in_order rs) h in
    record { left = refl; right = p.1; before = refl; behind = p.0 }
about (x ∷ ls) e rs h =
    let p = and_parts (list_all (is_before x) (ls ++ e ∷ rs)) (are_in_order (ls ++ e ∷ rs)) h in
    let rest = about ls e rs p.1 in
    let all = and_parts (list_all (is_before x) ls) (list_all (is_before x) (e ∷ rs)) (sym (list_all-append (is_before x) ls (e ∷ rs)) ∙ p.0) in
    let here = and_parts (is_before x e) (list_all (is_before x) rs) all.1 in
    record {
      left = and_from (list_all (is_before x) ls) (are_in_order ls) all.0 rest.left;
      right = rest.right;
      before = and_from (is_before x e) (list_all (λ d. is_before d e) ls) here.0 rest.before;
      behind = rest.behind;
    }

-- a choice with the same behind both
spread : {X : Type 0} (b : Bool) (xs ys zs : List X) → cond b (xs ++ zs) (ys ++ zs) ≡ cond b xs ys ++ zs
spread true xs ys zs = refl
spread false xs ys zs = refl

later : (x : Due) (ls : List Due) (e : Due) (rs : List Due) → are_in_order ((x ∷ ls) ++ e ∷ rs) ≡ true → are_in_order (ls ++ e ∷ rs) ≡ true
later x ls e rs h = (and_parts (list_all (is_before x) (ls ++ e ∷ rs)) (are_in_order (ls ++ e ∷ rs)) h).1

past : (d x : Due) (ls : List Due) (e : Due) (rs : List Due) → is_before d e ≡ false → are_in_order ((x ∷ ls) ++ e ∷ rs) ≡ true → is_before d x ≡ false
past d x ls e rs f h =
    let here = (about (x ∷ ls) e rs h).before in
    before_behind x e d (and_parts (is_before x e) (list_all (λ d. is_before d e) ls) here).0 f

-- one is before the member: what is up to it stands on the left
pub until_left : (d : Due) (ls : List Due) (e : Due) (rs : List Due) → is_before d e ≡ true → until d (ls ++ e ∷ rs) ≡ until d ls
until_left d [] e rs t = cond-true _ _ _ t
until_left d (x ∷ ls) e rs t = ap (λ l. cond (is_before d x) [] (x ∷ l)) (until_left d ls e rs t)

pub beyond_left : (d : Due) (ls : List Due) (e : Due) (rs : List Due) → is_before d e ≡ true → beyond d (ls ++ e ∷ rs) ≡ beyond d ls ++ e ∷ rs
beyond_left d [] e rs t = cond-true _ _ _ t
beyond_left d (x ∷ ls) e rs t =
    ap (λ l. cond (is_before d x) ((x ∷ ls) ++ e ∷ rs) l) (beyond_left d ls e rs t) ∙ spread (is_before d x) (x ∷ ls) (beyond d ls) (e ∷ rs)

-- one is not before the member: what is behind it stands on the right
pub until_right : (d : Due) (ls : List Due) (e : Due) (rs : List Due) → is_before d e ≡ false → are_in_order (ls ++ e ∷ rs) ≡ true
    → until d (ls ++ e ∷ rs) ≡ ls ++ e ∷ until d rs
until_right d [] e rs f h = cond-false _ _ _ f
until_right d (x ∷ ls) e rs f h =
    cond-false _ _ _ (past d x ls e rs f h) ∙ ap (λ l. x ∷ l) (until_right d ls e rs f (later x ls e rs h))

pub beyond_right : (d : Due) (ls : List Due) (e : Due) (rs : List Due) → is_before d e ≡ false → are_in_order (ls ++ e ∷ rs) ≡ true
    → beyond d (ls ++ e ∷ rs) ≡ beyond d rs
beyond_right d [] e rs f h = cond-false _ _ _ f
beyond_right d (x ∷ ls) e rs f h = cond-false _ _ _ (past d x ls e rs f h) ∙ beyond_right d ls e rs f (later x ls e rs h)

pub insert_left : (d : Due) (ls : List Due) (e : Due) (rs : List Due) → is_before d e ≡ true → inserted d (ls ++ e ∷ rs) ≡ inserted d ls ++ e ∷ rs
insert_left d [] e rs t = cond-true _ _ _ t
insert_left d (x ∷ ls) e rs t =
    ap (λ l. cond (is_before d x) (d ∷ (x ∷ ls) ++ e ∷ rs) (x ∷ l)) (insert_left d ls e rs t) ∙ spread (is_before d x) (d ∷ x ∷ ls) (x ∷ inserted d ls) (e ∷ rs)

pub insert_right : (d : Due) (ls : List Due) (e : Due) (rs : List Due) → is_before d e ≡ false → are_in_order (ls ++ e ∷ rs) ≡ true
    → inserted d (ls ++ e ∷ rs) ≡ ls ++ e ∷ inserted d rs
insert_right d [] e rs f h = cond-false _ _ _ f
insert_right d (x ∷ ls) e rs f h =
    cond-false _ _ _ (past d x ls e rs f h) ∙ ap (λ l. x ∷ l) (insert_right d ls e rs f (later x ls e rs h))

-- one more in its place
pub between : (d : Due) (xs : List Due) → inserted d xs ≡ until d xs ++ d ∷ beyond d xs
between d [] = refl
between d (x ∷ xs) = elim (cases_Bool (is_before d x)) [
  | inl t ↦ cond-true _ _ _ t ∙ sym (ap (λ l. l ++ d ∷ beyond d (x ∷ xs)) (cond-true _ _ _ t) ∙ ap (λ l. d ∷ l) (cond-true _ _ _ t))
  | inr f ↦
      cond-false _ _ _ f ∙ ap (λ l. x ∷ l) (between d xs)
      ∙ sym (ap (λ l. l ++ d ∷ beyond d (x ∷ xs)) (cond-false _ _ _ f) ∙ ap (λ l. (x ∷ until d xs) ++ d ∷ l) (cond-false _ _ _ f))
]

-- one is taken out
pub kept_all : (p : Due → Bool) (xs : List Due) → list_all p xs ≡ true → filter p xs ≡ xs
kept_all p [] h = refl
kept_all p (x ∷ xs) h =
    let parts = and_parts (p x) (list_all p xs) h in
    cond-true _ _ _ parts.0 ∙ ap (λ l. x ∷ l) (kept_all p xs parts.1)

-- the test by which a member stays when one is taken out
abbrev stays : Due → Due → Bool
stays d e = is_before d e || is_before e d

-- a test that holds where another does holds of all where the other does
pub all_since : (p q : Due → Bool) → ((x : Due) → p x ≡ true → q x ≡ true) → (xs : List Due) → list_all p xs ≡ true → list_all q xs ≡ true
all_since p q since [] h = refl
all_since p q since (x ∷ xs) h =
    let parts = and_parts (p x) (list_all p xs) h in
    and_from (q x) (list_all q xs) (since x parts.0) (all_since p q since xs parts.1)

-- the members behind one stay if the one is not before it, and the members before one if the one is not behind it
behind_stay : (d e : Due) (rs : List Due) → is_before e d ≡ false → list_all (is_before e) rs ≡ true → without_due d rs ≡ rs
behind_stay d e rs f h =
    kept_all (stays d) rs (all_since (is_before e) (stays d) (λ x t. or_left (is_before d x) (is_before x d) (reaches d e x f t)) rs h)

before_stay : (d e : Due) (ls : List Due) → is_before d e ≡ false → list_all (λ x. is_before x e) ls ≡ true → without_due d ls ≡ ls
before_stay d e ls f h =
    kept_all (stays d) ls (all_since (λ x. is_before x e) (stays d) (λ x t. or_right (is_before d x) (is_before x d) (reached x e d t f)) ls h)

at_node : (d : Due) (ls : List Due) (e : Due) (rs : List Due) → stays d e ≡ true → without_due d (ls ++ e ∷ rs) ≡ without_due d ls ++ e ∷ without_due d rs
at_node d ls e rs h = filter-append (stays d) ls (e ∷ rs) ∙ ap (λ l. without_due d ls ++ l) (cond-true _ _ _ h)

pub remove_left : (d : Due) (ls : List Due) (e : Due) (rs : List Due) → is_before d e ≡ true → are_in_order (ls ++ e ∷ rs) ≡ true
    → without_due d (ls ++ e ∷ rs) ≡ without_due d ls ++ e ∷ rs
remove_left d ls e rs t h =
    at_node d ls e rs (or_left (is_before d e) (is_before e d) t)
    ∙ ap (λ l. without_due d ls ++ e ∷ l) (behind_stay d e rs (before_turned d e t) (about ls e rs h).behind)

pub remove_right : (d : Due) (ls : List Due) (e : Due) (rs : List Due) → is_before e d ≡ true → are_in_order (ls ++ e ∷ rs) ≡ true
    → without_due d (ls ++ e ∷ rs) ≡ ls ++ e ∷ without_due d rs
remove_right d ls e rs t h =
    at_node d ls e rs (or_right (is_before d e) (is_before e d) t)
    ∙ ap (λ l. l ++ e ∷ without_due d rs) (before_stay d e ls (before_turned e d t) (about ls e rs h).before)

pub remove_here : (d : Due) (ls : List Due) (e : Due) (rs : List Due) → is_before d e ≡ false → is_before e d ≡ false → are_in_order (ls ++ e ∷ rs) ≡ true
    → without_due d (ls ++ e ∷ rs) ≡ ls ++ rs
remove_here d ls e rs f g h =
    let here = about ls e rs h in
    filter-append (stays d) ls (e ∷ rs)
    ∙ ap (λ l. l ++ without_due d (e ∷ rs)) (before_stay d e ls f here.before)
    ∙ ap (λ l. ls ++ l) (cond-false _ _ _ (or_from (is_before d e) (is_before e d) f g) ∙ behind_stay d e rs g here.behind)

-- what stands first, and what comes next after a moment
pub first_left : (ls : List Due) (e : Due) (rs : List Due) (o : Option Due) → option_or (slice_get (ls ++ e ∷ rs) 0) o ≡ option_or (slice_get ls 0) (Some e)
first_left [] e rs o = refl
first_left (x ∷ ls) e rs o = refl

none_late : (t : ℕ) (e : Due) (ls : List Due) → e.due ≤ t → list_all (λ d. is_before d e) ls ≡ true → find (λ d. nat_lt t d.due) ls ≡ None
none_late t e [] le h = refl
none_late t e (x ∷ ls) le h =
    let parts = and_parts (is_before x e) (list_all (λ d. is_before d e) ls) h in
    let no : nat_lt t x.due ≡ false = le-ltb t x.due (omega (arith, le, before_due x e parts.0)) in
    cond-false _ _ _ no ∙ none_late t e ls le parts.1

pub next_left : (t : ℕ) (ls : List Due) (e : Due) (rs : List Due) (o : Option ℕ) → t < e.due
    → option_or (next_after t (ls ++ e ∷ rs)) o ≡ option_or (next_after t ls) (Some e.due)
next_left t [] e rs o lt = ap (λ f. option_or (option_map (λ d. d.due) f) o) (cond-true _ _ _ (lt-ltb t e.due lt))
next_left t (x ∷ ls) e rs o lt = elim (cases_Bool (nat_lt t x.due)) [
  | inl p ↦
      ap (λ f. option_or (option_map (λ d. d.due) f) o) (cond-true _ _ _ p)
      ∙ sym (ap (λ f. option_or (option_map (λ d. d.due) f) (Some e.due)) (cond-true _ _ _ p))
  | inr p ↦
      ap (λ f. option_or (option_map (λ d. d.due) f) o) (cond-false _ _ _ p)
      ∙ next_left t ls e rs o lt
      ∙ sym (ap (λ f. option_or (option_map (λ d. d.due) f) (Some e.due)) (cond-false _ _ _ p))
]

pub next_right : (t : ℕ) (ls : List Due) (e : Due) (rs : List Due) → e.due ≤ t → are_in_order (ls ++ e ∷ rs) ≡ true
    → next_after t (ls ++ e ∷ rs) ≡ next_after t rs
next_right t ls e rs le h =
    ap (option_map (λ d. d.due))
    (find-append (λ d. nat_lt t d.due) ls (e ∷ rs)
    ∙ ap (λ f. option_or f (find (λ d. nat_lt t d.due) (e ∷ rs))) (none_late t e ls le (about ls e rs h).before)
    ∙ cond-false _ _ _ (le-ltb t e.due le))

-- the parts of a list in order are in order
pub left_in_order : (ls : List Due) (e : Due) (rs : List Due) → are_in_order (ls ++ e ∷ rs) ≡ true → are_in_order ls ≡ true
left_in_order ls e rs h = (about ls e rs h).left

pub right_in_order : (ls : List Due) (e : Due) (rs : List Due) → are_in_order (ls ++ e ∷ rs) ≡ true → are_in_order rs ≡ true
right_in_order ls e rs h = (about ls e rs h).right

-- what the functions of a tree cite
pub ruleset at_a_node = (left_in_order, right_in_order, until_left, beyond_left, until_right, beyond_right, insert_left, insert_right, remove_left, remove_right, remove_here, between, first_left, next_left, next_right)
