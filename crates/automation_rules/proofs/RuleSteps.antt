-- A state of a rule takes one match more.
use Rattle.std.proofs.Common.{◌≡◌, ◌≤◌, ◌<◌, ◌+◌, ◌-◌, ◌⊎◌, inl, inr, ℕ, zero, suc, max, refl, sym, ap, ◌∙◌, arith, Bool, true, false, cond, List, [], ◌∷◌, ◌++◌, length, drop, filter, length-append, length-drop}
use Rattle.std.specs.List.{AllByRecursion}
use Rattle.std.proofs.lemmas.List.Elements.{filter-append}
use Rattle.std.proofs.lemmas.Bool.{cases_lt, le-leb, false≢true}
use Rattle.circular_buffer.specs.Buffer.{keep_last}
use Rattle.queue_name.specs.QueueName.{Name}
use Rattle.policy_core.specs.LiveOrders.{end_of}
use Rattle.policy_core.specs.declared.rules.Rule.{Rule}
use Rattle.automation_rules.specs.declared.firing.Firing.{Firing}
use Rattle.automation_rules.specs.Memory.{RuleMemory, IsAscending, looks_back, is_live, last_end, kept_firing}
use Rattle.automation_rules.specs.Standing.{RuleStandsFor}
use Rattle.automation_rules.specs.inside.Noting.{without_over, noted_in}
use Rattle.automation_rules.proofs.WindowLemmas.{drop_front}
use Rattle.automation_rules.proofs.FiringLemmas.{is_over, last_end-push}

drop_twice : {A : Type 0} (m n : ℕ) (xs : List A) → drop m (drop n xs) ≡ drop (m + n) xs
drop_twice m zero xs = let same : m ≡ m + 0 = omega arith in ap (λ k. drop k xs) same
drop_twice {A = A} m (suc n) [] = drop_none m ∙ sym (drop_none (m + suc n)) where
  none : List A
  none = []

  drop_none : (k : ℕ) → drop k none ≡ none
  drop_none zero = refl
  drop_none (suc k) = refl
drop_twice m (suc n) (x ∷ xs) =
    let next : m + suc n ≡ suc (m + n) = omega arith in
    drop_twice m n xs ∙ sym (ap (λ k. drop k (x ∷ xs)) next)

pub kept_again : (n : ℕ) (xs : List ℕ) (x : ℕ) → keep_last n (keep_last n xs ++ x ∷ []) ≡ keep_last n (xs ++ x ∷ [])
kept_again n xs x = all where
  d : ℕ
  d = length xs - n

  ys : List ℕ
  ys = drop d xs ++ x ∷ []

  front : ys ≡ drop d (xs ++ x ∷ [])
  front = drop_front d xs (x ∷ []) (omega arith)

  count : length ys - n + d ≡ length (xs ++ x ∷ []) - n
  count = omega (arith, length-append (drop d xs) (x ∷ []), length-append xs (x ∷ []), length-drop d xs)

  all : drop (length ys - n) ys ≡ drop (length (xs ++ x ∷ []) - n) (xs ++ x ∷ [])
  all = ap (drop (length ys - n)) front ∙ drop_twice (length ys - n) d (xs ++ x ∷ []) ∙ ap (λ k. drop k (xs ++ x ∷ [])) count

pub all_front : {A : Type 0} (P : A → Type 0) (xs : List A) (x : A) → AllByRecursion P (xs ++ x ∷ []) → AllByRecursion P xs × P x
all_front P [] x all = (tt, all.0)
all_front P (y ∷ xs) x all = let more = all_front P xs x all.1 in ((all.0, more.0), more.1)

pub all_behind : {A : Type 0} (P : A → Type 0) (xs : List A) (x : A) → AllByRecursion P xs → P x → AllByRecursion P (xs ++ x ∷ [])
all_behind P [] x all here = (here, tt)
all_behind P (y ∷ xs) x all here = (all.0, all_behind P xs x all.1 here)

pub ascending_behind : (xs : List ℕ) (t : ℕ) → IsAscending xs → AllByRecursion (λ s. s ≤ t) xs → IsAscending (xs ++ t ∷ [])
ascending_behind [] t order latest = (tt, tt)
ascending_behind (x ∷ xs) t order latest = (all_behind (λ u. x ≤ u) xs t order.0 latest.0, ascending_behind xs t order.1 latest.1)

not_lower : (t u : ℕ) (f : Firing) → t ≤ u → is_live t f ≡ false → f.end ≤ u
not_lower t u f later is = by (cases_lt t f.end) where
  by : (t < f.end) ⊎ (f.end ≤ t) → f.end ≤ u
  by (inl below) = absurd (false≢true (sym is ∙ le-leb (suc t) f.end (omega arith)))
  by (inr past) = omega arith

-- what is over now is over later
live_without : (t u : ℕ) (fs : List Firing) → t ≤ u → filter (is_live u) (without_over t fs) ≡ filter (is_live u) fs
live_without t u [] later = refl
live_without t u (f ∷ fs) later = by (is_live t f) refl (live_without t u fs later) where
  by : (b : Bool) → is_live t f ≡ b → filter (is_live u) (without_over t fs) ≡ filter (is_live u) fs
      → filter (is_live u) (without_over t (f ∷ fs)) ≡ filter (is_live u) (f ∷ fs)
  by true is more = ap (λ b. filter (is_live u) (cond b (f ∷ fs) (without_over t fs))) is
  by false is more =
      let gone : is_live u f ≡ false = is_over u f (not_lower t u f later is) in
      ap (λ b. filter (is_live u) (cond b (f ∷ fs) (without_over t fs))) is ∙ more ∙ sym (ap (λ b. cond b (f ∷ filter (is_live u) fs) (filter (is_live u) fs)) gone)

last_later : (e : ℕ) (f : Firing) (fs : List Firing) → last_end (f ∷ fs) ≤ e → last_end fs ≤ e
last_later e f [] below = omega arith
last_later e f (g ∷ fs) below = below

last_without : (t e : ℕ) (fs : List Firing) → last_end fs ≤ e → last_end (without_over t fs) ≤ e
last_without t e [] below = omega arith
last_without t e (f ∷ fs) below = by (is_live t f) refl (last_without t e fs (last_later e f fs below)) where
  by : (b : Bool) → is_live t f ≡ b → last_end (without_over t fs) ≤ e → last_end (without_over t (f ∷ fs)) ≤ e
  by true is more = rw is below
  by false is more = rw is more

-- a match that does not fire
pub quiet : (x : Rule) (s : RuleMemory) (t : ℕ) (name : Name) (moments : List ℕ) (fired : List Firing) → RuleStandsFor x s moments fired
    → AllByRecursion (λ s. s ≤ t) moments → RuleStandsFor x (noted_in s x t name false) (moments ++ t ∷ []) fired
quiet x s t name moments fired stands latest = record {
  most = stands.most;
  kept =
      ap (λ n. keep_last n (s.moments ++ t ∷ [])) stands.most ∙ ap (λ ms. keep_last (looks_back x.trigger) (ms ++ t ∷ [])) stands.kept
      ∙ kept_again (looks_back x.trigger) moments t;
  order = ascending_behind moments t stands.order latest;
  last = λ u all. stands.last u (all_front (λ s. s ≤ u) moments t all).0;
  live = λ u all. stands.live u (all_front (λ s. s ≤ u) moments t all).0;
}

-- one that does
pub loud : (x : Rule) (s : RuleMemory) (t : ℕ) (name : Name) (moments : List ℕ) (fired : List Firing) → RuleStandsFor x s moments fired
    → AllByRecursion (λ s. s ≤ t) moments
    → RuleStandsFor x (noted_in s x t name true) (moments ++ t ∷ []) (fired ++ kept_firing x.action (end_of t x.duration) name ∷ [])
loud x s t name moments fired stands latest =
    record { most = still.most; kept = still.kept; order = still.order; last = last; live = live } where
      still : RuleStandsFor x (noted_in s x t name false) (moments ++ t ∷ []) fired
      still = quiet x s t name moments fired stands latest

      e : ℕ
      e = max (end_of t x.duration) (last_end s.firings)

      ends : e ≡ end_of t x.duration
      ends = omega (arith, stands.last t latest)

      f : Firing
      f = kept_firing x.action e name

      last : (u : ℕ) → AllByRecursion (λ s. s ≤ u) (moments ++ t ∷ []) → last_end (without_over t (s.firings ++ f ∷ [])) ≤ end_of u x.duration
      last u all =
          let later = (all_front (λ s. s ≤ u) moments t all).1 in
          last_without t (end_of u x.duration) (s.firings ++ f ∷ []) (omega (arith, last_end-push s.firings f, ends, later))

      live : (u : ℕ) → AllByRecursion (λ s. s ≤ u) (moments ++ t ∷ [])
          → filter (is_live u) (without_over t (s.firings ++ f ∷ [])) ≡ filter (is_live u) (fired ++ kept_firing x.action (end_of t x.duration) name ∷ [])
      live u all =
          let parts = all_front (λ s. s ≤ u) moments t all in
          live_without t u (s.firings ++ f ∷ []) parts.1
          ∙ filter-append (is_live u) s.firings (f ∷ [])
          ∙ ap (λ fs. fs ++ filter (is_live u) (f ∷ [])) (stands.live u parts.0)
          ∙ sym (filter-append (is_live u) fired (f ∷ []))
          ∙ ap (λ n. filter (is_live u) (fired ++ kept_firing x.action n name ∷ [])) ends
