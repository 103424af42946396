-- What one match more adds to moments and firings.
use Rattle.std.proofs.Common.{◌≡◌, ◌≤◌, ℕ, refl, sym, ap, ◌∙◌, Bool, true, false, cond, List, [], ◌∷◌, ◌++◌, append-nil, append_assoc, filter, map}
use Rattle.std.specs.List.{All, AllByRecursion}
use Rattle.std.proofs.lemmas.List.{map-append}
use Rattle.std.proofs.lemmas.List.Elements.{filter-append, recursion_from_All}
use Rattle.automation_rules.specs.Matches.{Noted, is_of, moments_of, is_firing, fired_at, firings_from, firings_of}
use Rattle.automation_rules.specs.Standing.{kept_of, kept_firings}

firings_more : (before ms : List Noted) (m : Noted) → firings_from before (ms ++ m ∷ []) ≡ firings_from before ms ++ fired_at (before ++ ms) m
firings_more before [] m = append-nil (fired_at before m) ∙ ap (λ b. fired_at b m) (sym (append-nil before))
firings_more before (x ∷ ms) m =
    ap (λ fs. fired_at before x ++ fs) (firings_more (before ++ x ∷ []) ms m)
    ∙ sym (append_assoc (fired_at before x) _ _)
    ∙ ap (λ b. (fired_at before x ++ firings_from (before ++ x ∷ []) ms) ++ fired_at b m) (append_assoc before (x ∷ []) ms)

all_fired : (P : Noted → Type 0) (before ms : List Noted) → AllByRecursion P ms → AllByRecursion P (firings_from before ms)
all_fired P before [] all = tt
all_fired P before (m ∷ ms) all = by (is_firing before m) refl (all_fired P (before ++ m ∷ []) ms all.1) where
  by : (b : Bool) → is_firing before m ≡ b → AllByRecursion P (firings_from (before ++ m ∷ []) ms) → AllByRecursion P (firings_from before (m ∷ ms))
  by true is more = rw is (all.0, more)
  by false is more = rw is more

-- each firing is a match
pub all_firings : (P : Noted → Type 0) (ms : List Noted) → All P ms → AllByRecursion P (firings_of ms)
all_firings P ms all = all_fired P [] ms (recursion_from_All P ms all)

pub latest_moments : (t path number : ℕ) (ms : List Noted) → AllByRecursion (λ m. m.at ≤ t) ms → AllByRecursion (λ s. s ≤ t) (moments_of path number ms)
latest_moments t path number [] all = tt
latest_moments t path number (m ∷ ms) all = by (is_of path number m) refl (latest_moments t path number ms all.1) where
  by : (b : Bool) → is_of path number m ≡ b → AllByRecursion (λ s. s ≤ t) (moments_of path number ms) → AllByRecursion (λ s. s ≤ t) (moments_of path number (m ∷ ms))
  by true is more = rw is (all.0, more)
  by false is more = rw is more

one_kept : (path number : ℕ) (m : Noted) (b : Bool) → is_of path number m ≡ b → filter (is_of path number) (m ∷ []) ≡ cond b (m ∷ []) []
one_kept path number m b is = ap (λ b. cond b (m ∷ []) []) is

moments_with : (path number : ℕ) (ms : List Noted) (m : Noted)
    → moments_of path number (ms ++ m ∷ []) ≡ moments_of path number ms ++ map (λ (m : Noted). m.at) (filter (is_of path number) (m ∷ []))
moments_with path number ms m =
    ap (map (λ (m : Noted). m.at)) (filter-append (is_of path number) ms (m ∷ [])) ∙ map-append (λ (m : Noted). m.at) (filter (is_of path number) ms) (filter (is_of path number) (m ∷ []))

kept_with : (path number : ℕ) (ms : List Noted) (m : Noted)
    → kept_firings path number (ms ++ m ∷ []) ≡ kept_firings path number ms ++ map kept_of (filter (is_of path number) (fired_at ms m))
kept_with path number ms m =
    ap (λ fs. map kept_of (filter (is_of path number) fs)) (firings_more [] ms m)
    ∙ ap (map kept_of) (filter-append (is_of path number) (firings_of ms) (fired_at ms m))
    ∙ map-append kept_of (filter (is_of path number) (firings_of ms)) (filter (is_of path number) (fired_at ms m))

pub moments_same : (path number : ℕ) (ms : List Noted) (m : Noted) → is_of path number m ≡ false → moments_of path number (ms ++ m ∷ []) ≡ moments_of path number ms
moments_same path number ms m other =
    moments_with path number ms m ∙ ap (λ ks. moments_of path number ms ++ map (λ (m : Noted). m.at) ks) (one_kept path number m false other)
    ∙ append-nil (moments_of path number ms)

pub moments_more : (path number : ℕ) (ms : List Noted) (m : Noted) → is_of path number m ≡ true
    → moments_of path number (ms ++ m ∷ []) ≡ moments_of path number ms ++ m.at ∷ []
moments_more path number ms m same =
    moments_with path number ms m ∙ ap (λ ks. moments_of path number ms ++ map (λ (m : Noted). m.at) ks) (one_kept path number m true same)

pub kept_quiet : (path number : ℕ) (ms : List Noted) (m : Noted) → is_firing ms m ≡ false → kept_firings path number (ms ++ m ∷ []) ≡ kept_firings path number ms
kept_quiet path number ms m not =
    kept_with path number ms m
    ∙ ap (λ b. kept_firings path number ms ++ map kept_of (filter (is_of path number) (cond b (m ∷ []) []))) not
    ∙ append-nil (kept_firings path number ms)

pub kept_same : (path number : ℕ) (ms : List Noted) (m : Noted) → is_of path number m ≡ false → kept_firings path number (ms ++ m ∷ []) ≡ kept_firings path number ms
kept_same path number ms m other = by (is_firing ms m) refl where
  by : (b : Bool) → is_firing ms m ≡ b → kept_firings path number (ms ++ m ∷ []) ≡ kept_firings path number ms
  by true is =
      kept_with path number ms m
      ∙ ap (λ b. kept_firings path number ms ++ map kept_of (filter (is_of path number) (cond b (m ∷ []) []))) is
      ∙ ap (λ ks. kept_firings path number ms ++ map kept_of ks) (one_kept path number m false other)
      ∙ append-nil (kept_firings path number ms)
  by false is = kept_quiet path number ms m is

pub kept_loud : (path number : ℕ) (ms : List Noted) (m : Noted) → is_of path number m ≡ true → is_firing ms m ≡ true
    → kept_firings path number (ms ++ m ∷ []) ≡ kept_firings path number ms ++ kept_of m ∷ []
kept_loud path number ms m same is =
    kept_with path number ms m
    ∙ ap (λ b. kept_firings path number ms ++ map kept_of (filter (is_of path number) (cond b (m ∷ []) []))) is
    ∙ ap (λ ks. kept_firings path number ms ++ map kept_of ks) (one_kept path number m true same)
