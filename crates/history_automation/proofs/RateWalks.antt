-- Buckets filled with the moments of a history, one more at a time.
use Rattle.std.proofs.Common.{◌≡◌, ◌↔◌, ◌⊎◌, inl, inr, refl, sym, subst, ◌∙◌, ℕ, ◌+◌, List, [], ◌∷◌, ◌++◌, length, Bool, true, false, IsTrue, Option, Some, None, option_map, option_to_list, arith, length-append}
use Rattle.std.proofs.lemmas.List.{get_or_append_left}
use Rattle.kumo_base.specs.Limits.{latest_moment}
use Rattle.kumo_base.specs.Moment.{clamped}
use Rattle.throttle_spec.specs.Throttle.{Throttle, Conforms, conforms, least_admitted}
use Rattle.throttle_spec.specs.Bucket.{BucketState, StandsFor}
use Rattle.throttle_spec.proofs.BucketLemmas.{conforms_decides, least_says}
use Rattle.history_automation.specs.inside.Filled.{IsFilled}

-- moments that keep a rate with one more keep it without
conforms_front : (s : Throttle) (moments : List ℕ) (t : ℕ) → Conforms s (moments ++ t ∷ []) → Conforms s moments
conforms_front s moments t all i j order below =
    let long : length (moments ++ t ∷ []) ≡ length moments + 1 = length-append moments (t ∷ []) in
    let fits = all i j order (omega (arith, long)) in
    rw (get_or_append_left moments (t ∷ []) 0 j below, get_or_append_left moments (t ∷ []) 0 i (omega arith)) at fits

-- and where they do not, no later moment is admitted
none_admitted : (s : Throttle) (moments : List ℕ) (t : ℕ) → (Conforms s moments → ⊥) → conforms s (moments ++ t ∷ []) ≡ false
none_admitted s moments t never = by (conforms s (moments ++ t ∷ [])) refl where
  by : (b : Bool) → conforms s (moments ++ t ∷ []) ≡ b → b ≡ false
  by false is = refl
  by true is = absurd (never (conforms_front s moments t ((conforms_decides s (moments ++ t ∷ [])).0 is)))

-- the least is then the latest
latest_least : (s : Throttle) (moments : List ℕ) (t : ℕ) → (Conforms s moments → ⊥) → latest_moment ≡ least_admitted s moments t
latest_least s moments t never = by (least_says s moments t).admitted where
  by : Conforms s (moments ++ least_admitted s moments t ∷ []) ⊎ (least_admitted s moments t ≡ latest_moment) → latest_moment ≡ least_admitted s moments t
  by (inl fits) = absurd (never (conforms_front s moments (least_admitted s moments t) fits))
  by (inr last) = sym last

-- what a bucket answers
same_answer : (s : Throttle) (moments : List ℕ) (b : Bool) → (IsTrue b ↔ Conforms s moments) → b ≡ conforms s moments
same_answer s moments true both = sym ((conforms_decides s moments).1 (both.0 refl))
same_answer s moments false both = by (conforms s moments) refl where
  by : (b : Bool) → conforms s moments ≡ b → false ≡ b
  by false is = refl
  by true is = both.1 ((conforms_decides s moments).0 is)

-- a bucket says of each list that it stands for whether one more moment is admitted
abbrev pub Answers : BucketState → ℕ → Bool → Type 0
Answers bucket t b = (moments : List ℕ) → StandsFor bucket moments → (IsTrue b ↔ Conforms bucket.throttle (moments ++ clamped t ∷ []))

pub admitted_by : (s : Throttle) (moments : List ℕ) (t : ℕ) (filled : Option BucketState) (bucket : BucketState) (b : Bool)
    → filled ≡ Some bucket → Answers bucket t b → IsFilled s moments filled → b ≡ conforms s (moments ++ clamped t ∷ [])
admitted_by s moments t filled bucket b is answers known =
    let at : (bucket.throttle ≡ s) × StandsFor bucket moments = subst (IsFilled s moments) is known in
    subst (λ x. b ≡ conforms x (moments ++ clamped t ∷ [])) at.0 (same_answer bucket.throttle (moments ++ clamped t ∷ []) b (answers moments at.1))

pub refused_by : (s : Throttle) (moments : List ℕ) (t : ℕ) (bucket : BucketState) (b : Bool) → b ≡ false → Answers bucket t b
    → (bucket.throttle ≡ s) × StandsFor bucket moments → Conforms s (moments ++ clamped t ∷ []) → ⊥
refused_by s moments t bucket b is answers at all =
    let yes : b ≡ true = (answers moments at.1).1 (subst (λ x. Conforms x (moments ++ clamped t ∷ [])) (sym at.0) all) in
    let e : true ≡ false = sym yes ∙ is in
    cc

-- where there is none
pub none_by : (s : Throttle) (moments : List ℕ) (t : ℕ) (filled : Option BucketState) → filled ≡ None → IsFilled s moments filled
    → false ≡ conforms s (moments ++ t ∷ [])
none_by s moments t filled is known = sym (none_admitted s moments t (subst (IsFilled s moments) is known))

pub latest_by : (s : Throttle) (moments : List ℕ) (t : ℕ) (filled : Option BucketState) → filled ≡ None → IsFilled s moments filled
    → latest_moment ≡ least_admitted s moments t
latest_by s moments t filled is known = latest_least s moments t (subst (IsFilled s moments) is known)

-- one more where there is one
pub filled_more : (s : Throttle) (moments : List ℕ) (t : ℕ) (moment : Option ℕ) (filled : Option BucketState) (bucket : BucketState) (now : Option BucketState)
    → moment ≡ Some t → filled ≡ Some bucket
    → ((s : Throttle) (moments : List ℕ) → IsFilled s moments (Some bucket) → IsFilled s (moments ++ clamped t ∷ []) now)
    → IsFilled s moments filled → IsFilled s (moments ++ option_to_list (option_map clamped moment)) now
filled_more s moments t moment filled bucket now at is taken known =
    subst (λ (m : Option ℕ). IsFilled s (moments ++ option_to_list (option_map clamped m)) now) (sym at) (taken s moments (subst (IsFilled s moments) is known))
