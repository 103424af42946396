-- What a bucket says of the moments that it took.
use Rattle.std.proofs.Common.{◌≡◌, ◌↔◌, refl, sym, ap, subst, ◌∙◌, ℕ, List, [], ◌∷◌, ◌++◌, Bool, true, false, IsTrue, Option, Some, inl, inr, None}
use Rattle.kumo_base.specs.Moment.{clamped}
use Rattle.throttle_spec.specs.Throttle.{Throttle, Conforms, conforms, least_admitted}
use Rattle.throttle_spec.specs.Rates.{admits, least_by_rate}
use Rattle.throttle_spec.specs.Bucket as bucket
use Rattle.throttle_spec.specs.Bucket.{BucketState, IsAdmitted}
use Rattle.throttle_spec.proofs.BucketLemmas.{conforms_decides, room_decides}
use Rattle.path_lease.specs.Standing.{IsCounted}
use Rattle.path_lease.specs.Allowed.{Admits}

same_answer : (s : Throttle) (moments : List ℕ) (b : Bool) → (IsTrue b ↔ Conforms s moments) → b ≡ conforms s moments
same_answer s moments true both = sym ((conforms_decides s moments).1 (both.0 refl))
same_answer s moments false both = by (conforms s moments) refl where
  by : (b : Bool) → conforms s moments ≡ b → false ≡ b
  by false is = refl
  by true is = both.1 ((conforms_decides s moments).0 is)

-- what `admits` of a bucket promises
abbrev pub Answers : BucketState → ℕ → Bool → Type 0
Answers b t answer = (moments : List ℕ) → bucket.StandsFor b moments → (IsTrue answer ↔ Conforms b.throttle (moments ++ clamped t ∷ []))

same_throttle : (s : Throttle) (b : BucketState) → Some s ≡ Some b.throttle → b.throttle ≡ s
same_throttle s b e = cc

pub admitted_by : (rate : Option Throttle) (s : Throttle) (moments : List ℕ) (t : ℕ) (b : BucketState) (answer : Bool) → rate ≡ Some s
    → Answers b t answer → IsCounted (Some s) moments (Some b) → answer ≡ admits rate moments t
admitted_by rate s moments t b answer is answers counted =
    let same = same_throttle s b counted.0 in
    subst (λ r. answer ≡ admits r moments t) (sym is)
    (subst (λ x. answer ≡ conforms x (moments ++ clamped t ∷ [])) same (same_answer b.throttle (moments ++ clamped t ∷ []) answer (answers moments counted.1)))

pub next_by : (rate : Option Throttle) (s : Throttle) (moments : List ℕ) (t : ℕ) (b : BucketState) (answer : ℕ) → rate ≡ Some s
    → ((ms : List ℕ) → bucket.StandsFor b ms → answer ≡ least_admitted b.throttle ms t) → IsCounted (Some s) moments (Some b)
    → answer ≡ least_by_rate rate moments t
next_by rate s moments t b answer is answers counted =
    let same = same_throttle s b counted.0 in
    subst (λ r. answer ≡ least_by_rate r moments t) (sym is)
    (subst (λ x. answer ≡ least_admitted x moments t) same (answers moments counted.1))

-- a bucket may take a moment that its rate admits
pub may_take : (rate : Option Throttle) (s : Throttle) (moments : List ℕ) (t : ℕ) (b : BucketState) → rate ≡ Some s
    → IsCounted (Some s) moments (Some b) → admits rate moments t ≡ true → IsAdmitted b t
may_take rate s moments t b is counted admitted =
    let same = same_throttle s b counted.0 in
    let conform : conforms b.throttle (moments ++ clamped t ∷ []) ≡ true =
    subst (λ x. conforms x (moments ++ clamped t ∷ []) ≡ true) (sym same) (subst (λ r. admits r moments t ≡ true) is admitted) in
    (room_decides b moments t counted.1).1 ((conforms_decides b.throttle (moments ++ clamped t ∷ [])).0 conform)

-- and stands for it then too
pub taken : (rate : Option Throttle) (s : Throttle) (moments : List ℕ) (t : ℕ) (b now : BucketState) → rate ≡ Some s
    → now.throttle ≡ b.throttle → ((ms : List ℕ) → bucket.StandsFor b ms → bucket.StandsFor now (ms ++ clamped t ∷ []))
    → IsCounted (Some s) moments (Some b) → IsCounted rate (moments ++ clamped t ∷ []) (Some now)
taken rate s moments t b now is same takes counted =
    (is ∙ counted.0 ∙ ap Some (sym same), takes moments counted.1)

-- what the moments admit, what is kept admits
pub admits_kept : (rate : Option Throttle) (moments : List ℕ) (kept : Option BucketState) (t : ℕ) → IsCounted rate moments kept
    → admits rate moments t ≡ true → Admits rate kept t
admits_kept None moments kept t counted admitted = tt
admits_kept (Some s) moments None t (inl none) admitted = absurd cc
admits_kept (Some s) moments None t (inr none) admitted =
    (conforms_decides s (clamped t ∷ [])).0 (ap (λ ms. conforms s (ms ++ clamped t ∷ [])) (sym none) ∙ admitted)
admits_kept (Some s) moments (Some b) t counted admitted = may_take (Some s) s moments t b refl counted admitted

-- a bucket that took nothing yet
pub new_admits : (s : Throttle) (b : BucketState) (kept : Option BucketState) (t : ℕ) → kept ≡ None → b.throttle ≡ s → bucket.StandsFor b []
    → IsAdmitted b t ↔ Admits (Some s) kept t
new_admits s b kept t none same stands =
    subst (λ k. IsAdmitted b t ↔ Admits (Some s) k t) (sym none)
    (subst (λ x. IsAdmitted b t ↔ Conforms x (clamped t ∷ [])) same (room_decides b [] t stands))
