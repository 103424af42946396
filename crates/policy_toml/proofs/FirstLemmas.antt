-- Which of several faults is the first: one of them, and none of them comes before it.
use Rattle.std.proofs.Common.{◌≡◌, ◌∙◌, sym, ap, subst, ℕ, zero, suc, List, [], ◌∷◌, Bool, true, false, Some, None, refl, slice_get, if◌then◌else◌}
use Rattle.std.specs.declared.cmp.Ordering.{Ordering}
use Rattle.std.specs.declared.cmp.Ordering.TheVariants.{Less, Equal, Greater}
use Rattle.std.specs.Cmp.{IsTotalOrder}
use Rattle.std.specs.Ordering.{is_lt, is_gt, ordering_reverse}
use Rattle.std.proofs.lemmas.Cmp.{upto, tied_itself, then_total, on_total, nat_cmp_total, nat_list_cmp_total}
use Rattle.std.proofs.lemmas.Option.{none-some, same_Some}
use Rattle.policy_fault.specs.contracts.fault.WhyOrd.TheImpl.Laws.{total-law}
use Rattle.policy_toml.specs.declared.fault.Fault.{Fault}
use Rattle.policy_toml.specs.Places.{fault_cmp, earlier, first_of}

-- places are ordered
pub fault_cmp_total : IsTotalOrder fault_cmp
fault_cmp_total =
    then_total (on_total (λ (f : Fault). f.table) nat_list_cmp_total)
    (then_total (on_total (λ (f : Fault). f.number) nat_cmp_total)
    (then_total (on_total (λ (f : Fault). f.key) nat_list_cmp_total)
    (then_total (on_total (λ (f : Fault). f.item) nat_cmp_total) (on_total (λ (f : Fault). f.why) total-law))))

-- the first fault does not come after the second
abbrev NotAfter : Fault → Fault → Type 0
NotAfter f g = is_gt (fault_cmp f g) ≡ false

not_after_itself : (f : Fault) → NotAfter f f
not_after_itself f = ap is_gt (tied_itself fault_cmp_total f)

turned : (o : Ordering) → is_lt (ordering_reverse o) ≡ is_gt o
turned Less = refl
turned Equal = refl
turned Greater = refl

not_before : (f g : Fault) → is_lt (fault_cmp g f) ≡ is_gt (fault_cmp f g)
not_before f g = ap is_lt (fault_cmp_total.antisymm g f) ∙ turned (fault_cmp f g)

before : (o : Ordering) → is_lt o ≡ true → is_gt o ≡ false
before Less e = refl
before Equal e = refl
before Greater e = sym e

-- the earlier of two comes after neither
earlier_of_both : (best f : Fault) → NotAfter (earlier (Some best) f) best × NotAfter (earlier (Some best) f) f
earlier_of_both best f = by (is_lt (fault_cmp f best)) refl where
  by : (b : Bool) → is_lt (fault_cmp f best) ≡ b → NotAfter (if b then f else best) best × NotAfter (if b then f else best) f
  by true e = (before (fault_cmp f best) e, not_after_itself f)
  by false e = (not_after_itself best, sym (not_before best f) ∙ e)

reaches : (best : Fault) (faults : List Fault) (first : Fault) → first_of (Some best) faults ≡ Some first → NotAfter first best
reaches best [] first e = subst (λ (f : Fault). NotAfter f best) (same_Some best first e) (not_after_itself best)
reaches best (f ∷ faults) first e =
    upto fault_cmp_total first (earlier (Some best) f) best (reaches (earlier (Some best) f) faults first e) (earlier_of_both best f).0

-- the first, after a best that was met before, is that one or one of them
after_best : (b : Bool) (best f : Fault) (faults : List Fault) (first : Fault) (k : ℕ)
    → slice_get ((if b then f else best) ∷ faults) k ≡ Some first → (m : ℕ) × (slice_get (best ∷ f ∷ faults) m ≡ Some first)
after_best true best f faults first k e = (suc k, e)
after_best false best f faults first zero e = (zero, e)
after_best false best f faults first (suc k) e = (suc (suc k), e)

one_of : (best : Fault) (faults : List Fault) (first : Fault) → first_of (Some best) faults ≡ Some first
    → (k : ℕ) × (slice_get (best ∷ faults) k ≡ Some first)
one_of best [] first e = (zero, e)
one_of best (f ∷ faults) first e =
    let found = one_of (earlier (Some best) f) faults first e in
    after_best (is_lt (fault_cmp f best)) best f faults first found.0 found.1

pub first_is_one : (faults : List Fault) (first : Fault) → first_of None faults ≡ Some first → (k : ℕ) × (slice_get faults k ≡ Some first)
first_is_one [] first e = absurd (none-some first e)
first_is_one (f ∷ faults) first e = one_of f faults first e

none_after : (best : Fault) (faults : List Fault) (first other : Fault) (k : ℕ) → first_of (Some best) faults ≡ Some first
    → slice_get (best ∷ faults) k ≡ Some other → NotAfter first other
none_after best faults first other zero e at = subst (λ (f : Fault). NotAfter first f) (same_Some best other at) (reaches best faults first e)
none_after best [] first other (suc k) e at = absurd (none-some other at)
none_after best (f ∷ faults) first other (suc zero) e at =
    subst (λ (g : Fault). NotAfter first g) (same_Some f other at)
    (upto fault_cmp_total first (earlier (Some best) f) f (reaches (earlier (Some best) f) faults first e) (earlier_of_both best f).1)
none_after best (f ∷ faults) first other (suc (suc k)) e at = none_after (earlier (Some best) f) faults first other (suc k) e at

pub none_before : (faults : List Fault) (first other : Fault) (k : ℕ) → first_of None faults ≡ Some first
    → slice_get faults k ≡ Some other → is_lt (fault_cmp other first) ≡ false
none_before [] first other k e at = absurd (none-some first e)
none_before (f ∷ faults) first other k e at = not_before first other ∙ none_after f faults first other k e at
