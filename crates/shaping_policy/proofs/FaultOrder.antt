-- The order of faults is total, and faults that it does not tell apart are the same.
use Rattle.std.proofs.Common.{◌≡◌, ◌∙◌, ℕ, List, [], ◌∷◌, ap, refl, rules, Bool, false, Option, Some, None, Ordering, Less, Equal, Greater, is_lt}
use Rattle.std.specs.Cmp.{IsTotalOrder, IsStrictWeakOrder}
use Rattle.std.specs.Ordering.{is_eq, ordering_then, ordering_reverse}
use Rattle.std.proofs.lemmas.Cmp.{then_total, on_total, nat_cmp_total, nat_list_cmp_total}
use Rattle.std.proofs.lemmas.List.Sorted.{ranks_by}
use Rattle.std.proofs.lemmas.Map.Lookups.{exact_unsigned, exact_bytes}
use Rattle.policy_fault.specs.declared.fault.Why.{Why}
use Rattle.policy_fault.specs.contracts.fault.Why.{the_type}
use Rattle.policy_fault.specs.contracts.fault.WhyOrd.TheImpl.Laws.{matches_eq-law}
use Rattle.policy_toml.specs.declared.fault.Fault.{Fault}
use Rattle.policy_toml.specs.Places.{fault_in, why_cmp, fault_cmp, first_of, earlier}
use Rattle.policy_toml.proofs.FirstLemmas.{fault_cmp_total}
use Rattle.shaping_policy.proofs.Firsts.{IsExact, first_by}
use denote.Enum.Bare.{same_true}

-- whether a fault comes before another
unfoldable pub comes_before : Fault → Fault → Bool
comes_before a b = is_lt (fault_cmp a b)

-- refusals that the order does not tell apart are the same
same_why : (v w : Why) → why_cmp v w ≡ Equal → v ≡ w
same_why v w e = same_true the_type (search rules) v w (matches_eq-law v w ∙ ap is_eq e)

then_equal : (o p : Ordering) → ordering_then o p ≡ Equal → (o ≡ Equal) × (p ≡ Equal)
then_equal Less p e = absurd cc
then_equal Equal p e = (refl, e)
then_equal Greater p e = absurd cc

same_parts : (t u k l : List ℕ) (m n i j : ℕ) (v w : Why) → t ≡ u → m ≡ n → k ≡ l → i ≡ j → v ≡ w → fault_in t m k i v ≡ fault_in u n l j w
same_parts t u k l m n i j v w a b c d e = cc

-- faults that the order does not tell apart are the same
fault_cmp-equal : (a b : Fault) → fault_cmp a b ≡ Equal → a ≡ b
fault_cmp-equal a b e =
    let table = then_equal _ _ e in
    let number = then_equal _ _ table.1 in
    let key = then_equal _ _ number.1 in
    let item = then_equal _ _ key.1 in
    same_parts _ _ _ _ _ _ _ _ _ _ (exact_bytes _ _ table.0) (exact_unsigned _ _ number.0) (exact_bytes _ _ key.0) (exact_unsigned _ _ item.0)
    (same_why _ _ item.1)

pub comes_before_order : IsStrictWeakOrder comes_before
unfolding comes_before
comes_before_order = ranks_by fault_cmp_total (λ (f : Fault). f)

neither : {K : Type 0} (R : K → K → Ordering) → IsTotalOrder R → (a b : K) → is_lt (R a b) ≡ false → is_lt (R b a) ≡ false → R a b ≡ Equal
neither R o a b e f = by (R a b) (R b a) e f (o.antisymm a b) where
  by : (p q : Ordering) → is_lt p ≡ false → is_lt q ≡ false → p ≡ ordering_reverse q → p ≡ Equal
  by Less q e f r = absurd cc
  by Equal q e f r = refl
  by Greater Less e f r = absurd cc
  by Greater Equal e f r = r
  by Greater Greater e f r = absurd cc

pub comes_before_exact : IsExact comes_before
unfolding comes_before
comes_before_exact a b e f = fault_cmp-equal a b (neither fault_cmp fault_cmp_total a b e f)

-- the first of some faults is the first by this order
pub first_of-by : (best : Option Fault) (faults : List Fault) → first_of best faults ≡ first_by comes_before best faults
unfolding comes_before
first_of-by best [] = refl
first_of-by None (f ∷ faults) = first_of-by (Some f) faults
first_of-by (Some best) (f ∷ faults) = first_of-by (Some (earlier (Some best) f)) faults
