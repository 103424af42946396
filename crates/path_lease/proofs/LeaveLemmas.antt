-- What a leave says.
use Rattle.std.proofs.Common.{◌≡◌, ◌<◌, ◌≤◌, refl, ℕ, min, List, [], ◌∷◌, Option, Some, None, Bool, true, false, cond, not, nat_le, nat_lt, arith}
use Rattle.std.specs.List.{fold}
use Rattle.std.proofs.lemmas.Bool.{ltb-false, leb-false}
use Rattle.kumo_base.specs.Limits.{latest_moment}
use Rattle.throttle_spec.specs.Throttle.{Throttle}
use Rattle.throttle_spec.specs.Rates.{least_by_rate}
use Rattle.throttle_spec.proofs.BucketLemmas.{least_says}
use Rattle.policy_core.specs.declared.options.InForce.{InForce}
use Rattle.path_lease.specs.declared.leave.Leave.{Leave}
use Rattle.path_lease.specs.declared.leave.Leave.TheVariants.{Yes, Stale, Spent, Shed, Throttled}
use Rattle.path_lease.specs.Calls.{Call, used, open_count, openings_under, beginnings_under}
use Rattle.path_lease.specs.Leaves.{is_stale, admits_beginning, next_opening, next_beginning, leave, after_or_latest, next_admitted}

abbrev chosen : Bool → Bool → Bool → Bool → ℕ → Leave
chosen stale spent shed admitted u = cond stale Stale (cond spent Spent (cond shed Shed (cond (not admitted) (Throttled u) Yes)))

not_spent_by : (stale spent shed admitted : Bool) (u : ℕ) → chosen stale spent shed admitted u ≡ Yes → spent ≡ false
not_spent_by true spent shed admitted u e = absurd cc
not_spent_by false true shed admitted u e = absurd cc
not_spent_by false false shed admitted u e = refl

admitted_by : (stale spent shed admitted : Bool) (u : ℕ) → chosen stale spent shed admitted u ≡ Yes → admitted ≡ true
admitted_by true spent shed admitted u e = absurd cc
admitted_by false true shed admitted u e = absurd cc
admitted_by false false true admitted u e = absurd cc
admitted_by false false false true u e = refl
admitted_by false false false false u e = absurd cc

not_stale_by : (stale spent shed admitted : Bool) (u : ℕ) → chosen stale spent shed admitted u ≡ Yes → stale ≡ false
not_stale_by true spent shed admitted u e = absurd cc
not_stale_by false spent shed admitted u e = refl

not_shed_by : (stale spent shed admitted : Bool) (u : ℕ) → chosen stale spent shed admitted u ≡ Yes → shed ≡ false
not_shed_by true spent shed admitted u e = absurd cc
not_shed_by false true shed admitted u e = absurd cc
not_shed_by false false true admitted u e = absurd cc
not_shed_by false false false admitted u e = refl

pub not_stale : (calls : List Call) (t conn : ℕ) (now : InForce) → leave calls t conn now ≡ Yes → is_stale calls t conn now ≡ false
not_stale calls t conn now e =
    not_stale_by (is_stale calls t conn now) (nat_le now.deliveries (used calls conn)) (nat_lt now.connection_limit (open_count calls)) (admits_beginning calls t now) _ e

pub not_shed : (calls : List Call) (t conn : ℕ) (now : InForce) → leave calls t conn now ≡ Yes → open_count calls ≤ now.connection_limit
not_shed calls t conn now e =
    ltb-false now.connection_limit (open_count calls)
    (not_shed_by (is_stale calls t conn now) (nat_le now.deliveries (used calls conn)) (nat_lt now.connection_limit (open_count calls)) (admits_beginning calls t now) _ e)

pub not_spent : (calls : List Call) (t conn : ℕ) (now : InForce) → leave calls t conn now ≡ Yes → used calls conn < now.deliveries
not_spent calls t conn now e =
    leb-false now.deliveries (used calls conn)
    (not_spent_by (is_stale calls t conn now) (nat_le now.deliveries (used calls conn)) (nat_lt now.connection_limit (open_count calls)) (admits_beginning calls t now) _ e)

pub not_throttled : (calls : List Call) (t conn : ℕ) (now : InForce) → leave calls t conn now ≡ Yes → admits_beginning calls t now ≡ true
not_throttled calls t conn now e =
    admitted_by (is_stale calls t conn now) (nat_le now.deliveries (used calls conn)) (nat_lt now.connection_limit (open_count calls)) (admits_beginning calls t now) _ e

-- and when it says it
pub throttled_by : (calls : List Call) (t conn : ℕ) (now : InForce) → is_stale calls t conn now ≡ false → nat_le now.deliveries (used calls conn) ≡ false
    → nat_lt now.connection_limit (open_count calls) ≡ false → admits_beginning calls t now ≡ false → leave calls t conn now ≡ Throttled (next_beginning calls t now)
throttled_by calls t conn now fresh unspent few refused =
    by (is_stale calls t conn now) (nat_le now.deliveries (used calls conn)) (nat_lt now.connection_limit (open_count calls)) (admits_beginning calls t now) (next_beginning calls t now) fresh unspent few refused
  where
    by : (a b c d : Bool) (u : ℕ) → a ≡ false → b ≡ false → c ≡ false → d ≡ false → chosen a b c d u ≡ Throttled u
    by false false false false u p q r s = refl
    by false false false true u p q r s = absurd cc
    by false false true d u p q r s = absurd cc
    by false true c d u p q r s = absurd cc
    by true b c d u p q r s = absurd cc

pub yes_by : (calls : List Call) (t conn : ℕ) (now : InForce) → is_stale calls t conn now ≡ false → nat_le now.deliveries (used calls conn) ≡ false
    → nat_lt now.connection_limit (open_count calls) ≡ false → admits_beginning calls t now ≡ true → leave calls t conn now ≡ Yes
yes_by calls t conn now fresh unspent few admitted =
    by (is_stale calls t conn now) (nat_le now.deliveries (used calls conn)) (nat_lt now.connection_limit (open_count calls)) (admits_beginning calls t now) (next_beginning calls t now) fresh unspent few admitted
  where
    by : (a b c d : Bool) (u : ℕ) → a ≡ false → b ≡ false → c ≡ false → d ≡ true → chosen a b c d u ≡ Yes
    by false false false true u p q r s = refl
    by false false false false u p q r s = absurd cc
    by false false true d u p q r s = absurd cc
    by false true c d u p q r s = absurd cc
    by true b c d u p q r s = absurd cc

-- the least of two moments that are above another
least_within : (rate : Option Throttle) (moments : List ℕ) (t : ℕ) → least_by_rate rate moments t ≤ latest_moment
least_within None moments t = omega arith
least_within (Some s) moments t = (least_says s moments t).within

pub earlier : (x y : Bool) (a b : ℕ) → a ≤ latest_moment → b ≤ latest_moment
    → min (cond x a latest_moment) (cond y b latest_moment) ≡ fold min latest_moment (cond x (a ∷ cond y (b ∷ []) []) (cond y (b ∷ []) []))
earlier true true a b la lb = omega arith
earlier true false a b la lb = omega arith
earlier false true a b la lb = omega arith
earlier false false a b la lb = omega arith

pub earliest : (calls : List Call) (t : ℕ) (now : InForce) → min (after_or_latest t (next_opening calls t now)) (after_or_latest t (next_beginning calls t now)) ≡ next_admitted calls t now
earliest calls t now =
    earlier (nat_lt t (next_opening calls t now)) (nat_lt t (next_beginning calls t now)) (next_opening calls t now) (next_beginning calls t now)
    (least_within now.connection_rate (openings_under calls now.connection_key) t) (least_within now.message_rate (beginnings_under calls now.message_key) t)
