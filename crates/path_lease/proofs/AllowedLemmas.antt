-- What the state allows, where the calls do.
use Rattle.std.proofs.Common.{◌≡◌, ◌<◌, ◌^◌, refl, ap, ◌∙◌, ℕ, List, true, not, ◌&&◌, nat_lt, Option, Some, None, arith}
use Rattle.std.proofs.lemmas.Bool.{and_parts, and_from, ltb-true, lt-ltb, not_from_false}
use Rattle.policy_core.specs.declared.options.InForce.{InForce}
use Rattle.path_lease.specs.declared.connection.Connection.{Connection}
use Rattle.path_lease.specs.declared.leave.Leave.TheVariants.{Yes}
use Rattle.path_lease.specs.Calls.{Call, openings_under, beginnings_under, is_open, is_busy, is_idle, used, open_count}
use Rattle.path_lease.specs.Leaves.{Rates, AgreesOn, may_open, leave, is_past, is_stale, admits_opening, admits_beginning}
use Rattle.path_lease.specs.State.{PathState}
use Rattle.path_lease.specs.Standing.{StandsFor}
use Rattle.path_lease.specs.Allowed.{is_at_rest, is_at_work, MayOpen, goes_on, MayBegin}
use Rattle.path_lease.specs.inside.Kept.{HasAttempts}
use Rattle.path_lease.proofs.RateLemmas.{admits_kept}
use Rattle.path_lease.proofs.LeaveLemmas.{not_stale, not_spent, not_shed, not_throttled}
use Rattle.path_lease.proofs.StandingLemmas.{kept_of, opening_at, beginning_at}

pub at_rest_kept : (o : Option Connection) → is_at_rest o ≡ true → (w : Connection) × (o ≡ Some w)
at_rest_kept None e = absurd cc
at_rest_kept (Some w) e = (w, refl)

pub at_work_kept : (o : Option Connection) → is_at_work o ≡ true → (w : Connection) × (o ≡ Some w)
at_work_kept None e = absurd cc
at_work_kept (Some w) e = (w, refl)

-- one more attempt is a number that fits, where the greatest is one
pub has_attempts : (now : InForce) (t : ℕ) (o : Option Connection) → now.deliveries < 2 ^ 32 → goes_on now t o ≡ true → HasAttempts o
has_attempts now t None limit e = absurd cc
has_attempts now t (Some w) limit e =
    let parts = and_parts (not (is_past now.idle_timeout w.idle t)) (nat_lt w.beginnings now.deliveries) e in
    let below = ltb-true w.beginnings now.deliveries parts.1 in
    (w, refl, omega (arith, below))

pub opening_allowed : (p : PathState) (rates : Rates) (calls : List Call) (t : ℕ) (now : InForce) → StandsFor p rates calls → AgreesOn rates now
    → may_open calls t now ≡ true → MayOpen p t now
opening_allowed p rates calls t now is agrees allowed =
    let first = and_parts (nat_lt (open_count calls) now.connection_limit && admits_opening calls t now) (admits_beginning calls t now) allowed in
    let second = and_parts (nat_lt (open_count calls) now.connection_limit) (admits_opening calls t now) first.0 in
    let below = ltb-true (open_count calls) now.connection_limit second.0 in
    record {
      below = omega (arith, below, is.count);
      connection = admits_kept now.connection_rate (openings_under calls now.connection_key) _ t (opening_at p rates calls now is agrees) second.1;
      message = admits_kept now.message_rate (beginnings_under calls now.message_key) _ t (beginning_at p rates calls now is agrees) first.1;
    }

pub beginning_allowed : (p : PathState) (rates : Rates) (calls : List Call) (t conn : ℕ) (now : InForce) → StandsFor p rates calls → AgreesOn rates now
    → is_idle calls conn ≡ true → leave calls t conn now ≡ Yes → MayBegin p t conn now
beginning_allowed p rates calls t conn now is agrees idle says =
    let parts = and_parts (is_open calls conn) (not (is_busy calls conn)) idle in
    let kept = kept_of p rates calls conn is parts.0 in
    record {
      idle = ap is_at_rest kept ∙ parts.1;
      goes_on = ap (goes_on now t) kept
          ∙ and_from (not (is_stale calls t conn now)) (nat_lt (used calls conn) now.deliveries)
          (not_from_false (is_stale calls t conn now) (not_stale calls t conn now says)) (lt-ltb (used calls conn) now.deliveries (not_spent calls t conn now says));
      few = omega (arith, is.count, not_shed calls t conn now says);
      message = admits_kept now.message_rate (beginnings_under calls now.message_key) _ t (beginning_at p rates calls now is agrees) (not_throttled calls t conn now says);
    }
