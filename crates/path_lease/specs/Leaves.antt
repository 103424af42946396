-- What a path allows at a moment, by the calls made on it and the options in force.
use Rattle.std.specs.Prelude.{ℕ, ◌+◌, ◌≡◌, nat_lt, nat_le, min, List, [], ◌∷◌, Bool, false, not, ◌&&◌, Option, Some, None, filter, fold, if◌then◌else◌}
use Rattle.kumo_base.specs.Limits.{latest_moment}
use Rattle.kumo_base.specs.Moment.{clamped}
use Rattle.throttle_spec.specs.Throttle.{Throttle}
use Rattle.throttle_spec.specs.Rates.{admits, least_by_rate}
use Rattle.policy_core.specs.declared.options.InForce.{InForce}
use Rattle.path_lease.specs.declared.leave.Leave.{Leave}
use Rattle.path_lease.specs.declared.leave.Leave.TheVariants.{Yes, Stale, Spent, Shed, Throttled}
use Rattle.path_lease.specs.Calls.{Call, openings_under, beginnings_under, open_count, used, idle_since}

-- The throttle that each key of a path stands for: the same at all times, and none where the key has no throttle.
pub record Rates : Type 0 where
  pub connection : ℕ → Option Throttle
  pub message : ℕ → Option Throttle

-- the options in force have under their keys the throttles of these
pub record AgreesOn (rates : Rates) (now : InForce) : Type 0 where
  pub connection : rates.connection now.connection_key ≡ now.connection_rate
  pub message : rates.message now.message_key ≡ now.message_rate

-- the rate of connections admits one at a moment
abbrev pub admits_opening : List Call → ℕ → InForce → Bool
admits_opening calls t now = admits now.connection_rate (openings_under calls now.connection_key) t

-- the rate of messages admits an attempt
abbrev pub admits_beginning : List Call → ℕ → InForce → Bool
admits_beginning calls t now = admits now.message_rate (beginnings_under calls now.message_key) t

-- fewer connections are open than may be, and both rates admit the moment
abbrev pub may_open : List Call → ℕ → InForce → Bool
may_open calls t now =
    nat_lt (open_count calls) now.connection_limit && admits_opening calls t now && admits_beginning calls t now

abbrev pub is_past : Option ℕ → ℕ → ℕ → Bool
is_past None since t = false
is_past (Some timeout) since t = nat_le (clamped (since + timeout)) t

-- the idle timeout has passed since its last attempt ended, or since its opening
abbrev pub is_stale : List Call → ℕ → ℕ → InForce → Bool
is_stale calls t conn now = is_past now.idle_timeout (idle_since calls conn) t

-- the least moment from t on at which the rate of connections admits one
abbrev pub next_opening : List Call → ℕ → InForce → ℕ
next_opening calls t now = least_by_rate now.connection_rate (openings_under calls now.connection_key) t

-- the least moment from t on at which the rate of messages admits an attempt
abbrev pub next_beginning : List Call → ℕ → InForce → ℕ
next_beginning calls t now = least_by_rate now.message_rate (beginnings_under calls now.message_key) t

-- whether an attempt may begin on a connection, else the first reason why not
abbrev pub leave : List Call → ℕ → ℕ → InForce → Leave
leave calls t conn now =
    if is_stale calls t conn now then Stale
    else (if nat_le now.deliveries (used calls conn) then Spent
    else (if nat_lt now.connection_limit (open_count calls) then Shed
    else (if not (admits_beginning calls t now) then Throttled (next_beginning calls t now)
    else Yes)))

-- a moment that is above t, and the latest one in place of another
abbrev pub after_or_latest : ℕ → ℕ → ℕ
after_or_latest t moment = if nat_lt t moment then moment else latest_moment

-- the least of the two that is above t, and the latest moment where none is
abbrev pub next_admitted : List Call → ℕ → InForce → ℕ
next_admitted calls t now = fold min latest_moment (filter (nat_lt t) (next_opening calls t now ∷ next_beginning calls t now ∷ []))
