-- Which lists of calls a path stands for, and what such a list has to say before a call.
use Rattle.std.specs.Prelude.{ℕ, ◌≡◌, ◌≤◌, ◌+◌, ◌-◌, ◌^◌, ◌==◌, ◌⊎◌, min, nat_eq, List, [], ◌∷◌, length, Bool, true, false, not, ◌&&◌, Option, Some, None, if◌then◌else◌}
use Rattle.std.specs.List.{list_any}
use Rattle.std.specs.Map.{lookup}
use Rattle.throttle_spec.specs.Throttle.{Throttle}
use Rattle.throttle_spec.specs.Bucket as bucket
use Rattle.throttle_spec.specs.Bucket.{BucketState}
use Rattle.path_lease.specs.declared.connection.Connection.{Connection}
use Rattle.path_lease.specs.Calls.{Call, Start, openings, openings_under, beginnings_under, was_opened, was_closed, is_open, is_busy, open_count, used, idle_since, refusals}
use Rattle.path_lease.specs.Leaves.{Rates}
use Rattle.path_lease.specs.State.{PathState}

-- what is kept under a number or a key
abbrev pub kept_at : {A : Type 0} → List (ℕ × A) → ℕ → Option A
kept_at entries key = lookup (nat_eq key) entries

-- an open connection as the calls have it
abbrev pub connection_of : List Call → ℕ → Option Connection
connection_of calls conn =
    if is_open calls conn
    then Some (record { beginnings = used calls conn; idle = idle_since calls conn; busy = is_busy calls conn })
    else None

-- a rate's bucket took these moments; there is none where the rate is none, or nothing was taken yet
abbrev pub IsCounted : Option Throttle → List ℕ → Option BucketState → Type 0
IsCounted rate moments None = (rate ≡ None) ⊎ (moments ≡ [])
IsCounted rate moments (Some b) = (rate ≡ Some b.throttle) × bucket.StandsFor b moments

-- no number stands twice
abbrev pub are_distinct : List Start → Bool
are_distinct [] = true
are_distinct (o ∷ os) = not (list_any (λ p. p.conn == o.conn) os) && are_distinct os

-- no call names a connection
pub record IsUntouched (calls : List Call) (conn : ℕ) : Type 0 where
  pub not_closed : was_closed calls conn ≡ false
  pub not_used : used calls conn ≡ 0
  pub not_busy : is_busy calls conn ≡ false

-- A path stands for the calls made on it, where its keys stand for these throttles. No number was opened twice, and calls
-- name connections that were opened.
pub record StandsFor (p : PathState) (rates : Rates) (calls : List Call) : Type 0 where
  pub connections : (conn : ℕ) → kept_at p.connections conn ≡ connection_of calls conn
  pub count : length p.connections ≡ open_count calls
  pub opened : (key : ℕ) → IsCounted (rates.connection key) (openings_under calls key) (kept_at p.opened key)
  pub begun : (key : ℕ) → IsCounted (rates.message key) (beginnings_under calls key) (kept_at p.begun key)
  pub refusals_kept : p.refusals ≡ min (refusals calls) (2 ^ 32 - 1)
  pub refusals_within : refusals calls + open_count calls ≤ length (openings calls)
  pub distinct : are_distinct (openings calls) ≡ true
  pub untouched : (conn : ℕ) → was_opened calls conn ≡ false → IsUntouched calls conn
