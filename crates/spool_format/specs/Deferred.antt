-- The payload of a record that defers a message: its failures so far, and the moment from which it is tried next.
use Rattle.std.specs.Prelude.{ℕ, ◌<◌, ◌≤◌, ◌^◌, nat_lt, nat_le, List, ◌++◌, Bool, ◌&&◌, Option, Some, None, if◌then◌else◌}
use Rattle.std.specs.Int.{w32, w64, w128, to_be_bytes}
use Rattle.kumo_base.specs.Limits.{latest_moment}
use Rattle.spool_format.specs.Fields.{◌>>=◌, number_at, alone}
use Rattle.spool_format.specs.declared.deferred.Deferral.{Deferral}

-- at least one failure, and a moment
pub record IsProperDeferral (d : Deferral) : Type 0 where
  pub id : d.id < 2 ^ 128
  pub failed : 1 ≤ d.failures
  pub failures : d.failures < 2 ^ 32
  pub due : d.due ≤ latest_moment

unfoldable pub deferred_payload : Deferral → List ℕ
deferred_payload d = to_be_bytes w128 d.id ++ (to_be_bytes w32 d.failures ++ to_be_bytes w64 d.due)

abbrev pub is_proper_deferral : Deferral → Bool
is_proper_deferral d =
    nat_lt d.id (2 ^ 128) && nat_le 1 d.failures && nat_lt d.failures (2 ^ 32) && nat_le d.due latest_moment

abbrev pub if_proper_deferral : Deferral → Option Deferral
if_proper_deferral d = if is_proper_deferral d then Some d else None

-- the deferral that a payload says
unfoldable pub deferred_in : List ℕ → Option Deferral
deferred_in payload = do
  id ← number_at w128 payload
  failures ← number_at w32 id.1
  due ← number_at w64 failures.1
  deferral ← alone (record { id = id.0; failures = failures.0; due = due.0 }) due.1
  if_proper_deferral deferral
