-- What the state of a path allows, for callers that have asked it: the same as its calls allow.
use Rattle.std.specs.Prelude.{ℕ, ◌<◌, ◌≤◌, nat_lt, [], ◌∷◌, length, Bool, false, not, ◌&&◌, IsTrue, Option, Some, None}
use Rattle.kumo_base.specs.Moment.{clamped}
use Rattle.throttle_spec.specs.Throttle.{Throttle, Conforms}
use Rattle.throttle_spec.specs.Bucket.{BucketState, IsAdmitted}
use Rattle.policy_core.specs.declared.options.InForce.{InForce}
use Rattle.path_lease.specs.declared.connection.Connection.{Connection}
use Rattle.path_lease.specs.Leaves.{is_past}
use Rattle.path_lease.specs.State.{PathState}
use Rattle.path_lease.specs.Standing.{kept_at}

-- a rate admits one more at a moment, by the bucket that is kept; where none is, nothing was taken yet
abbrev pub Admits : Option Throttle → Option BucketState → ℕ → Type 0
Admits None kept t = Unit {0}
Admits (Some s) None t = Conforms s (clamped t ∷ [])
Admits (Some s) (Some b) t = IsAdmitted b t

abbrev pub is_at_rest : Option Connection → Bool
is_at_rest None = false
is_at_rest (Some w) = not w.busy

abbrev pub is_at_work : Option Connection → Bool
is_at_work None = false
is_at_work (Some w) = w.busy

-- a connection is open and not busy
abbrev pub IsIdle : PathState → ℕ → Type 0
IsIdle p conn = IsTrue (is_at_rest (kept_at p.connections conn))

-- a connection is open and busy
abbrev pub IsBusy : PathState → ℕ → Type 0
IsBusy p conn = IsTrue (is_at_work (kept_at p.connections conn))

-- a connection may be opened
pub record MayOpen (p : PathState) (t : ℕ) (now : InForce) : Type 0 where
  pub below : length p.connections < now.connection_limit
  pub connection : Admits now.connection_rate (kept_at p.opened now.connection_key) t
  pub message : Admits now.message_rate (kept_at p.begun now.message_key) t

-- a connection is neither stale nor spent
abbrev pub goes_on : InForce → ℕ → Option Connection → Bool
goes_on now t None = false
goes_on now t (Some w) = not (is_past now.idle_timeout w.idle t) && nat_lt w.beginnings now.deliveries

-- an attempt may begin on a connection
pub record MayBegin (p : PathState) (t conn : ℕ) (now : InForce) : Type 0 where
  pub idle : IsIdle p conn
  pub goes_on : IsTrue (goes_on now t (kept_at p.connections conn))
  pub few : length p.connections ≤ now.connection_limit
  pub message : Admits now.message_rate (kept_at p.begun now.message_key) t
