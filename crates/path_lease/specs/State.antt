-- What a path keeps of the calls made on it.
use Rattle.std.specs.Prelude.{ℕ, ◌≡◌, ◌<◌, ◌≤◌, List}
use Rattle.throttle_spec.specs.Bucket.{BucketState}
use Rattle.path_lease.specs.declared.connection.Connection.{Connection}

pub record PathState : Type 0 where
  -- the open connections by their numbers
  pub connections : List (ℕ × Connection)
  -- by key, how far the openings reach, and how far the beginnings
  pub opened : List (ℕ × BucketState)
  pub begun : List (ℕ × BucketState)
  pub refusals : ℕ
  -- how many openings and how many beginnings take no memory
  pub room_to_open : ℕ
  pub room_to_begin : ℕ

abbrev pub HasRoomToOpen : PathState → Type 0
HasRoomToOpen p = 0 < p.room_to_open

abbrev pub HasRoomToBegin : PathState → Type 0
HasRoomToBegin p = 0 < p.room_to_begin

-- no room is lost
pub record KeepsRoom (old new : PathState) : Type 0 where
  pub to_open : old.room_to_open ≤ new.room_to_open
  pub to_begin : old.room_to_begin ≤ new.room_to_begin

-- all but the room is as it was
pub record IsSameButRoom (old new : PathState) : Type 0 where
  pub connections : new.connections ≡ old.connections
  pub opened : new.opened ≡ old.opened
  pub begun : new.begun ≡ old.begun
  pub refusals : new.refusals ≡ old.refusals
