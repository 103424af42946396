-- The payload of a record that settles a message.
use Rattle.std.specs.Prelude.{ℕ, ◌^◌, nat_lt, List, Option, Some, None, if◌then◌else◌}
use Rattle.std.specs.Int.{w128, to_be_bytes}
use Rattle.spool_format.specs.Fields.{◌>>=◌, number_at, alone}

-- the bytes of an id
unfoldable pub settled_payload : ℕ → List ℕ
settled_payload id = to_be_bytes w128 id

abbrev pub if_id : ℕ → Option ℕ
if_id id = if nat_lt id (2 ^ 128) then Some id else None

-- the id that a payload settles
unfoldable pub settled_in : List ℕ → Option ℕ
settled_in payload = do
  id ← number_at w128 payload
  only ← alone id.0 id.1
  if_id only
