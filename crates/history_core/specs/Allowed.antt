-- What had to hold where a connection was opened, and where an attempt began.
use Rattle.std.specs.Prelude.{◌≡◌, ◌≤◌, ◌<◌, ℕ, List, [], ◌∷◌, ◌++◌, length, false, Option, Some, None, find, ⊤}
use Rattle.std.specs.List.{Contains}
use Rattle.queue_name.specs.declared.message.Message.{Message}
use Rattle.throttle_spec.specs.Throttle.{Throttle, Conforms}
use Rattle.policy_core.specs.Policy.{Policy}
use Rattle.history_core.specs.declared.entry.Entry.{Entry}
use Rattle.history_core.specs.declared.path.Path.{Path}
use Rattle.history_core.specs.History.{has_id, text_of, paths, path_named}
use Rattle.history_core.specs.Fate.{pending}
use Rattle.history_core.specs.LiveOrders.{is_held, bounced_by}
use Rattle.history_core.specs.Connection.{Connection, connection_with, is_closed, busy_with, used, open_connections}
use Rattle.history_core.specs.Firing.{is_halted, is_covered}
use Rattle.history_core.specs.Limits.{limits, opened_moments, begun_moments}
use Rattle.history_core.specs.Ready.{ready}

-- moments keep a rate, where there is one
abbrev pub KeepsRate : Option Throttle → List ℕ → Type 0
KeepsRate None moments = ⊤
KeepsRate (Some throttle) moments = Conforms throttle moments

-- a message is ready on a path and pending, and no order and no firing holds it back; in particular no live bounce meets it
pub record HasFreeMessage (policy : Policy) (h : List Entry) (t : ℕ) (path : Path) (id : ℕ) : Type 0 where
  pub message : Message
  pub is_ready : Contains (ready policy h path) id
  pub is_pending : find (has_id id) (pending h) ≡ Some message
  pub not_held : is_held h t message.name ≡ false
  pub not_covered : is_covered policy h t message ≡ false
  pub not_bounced : bounced_by h t message.name ≡ None

-- a path of this text is not halted, has fewer open connections than its limit in force and a message to send, and its
-- openings under the key keep the rate in force with one more
pub record AllowsOpening (policy : Policy) (h : List Entry) (t : ℕ) (text : List ℕ) (key : ℕ) : Type 0 where
  pub path : Path
  pub is_path : Contains (paths policy h) path
  pub has_text : text ≡ text_of path
  pub not_halted : is_halted policy h t path ≡ false
  pub below_limit : length (open_connections h text) < (limits policy h t path).connection_limit
  pub first : ℕ
  pub message : HasFreeMessage policy h t path first
  pub has_key : key ≡ (limits policy h t path).connection_key
  pub rate : KeepsRate (limits policy h t path).connection_rate (opened_moments h text key ++ t ∷ [])

-- the connection is open and not busy and has had fewer attempts than are allowed; its path is not halted and has no more
-- open connections than its limit in force; the message may be sent; and the attempts of the path under the key keep the rate
-- in force with one more
pub record AllowsAttempt (policy : Policy) (h : List Entry) (t conn id key : ℕ) : Type 0 where
  pub connection : Connection
  pub path : Path
  pub was_opened : connection_with h conn ≡ Some connection
  pub not_closed : is_closed h conn ≡ false
  pub not_busy : busy_with h conn ≡ None
  pub has_path : path_named policy h connection.path ≡ Some path
  pub not_halted : is_halted policy h t path ≡ false
  pub not_spent : used h conn < (limits policy h t path).deliveries
  pub within_limit : length (open_connections h connection.path) ≤ (limits policy h t path).connection_limit
  pub message : HasFreeMessage policy h t path id
  pub has_key : key ≡ (limits policy h t path).message_key
  pub rate : KeepsRate (limits policy h t path).message_rate (begun_moments h connection.path key ++ t ∷ [])
