-- The payload of a record that holds a message.
use Rattle.std.specs.Prelude.{◌≡◌, ℕ, ◌==◌, ◌^◌, nat_lt, nat_le, List, [], ◌++◌, length, Bool, ◌&&◌, ◌||◌, Option, Some, None, unwrap_or, IfSome, IsTrue, if◌then◌else◌, ⊤}
use Rattle.std.specs.Str.{is_utf8}
use Rattle.std.specs.Int.{w64, w128, to_be_bytes}
use Rattle.kumo_base.specs.Limits.{latest_moment}
use Rattle.queue_name.specs.Address.{is_address, domain_of}
use Rattle.queue_name.specs.Limits.{body_limit}
use Rattle.queue_name.specs.NameText.{if_any}
use Rattle.queue_name.specs.QueueName.{is_name}
use Rattle.queue_name.specs.declared.message.Message.{Message}
use Rattle.spool_format.specs.Fields.{◌>>=◌, text_field, number_at, text_at, alone}
use Rattle.spool_format.specs.declared.fault.FormatFault.{FormatFault}
use Rattle.spool_format.specs.declared.fault.FormatFault.TheVariants as fault

-- the bytes of a message; a text of length 0 stands for an absent campaign or tenant, and the name's domain is not written
unfoldable pub held_payload : Message → List ℕ
held_payload m =
    to_be_bytes w128 m.id ++ (to_be_bytes w64 m.created ++ (text_field m.sender ++ (text_field m.recipient
    ++ (text_field (unwrap_or m.name.campaign []) ++ (text_field (unwrap_or m.name.tenant []) ++ text_field m.body)))))

-- each text of a message is UTF-8
pub record IsInUtf8 (m : Message) : Type 0 where
  pub sender : IsTrue (is_utf8 m.sender)
  pub recipient : IsTrue (is_utf8 m.recipient)
  pub campaign : IfSome m.name.campaign (λ c. IsTrue (is_utf8 c))
  pub tenant : IfSome m.name.tenant (λ t. IsTrue (is_utf8 t))
  pub body : IsTrue (is_utf8 m.body)

-- the fields as they stand in a payload
pub record HeldFields : Type 0 where
  pub id : ℕ
  pub created : ℕ
  pub sender : List ℕ
  pub recipient : List ℕ
  pub campaign : List ℕ
  pub tenant : List ℕ
  pub body : List ℕ

-- the fields that a payload has, where nothing is behind them
unfoldable pub fields_in : List ℕ → Option HeldFields
fields_in payload = do
  id ← number_at w128 payload
  created ← number_at w64 id.1
  sender ← text_at created.1
  recipient ← text_at sender.1
  campaign ← text_at recipient.1
  tenant ← text_at campaign.1
  body ← text_at tenant.1
  alone (record {
    id = id.0;
    created = created.0;
    sender = sender.0;
    recipient = recipient.0;
    campaign = campaign.0;
    tenant = tenant.0;
    body = body.0;
  }) body.1

-- the message of these fields, in the queue of its recipient's domain
abbrev pub message_of : HeldFields → Message
message_of f = record {
  id = f.id;
  created = f.created;
  sender = f.sender;
  recipient = f.recipient;
  name = record { campaign = if_any f.campaign; tenant = if_any f.tenant; domain = domain_of f.recipient };
  body = f.body;
}

-- the rules of a message whose name has its recipient's domain
abbrev pub keeps_rules : Message → Bool
keeps_rules m =
    nat_lt m.id (2 ^ 128) && nat_le m.created latest_moment && (length m.sender == 0 || is_address m.sender)
    && is_address m.recipient && is_name m.name && nat_le (length m.body) body_limit

abbrev pub if_proper : Message → Option Message
if_proper m = if keeps_rules m then Some m else None

-- the message that a payload holds
unfoldable pub held_in : List ℕ → Option Message
held_in payload = do
  fields ← fields_in payload
  if_proper (message_of fields)

-- a refusal other than for memory comes where nothing is held
abbrev pub IsFaultOf : FormatFault → Option Message → Type 0
IsFaultOf fault.Malformed held = held ≡ None
IsFaultOf fault.Memory held = ⊤
