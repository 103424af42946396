-- What a mail line reads as: its message, or the first word why not. The words are tried in the order of the fields here.
use Rattle.std.specs.Prelude.{◌≡◌, ℕ, ◌==◌, nat_le, List, Bool, ◌||◌, length, Option, Some, None, Result, Ok, Err, option_and_then, option_map, is_some, if◌then◌else◌, codes, ⊤}
use Rattle.std.specs.Int.{w128, from_be_bytes}
use Rattle.serde_json.specs.Data.{Data}
use Rattle.serde_json.specs.Read.{read}
use Rattle.serde_json.specs.Find.{as_str, as_number, as_u64, as_object, get}
use Rattle.uuid.specs.Text.{parsed}
use Rattle.queue_name.specs.Address.{is_address, domain_of}
use Rattle.queue_name.specs.QueueName.{Name, is_name}
use Rattle.queue_name.specs.declared.message.Message.{Message}
use Rattle.kumo_base.specs.Limits.{latest_moment}
use Rattle.kumo_base.specs.Utf8.{utf8_in}
use Rattle.queue_name.specs.Limits.{body_limit}
use Rattle.mail_input.specs.declared.MailWhy.{MailWhy}
use Rattle.mail_input.specs.declared.MailWhy.TheVariants.{NotJson, Missing, BadId, BadMoment, BadAddress, BadName, TooLong}
use Rattle.mail_input.specs.declared.fault.LineFault.{LineFault}
use Rattle.mail_input.specs.declared.fault.LineFault.TheVariants as fault

-- the value, or this word where there is none
abbrev pub required : {A : Type 0} → MailWhy → Option A → Result A MailWhy
required why None = Err why
required why (Some a) = Ok a

-- the value where the test holds, else this word
abbrev pub kept_if : {A : Type 0} → Bool → MailWhy → A → Result A MailWhy
kept_if test why a = if test then Ok a else Err why

-- the next reading, where the first is not refused
abbrev pub then_read : {A B : Type 0} → Result A MailWhy → (A → Result B MailWhy) → Result B MailWhy
then_read (Err why) next = Err why
then_read (Ok a) next = next a

-- a refusal other than for memory is the word of the reading
abbrev pub IsCauseOf : {A : Type 0} → LineFault → Result A MailWhy → Type 0
IsCauseOf (fault.Refused why) reading = reading ≡ Err why
IsCauseOf fault.Memory reading = ⊤

-- the JSON object that a line is
unfoldable pub object_in : List ℕ → Result Data MailWhy
object_in line =
    required NotJson (option_and_then (λ d. if is_some (as_object d) then Some d else None)
    (option_and_then read (utf8_in line)))

-- the text at a key; no value and a value that is no text are the same
abbrev pub text_at : List ℕ → Data → Result (List ℕ) MailWhy
text_at key d = required Missing (option_and_then as_str (get key d))

-- any of the spellings of a UUID
abbrev pub id_in : Data → Result ℕ MailWhy
id_in d = then_read (text_at (codes "id") d) (λ text. required BadId (option_map (from_be_bytes w128) (parsed text)))

-- a whole number up to the last moment
abbrev pub moment_of : Data → Option ℕ
moment_of d = option_and_then (λ n. if nat_le n latest_moment then Some n else None) (option_and_then as_u64 (as_number d))

abbrev pub created_in : Data → Result ℕ MailWhy
created_in d = then_read (required Missing (get (codes "created") d)) (λ value. required BadMoment (moment_of value))

-- an address, or nothing
abbrev pub sender_in : Data → Result (List ℕ) MailWhy
sender_in d = then_read (text_at (codes "sender") d) (λ text. kept_if (length text == 0 || is_address text) BadAddress text)

abbrev pub recipient_in : Data → Result (List ℕ) MailWhy
recipient_in d = then_read (text_at (codes "recipient") d) (λ text. kept_if (is_address text) BadAddress text)

-- a value that may be absent, and is a text where it is there
abbrev pub optional_text : Option Data → Result (Option (List ℕ)) MailWhy
optional_text None = Ok None
optional_text (Some value) = then_read (required BadName (as_str value)) (λ text. Ok (Some text))

-- the name, where its components may stand in one
abbrev pub if_name : Name → Result Name MailWhy
if_name name = kept_if (is_name name) BadName name

-- the queue of the recipient's domain, and of the campaign and the tenant that the object names. The limit of the
-- spelling leaves a tenant at most 1,022 bytes, and a campaign 1,021.
abbrev pub name_in : Data → List ℕ → Result Name MailWhy
name_in d recipient =
    then_read (optional_text (get (codes "campaign") d)) (λ campaign.
    then_read (optional_text (get (codes "tenant") d)) (λ tenant.
    if_name (record { campaign = campaign; tenant = tenant; domain = domain_of recipient })))

abbrev pub body_in : Data → Result (List ℕ) MailWhy
body_in d = then_read (text_at (codes "body") d) (λ text. kept_if (nat_le (length text) body_limit) TooLong text)

-- the message that an object gives
unfoldable pub message_of : Data → Result Message MailWhy
message_of d =
    then_read (id_in d) (λ id.
    then_read (created_in d) (λ created.
    then_read (sender_in d) (λ sender.
    then_read (recipient_in d) (λ recipient.
    then_read (name_in d recipient) (λ name.
    then_read (body_in d) (λ body.
    Ok (record { id = id; created = created; sender = sender; recipient = recipient; name = name; body = body })))))))

-- the message that a line gives
unfoldable pub line_of : List ℕ → Result Message MailWhy
line_of line = then_read (object_in line) message_of
