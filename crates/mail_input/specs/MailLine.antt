-- The mail line of a message, as it is written: one object of compact JSON with its keys in byte order, and a line feed.
use Rattle.std.specs.Prelude.{ℕ, List, [], ◌∷◌, Bool, true, not, ◌&&◌, IfSome, IsTrue, codes}
use Rattle.std.specs.Str.{is_utf8}
use Rattle.serde_json.specs.Data.{Data, string, object, member, no_members}
use Rattle.serde_json.specs.Written.{compact_text}
use Rattle.json_members.specs.Members.{id_text, whole_number, given_member, json_line}
use Rattle.queue_name.specs.declared.message.Message.{Message}
use Rattle.mail_input.specs.Inputs.{has_id}

-- the object; a campaign or a tenant that is absent has no key, and the name's domain is not written
unfoldable pub mail_object : Message → Data
mail_object m = object
    (member (codes "body") (string m.body)
    (given_member (codes "campaign") m.name.campaign
    (member (codes "created") (whole_number m.created)
    (member (codes "id") (string (id_text m.id))
    (member (codes "recipient") (string m.recipient)
    (member (codes "sender") (string m.sender)
    (given_member (codes "tenant") m.name.tenant no_members)))))))

-- the line without its line feed
unfoldable pub mail_text_of : Message → List ℕ
mail_text_of m = compact_text (mail_object m)

-- the line, with its line feed
unfoldable pub mail_line_of : Message → List ℕ
mail_line_of m = json_line (mail_object m)

-- each text of a message that is written is UTF-8
pub record IsInUtf8 (m : Message) : Type 0 where
  pub sender : IsTrue (is_utf8 m.sender)
  pub recipient : IsTrue (is_utf8 m.recipient)
  pub campaign : IfSome m.name.campaign (λ c. IsTrue (is_utf8 c))
  pub tenant : IfSome m.name.tenant (λ t. IsTrue (is_utf8 t))
  pub body : IsTrue (is_utf8 m.body)

-- no two of the messages have one id
abbrev pub have_distinct_ids : List Message → Bool
have_distinct_ids [] = true
have_distinct_ids (m ∷ ms) = not (has_id m.id ms) && have_distinct_ids ms
