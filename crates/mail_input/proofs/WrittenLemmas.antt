-- The object that is written of a message.
use Rattle.std.proofs.Common.{◌≡◌, ℕ, List, Option, Some, None, false, refl, codes}
use Rattle.serde_json.specs.Data.{Data, Members, object, string, member, no_members}
use Rattle.serde_json.specs.Written.{has_float}
use Rattle.json_members.specs.Members.{id_text, whole_number, given_member}
use Rattle.queue_name.specs.declared.message.Message.{Message}
use Rattle.mail_input.specs.MailLine.{mail_object}

-- the object of these parts
abbrev pub members_of_parts : Option (List ℕ) → Option (List ℕ) → List ℕ → ℕ → List ℕ → List ℕ → List ℕ → Members
members_of_parts campaign tenant body created id recipient sender =
    member (codes "body") (string body)
    (given_member (codes "campaign") campaign
    (member (codes "created") (whole_number created)
    (member (codes "id") (string id)
    (member (codes "recipient") (string recipient)
    (member (codes "sender") (string sender)
    (given_member (codes "tenant") tenant no_members))))))

abbrev pub parts : Option (List ℕ) → Option (List ℕ) → List ℕ → ℕ → List ℕ → List ℕ → List ℕ → Data
parts campaign tenant body created id recipient sender = object (members_of_parts campaign tenant body created id recipient sender)

has_float-parts : (campaign tenant : Option (List ℕ)) (body : List ℕ) (created : ℕ) (id recipient sender : List ℕ)
    → has_float (parts campaign tenant body created id recipient sender) ≡ false
has_float-parts None None body created id recipient sender = refl
has_float-parts None (Some t) body created id recipient sender = refl
has_float-parts (Some c) None body created id recipient sender = refl
has_float-parts (Some c) (Some t) body created id recipient sender = refl

pub has_float_of_mail : (m : Message) → has_float (mail_object m) ≡ false
unfolding mail_object
has_float_of_mail m = has_float-parts m.name.campaign m.name.tenant m.body m.created (id_text m.id) m.recipient m.sender
