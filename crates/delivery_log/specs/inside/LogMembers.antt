-- The members of the lines of the log.
use Rattle.std.specs.Prelude.{ℕ, List, codes}
use Rattle.serde_json.specs.Data.{string, Members, member, no_members, put}
use Rattle.queue_name.specs.QueueName.{spelling}
use Rattle.queue_name.specs.declared.criteria.Criteria.{Criteria}
use Rattle.queue_name.specs.declared.message.Message.{Message}
use Rattle.smtp_reply.specs.declared.reply.Outcome.{Outcome}
use Rattle.smtp_reply.specs.declared.reply.Outcome.TheVariants as outcome
use Rattle.json_members.specs.Members.{id_text, whole_number, with_given}
use Rattle.delivery_log.specs.LogText.{lost_text}

-- what each line has: when, by which pass and what
abbrev pub common_members : ℕ → ℕ → List ℕ → Members
common_members at by kind =
    member (codes "at") (whole_number at) (member (codes "by") (whole_number by) (member (codes "kind") (string kind) no_members))

-- the members with the reply's text, or with why there was no reply
abbrev pub with_decision : Outcome → Members → Members
with_decision (outcome.Delivered r) ms = put (codes "reply") (string r.text) ms
with_decision (outcome.Transient r) ms = put (codes "reply") (string r.text) ms
with_decision (outcome.Permanent r) ms = put (codes "reply") (string r.text) ms
with_decision (outcome.Lost why) ms = put (codes "lost") (string (lost_text why)) ms

-- the members with those that criteria give
abbrev pub with_criteria : Criteria → Members → Members
with_criteria criteria ms =
    with_given (codes "campaign") criteria.campaign
    (with_given (codes "domain") criteria.domain (with_given (codes "tenant") criteria.tenant ms))

-- what the lines of a message that comes into the history have
abbrev pub message_members : ℕ → ℕ → List ℕ → Message → Members
message_members at by kind m =
    member (codes "at") (whole_number at)
    (member (codes "body") (string m.body)
    (member (codes "by") (whole_number by)
    (member (codes "created") (whole_number m.created)
    (member (codes "id") (string (id_text m.id))
    (member (codes "kind") (string kind)
    (member (codes "queue") (string (spelling m.name))
    (member (codes "recipient") (string m.recipient)
    (member (codes "sender") (string m.sender) no_members))))))))

-- what the lines of orders have
abbrev pub order_members : ℕ → ℕ → ℕ → List ℕ → Members
order_members at by number what =
    member (codes "at") (whole_number at)
    (member (codes "by") (whole_number by)
    (member (codes "kind") (string (codes "Ordered"))
    (member (codes "order") (whole_number number)
    (member (codes "what") (string what) no_members))))
