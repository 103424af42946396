-- What is written of a history: one line of compact JSON for each entry, with its keys in byte order.
use Rattle.std.specs.Prelude.{ℕ, List, codes, flat_map}
use Rattle.serde_json.specs.Data.{Data, null, string, object, Members, member, no_members}
use Rattle.json_members.specs.Members.{id_text, whole_number, given_member, json_line}
use Rattle.queue_name.specs.QueueName.{spelling}
use Rattle.queue_name.specs.declared.criteria.Criteria.{Criteria}
use Rattle.queue_name.specs.declared.message.Message.{Message}
use Rattle.smtp_reply.specs.declared.reply.Lost.{Lost}
use Rattle.smtp_reply.specs.declared.reply.Lost.TheVariants as lost
use Rattle.smtp_reply.specs.declared.reply.Outcome.{Outcome}
use Rattle.smtp_reply.specs.declared.reply.Outcome.TheVariants as outcome
use Rattle.policy_core.specs.declared.orders.Order.{Order}
use Rattle.policy_core.specs.declared.orders.Order.TheVariants.{Suspend, SuspendReady, Bounce, Resume}
use Rattle.history_core.specs.declared.entry.Entry.{Entry}
use Rattle.history_core.specs.declared.entry.Event.{Event}
use Rattle.history_core.specs.declared.entry.Event.TheVariants.{Recovered, Accepted, Known, Promoted, Opened, Begun, Ended, Closed, Delayed, Ordered, Resumed, Resolved, Rested, Stopped}
use Rattle.history_core.specs.declared.entry.Next.{Next}
use Rattle.history_core.specs.declared.entry.Next.TheVariants.{Settled, Due, Expired}
use Rattle.history_core.specs.declared.entry.How.{How}
use Rattle.history_core.specs.declared.entry.How.TheVariants as how
use Rattle.history_core.specs.declared.entry.Cause.{Cause}
use Rattle.history_core.specs.declared.entry.Cause.TheVariants as cause

abbrev pub cause_text : Cause → List ℕ
cause_text cause.Idle = codes "Idle"
cause_text cause.Spent = codes "Spent"
cause_text cause.Shed = codes "Shed"
cause_text cause.Halted = codes "Halted"
cause_text cause.Throttled = codes "Throttled"
cause_text cause.Empty = codes "Empty"
cause_text cause.Broken = codes "Broken"
cause_text cause.Refused = codes "Refused"
cause_text cause.Stop = codes "Stop"

abbrev pub lost_text : Lost → List ℕ
lost_text lost.LinkFault = codes "LinkFault"
lost_text lost.Ended = codes "Ended"
lost_text lost.BadReply = codes "BadReply"
lost_text lost.TooLong = codes "TooLong"

-- the last member of an ended attempt's line: the reply's text, or why there was none
abbrev pub decided_by : Outcome → Members
decided_by (outcome.Delivered r) = member (codes "reply") (string r.text) no_members
decided_by (outcome.Transient r) = member (codes "reply") (string r.text) no_members
decided_by (outcome.Permanent r) = member (codes "reply") (string r.text) no_members
decided_by (outcome.Lost why) = member (codes "lost") (string (lost_text why)) no_members

-- In the definitions below the moment and the pass come first, whatever the kind.

-- a message of the spool, with its failures and the moment at which it is due
abbrev pub recovery : ℕ → ℕ → Message → ℕ → ℕ → Data
recovery at by m failures due = object
    (member (codes "at") (whole_number at)
    (member (codes "body") (string m.body)
    (member (codes "by") (whole_number by)
    (member (codes "created") (whole_number m.created)
    (member (codes "due") (whole_number due)
    (member (codes "failures") (whole_number failures)
    (member (codes "id") (string (id_text m.id))
    (member (codes "kind") (string (codes "Recovered"))
    (member (codes "queue") (string (spelling m.name))
    (member (codes "recipient") (string m.recipient)
    (member (codes "sender") (string m.sender) no_members)))))))))))

-- a message that was taken over
abbrev pub reception : ℕ → ℕ → Message → Data
reception at by m = object
    (member (codes "at") (whole_number at)
    (member (codes "body") (string m.body)
    (member (codes "by") (whole_number by)
    (member (codes "created") (whole_number m.created)
    (member (codes "id") (string (id_text m.id))
    (member (codes "kind") (string (codes "Reception"))
    (member (codes "queue") (string (spelling m.name))
    (member (codes "recipient") (string m.recipient)
    (member (codes "sender") (string m.sender) no_members)))))))))

-- an attempt that ended for good, or whose message is too old
abbrev pub final_end : ℕ → ℕ → ℕ → ℕ → List ℕ → Outcome → Data
final_end at by conn id kind decided = object
    (member (codes "at") (whole_number at)
    (member (codes "by") (whole_number by)
    (member (codes "conn") (whole_number conn)
    (member (codes "id") (string (id_text id))
    (member (codes "kind") (string kind) (decided_by decided))))))

-- an attempt whose message is due again
abbrev pub transient_failure : ℕ → ℕ → ℕ → ℕ → ℕ → Outcome → Data
transient_failure at by conn due id decided = object
    (member (codes "at") (whole_number at)
    (member (codes "by") (whole_number by)
    (member (codes "conn") (whole_number conn)
    (member (codes "due") (whole_number due)
    (member (codes "id") (string (id_text id))
    (member (codes "kind") (string (codes "TransientFailure")) (decided_by decided)))))))

abbrev pub settled_kind : Outcome → List ℕ
settled_kind (outcome.Delivered r) = codes "Delivery"
settled_kind (outcome.Transient r) = codes "Bounce"
settled_kind (outcome.Permanent r) = codes "Bounce"
settled_kind (outcome.Lost why) = codes "Bounce"

abbrev pub ended_data : ℕ → ℕ → ℕ → ℕ → Outcome → Next → Data
ended_data at by conn id decided Settled = final_end at by conn id (settled_kind decided) decided
ended_data at by conn id decided (Due moment) = transient_failure at by conn moment id decided
ended_data at by conn id decided Expired = final_end at by conn id (codes "Expiration") decided

-- the moment at which a delayed message is due; no legal history delays a settled one
abbrev pub due_data : Next → Data
due_data Settled = null
due_data (Due moment) = whole_number moment
due_data Expired = null

-- an order about the queues whose names meet criteria
abbrev pub queue_order : ℕ → ℕ → ℕ → List ℕ → Criteria → List ℕ → ℕ → Data
queue_order at by order what criteria reason duration = object
    (member (codes "at") (whole_number at)
    (member (codes "by") (whole_number by)
    (given_member (codes "campaign") criteria.campaign
    (given_member (codes "domain") criteria.domain
    (member (codes "duration") (whole_number duration)
    (member (codes "kind") (string (codes "Ordered"))
    (member (codes "order") (whole_number order)
    (member (codes "reason") (string reason)
    (given_member (codes "tenant") criteria.tenant
    (member (codes "what") (string what) no_members))))))))))

-- an order about one path
abbrev pub path_order : ℕ → ℕ → ℕ → List ℕ → List ℕ → ℕ → Data
path_order at by order path reason duration = object
    (member (codes "at") (whole_number at)
    (member (codes "by") (whole_number by)
    (member (codes "duration") (whole_number duration)
    (member (codes "kind") (string (codes "Ordered"))
    (member (codes "order") (whole_number order)
    (member (codes "path") (string path)
    (member (codes "reason") (string reason)
    (member (codes "what") (string (codes "SuspendReady")) no_members))))))))

-- A resumption has an event of its own: no legal history has one as an order, and its line here says which order it names.
abbrev pub resume_order : ℕ → ℕ → ℕ → ℕ → Data
resume_order at by order resumed = object
    (member (codes "at") (whole_number at)
    (member (codes "by") (whole_number by)
    (member (codes "kind") (string (codes "Ordered"))
    (member (codes "number") (whole_number resumed)
    (member (codes "order") (whole_number order)
    (member (codes "what") (string (codes "Resume")) no_members))))))

abbrev pub ordered_data : ℕ → ℕ → ℕ → Order → Data
ordered_data at by order (Suspend criteria reason duration) = queue_order at by order (codes "Suspend") criteria reason duration
ordered_data at by order (SuspendReady path reason duration) = path_order at by order path reason duration
ordered_data at by order (Bounce criteria reason duration) = queue_order at by order (codes "Bounce") criteria reason duration
ordered_data at by order (Resume resumed) = resume_order at by order resumed

-- a fate without an attempt
abbrev pub resolved_data : ℕ → ℕ → ℕ → How → Data
resolved_data at by id how.Expired = object
    (member (codes "at") (whole_number at)
    (member (codes "by") (whole_number by)
    (member (codes "id") (string (id_text id))
    (member (codes "kind") (string (codes "Expiration")) no_members))))
resolved_data at by id (how.AdminBounced order) = object
    (member (codes "at") (whole_number at)
    (member (codes "by") (whole_number by)
    (member (codes "id") (string (id_text id))
    (member (codes "kind") (string (codes "AdminBounce"))
    (member (codes "order") (whole_number order) no_members)))))

abbrev pub event_data : ℕ → ℕ → Event → Data
event_data at by (Recovered m failures due) = recovery at by m failures due
event_data at by (Accepted m) = reception at by m
event_data at by (Known id) = object
    (member (codes "at") (whole_number at)
    (member (codes "by") (whole_number by)
    (member (codes "id") (string (id_text id))
    (member (codes "kind") (string (codes "Known")) no_members))))
event_data at by (Promoted id source) = object
    (member (codes "at") (whole_number at)
    (member (codes "by") (whole_number by)
    (member (codes "id") (string (id_text id))
    (member (codes "kind") (string (codes "Promoted"))
    (member (codes "source") (string source) no_members)))))
event_data at by (Opened conn path key) = object
    (member (codes "at") (whole_number at)
    (member (codes "by") (whole_number by)
    (member (codes "conn") (whole_number conn)
    (member (codes "key") (whole_number key)
    (member (codes "kind") (string (codes "Opened"))
    (member (codes "path") (string path) no_members))))))
event_data at by (Begun conn id key) = object
    (member (codes "at") (whole_number at)
    (member (codes "by") (whole_number by)
    (member (codes "conn") (whole_number conn)
    (member (codes "id") (string (id_text id))
    (member (codes "key") (whole_number key)
    (member (codes "kind") (string (codes "Begun")) no_members))))))
event_data at by (Ended conn id decided next) = ended_data at by conn id decided next
event_data at by (Closed conn why) = object
    (member (codes "at") (whole_number at)
    (member (codes "by") (whole_number by)
    (member (codes "cause") (string (cause_text why))
    (member (codes "conn") (whole_number conn)
    (member (codes "kind") (string (codes "Closed")) no_members)))))
event_data at by (Delayed id next) = object
    (member (codes "at") (whole_number at)
    (member (codes "by") (whole_number by)
    (member (codes "due") (due_data next)
    (member (codes "id") (string (id_text id))
    (member (codes "kind") (string (codes "Delayed")) no_members)))))
event_data at by (Ordered order given) = ordered_data at by order given
event_data at by (Resumed order) = object
    (member (codes "at") (whole_number at)
    (member (codes "by") (whole_number by)
    (member (codes "kind") (string (codes "Resumed"))
    (member (codes "order") (whole_number order) no_members))))
event_data at by (Resolved id fate) = resolved_data at by id fate
event_data at by (Rested until) = object
    (member (codes "at") (whole_number at)
    (member (codes "by") (whole_number by)
    (member (codes "kind") (string (codes "Rested"))
    (member (codes "until") (whole_number until) no_members))))
event_data at by Stopped = object
    (member (codes "at") (whole_number at)
    (member (codes "by") (whole_number by)
    (member (codes "kind") (string (codes "Stopped")) no_members)))

unfoldable pub entry_data : Entry → Data
entry_data e = event_data e.at e.who e.what

-- the line of an entry, with its line feed
unfoldable pub line_of : Entry → List ℕ
line_of e = json_line (entry_data e)

abbrev pub log_text : List Entry → List ℕ
log_text h = flat_map line_of h
