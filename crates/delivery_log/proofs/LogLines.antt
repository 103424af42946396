-- The values of the log have no floats.
use Rattle.std.proofs.Common.{◌≡◌, ℕ, List, Option, Some, None, false, refl, codes}
use Rattle.serde_json.specs.Data.{Members, object}
use Rattle.serde_json.specs.Written.{has_float}
use Rattle.queue_name.specs.declared.criteria.Criteria.{Criteria}
use Rattle.smtp_reply.specs.declared.reply.Outcome.TheVariants as outcome
use Rattle.history_core.specs.declared.entry.Entry.{Entry}
use Rattle.history_core.specs.declared.entry.Event.{Event}
use Rattle.policy_core.specs.declared.orders.Order.TheVariants.{Suspend, SuspendReady, Bounce, Resume}
use Rattle.history_core.specs.declared.entry.Event.TheVariants.{Recovered, Accepted, Known, Promoted, Opened, Begun, Ended, Closed, Delayed, Ordered, Resumed, Resolved, Rested, Stopped}
use Rattle.history_core.specs.declared.entry.How.TheVariants as how
use Rattle.history_core.specs.declared.entry.Next.TheVariants.{Settled, Due, Expired}
use Rattle.json_members.specs.Members.{given_member}
use Rattle.delivery_log.specs.LogText.{queue_order, event_data, entry_data}

-- a component that is given adds no float
has_float-given_member : (key : List ℕ) (given : Option (List ℕ)) (later : Members) → has_float (object later) ≡ false → has_float (object (given_member key given later)) ≡ false
has_float-given_member key None later e = e
has_float-given_member key (Some text) later e = e

has_float-queue_order : (at by number : ℕ) (what : List ℕ) (criteria : Criteria) (reason : List ℕ) (duration : ℕ) → has_float (queue_order at by number what criteria reason duration) ≡ false
has_float-queue_order at by number what criteria reason duration =
    let tenant = has_float-given_member (codes "tenant") criteria.tenant _ refl in
    has_float-given_member (codes "campaign") criteria.campaign _ (has_float-given_member (codes "domain") criteria.domain _ tenant)

has_float-event_data : (at by : ℕ) (e : Event) → has_float (event_data at by e) ≡ false
has_float-event_data at by (Recovered m failures due) = refl
has_float-event_data at by (Accepted m) = refl
has_float-event_data at by (Known id) = refl
has_float-event_data at by (Promoted id source) = refl
has_float-event_data at by (Opened conn path key) = refl
has_float-event_data at by (Begun conn id key) = refl
has_float-event_data at by (Ended conn id (outcome.Delivered r) Settled) = refl
has_float-event_data at by (Ended conn id (outcome.Delivered r) (Due moment)) = refl
has_float-event_data at by (Ended conn id (outcome.Delivered r) Expired) = refl
has_float-event_data at by (Ended conn id (outcome.Transient r) Settled) = refl
has_float-event_data at by (Ended conn id (outcome.Transient r) (Due moment)) = refl
has_float-event_data at by (Ended conn id (outcome.Transient r) Expired) = refl
has_float-event_data at by (Ended conn id (outcome.Permanent r) Settled) = refl
has_float-event_data at by (Ended conn id (outcome.Permanent r) (Due moment)) = refl
has_float-event_data at by (Ended conn id (outcome.Permanent r) Expired) = refl
has_float-event_data at by (Ended conn id (outcome.Lost why) Settled) = refl
has_float-event_data at by (Ended conn id (outcome.Lost why) (Due moment)) = refl
has_float-event_data at by (Ended conn id (outcome.Lost why) Expired) = refl
has_float-event_data at by (Closed conn why) = refl
has_float-event_data at by (Delayed id Settled) = refl
has_float-event_data at by (Delayed id (Due moment)) = refl
has_float-event_data at by (Delayed id Expired) = refl
has_float-event_data at by (Ordered number (Suspend criteria reason duration)) = has_float-queue_order at by number _ criteria reason duration
has_float-event_data at by (Ordered number (SuspendReady path reason duration)) = refl
has_float-event_data at by (Ordered number (Bounce criteria reason duration)) = has_float-queue_order at by number _ criteria reason duration
has_float-event_data at by (Ordered number (Resume resumed)) = refl
has_float-event_data at by (Resumed number) = refl
has_float-event_data at by (Resolved id how.Expired) = refl
has_float-event_data at by (Resolved id (how.AdminBounced number)) = refl
has_float-event_data at by (Rested until) = refl
has_float-event_data at by Stopped = refl

-- no line has a float
pub has_float_of_entry : (e : Entry) → has_float (entry_data e) ≡ false
unfolding entry_data
has_float_of_entry e = has_float-event_data e.at e.who e.what
