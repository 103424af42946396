use Rattle.std.proofs.Common.{◌≡◌, ℕ, List, [], ◌∷◌, Result, Ok, Err, Bool, true, false, not, refl}
use Rattle.kumo_outside.specs.Sessions.{LinkSeen}
use Rattle.queue_name.specs.declared.message.Message.{Message}
use Rattle.smtp_reply.specs.declared.reply.Outcome.{Outcome}
use Rattle.smtp_reply.specs.declared.reply.Outcome.TheVariants.{Lost}
use Rattle.smtp_reply.specs.declared.reply.Lost.TheVariants.{LinkFault}
use Rattle.kumo_run.specs.declared.dispatcher.DeliveryFault.{DeliveryFault}
use Rattle.kumo_run.specs.declared.dispatcher.DeliveryFault.TheVariants.{NotOpened, NotDelivered, Memory}
use Rattle.history_core.specs.declared.entry.Entry.{Entry}
use Rattle.smtp_dialogue.specs.Transcript.{greeting, attempted, parting, before_parting}
use Rattle.smtp_dialogue.specs.Speaks.{Side, side, Speaks}
use Rattle.policy_core.specs.Limits.{localhost}
use Rattle.kumo_run.specs.inside.OneMessage.{IsFreshLink, Converses, Parts}
use Rattle.kumo_run.proofs.StepLemmas.{may_begin}
use Rattle.kumo_run.proofs.SessionLemmas.{speaks_before_parting, tells_refused, tells_lost, tells_delivered, tells_undelivered}
use Rattle.kumo_run.proofs.dispatcher.converse.Goals as goal

-- what the last part answers decides what the link tells
module _ (m : Message) (k : LinkSeen) (fresh : IsFreshLink k) (s1 s2 s3 : Side) (at_fault : List Outcome) (outcome : Outcome)
    (greets : Speaks (greeting localhost) (side k []) s1 [] [] true)
    (tries : Speaks (attempted m.sender m.recipient m.body) s1 s2 at_fault (outcome ∷ []) true) where
  both : Speaks (before_parting localhost (m ∷ [])) (side k []) s2 at_fault (outcome ∷ []) true
  both = speaks_before_parting m (side k []) s1 s2 at_fault (outcome ∷ []) true greets tries

  converses : {T : Type 0} (r : Result T DeliveryFault) (h : List Entry) → Parts m outcome r h (Speaks parting s2 s3 [] [] false) → Converses m s3.link r h
  converses (Ok x) h (reply, is, history, parts) =
      let told = tells_delivered m k fresh s2 s3 at_fault outcome both parts reply is in
      record {
        sent_bytes = told.sent_bytes;
        got_bytes = told.got_bytes;
        sent_is = told.sent_is;
        got_is = told.got_is;
        transcript = told.transcript;
        decided = (reply, history, told.decided);
      }
  converses (Err NotOpened) h parts = absurd parts
  converses (Err NotDelivered) h (other, parts) = tells_undelivered m k fresh s2 s3 at_fault outcome both parts other
  converses (Err Memory) h parts = absurd parts

-- the texts handed in are the message's, and the answer says whether the link is alive
tried_as : (m : Message) (s1 s2 : Side) (f os : List Outcome) (a b c : List ℕ) (t v : Bool) → a ≡ m.sender → b ≡ m.recipient → c ≡ m.body → t ≡ v
    → Speaks (attempted a b c) s1 s2 f os t → Speaks (attempted m.sender m.recipient m.body) s1 s2 f os v
tried_as m s1 s2 f os a b c t v ea eb ec et x = rw (← ea, ← eb, ← ec, ← et) x

not_true : (b : Bool) → not b ≡ true → b ≡ false
not_true true e = absurd cc
not_true false e = refl

not_false : (b : Bool) → not b ≡ false → b ≡ true
not_false true e = refl
not_false false e = absurd cc

pub begin-requires-clause-follows : goal.begin-requires-clause-follows
begin-requires-clause-follows g c = rw c.requires.history (may_begin c.args.message.now)

pub returns-in-Refused-clause-told : goal.returns-in-Refused-clause-told
returns-in-Refused-clause-told g c = λ fresh.
    let link = c.args.link.now in
    let new = c.greet.new.link in
    tells_refused c.args.message.now (g.L.Link.seen link) fresh
    (side (g.L.Link.seen new) c.greet.new.scratch) c.in-Refused.ensures.spoken

pub returns-then-not-tried-clause-told : goal.returns-then-not-tried-clause-told
returns-then-not-tried-clause-told g c = λ fresh.
    let link = c.args.link.now in
    let mid = c.greet.new.link in
    let new = c.attempt-tried.new.link in
    let s1 = side (g.L.Link.seen mid) c.greet.new.scratch in
    let s2 = side (g.L.Link.seen new) c.attempt-tried.new.scratch in
    tells_lost c.args.message.now (g.L.Link.seen link) fresh
    s1 s2 (Lost LinkFault ∷ []) (c.attempt-tried.result.outcome ∷ []) c.in-Ready.ensures.spoken
    (tried_as c.args.message.now s1 s2 _ _ _ _ _ _ _ c.as_str.ensures c.as_str-2.ensures c.as_str-3.ensures (not_true _ c.if-not-tried.true) c.attempt-tried.ensures.spoken)

pub returns-clause-told : goal.returns-clause-told
returns-clause-told g c = λ fresh.
    let link = c.args.link.now in
    let mid = c.greet.new.link in
    let at = c.attempt-tried.new.link in
    let new = c.part.new.link in
    let s1 = side (g.L.Link.seen mid) c.greet.new.scratch in
    let s2 = side (g.L.Link.seen at) c.attempt-tried.new.scratch in
    let s3 = side (g.L.Link.seen new) c.part.new.scratch in
    converses c.args.message.now (g.L.Link.seen link) fresh
    s1 s2 s3 (Lost LinkFault ∷ []) c.attempt-tried.result.outcome c.in-Ready.ensures.spoken
    (tried_as c.args.message.now s1 s2 _ _ _ _ _ _ _ c.as_str.ensures c.as_str-2.ensures c.as_str-3.ensures (not_false _ c.if-not-tried.false) c.attempt-tried.ensures.spoken)
    c.part.result c.part.new.registry.history c.part.ensures.spoken
