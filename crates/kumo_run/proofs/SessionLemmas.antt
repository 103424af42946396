-- What a fresh link tells of the transcript, from what the calls of the dialogue say.
use Rattle.std.proofs.Common.{◌≡◌, ℕ, ◌⊎◌, List, [], ◌∷◌, ◌++◌, length, Bool, true, false, Option, Some, None, IfSome, refl, ap, sym, subst, inl, inr, ◌∙◌, arith, append-nil, length-append}
use Rattle.std.proofs.lemmas.Bool.{false≢true}
use Rattle.std.proofs.lemmas.Option.{same_Some}
use Rattle.kumo_base.specs.Causes.{Rose}
use Rattle.kumo_outside.specs.Content.{told_with, TakesPrefix}
use Rattle.kumo_outside.specs.Sessions.{LinkSeen, session_of}
use Rattle.queue_name.specs.declared.message.Message.{Message}
use Rattle.kumo_outside.specs.declared.session.Session.{Session}
use Rattle.smtp_reply.specs.declared.reply.Reply.{Reply}
use Rattle.smtp_reply.specs.declared.reply.Outcome.{Outcome}
use Rattle.smtp_reply.specs.declared.reply.Outcome.TheVariants.{Delivered}
use Rattle.kumo_outside.proofs.ContentLemmas.{told_with-told, TakesPrefix-whole, TakesPrefix-more, TakesProperPrefix-more}
use Rattle.smtp_dialogue.specs.Transcript.{Spoken, Standing, alive, over, waiting, is_alive, joined_at, followed_by, greeting, attempted, parting, attempts, before_parting, transcript, IsPrefix}
use Rattle.smtp_dialogue.specs.Speaks.{Side, side, WentThrough, IsCutShort, Speaks, with_more, IsStable}
use Rattle.smtp_dialogue.proofs.Stability.{parts_stable, greeting_stable, attempts_stable}
use Rattle.smtp_dialogue.proofs.Following.{followed}
use Rattle.policy_core.specs.Limits.{localhost}
use Rattle.kumo_run.specs.Delivery.{IsDeliveredBy, IsNotDelivered}
use Rattle.kumo_run.specs.inside.OneMessage.{IsFreshLink, Tells}

-- ---- a part that left the link not alive is all that the parts behind it come to

standing_not_alive : (s : Standing) (first : Spoken) (next : List ℕ → Spoken) → false ≡ is_alive s → joined_at s first next ≡ first
standing_not_alive alive first next e = absurd (false≢true e)
standing_not_alive over first next e = refl
standing_not_alive waiting first next e = refl

waiting_stops : (s : Standing) (first : Spoken) (next : List ℕ → Spoken) → s ≡ waiting → joined_at s first next ≡ first
waiting_stops s first next e = rw e refl

-- what is sent by the first part is sent first
sent_first : (s : Standing) (first : Spoken) (next : List ℕ → Spoken) → (behind : List ℕ) × ((joined_at s first next).sent ≡ first.sent ++ behind)
sent_first alive first next = ((next first.rest).sent, refl)
sent_first over first next = ([], sym (append-nil first.sent))
sent_first waiting first next = ([], sym (append-nil first.sent))

-- ---- what is said of the bytes sent and the end, whatever came of the messages

pub record Shows (t : Spoken) (old new : Side) : Type 0 where
  pub prefix : TakesPrefix old.link.sent new.link.sent t.sent
  pub whole : (Rose old.link.faults new.link.faults → ⊥) → new.link.sent ≡ told_with old.link.sent t.sent
  pub ended : (Rose old.link.faults new.link.faults → ⊥) → t.standing ≡ waiting → new.link.ended ≡ true

shows_whole : (t : Spoken) (old new : Side) (outcomes : List Outcome) (a : Bool) → WentThrough t old new outcomes a → Shows t old new
shows_whole t old new outcomes a w = record {
  prefix = TakesPrefix-whole old.link.sent new.link.sent t.sent w.sent;
  whole = λ calm. w.sent;
  ended = λ calm waits. w.waited waits;
}

shows_cut : (t : Spoken) (old new : Side) (f outcomes : List Outcome) (a : Bool) → IsCutShort t old new f outcomes a → Shows t old new
shows_cut t old new f outcomes a c = record {
  prefix = c.prefix;
  whole = λ calm. absurd (calm c.rose);
  ended = λ calm waits. absurd (calm c.rose);
}

pub shows : (part : List ℕ → Spoken) (old new : Side) (f outcomes : List Outcome) (a : Bool) (x : Speaks part old new f outcomes a) → Shows (part (old.unread ++ x.more)) old new
shows part old new f outcomes a x = elim x.spoke [ inl w ↦ shows_whole _ old new outcomes a w | inr c ↦ shows_cut _ old new f outcomes a c ]

-- the same of a part that left the link not alive and parts that would come behind it
shows_whole_halted : (first : Spoken) (next : List ℕ → Spoken) (old new : Side) (outcomes : List Outcome) → WentThrough first old new outcomes false → Shows (followed_by first next) old new
shows_whole_halted first next old new outcomes w = rw (standing_not_alive first.standing first next w.alive_is) (shows_whole first old new outcomes false w)

shows_cut_halted : (first : Spoken) (next : List ℕ → Spoken) (old new : Side) (f outcomes : List Outcome) → IsCutShort first old new f outcomes false → Shows (followed_by first next) old new
shows_cut_halted first next old new f outcomes c =
    let behind = sent_first first.standing first next in
    record {
      prefix = rw behind.1 (TakesPrefix-more old.link.sent new.link.sent first.sent behind.0 c.prefix);
      whole = λ calm. absurd (calm c.rose);
      ended = λ calm waits. absurd (calm c.rose);
    }

pub shows_halted : (first second : List ℕ → Spoken) (old new : Side) (f outcomes : List Outcome) (x : Speaks first old new f outcomes false) → Shows (followed_by (first (old.unread ++ x.more)) second) old new
shows_halted first second old new f outcomes x =
    elim x.spoke [
      | inl w ↦ shows_whole_halted (first (old.unread ++ x.more)) second old new outcomes w
      | inr c ↦ shows_cut_halted (first (old.unread ++ x.more)) second old new f outcomes c
    ]

-- a part without outcomes that left the link not alive speaks for the parts behind it too
halts_whole : (first : Spoken) (next : List ℕ → Spoken) (old new : Side) → WentThrough first old new [] false → WentThrough (followed_by first next) old new [] false
halts_whole first next old new w = rw (standing_not_alive first.standing first next w.alive_is) w

halts_cut : (first : Spoken) (next : List ℕ → Spoken) (old new : Side) → IsCutShort first old new [] [] false → IsCutShort (followed_by first next) old new [] [] false
halts_cut first next old new c =
    let behind = sent_first first.standing first next in
    record {
      rose = c.rose;
      alive_is = c.alive_is;
      not_ended = c.not_ended;
      prefix = rw behind.1 (TakesPrefix-more old.link.sent new.link.sent first.sent behind.0 c.prefix);
      short = elim c.short [
        | inl waits ↦ inl (ap (λ (t : Spoken). t.standing) (waiting_stops first.standing first next waits) ∙ waits)
        | inr part ↦ inr (rw behind.1 (TakesProperPrefix-more old.link.sent new.link.sent first.sent behind.0 part))
      ];
      outcomes_are = inl refl;
    }

pub halts : (first second : List ℕ → Spoken) (old new : Side) → Speaks first old new [] [] false → Speaks (λ bytes. followed_by (first bytes) second) old new [] [] false
halts first second old new x = record {
  more = x.more;
  grows = x.grows;
  later = x.later;
  spoke = elim x.spoke [
    | inl w ↦ inl (halts_whole (first (old.unread ++ x.more)) second old new w)
    | inr c ↦ inr (halts_cut (first (old.unread ++ x.more)) second old new c)
  ];
}

-- ---- the attempts of one message are its attempt

with_standing : (t : Spoken) (s : Standing) → t.standing ≡ s → joined_at s t (attempts []) ≡ t
with_standing t alive e =
    rw (append-nil t.sent, append-nil t.outcomes)
    (ap (λ (s : Standing). let spoken : Spoken = record { sent = t.sent; outcomes = t.outcomes; standing = s; rest = t.rest } in spoken) (sym e))
with_standing t over e = refl
with_standing t waiting e = refl

attempts_one : (m : Message) (bytes : List ℕ) → attempts (m ∷ []) bytes ≡ attempted m.sender m.recipient m.body bytes
attempts_one m bytes = with_standing (attempted m.sender m.recipient m.body bytes) _ refl

speaks_attempts : (m : Message) (s1 s2 : Side) (f outcomes : List Outcome) (a : Bool) → Speaks (attempted m.sender m.recipient m.body) s1 s2 f outcomes a → Speaks (attempts (m ∷ [])) s1 s2 f outcomes a
speaks_attempts m s1 s2 f outcomes a x = record {
  more = x.more;
  grows = x.grows;
  later = x.later;
  spoke =
      let P : Spoken → Type 0 = λ t. WentThrough t s1 s2 outcomes a ⊎ IsCutShort t s1 s2 f outcomes a in
      subst P (sym (attempts_one m (s1.unread ++ x.more))) x.spoke;
}

-- the greeting and then the attempt
pub speaks_before_parting : (m : Message) (s0 s1 s2 : Side) (f outcomes : List Outcome) (a : Bool)
    → Speaks (greeting localhost) s0 s1 [] [] true → Speaks (attempted m.sender m.recipient m.body) s1 s2 f outcomes a
    → Speaks (before_parting localhost (m ∷ [])) s0 s2 f outcomes a
speaks_before_parting m s0 s1 s2 f outcomes a x y =
    followed {first = greeting localhost} {second = attempts (m ∷ [])} (greeting_stable localhost) x (speaks_attempts m s1 s2 f outcomes a y)

-- ---- what a fresh link tells

calm_at_zero : (f n : ℕ) → f ≡ 0 → n ≡ 0 → Rose f n → ⊥
calm_at_zero f n e z r = omega arith

module _ (m : Message) (k : LinkSeen) (fresh : IsFreshLink k) where
  told_bytes : (new : Option (List ℕ)) (old : Option (List ℕ)) (bytes : List ℕ) → old ≡ Some [] → new ≡ told_with old bytes → new ≡ Some bytes
  told_bytes new old bytes at added = added ∙ ap (λ t. told_with t bytes) at ∙ told_with-told [] bytes

  tells : (new : Side) (more : List ℕ) (P : Session → Type 0) → new.link.got ≡ told_with k.got more
      → Shows (transcript localhost (m ∷ []) more) (side k []) new
      → ((sent : List ℕ) → new.link.sent ≡ Some sent → P (session_of new.link sent more))
      → Tells m new.link P
  tells new more P grows shown decided =
      let prefix = shown.prefix in
      let sent_is : new.link.sent ≡ Some prefix.0 = told_bytes new.link.sent k.sent prefix.0 fresh.sent_is prefix.2.added in
      record {
        sent_bytes = prefix.0;
        got_bytes = more;
        sent_is = sent_is;
        got_is = told_bytes new.link.got k.got more fresh.got_is grows;
        transcript = record {
          prefix = (prefix.1, prefix.2.whole);
          whole = λ calm. same_Some _ _ (sym sent_is ∙ told_bytes new.link.sent k.sent _ fresh.sent_is (shown.whole (calm_at_zero k.faults new.link.faults fresh.faults_are calm)));
          ended = λ calm waits. shown.ended (calm_at_zero k.faults new.link.faults fresh.faults_are calm) waits;
        };
        decided = decided prefix.0 sent_is;
      }

  longer_prefix : (prefix rest behind whole sent : List ℕ) → prefix ++ rest ≡ whole → whole ++ behind ≡ sent → sent ≡ prefix → (rest ≡ [] → ⊥) → ⊥
  longer_prefix prefix [] behind whole sent a b c left = left refl
  longer_prefix prefix (x ∷ rest) behind whole sent a b c left =
      let la = ap length a in let lb = ap length b in let lc = ap length c in
      omega (arith, simp length-append at la, simp length-append at lb, lc)

  undelivered_whole : (t : Spoken) (new : Side) (outcomes : List Outcome) → WentThrough t (side k []) new outcomes false → t.standing ≡ alive → ⊥
  undelivered_whole t new outcomes w through = false≢true (w.alive_is ∙ ap is_alive through)

  undelivered_cut : (t : Spoken) (new : Side) (at_fault outcomes : List Outcome) (sent : List ℕ) → IsCutShort t (side k []) new at_fault outcomes false
      → new.link.sent ≡ Some sent → t.standing ≡ alive → IsPrefix t.sent sent → ⊥
  undelivered_cut t new at_fault outcomes sent c is through prefix =
      elim c.short [
        | inl waits ↦ absurd cc
        | inr part ↦ longer_prefix part.0 part.1 prefix.0 t.sent sent part.2.whole prefix.1
            (same_Some _ _ (sym is ∙ told_bytes new.link.sent k.sent part.0 fresh.sent_is part.2.added)) part.3
      ]

  halted_undelivered : (new : Side) (at_fault outcomes : List Outcome) (x : Speaks (before_parting localhost (m ∷ [])) (side k []) new at_fault outcomes false)
      (sent : List ℕ) → new.link.sent ≡ Some sent → IsNotDelivered m (session_of new.link sent x.more)
  halted_undelivered new at_fault outcomes x sent is reply d =
      elim x.spoke [
        | inl w ↦ undelivered_whole (before_parting localhost (m ∷ []) x.more) new outcomes w d.through
        | inr c ↦ undelivered_cut (before_parting localhost (m ∷ []) x.more) new at_fault outcomes sent c is d.through d.sent
      ]

  tells_halted : (new : Side) (at_fault outcomes : List Outcome) → Speaks (before_parting localhost (m ∷ [])) (side k []) new at_fault outcomes false
      → Tells m new.link (IsNotDelivered m)
  tells_halted new at_fault outcomes x =
      tells new x.more (IsNotDelivered m) x.grows
      (shows_halted (before_parting localhost (m ∷ [])) parting (side k []) new at_fault outcomes x)
      (halted_undelivered new at_fault outcomes x)

  -- a receiver that did not greet
  pub tells_refused : (new : Side) → Speaks (greeting localhost) (side k []) new [] [] false
      → Tells m new.link (IsNotDelivered m)
  tells_refused new x = tells_halted new [] [] (halts (greeting localhost) (attempts (m ∷ [])) (side k []) new x)

  -- an attempt that left the link not alive
  pub tells_lost : (mid new : Side) (at_fault outcomes : List Outcome) → Speaks (greeting localhost) (side k []) mid [] [] true
      → Speaks (attempted m.sender m.recipient m.body) mid new at_fault outcomes false
      → Tells m new.link (IsNotDelivered m)
  tells_lost mid new at_fault outcomes x y =
      tells_halted new at_fault outcomes (speaks_before_parting m (side k []) mid new at_fault outcomes false x y)

  before_stable : IsStable (before_parting localhost (m ∷ []))
  before_stable = parts_stable (greeting localhost) (attempts (m ∷ [])) (greeting_stable localhost) (attempts_stable (m ∷ []))

  alive_standing : (t : Standing) → true ≡ is_alive t → t ≡ alive
  alive_standing alive h = refl
  alive_standing over h = absurd (false≢true (sym h))
  alive_standing waiting h = absurd (false≢true (sym h))

  -- what was got until the attempt ended makes the part before QUIT what it is
  abbrev Settles : List ℕ → Side → Outcome → Type 0
  Settles got at decided =
      let t = before_parting localhost (m ∷ []) got in
      (t.standing ≡ alive) × (t.outcomes ≡ decided ∷ []) × (at.link.sent ≡ told_with k.sent t.sent)

  settles_alive : (at : Side) (at_fault : List Outcome) (decided : Outcome) (x : Speaks (before_parting localhost (m ∷ [])) (side k []) at at_fault (decided ∷ []) true) → Settles x.more at decided
  settles_alive at at_fault decided x =
      elim x.spoke [
        | inl w ↦ (alive_standing _ w.alive_is, sym w.outcomes_are, w.sent)
        | inr c ↦ absurd (false≢true (sym c.alive_is))
      ]

  -- the bytes that came with QUIT change nothing of what was before it
  same_before : (x y : List ℕ) → (before_parting localhost (m ∷ []) x).standing ≡ alive → before_parting localhost (m ∷ []) (x ++ y) ≡ with_more y (before_parting localhost (m ∷ []) x)
  same_before x y h = before_stable x y (ap is_alive h)

  first_outcome : (a b : Outcome) → a ∷ [] ≡ b ∷ [] → a ≡ b
  first_outcome a b h = cc

  -- what a session that went on to QUIT tells of the attempt
  up_to_quit_is : (x y sent behind : List ℕ) (at new : Side) (decided : Outcome) → Settles x at decided → new.link.sent ≡ told_with at.link.sent behind → new.link.sent ≡ Some sent
      → let t = before_parting localhost (m ∷ []) (x ++ y) in (t.standing ≡ alive) × (t.outcomes ≡ decided ∷ []) × IsPrefix t.sent sent
  up_to_quit_is x y sent behind at new decided settled added is =
      let t : Spoken = before_parting localhost (m ∷ []) x in
      let at_sent : at.link.sent ≡ Some t.sent = told_bytes at.link.sent k.sent t.sent fresh.sent_is settled.2 in
      let whole : t.sent ++ behind ≡ sent = same_Some _ _ (sym (added ∙ ap (λ b. told_with b behind) at_sent ∙ told_with-told t.sent behind) ∙ is) in
      rw (same_before x y settled.0) (settled.0, settled.1, (behind, whole))

  -- an attempt that left the link alive, and QUIT
  module _ (at new : Side) (at_fault : List Outcome) (decided : Outcome)
      (x : Speaks (before_parting localhost (m ∷ [])) (side k []) at at_fault (decided ∷ []) true)
      (y : Speaks parting at new [] [] false) where
    both : Speaks (transcript localhost (m ∷ [])) (side k []) new (decided ∷ []) (decided ∷ []) false
    both = followed {first = before_parting localhost (m ∷ [])} {second = parting} before_stable x y

    got_both : both.more ≡ x.more ++ y.more
    got_both =
        let at_got : at.link.got ≡ Some x.more = told_bytes at.link.got k.got x.more fresh.got_is x.grows in
        let new_got : new.link.got ≡ Some (x.more ++ y.more) = y.grows ∙ ap (λ b. told_with b y.more) at_got ∙ told_with-told x.more y.more in
        same_Some _ _ (sym (told_bytes new.link.got k.got both.more fresh.got_is both.grows) ∙ new_got)

    quit_prefix : TakesPrefix at.link.sent new.link.sent (parting (at.unread ++ y.more)).sent
    quit_prefix = (shows parting at new [] [] false y).prefix

    told_up_to_quit : (sent : List ℕ) → new.link.sent ≡ Some sent
        → let t = before_parting localhost (m ∷ []) both.more in (t.standing ≡ alive) × (t.outcomes ≡ decided ∷ []) × IsPrefix t.sent sent
    told_up_to_quit sent is =
        rw got_both (up_to_quit_is x.more y.more sent quit_prefix.0 at new decided (settles_alive at at_fault decided x) quit_prefix.2.added is)

    tells_parted : (P : Session → Type 0) → ((sent : List ℕ) → new.link.sent ≡ Some sent → P (session_of new.link sent both.more))
        → Tells m new.link P
    tells_parted P decides = tells new both.more P both.grows (shows (transcript localhost (m ∷ [])) (side k []) new (decided ∷ []) (decided ∷ []) false both) decides

    -- a delivery
    pub tells_delivered : (reply : Reply) → decided ≡ Delivered reply → Tells m new.link (IsDeliveredBy m reply)
    tells_delivered reply is =
        tells_parted (IsDeliveredBy m reply) (λ sent told.
        let up = told_up_to_quit sent told in
        record { through = up.0; outcome = up.1 ∙ ap (λ (d : Outcome). d ∷ []) is; sent = up.2 })

    -- another outcome
    pub tells_undelivered : ((reply : Reply) → decided ≡ Delivered reply → ⊥) → Tells m new.link (IsNotDelivered m)
    tells_undelivered other =
        tells_parted (IsNotDelivered m) (λ sent told reply d. other reply (first_outcome _ _ (sym (told_up_to_quit sent told).1 ∙ d.outcome)))

-- where no link was opened, the sessions are as they were
pub sessions_stay : (old new : Option (List Session)) → new ≡ old → IfSome old (λ before. new ≡ Some before)
sessions_stay None new e = tt
sessions_stay (Some before) new e = e
