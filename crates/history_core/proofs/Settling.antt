-- In a legal history each message has at most one fate: what keeps it so, entry by entry.
use Rattle.std.proofs.Common.{◌≡◌, ◌≤◌, ◌⊎◌, inl, inr, ⊎_elim, ℕ, List, [], ◌∷◌, ◌++◌, Bool, true, false, not, cond, ◌&&◌, ◌||◌, Option, Some, None, option_map, length, eqb, leb, filter, arith, refl, sym, ap, subst, ◌∙◌, append-nil}
use Rattle.std.specs.List.{Contains, list_any}
use Rattle.std.specs.Option.{option_to_list, is_some}
use Rattle.std.proofs.lemmas.Bool.{and_from, and_parts, both_ways, cases_Bool, cases_eq, eq-eqb, eqb-false, eqb-true, false≢true, not-true, not_from_false, or_cases, or_left, or_right}
use Rattle.std.proofs.lemmas.List.Elements.{Contains-append_cases}
use Rattle.std.proofs.lemmas.Option.{same_Some}
use Rattle.queue_name.specs.declared.message.Message.{Message}
use Rattle.smtp_reply.specs.declared.reply.Outcome.{Outcome}
use Rattle.policy_core.specs.Policy.{Policy}
use Rattle.history_core.specs.declared.entry.Entry.{Entry}
use Rattle.history_core.specs.declared.entry.Event.{Event}
use Rattle.history_core.specs.declared.entry.Event.TheVariants.{Promoted as promoted, Begun, Ended, Delayed, Resolved}
use Rattle.history_core.specs.declared.entry.Next.{Next}
use Rattle.history_core.specs.declared.entry.How.{How}
use Rattle.history_core.specs.declared.path.Path.{Path}
use Rattle.history_core.specs.declared.path.Promoted.{Promoted}
use Rattle.history_core.specs.Events.{is_final, settled_in, taken_in, is_this}
use Rattle.history_core.specs.History.{promoted_at, messages, message_with, path_for}
use Rattle.history_core.specs.Fate.{fate_of, pending}
use Rattle.history_core.specs.LiveOrders.{bounced_by}
use Rattle.history_core.specs.Retry.{is_aged, due}
use Rattle.history_core.specs.Connection.{connections, open_anywhere, busy_after, busy_with, is_in_flight, is_closed}
use Rattle.history_core.specs.Firing.{is_free}
use Rattle.history_core.specs.Ready.{is_ready_after, is_ready, standing_promotions, ready}
use Rattle.history_core.specs.Candidates.{pick_for}
use Rattle.history_core.specs.Legal.{Row, IsLegal}
use Rattle.history_core.proofs.Lists.{Passing, any_there, there_any, there_none, there_cases, there_filter, filter_there}
use Rattle.history_core.proofs.LegalLemmas.{IsLegal-along, IsLegal-induction}
use Rattle.history_core.proofs.OneMore.{takes, fate_of-more, busy_with-more, is_ready-more, connections-kept, standing_promotions-more}
use Rattle.history_core.proofs.Picked.{at_work, first_there, pending_there, pending_found, ready_there, delayable_there, swept_promotion}

-- a promotion that stands is of a ready message
abbrev AreReady : Policy → List Entry → Type 0
AreReady policy h = (q : Promoted) → Contains (standing_promotions policy h) q → is_ready h q.id ≡ true

stays_ready : (e : Event) (id : ℕ) → is_this (taken_in e) id ≡ false → is_ready_after id true e ≡ true
stays_ready (promoted of source) id kept = or_right (eqb of id) true refl
stays_ready _ id kept = and_from _ true (not_from_false _ kept) refl

new_of : (before : List Entry) (of : ℕ) (path : Message → Path) (o : Option Message) (q : Promoted)
    → Contains (option_to_list (option_map (λ m. record { place = length before; id = of; path = path m }) o)) q → of ≡ q.id
new_of before of path None q c = absurd (there_none q c)
new_of before of path (Some m) q c =
    ⊎_elim (λ same. ap (λ (p : Promoted). p.id) same) (λ none. absurd (there_none q none)) (there_cases (record { place = length before; id = of; path = path m }) [] q c)

new_ready : (policy : Policy) (h : List Entry) (at who : ℕ) (e : Event) (q : Promoted) (was : Bool)
    → Contains (promoted_at policy h (record { at = at; who = who; what = e })) q → is_ready_after q.id was e ≡ true
new_ready policy h at who (promoted of source) q was c =
    or_left (eqb of q.id) was (eq-eqb of q.id (new_of h of (λ m. path_for policy m source) (message_with h of) q c))
new_ready policy h at who _ q was c = absurd (there_none q c)

ready_step : (policy : Policy) (h : List Entry) (e : Entry) → AreReady policy h → AreReady policy (h ++ e ∷ [])
ready_step policy h e k q c =
    is_ready-more h e q.id
    ∙ ⊎_elim
    (λ old.
    let both : Passing (λ (p : Promoted). not (takes e p.id)) (standing_promotions policy h) q = filter_there (λ (p : Promoted). not (takes e p.id)) (standing_promotions policy h) q old in
    ap (λ was. is_ready_after q.id was e.what) (k q both.0) ∙ stays_ready e.what q.id (not-true (takes e q.id) both.1))
    (λ new. new_ready policy h e.at e.who e.what q (is_ready h q.id) new)
    (Contains-append_cases (filter (λ (p : Promoted). not (takes e p.id)) (standing_promotions policy h)) (promoted_at policy h e) q
    (subst (λ ps. Contains ps q) (standing_promotions-more policy h e) c))

are_ready : (policy : Policy) (h : List Entry) → IsLegal policy h → AreReady policy h
are_ready policy h legal = IsLegal-induction policy (AreReady policy) (λ q c. absurd (there_none q c)) (λ h e k follows. ready_step policy h e k) h legal

-- what is ready on a path is ready
pub ready_is : (policy : Policy) (h : List Entry) → IsLegal policy h → (path : Path) (id : ℕ) → Contains (ready policy h path) id → is_ready h id ≡ true
ready_is policy h legal path id c =
    let (q, there, leads, same) = ready_there policy h path id c in
    subst (λ i. is_ready h i ≡ true) same (are_ready policy h legal q there)

abbrev IsOpened : List Entry → ℕ → Type 0
IsOpened h conn = list_any (λ c. eqb c.number conn) (connections h) ≡ true

-- no connection is busy with the message
abbrev IsIdle : List Entry → ℕ → Type 0
IsIdle h id = (conn : ℕ) → busy_with h conn ≡ Some id → ⊥

-- a message has one fate at most; one that is attempted or ready has none, is attempted on one connection alone, and
-- not while it is ready
record Settling (h : List Entry) : Type 0 where
  once : (id : ℕ) → length (fate_of h id) ≤ 1
  busy : (conn id : ℕ) → busy_with h conn ≡ Some id → fate_of h id ≡ []
  alone : (conn other id : ℕ) → busy_with h conn ≡ Some id → busy_with h other ≡ Some id → conn ≡ other
  opened : (conn id : ℕ) → busy_with h conn ≡ Some id → IsOpened h conn
  waiting : (id : ℕ) → is_ready h id ≡ true → fate_of h id ≡ []
  apart : (id conn : ℕ) → is_ready h id ≡ true → busy_with h conn ≡ Some id → ⊥

none_yet : Settling []
none_yet = record {
  once = λ id. omega arith;
  busy = λ conn id is. refl;
  alone = λ conn other id is was. absurd cc;
  opened = λ conn id is. absurd cc;
  waiting = λ id is. refl;
  apart = λ id conn is was. absurd cc;
}

-- an attempt that begins: of a message without a fate that waits no longer, that no connection is busy with, on an open one
record Begins (h : List Entry) (e : Event) (conn id : ℕ) : Type 0 where
  no_fate : fate_of h id ≡ []
  taken : is_ready_after id (is_ready h id) e ≡ false
  idle : IsIdle h id
  opened : IsOpened h conn
  alone : (other : ℕ) → busy_after other (busy_with h other) e ≡ Some id → other ≡ conn

-- what an event may do to a message
record Does (h : List Entry) (e : Event) : Type 0 where
  settles : (id : ℕ) → is_this (settled_in e) id ≡ true → (fate_of h id ≡ []) × ((conn : ℕ) → busy_after conn (busy_with h conn) e ≡ Some id → ⊥)
  begins : (conn id : ℕ) → busy_after conn (busy_with h conn) e ≡ Some id → (busy_with h conn ≡ Some id) ⊎ Begins h e conn id
  readies : (id : ℕ) → is_ready_after id (is_ready h id) e ≡ true → (is_ready h id ≡ true) ⊎ ((fate_of h id ≡ []) × IsIdle h id)

unsettled : (h : List Entry) (e : Entry) (id : ℕ) → is_this (settled_in e.what) id ≡ false → fate_of (h ++ e ∷ []) id ≡ fate_of h id
unsettled h e id not_it = fate_of-more h e id ∙ ap (λ b. fate_of h id ++ cond b (e ∷ []) []) not_it ∙ append-nil (fate_of h id)

-- what is ready afterwards is not settled by the event
ready_unsettled : (e : Event) (id : ℕ) (was : Bool) → is_ready_after id was e ≡ true → is_this (settled_in e) id ≡ false
ready_unsettled (promoted of source) id was is = refl
ready_unsettled (Begun conn of key) id was is = refl
ready_unsettled (Delayed of next) id was is = by (is_final next) (not-true (eqb of id) (and_parts (not (eqb of id)) was is).0)
  where
    by : (final : Bool) → eqb of id ≡ false → is_this (cond final (Some of) None) id ≡ false
    by true other = other
    by false other = refl
ready_unsettled e id was is = not-true (is_this (settled_in e) id) (and_parts (not (is_this (settled_in e) id)) was is).0

one_at_most : (h : List Entry) (e : Entry) (id : ℕ) → fate_of h id ≡ [] → length (fate_of (h ++ e ∷ []) id) ≤ 1
one_at_most h e id none =
    subst (λ xs. length xs ≤ 1) (sym (fate_of-more h e id ∙ ap (λ xs. xs ++ fate_of (e ∷ []) id) none)) (by (is_this (settled_in e.what) id))
  where
    by : (b : Bool) → length (cond b (e ∷ []) []) ≤ 1
    by true = omega arith
    by false = omega arith

module _ (h : List Entry) (e : Entry) (k : Settling h) (d : Does h e.what) where
  once_then : (id : ℕ) → length (fate_of (h ++ e ∷ []) id) ≤ 1
  once_then id =
      ⊎_elim
      (λ is. one_at_most h e id (d.settles id is).0)
      (λ other. subst (λ xs. length xs ≤ 1) (sym (unsettled h e id other)) (k.once id))
      (cases_Bool (is_this (settled_in e.what) id))

  busy_then : (conn id : ℕ) → busy_after conn (busy_with h conn) e.what ≡ Some id → fate_of (h ++ e ∷ []) id ≡ []
  busy_then conn id is =
      ⊎_elim
      (λ settled. absurd ((d.settles id settled).1 conn is))
      (λ other. unsettled h e id other ∙ ⊎_elim (λ was. k.busy conn id was) (λ new. new.no_fate) (d.begins conn id is))
      (cases_Bool (is_this (settled_in e.what) id))

  alone_then : (conn other id : ℕ) → busy_after conn (busy_with h conn) e.what ≡ Some id → busy_after other (busy_with h other) e.what ≡ Some id → conn ≡ other
  alone_then conn other id is also =
      ⊎_elim
      (λ was. ⊎_elim (λ old. k.alone conn other id was old) (λ new. absurd (new.idle conn was)) (d.begins other id also))
      (λ new. sym (new.alone other also))
      (d.begins conn id is)

  opened_then : (conn id : ℕ) → busy_after conn (busy_with h conn) e.what ≡ Some id → IsOpened (h ++ e ∷ []) conn
  opened_then conn id is =
      connections-kept h e (λ c. eqb c.number conn) (⊎_elim (λ was. k.opened conn id was) (λ new. new.opened) (d.begins conn id is))

  waiting_then : (id : ℕ) → is_ready_after id (is_ready h id) e.what ≡ true → fate_of (h ++ e ∷ []) id ≡ []
  waiting_then id is =
      unsettled h e id (ready_unsettled e.what id (is_ready h id) is) ∙ ⊎_elim (λ was. k.waiting id was) (λ new. new.0) (d.readies id is)

  apart_then : (id conn : ℕ) → is_ready_after id (is_ready h id) e.what ≡ true → busy_after conn (busy_with h conn) e.what ≡ Some id → ⊥
  apart_then id conn is busy =
      ⊎_elim
      (λ was. ⊎_elim (λ old. k.apart id conn old was) (λ new. new.1 conn was) (d.readies id is))
      (λ new. both_ways (is_ready_after id (is_ready h id) e.what) new.taken is)
      (d.begins conn id busy)

  settling_then : Settling (h ++ e ∷ [])
  settling_then = record {
    once = once_then;
    busy = λ conn id is. busy_then conn id (sym (busy_with-more h e conn) ∙ is);
    alone = λ conn other id is also. alone_then conn other id (sym (busy_with-more h e conn) ∙ is) (sym (busy_with-more h e other) ∙ also);
    opened = λ conn id is. opened_then conn id (sym (busy_with-more h e conn) ∙ is);
    waiting = λ id is. waiting_then id (sym (is_ready-more h e id) ∙ is);
    apart = λ id conn is busy. apart_then id conn (sym (is_ready-more h e id) ∙ is) (sym (busy_with-more h e conn) ∙ busy);
  }

-- what no connection is busy with is attempted on none
is_in_flight-none : (h : List Entry) → Settling h → (id : ℕ) → is_in_flight h id ≡ false → IsIdle h id
is_in_flight-none h k id free conn busy =
    let (c, there, same) = any_there (λ c. eqb c.number conn) (connections h) (k.opened conn id busy) in
    let this : is_this (busy_with h c.number) id ≡ true = ap (λ o. is_this o id) (ap (busy_with h) (eqb-true c.number conn same) ∙ busy) ∙ eq-eqb id id refl in
    both_ways (is_in_flight h id) free (there_any (λ c. is_this (busy_with h c.number) id) (connections h) c there this)

-- an event that settles no message, begins and ends no attempt, and promotes none
quiet : (h : List Entry) (e : Event) → ((id : ℕ) → is_this (settled_in e) id ≡ false) → ((conn : ℕ) (was : Option ℕ) → busy_after conn was e ≡ was)
    → ((id : ℕ) (was : Bool) → is_ready_after id was e ≡ was) → Does h e
quiet h e s b r = record {
  settles = λ id is. absurd (both_ways (is_this (settled_in e) id) (s id) is);
  begins = λ conn id is. inl (sym (b conn (busy_with h conn)) ∙ is);
  readies = λ id is. inl (sym (r id (is_ready h id)) ∙ is);
}

promotes : (policy : Policy) (h : List Entry) (t of : ℕ) (source : List ℕ) → Settling h → fate_of h of ≡ [] → IsIdle h of → Does h (promoted of source)
promotes policy h t of source k fate idle = record {
  settles = λ id is. absurd (false≢true is);
  begins = λ conn id is. inl is;
  readies = λ id is. ⊎_elim
      (λ same. let it : of ≡ id = eqb-true of id same in inr (subst (λ i. fate_of h i ≡ []) it fate, subst (IsIdle h) it idle))
      (λ was. inl was)
      (or_cases (eqb of id) (is_ready h id) is);
}

begun_cases : (b : Bool) (was : Option ℕ) (conn of other id : ℕ) → eqb conn other ≡ b → cond b (Some of) was ≡ Some id → ((conn ≡ other) × (of ≡ id)) ⊎ (was ≡ Some id)
begun_cases true was conn of other id same is = inl (eqb-true conn other same, same_Some _ _ is)
begun_cases false was conn of other id differs is = inr is

begins_it : (h : List Entry) (conn of key : ℕ) → fate_of h of ≡ [] → IsIdle h of → IsOpened h conn → Begins h (Begun conn of key) conn of
begins_it h conn of key fate idle opened = record {
  no_fate = fate;
  taken = ap (λ b. not b && is_ready h of) (eq-eqb of of refl);
  idle = idle;
  opened = opened;
  alone = λ other busy.
      ⊎_elim (λ new. sym new.0) (λ was. absurd (idle other was)) (begun_cases (eqb conn other) (busy_with h other) conn of other of refl busy);
}

attempts : (h : List Entry) (conn of key : ℕ) → fate_of h of ≡ [] → IsIdle h of → IsOpened h conn → Does h (Begun conn of key)
attempts h conn of key fate idle opened = record {
  settles = λ id is. absurd (false≢true is);
  begins = λ other id is.
      ⊎_elim
      (λ new. inr (subst (λ i. Begins h (Begun conn of key) other i) new.1 (subst (λ c. Begins h (Begun conn of key) c of) new.0 (begins_it h conn of key fate idle opened))))
      (λ was. inl was)
      (begun_cases (eqb conn other) (busy_with h other) conn of other id refl is);
  readies = λ id is. inl (and_parts (not (eqb of id)) (is_ready h id) is).1;
}

final_same : (final : Bool) (of id : ℕ) → is_this (cond final (Some of) None) id ≡ true → of ≡ id
final_same true of id is = eqb-true of id is
final_same false of id is = absurd (false≢true is)

ended_cases : (b : Bool) (was : Option ℕ) (id : ℕ) → cond b None was ≡ Some id → (was ≡ Some id) × (b ≡ false)
ended_cases true was id is = absurd cc
ended_cases false was id is = (is, refl)

ends : (h : List Entry) (conn of : ℕ) (decided : Outcome) (next : Next) → Settling h → busy_with h conn ≡ Some of → Does h (Ended conn of decided next)
ends h conn of decided next k busy = record {
  settles = λ id is.
      let same : of ≡ id = final_same (is_final next) of id is in
      let here : busy_with h conn ≡ Some id = busy ∙ ap Some same in (
        k.busy conn id here,
        λ other also.
            let (was, differs) = ended_cases (eqb conn other) (busy_with h other) id also in
            eqb-false conn other differs (k.alone conn other id here was),
      );
  begins = λ other id is. inl (ended_cases (eqb conn other) (busy_with h other) id is).0;
  readies = λ id is. inl (and_parts (not (is_this (cond (is_final next) (Some of) None) id)) (is_ready h id) is).1;
}

delays : (h : List Entry) (of : ℕ) (next : Next) → Settling h → is_ready h of ≡ true → Does h (Delayed of next)
delays h of next k ready = record {
  settles = λ id is.
      let now : is_ready h id ≡ true = subst (λ i. is_ready h i ≡ true) (final_same (is_final next) of id is) ready in
      (k.waiting id now, λ conn busy. k.apart id conn now busy);
  begins = λ conn id is. inl is;
  readies = λ id is. inl (and_parts (not (eqb of id)) (is_ready h id) is).1;
}

resolves : (h : List Entry) (of : ℕ) (how : How) → fate_of h of ≡ [] → IsIdle h of → Does h (Resolved of how)
resolves h of how fate idle = record {
  settles = λ id is.
      let same : of ≡ id = eqb-true of id is in
      (subst (λ i. fate_of h i ≡ []) same fate, subst (IsIdle h) same idle);
  begins = λ conn id is. inl is;
  readies = λ id is. inl (and_parts (not (eqb of id)) (is_ready h id) is).1;
}

-- an open connection was opened, and is not closed
pub live_opened : (h : List Entry) (conn who : ℕ) → list_any (λ c. eqb c.number conn && eqb c.who who) (open_anywhere h) ≡ true
    → IsOpened h conn × (is_closed h conn ≡ false)
live_opened h conn who is =
    let (c, there, test) = any_there (λ c. eqb c.number conn && eqb c.who who) (open_anywhere h) is in
    let both : Passing (λ c. not (is_closed h c.number)) (connections h) c = filter_there (λ c. not (is_closed h c.number)) (connections h) c there in
    let same : eqb c.number conn ≡ true = (and_parts (eqb c.number conn) (eqb c.who who) test).0 in (
      there_any (λ c. eqb c.number conn) (connections h) c both.0 same,
      subst (λ n. is_closed h n ≡ false) (eqb-true c.number conn same) (not-true (is_closed h c.number) both.1),
    )

does_promote : (policy : Policy) (h : List Entry) (t of : ℕ) (source : List ℕ) → Settling h → Row policy h t 0 (promoted of source) → Does h (promoted of source)
does_promote policy h t of source k row =
    let next = swept_promotion policy h t of source row in
    let m = next.message in
    let waits : (not (is_ready h m.id) && not (is_in_flight h m.id)) ≡ true =
    (and_parts _ (leb (due h m) t) (and_parts _ (is_free policy h t m) (and_parts _ (is_some (pick_for policy h t m)) next.promotable).0).0).0 in
    let free : is_in_flight h m.id ≡ false = not-true (is_in_flight h m.id) (and_parts (not (is_ready h m.id)) (not (is_in_flight h m.id)) waits).1 in
    promotes policy h t of source k
    (subst (λ i. fate_of h i ≡ []) next.same (pending_there h m next.waits).1)
    (subst (IsIdle h) next.same (is_in_flight-none h k m.id free))

does_attempt : (policy : Policy) (h : List Entry) (t who conn of key : ℕ) → IsLegal policy h → Settling h → Row policy h t who (Begun conn of key) → Does h (Begun conn of key)
does_attempt policy h t who conn of key legal k row =
    let work = at_work policy h t conn of row.2 in
    let ready : is_ready h of ≡ true = ready_is policy h legal work.path of (first_there policy h t work.path of work.works.first).0 in
    attempts h conn of key (k.waiting of ready) (λ other busy. k.apart of other ready busy) (live_opened h conn who row.0).0

does_delay : (policy : Policy) (h : List Entry) (t who of : ℕ) (next : Next) → IsLegal policy h → Settling h → Row policy h t who (Delayed of next) → Does h (Delayed of next)
does_delay policy h t who of next legal k row =
    let (q, there, same) = delayable_there policy h t row.0 row.2.0 in
    let it : q.id ≡ of = same ∙ (pending_found h of row.0 row.1).0 in
    delays h of next k (subst (λ i. is_ready h i ≡ true) it (are_ready policy h legal q there))

does_resolve : (policy : Policy) (h : List Entry) (t who of : ℕ) (how : How) → Settling h → Row policy h t who (Resolved of how) → Does h (Resolved of how)
does_resolve policy h t who of how k row =
    let found : (row.0.id ≡ of) × (fate_of h of ≡ []) = pending_found h of row.0 row.1 in
    let free : is_in_flight h row.0.id ≡ false =
    not-true (is_in_flight h row.0.id) (and_parts (not (is_in_flight h row.0.id)) (is_some (bounced_by h t row.0.name) || is_aged policy t row.0) row.2.0).0 in
    resolves h of how found.1 (subst (IsIdle h) found.0 (is_in_flight-none h k row.0.id free))

does : (policy : Policy) (h : List Entry) (t who : ℕ) (e : Event) → IsLegal policy h → Settling h → Row policy h t who e → Does h e
does policy h t who (promoted of source) legal k row = does_promote policy h t of source k row
does policy h t who (Begun conn of key) legal k row = does_attempt policy h t who conn of key legal k row
does policy h t who (Ended conn of decided next) legal k row = ends h conn of decided next k row.1
does policy h t who (Delayed of next) legal k row = does_delay policy h t who of next legal k row
does policy h t who (Resolved of how) legal k row = does_resolve policy h t who of how k row
does policy h t who _ legal k row = quiet h _ (λ id. refl) (λ conn was. refl) (λ id was. refl)

settling : (policy : Policy) (h : List Entry) → IsLegal policy h → Settling h
settling policy h legal =
    IsLegal-along policy Settling none_yet
    (λ h e before k follows. settling_then h e k (does policy h e.at e.who e.what before k follows.row))
    h legal

-- each message has one fate at most
pub fate_of-once : (policy : Policy) (h : List Entry) → IsLegal policy h → (id : ℕ) → length (fate_of h id) ≤ 1
fate_of-once policy h legal id = (settling policy h legal).once id

-- a message that is being attempted has no fate, and is attempted on one connection alone
pub busy_with-pending : (policy : Policy) (h : List Entry) → IsLegal policy h → (conn id : ℕ) → busy_with h conn ≡ Some id → fate_of h id ≡ []
busy_with-pending policy h legal conn id is = (settling policy h legal).busy conn id is

pub busy_with-alone : (policy : Policy) (h : List Entry) → IsLegal policy h → (conn other id : ℕ) → busy_with h conn ≡ Some id → busy_with h other ≡ Some id → conn ≡ other
busy_with-alone policy h legal conn other id is was = (settling policy h legal).alone conn other id is was

-- a ready message has no fate
pub is_ready-pending : (policy : Policy) (h : List Entry) → IsLegal policy h → (id : ℕ) → is_ready h id ≡ true → fate_of h id ≡ []
is_ready-pending policy h legal id is = (settling policy h legal).waiting id is

pub ready-pending : (policy : Policy) (h : List Entry) → IsLegal policy h → (path : Path) (id : ℕ) → Contains (ready policy h path) id → fate_of h id ≡ []
ready-pending policy h legal path id there = is_ready-pending policy h legal id (ready_is policy h legal path id there)

one_of : (n : ℕ) → n ≤ 1 → (n ≡ 0 → ⊥) → n ≡ 1
one_of n few some = ⊎_elim (λ none. absurd (some none)) (λ one. omega (arith, one, few)) (by (cases_eq n 0))
  where
    by : (n ≡ 0) ⊎ (n ≡ 0 → ⊥) → (n ≡ 0) ⊎ (1 ≤ n)
    by (inl none) = inl none
    by (inr more) = inr (omega (arith, more))

-- a message is pending, or has one fate
pub pending_or_once : (policy : Policy) (h : List Entry) → IsLegal policy h → (m : Message) → Contains (messages h) m → Contains (pending h) m ⊎ (length (fate_of h m.id) ≡ 1)
pending_or_once policy h legal m there =
    ⊎_elim
    (λ none. inl (there_filter (λ m. eqb (length (fate_of h m.id)) 0) (messages h) m there none))
    (λ some. inr (one_of (length (fate_of h m.id)) (fate_of-once policy h legal m.id) (eqb-false (length (fate_of h m.id)) 0 some)))
    (cases_Bool (eqb (length (fate_of h m.id)) 0))

pub pending-none : (policy : Policy) (h : List Entry) → IsLegal policy h → (m : Message) → Contains (pending h) m → fate_of h m.id ≡ []
pending-none policy h legal m there = (pending_there h m there).1
