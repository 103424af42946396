-- Connections are numbered from 1, and no two messages share an id.
use Rattle.std.proofs.Common.{◌≡◌, ◌≤◌, ◌<◌, ◌+◌, ⊎_elim, ℕ, List, [], ◌∷◌, ◌++◌, Bool, true, false, cond, length, get_or, filter, arith, refl, sym, ap, subst, ◌∙◌, append-nil, length-append}
use Rattle.std.specs.List.{list_any}
use Rattle.std.proofs.lemmas.Bool.{cases_lt, eqb-true, or_parts}
use Rattle.std.proofs.lemmas.List.{get_or_append_left, get_or_push}
use Rattle.std.proofs.lemmas.List.Elements.{filter-append}
use Rattle.queue_name.specs.declared.message.Message.{Message}
use Rattle.policy_core.specs.Policy.{Policy}
use Rattle.history_core.specs.declared.entry.Entry.{Entry}
use Rattle.history_core.specs.declared.entry.Event.{Event}
use Rattle.history_core.specs.declared.entry.Event.TheVariants.{Recovered, Accepted, Opened}
use Rattle.history_core.specs.History.{messages, has_id}
use Rattle.history_core.specs.Connection.{Connection, connections}
use Rattle.history_core.specs.Legal.{Row, IsLegal}
use Rattle.history_core.proofs.LegalLemmas.{IsLegal-induction}
use Rattle.history_core.proofs.OneMore.{messages-more, connections-more}

abbrev AreNumbered : List Connection → Type 0
AreNumbered cs = (k : ℕ) (d : Connection) → k < length cs → (get_or cs k d).number ≡ k + 1

AreNumbered-push : (cs : List Connection) (c : Connection) → c.number ≡ length cs + 1 → AreNumbered cs → AreNumbered (cs ++ c ∷ [])
AreNumbered-push cs c last before k d within =
    ⊎_elim
    (λ earlier. ap (λ x. x.number) (get_or_append_left cs (c ∷ []) d k earlier) ∙ before k d earlier)
    (λ past.
    let one = length-append cs (c ∷ []) in
    let here : length cs ≡ k = omega (arith, one) in
    ap (λ x. x.number) (get_or_push cs c d k here) ∙ last ∙ ap (λ n. n + 1) here)
    (cases_lt k (length cs))

numbered_step : (p : Policy) (h : List Entry) (at who : ℕ) (e : Event) → AreNumbered (connections h) → Row p h at who e
    → AreNumbered (connections h ++ connections (record { at = at; who = who; what = e } ∷ []))
numbered_step p h at who (Opened conn path key) k row = AreNumbered-push (connections h) _ row.2 k
numbered_step p h at who _ k row = subst AreNumbered (sym (append-nil (connections h))) k

-- the connections of a legal history have the numbers 1, 2, 3 and so on, in the order of their opening
pub connections-numbered : (p : Policy) (h : List Entry) → IsLegal p h → (k : ℕ) (d : Connection) → k < length (connections h)
    → (get_or (connections h) k d).number ≡ k + 1
connections-numbered p h legal =
    IsLegal-induction
    p
    (λ h. AreNumbered (connections h))
    (λ k d within. absurd (omega (arith, within)))
    (λ h e k follows. subst AreNumbered (sym (connections-more h e)) (numbered_step p h e.at e.who e.what k follows.row))
    h
    legal

filter-none : (p : Message → Bool) (ms : List Message) → list_any p ms ≡ false → filter p ms ≡ []
filter-none p [] is = refl
filter-none p (m ∷ ms) is =
    let (here, later) = or_parts (p m) (list_any p ms) is in
    ap (λ b. cond b (m ∷ filter p ms) (filter p ms)) here ∙ filter-none p ms later

abbrev AreOnce : List Message → Type 0
AreOnce ms = (id : ℕ) → length (filter (has_id id) ms) ≤ 1

with_new : (m : Message) (ms : List Message) (id : ℕ) (b : Bool) → has_id id m ≡ b → list_any (has_id m.id) ms ≡ false → length (filter (has_id id) ms) ≤ 1
    → length (filter (has_id id) ms ++ cond b (m ∷ []) []) ≤ 1
with_new m ms id true is fresh few =
    let same : m.id ≡ id = eqb-true m.id id is in
    let none : filter (has_id id) ms ≡ [] = filter-none (has_id id) ms (subst (λ i. list_any (has_id i) ms ≡ false) same fresh) in
    subst (λ xs. length (xs ++ m ∷ []) ≤ 1) (sym none) (omega arith)
with_new m ms id false is fresh few = subst (λ xs. length xs ≤ 1) (sym (append-nil (filter (has_id id) ms))) few

AreOnce-push : (ms : List Message) (m : Message) → list_any (has_id m.id) ms ≡ false → AreOnce ms → AreOnce (ms ++ m ∷ [])
AreOnce-push ms m fresh before id =
    subst (λ xs. length xs ≤ 1) (sym (filter-append (has_id id) ms (m ∷ []))) (with_new m ms id (has_id id m) refl fresh (before id))

once_step : (p : Policy) (h : List Entry) (at who : ℕ) (e : Event) → AreOnce (messages h) → Row p h at who e
    → AreOnce (messages h ++ messages (record { at = at; who = who; what = e } ∷ []))
once_step p h at who (Recovered m failed due_at) k row = AreOnce-push (messages h) m row.1 k
once_step p h at who (Accepted m) k row = AreOnce-push (messages h) m row k
once_step p h at who _ k row = subst AreOnce (sym (append-nil (messages h))) k

-- no two messages share an id
pub messages-once : (p : Policy) (h : List Entry) → IsLegal p h → (id : ℕ) → length (filter (has_id id) (messages h)) ≤ 1
messages-once p h legal =
    IsLegal-induction
    p
    (λ h. AreOnce (messages h))
    (λ id. omega arith)
    (λ h e k follows. subst AreOnce (sym (messages-more h e)) (once_step p h e.at e.who e.what k follows.row))
    h
    legal
