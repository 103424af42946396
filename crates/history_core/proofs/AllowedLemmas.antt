-- What had to hold where a connection was opened, and where an attempt began.
use Rattle.std.proofs.Common.{◌≡◌, ◌≤◌, ◌<◌, ℕ, List, [], ◌∷◌, ◌++◌, true, false, not, Option, Some, None, length, eqb, ltb, bytes_eq, arith, refl, sym, ap, subst, ◌∙◌}
use Rattle.std.specs.List.{Contains, find}
use Rattle.std.specs.Option.{option_map, option_and_then, is_some}
use Rattle.std.proofs.lemmas.Bool.{and_parts, eqb-true, leb-false, ltb-false, ltb-true, not-true, both_ways}
use Rattle.std.proofs.lemmas.Option.{same_Some}
use Rattle.std.proofs.lemmas.Slice.Eq.{bytes_eq-Decides}
use Rattle.kumo_base.specs.Limits.{latest_moment}
use Rattle.kumo_base.specs.Moment.{clamped}
use Rattle.queue_name.specs.QueueName.{Name}
use Rattle.queue_name.specs.declared.message.Message.{Message}
use Rattle.throttle_spec.specs.Throttle.{Throttle, conforms}
use Rattle.throttle_spec.specs.Rates.{admits}
use Rattle.throttle_spec.proofs.BucketLemmas.{conforms_decides}
use Rattle.policy_core.specs.Policy.{Policy}
use Rattle.policy_core.specs.LiveOrders.{holds, bounces}
use Rattle.policy_core.specs.declared.orders.Order.{Order}
use Rattle.policy_core.specs.declared.orders.Order.TheVariants.{Suspend, SuspendReady, Bounce, Resume}
use Rattle.history_core.specs.declared.entry.Entry.{Entry}
use Rattle.history_core.specs.declared.entry.Event.TheVariants.{Opened, Begun}
use Rattle.history_core.specs.declared.path.Path.{Path}
use Rattle.history_core.specs.History.{messages, message_with, has_id, text_of, paths, path_named}
use Rattle.history_core.specs.Fate.{fate_of}
use Rattle.history_core.specs.LiveOrders.{GivenOrder, live_orders, is_held, bounced_by}
use Rattle.history_core.specs.Connection.{Connection, connections, connection_with, path_of_connection, used, open_connections}
use Rattle.history_core.specs.Firing.{is_halted, is_covered}
use Rattle.history_core.specs.Limits.{limits, opened_moments, begun_moments}
use Rattle.history_core.specs.Ready.{ready, is_some_free, is_free_id, first_free}
use Rattle.history_core.specs.Openable.{admits_opening, admits_beginning, is_openable, message_key}
use Rattle.history_core.specs.Allowed.{KeepsRate, HasFreeMessage, AllowsOpening, AllowsAttempt}
use Rattle.history_core.specs.Legal.{Row, IsLegal}
use Rattle.history_core.proofs.Lists.{Passing, find_there, find-filter, there_any}
use Rattle.history_core.proofs.LegalLemmas.{IsLegal-front, IsLegal-at}
use Rattle.history_core.proofs.Picked.{at_work, first_there, opened_next}
use Rattle.history_core.proofs.Settling.{live_opened, ready-pending}

-- a moment up to the latest is itself
pub clamped_within : (t : ℕ) → t ≤ latest_moment → clamped t ≡ t
clamped_within t within = omega (arith, within)

-- what a rate admits keeps it
keeps_rate : (rate : Option Throttle) (moments : List ℕ) (t : ℕ) → t ≤ latest_moment → admits rate moments t ≡ true → KeepsRate rate (moments ++ t ∷ [])
keeps_rate None moments t within is = tt
keeps_rate (Some s) moments t within is =
    let same : clamped t ≡ t = clamped_within t within in
    (conforms_decides s (moments ++ t ∷ [])).0 (subst (λ u. conforms s (moments ++ u ∷ []) ≡ true) same is)

-- no order of those that bounce a message lets it go
bounce_holds : (o : Order) (name : Name) → bounces o name ≡ true → holds o name ≡ true
bounce_holds (Suspend criteria reason duration) name is = absurd cc
bounce_holds (SuspendReady path reason duration) name is = absurd cc
bounce_holds (Bounce criteria reason duration) name is = is
bounce_holds (Resume number) name is = absurd cc

unbounced_by : (h : List Entry) (t : ℕ) (name : Name) → is_held h t name ≡ false → (o : Option GivenOrder)
    → find (λ (o : GivenOrder). bounces o.order name) (live_orders h t) ≡ o → option_map (λ (o : GivenOrder). o.number) o ≡ None
unbounced_by h t name free None is = refl
unbounced_by h t name free (Some o) is =
    let there : Passing (λ (o : GivenOrder). bounces o.order name) (live_orders h t) o = find_there (λ (o : GivenOrder). bounces o.order name) (live_orders h t) o is in
    absurd (both_ways (is_held h t name) free
    (there_any (λ (o : GivenOrder). holds o.order name) (live_orders h t) o there.0 (bounce_holds o.order name there.1)))

unbounced : (h : List Entry) (t : ℕ) (name : Name) → is_held h t name ≡ false → bounced_by h t name ≡ None
unbounced h t name free = unbounced_by h t name free _ refl

free_by : (policy : Policy) (h : List Entry) (t id : ℕ) (path : Path) (o : Option Message) → message_with h id ≡ o → is_some_free policy h t o ≡ true
    → Contains (ready policy h path) id → fate_of h id ≡ [] → HasFreeMessage policy h t path id
free_by policy h t id path None found free there fate = absurd cc
free_by policy h t id path (Some m) found free there fate =
    let both : (not (is_held h t m.name) ≡ true) × (not (is_covered policy h t m) ≡ true) = and_parts (not (is_held h t m.name)) (not (is_covered policy h t m)) free in
    let same : m.id ≡ id = eqb-true m.id id (find_there (has_id id) (messages h) m found).1 in
    let none : eqb (length (fate_of h m.id)) 0 ≡ true = ap (λ i. eqb (length (fate_of h i)) 0) same ∙ ap (λ (xs : List Entry). eqb (length xs) 0) fate in
    record {
      message = m;
      is_ready = there;
      is_pending = find-filter (has_id id) (λ m. eqb (length (fate_of h m.id)) 0) (messages h) m found none;
      not_held = not-true (is_held h t m.name) both.0;
      not_covered = not-true (is_covered policy h t m) both.1;
      not_bounced = unbounced h t m.name (not-true (is_held h t m.name) both.0);
    }

-- the first free ready message of a path
free_message : (policy : Policy) (h : List Entry) → IsLegal policy h → (t : ℕ) (path : Path) (id : ℕ) → first_free policy h t path ≡ Some id
    → HasFreeMessage policy h t path id
free_message policy h legal t path id is =
    let there : Passing (is_free_id policy h t) (ready policy h path) id = first_there policy h t path id is in
    free_by policy h t id path (message_with h id) refl there.1 there.0 (ready-pending policy h legal path id there.0)

some_is : (o : Option ℕ) → is_some o ≡ true → (id : ℕ) × (o ≡ Some id)
some_is None is = absurd cc
some_is (Some id) is = (id, refl)

pub opening : (policy : Policy) (h : List Entry) (t who conn : ℕ) (text : List ℕ) (key : ℕ) → IsLegal policy h → t ≤ latest_moment
    → Row policy h t who (Opened conn text key) → AllowsOpening policy h t text key
opening policy h t who conn text key legal within row =
    let p : Path = row.3 in
    let there : Passing (is_openable policy h t) (paths policy h) p = opened_next policy h t p row.4 in
    let named : text ≡ text_of p = row.5 in
    let keyed : key ≡ (limits policy h t p).connection_key = row.6 in
    let four = and_parts _ (admits_beginning policy h t p) there.1 in
    let three = and_parts _ (admits_opening policy h t p) four.0 in
    let two = and_parts _ (is_some (first_free policy h t p)) three.0 in
    let one = and_parts (not (is_halted policy h t p)) (ltb (length (open_connections h (text_of p))) (limits policy h t p).connection_limit) two.0 in
    let first = some_is (first_free policy h t p) two.1 in
    let below : length (open_connections h (text_of p)) < (limits policy h t p).connection_limit = ltb-true _ _ one.1 in
    let rate : KeepsRate (limits policy h t p).connection_rate (opened_moments h (text_of p) (limits policy h t p).connection_key ++ t ∷ []) =
    keeps_rate (limits policy h t p).connection_rate (opened_moments h (text_of p) (limits policy h t p).connection_key) t within three.1 in
    record {
      path = p;
      is_path = there.0;
      has_text = named;
      not_halted = not-true (is_halted policy h t p) one.0;
      below_limit = subst (λ x. length (open_connections h x) < (limits policy h t p).connection_limit) (sym named) below;
      first = first.0;
      message = free_message policy h legal t p first.0 first.1;
      has_key = keyed;
      rate = subst (λ x. KeepsRate (limits policy h t p).connection_rate (opened_moments h x key ++ t ∷ [])) (sym named)
          (subst (λ k. KeepsRate (limits policy h t p).connection_rate (opened_moments h (text_of p) k ++ t ∷ [])) (sym keyed) rate);
    }

-- a path is named by its text
pub named_text : (policy : Policy) (h : List Entry) (text : List ℕ) (p : Path) → path_named policy h text ≡ Some p → text_of p ≡ text
named_text policy h text p is = (bytes_eq-Decides (text_of p) text).0 (find_there (λ p. bytes_eq (text_of p) text) (paths policy h) p is).1

key_is : (policy : Policy) (h : List Entry) (t conn key : ℕ) (c : Connection) (p : Path) → connection_with h conn ≡ Some c → path_named policy h c.path ≡ Some p
    → message_key policy h t conn ≡ Some key → key ≡ (limits policy h t p).message_key
key_is policy h t conn key c p opened named is =
    let path : path_of_connection h conn ≡ Some c.path = ap (option_map (λ (c : Connection). c.path)) opened in
    let found : option_and_then (path_named policy h) (path_of_connection h conn) ≡ Some p = ap (option_and_then (path_named policy h)) path ∙ named in
    same_Some key (limits policy h t p).message_key (sym is ∙ ap (option_map (λ p. (limits policy h t p).message_key)) found)

pub attempt : (policy : Policy) (h : List Entry) (t who conn id key : ℕ) → IsLegal policy h → t ≤ latest_moment
    → Row policy h t who (Begun conn id key) → AllowsAttempt policy h t conn id key
attempt policy h t who conn id key legal within row =
    let at = at_work policy h t conn id row.2 in
    let c : Connection = at.connection in
    let p : Path = at.path in
    let number : c.number ≡ conn = eqb-true c.number conn (find_there (λ (c : Connection). eqb c.number conn) (connections h) c at.opened).1 in
    let text : text_of p ≡ c.path = named_text policy h c.path p at.named in
    let keyed : key ≡ (limits policy h t p).message_key = key_is policy h t conn key c p at.opened at.named row.3 in
    let unspent : used h c.number < (limits policy h t p).deliveries = leb-false _ _ at.works.unspent in
    let few : length (open_connections h (text_of p)) ≤ (limits policy h t p).connection_limit = ltb-false _ _ at.works.within in
    let rate : KeepsRate (limits policy h t p).message_rate (begun_moments h (text_of p) (limits policy h t p).message_key ++ t ∷ []) =
    keeps_rate (limits policy h t p).message_rate (begun_moments h (text_of p) (limits policy h t p).message_key) t within at.works.admitted in
    record {
      connection = c;
      path = p;
      was_opened = at.opened;
      not_closed = (live_opened h conn who row.0).1;
      not_busy = row.1;
      has_path = at.named;
      not_halted = at.works.running;
      not_spent = subst (λ n. used h n < (limits policy h t p).deliveries) number unspent;
      within_limit = subst (λ x. length (open_connections h x) ≤ (limits policy h t p).connection_limit) text few;
      message = free_message policy h legal t p id at.works.first;
      has_key = keyed;
      rate = subst (λ x. KeepsRate (limits policy h t p).message_rate (begun_moments h x key ++ t ∷ [])) text
          (subst (λ k. KeepsRate (limits policy h t p).message_rate (begun_moments h (text_of p) k ++ t ∷ [])) (sym keyed) rate);
    }

pub opening_allowed : (policy : Policy) (h : List Entry) (e : Entry) (later : List Entry) → IsLegal policy (h ++ e ∷ later)
    → (conn : ℕ) (text : List ℕ) (key : ℕ) → e.what ≡ Opened conn text key → AllowsOpening policy h e.at text key
opening_allowed policy h e later legal conn text key is =
    let follows = IsLegal-at policy h e later legal in
    opening policy h e.at e.who conn text key (IsLegal-front policy h (e ∷ later) legal) follows.proper.moment (subst (λ x. Row policy h e.at e.who x) is follows.row)

pub attempt_allowed : (policy : Policy) (h : List Entry) (e : Entry) (later : List Entry) → IsLegal policy (h ++ e ∷ later)
    → (conn id key : ℕ) → e.what ≡ Begun conn id key → AllowsAttempt policy h e.at conn id key
attempt_allowed policy h e later legal conn id key is =
    let follows = IsLegal-at policy h e later legal in
    attempt policy h e.at e.who conn id key (IsLegal-front policy h (e ∷ later) legal) follows.proper.moment (subst (λ x. Row policy h e.at e.who x) is follows.row)
