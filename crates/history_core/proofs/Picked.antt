-- What is known of the message that is promoted, resolved or delayed next, of the path that is opened next, and of the
-- message that is attempted next.
use Rattle.std.proofs.Common.{◌≡◌, ℕ, List, [], ◌∷◌, Bool, true, false, not, cond, ◌&&◌, Option, Some, None, option_map, length, filter, eqb, leb, ltb, arith, refl, ap, subst}
use Rattle.std.specs.List.{Contains, find}
use Rattle.std.specs.Option.{option_or, option_and_then}
use Rattle.std.proofs.lemmas.Bool.{and_parts, eqb-true}
use Rattle.std.proofs.lemmas.Option.{same_Some}
use Rattle.queue_name.specs.declared.message.Message.{Message}
use Rattle.policy_core.specs.Policy.{Policy}
use Rattle.history_core.specs.declared.entry.Entry.{Entry}
use Rattle.history_core.specs.declared.entry.Event.{Event}
use Rattle.history_core.specs.declared.entry.Event.TheVariants.{Promoted as promoted}
use Rattle.history_core.specs.declared.path.Path.{Path}
use Rattle.history_core.specs.declared.path.Promoted.{Promoted}
use Rattle.history_core.specs.History.{messages, has_id, is_same_path, path_named, text_of, paths}
use Rattle.history_core.specs.Fate.{fate_of, pending}
use Rattle.history_core.specs.Retry.{due}
use Rattle.history_core.specs.Connection.{Connection, connection_with, open_connections, used}
use Rattle.history_core.specs.Firing.{is_halted}
use Rattle.history_core.specs.Limits.{limits}
use Rattle.history_core.specs.Ready.{standing_promotions, ready, is_free_id, first_free}
use Rattle.history_core.specs.Candidates.{is_promotable, is_delayable, is_put_off, pick_for}
use Rattle.history_core.specs.Openable.{Verdict, stale, spent, shed, halted, throttled, work, admits_beginning, is_openable, is_stale, next_to_open, next_beginning, opened_rank, first_or_empty, verdict_on, verdict_of, verdict, least_by}
use Rattle.history_core.specs.Sweep.{resolution, next_resolved, next_delayed, promotion_by, next_promoted, next_swept}
use Rattle.history_core.proofs.Lists.{Passing, any_there, filter_there, find_there, least_there, map_there}

none_of_length : (xs : List Entry) → eqb (length xs) 0 ≡ true → xs ≡ []
none_of_length [] is = refl
none_of_length (x ∷ xs) is = let some : length (x ∷ xs) ≡ 0 = eqb-true (length (x ∷ xs)) 0 is in absurd (omega (arith, some))

-- a pending message came into the history and has no fate
pub pending_there : (h : List Entry) (m : Message) → Contains (pending h) m → Contains (messages h) m × (fate_of h m.id ≡ [])
pending_there h m c =
    let both : Passing (λ m. eqb (length (fate_of h m.id)) 0) (messages h) m = filter_there (λ m. eqb (length (fate_of h m.id)) 0) (messages h) m c in
    (both.0, none_of_length (fate_of h m.id) both.1)

-- the pending message of an id
pub pending_found : (h : List Entry) (id : ℕ) (m : Message) → find (has_id id) (pending h) ≡ Some m → (m.id ≡ id) × (fate_of h id ≡ [])
pending_found h id m is =
    let both : Passing (has_id id) (pending h) m = find_there (has_id id) (pending h) m is in
    let same : m.id ≡ id = eqb-true m.id id both.1 in
    (same, subst (λ i. fate_of h i ≡ []) same (pending_there h m both.0).1)

-- the sweep
third_of : (a b c : Option Event) (e : Event) → (a ≡ Some e → ⊥) → (b ≡ Some e → ⊥) → option_or a (option_or b c) ≡ Some e → c ≡ Some e
third_of (Some x) b c e not_first not_second is = absurd (not_first is)
third_of None (Some x) c e not_first not_second is = absurd (not_second is)
third_of None None c e not_first not_second is = is

resolves_none : (h : List Entry) (t id : ℕ) (source : List ℕ) (o : Option Message) → option_map (resolution h t) o ≡ Some (promoted id source) → ⊥
resolves_none h t id source None is = absurd cc
resolves_none h t id source (Some m) is = absurd cc

delays_none : (delay : Message → Event) (id : ℕ) (source : List ℕ) → ((m : Message) → delay m ≡ promoted id source → ⊥) → (o : Option Message)
    → option_map delay o ≡ Some (promoted id source) → ⊥
delays_none delay id source never None is = absurd cc
delays_none delay id source never (Some m) is = never m (same_Some _ _ is)

-- the message that is promoted next, and its source
pub record PromotedNext (policy : Policy) (h : List Entry) (t id : ℕ) (source : List ℕ) : Type 0 where
  pub message : Message
  pub waits : Contains (pending h) message
  pub promotable : is_promotable policy h t message ≡ true
  pub same : message.id ≡ id
  pub picked : pick_for policy h t message ≡ Some source

by_pick : (of id : ℕ) (source : List ℕ) (o : Option (List ℕ)) → option_map (promoted of) o ≡ Some (promoted id source) → (of ≡ id) × (o ≡ Some source)
by_pick of id source None is = absurd cc
by_pick of id source (Some s) is =
    let same : of ≡ id = cc in
    let also : s ≡ source = cc in
    (same, ap Some also)

by_message : (policy : Policy) (h : List Entry) (t id : ℕ) (source : List ℕ) (o : Option Message) → least_by (due h) (filter (is_promotable policy h t) (pending h)) ≡ o
    → option_and_then (λ m. promotion_by m (pick_for policy h t m)) o ≡ Some (promoted id source) → PromotedNext policy h t id source
by_message policy h t id source None least is = absurd cc
by_message policy h t id source (Some m) least is =
    let both : (m.id ≡ id) × (pick_for policy h t m ≡ Some source) = by_pick m.id id source (pick_for policy h t m) is in
    let there : Passing (is_promotable policy h t) (pending h) m =
    filter_there (is_promotable policy h t) (pending h) m (least_there (due h) (filter (is_promotable policy h t) (pending h)) m least) in
    record { message = m; waits = there.0; promotable = there.1; same = both.0; picked = both.1 }

pub swept_promotion : (policy : Policy) (h : List Entry) (t id : ℕ) (source : List ℕ) → next_swept policy h t ≡ Some (promoted id source)
    → PromotedNext policy h t id source
unfolding next_swept
swept_promotion policy h t id source is =
    by_message policy h t id source _ refl
    (third_of (next_resolved policy h t) (next_delayed policy h t) (next_promoted policy h t) (promoted id source)
    (resolves_none h t id source _) (delays_none _ id source (λ m is. absurd cc) _) is)

-- a path that is opened next is one of those that may be opened
pub opened_next : (policy : Policy) (h : List Entry) (t : ℕ) (p : Path) → next_to_open policy h t ≡ Some p → Passing (is_openable policy h t) (paths policy h) p
opened_next policy h t p is =
    filter_there (is_openable policy h t) (paths policy h) p (least_there (λ p. opened_rank h (text_of p)) (filter (is_openable policy h t) (paths policy h)) p is)

-- a ready message of a path is the message of a promotion that stands and leads there
pub ready_there : (policy : Policy) (h : List Entry) (path : Path) (id : ℕ) → Contains (ready policy h path) id
    → (q : Promoted) × Contains (standing_promotions policy h) q × (is_same_path q.path path ≡ true) × (q.id ≡ id)
ready_there policy h path id c =
    let (q, there, same) = map_there (λ (p : Promoted). p.id) (filter (λ (p : Promoted). is_same_path p.path path) (standing_promotions policy h)) id c in
    let both : Passing (λ (p : Promoted). is_same_path p.path path) (standing_promotions policy h) q = filter_there (λ (p : Promoted). is_same_path p.path path) (standing_promotions policy h) q there in
    (q, both.0, both.1, same)

-- so is one that is delayed
pub delayable_there : (policy : Policy) (h : List Entry) (t : ℕ) (m : Message) → is_delayable policy h t m ≡ true
    → (q : Promoted) × Contains (standing_promotions policy h) q × (q.id ≡ m.id)
delayable_there policy h t m is =
    let (q, there, passes) = any_there (λ (p : Promoted). eqb p.id m.id && is_put_off policy h t p) (standing_promotions policy h) is in
    (q, there, eqb-true q.id m.id (and_parts (eqb q.id m.id) (is_put_off policy h t q) passes).0)

-- what holds where a connection is to attempt a message
pub record Works (policy : Policy) (h : List Entry) (t : ℕ) (p : Path) (c : Connection) (id : ℕ) : Type 0 where
  pub unspent : leb (limits policy h t p).deliveries (used h c.number) ≡ false
  pub within : ltb (limits policy h t p).connection_limit (length (open_connections h (text_of p))) ≡ false
  pub running : is_halted policy h t p ≡ false
  pub admitted : admits_beginning policy h t p ≡ true
  pub first : first_free policy h t p ≡ Some id

first_work : (o : Option ℕ) (id : ℕ) → first_or_empty o ≡ work id → o ≡ Some id
first_work None id is = absurd cc
first_work (Some i) id is = let same : i ≡ id = cc in ap Some same

last_tests : (d e : Bool) (u : ℕ) (o : Option ℕ) (id : ℕ) → cond d halted (cond (not e) (throttled u) (first_or_empty o)) ≡ work id
    → (d ≡ false) × (e ≡ true) × (o ≡ Some id)
last_tests true e u o id is = absurd cc
last_tests false false u o id is = absurd cc
last_tests false true u o id is = (refl, refl, first_work o id is)

first_tests : (a b c : Bool) (v : Verdict) (id : ℕ) → cond a stale (cond b spent (cond c shed v)) ≡ work id → (b ≡ false) × (c ≡ false) × (v ≡ work id)
first_tests true b c v id is = absurd cc
first_tests false true c v id is = absurd cc
first_tests false false true v id is = absurd cc
first_tests false false false v id is = (refl, refl, is)

pub verdict_works : (policy : Policy) (h : List Entry) (t : ℕ) (p : Path) (c : Connection) (id : ℕ) → verdict_on policy h t p c ≡ work id → Works policy h t p c id
verdict_works policy h t p c id is =
    let (unspent, within, later) = first_tests (is_stale policy h t p c) (leb (limits policy h t p).deliveries (used h c.number))
    (ltb (limits policy h t p).connection_limit (length (open_connections h (text_of p)))) _ id is in
    let (running, admitted, first) = last_tests (is_halted policy h t p) (admits_beginning policy h t p) (next_beginning policy h t p) (first_free policy h t p) id later in
    record { unspent = unspent; within = within; running = running; admitted = admitted; first = first }

-- a connection that is to attempt a message was opened, its path has a name, and all this holds
pub record AtWork (policy : Policy) (h : List Entry) (t conn id : ℕ) : Type 0 where
  pub connection : Connection
  pub path : Path
  pub opened : connection_with h conn ≡ Some connection
  pub named : path_named policy h connection.path ≡ Some path
  pub works : Works policy h t path connection id

on_path : (policy : Policy) (h : List Entry) (t conn id : ℕ) (c : Connection) (o : Option Path) → connection_with h conn ≡ Some c → path_named policy h c.path ≡ o
    → option_map (λ p. verdict_on policy h t p c) o ≡ Some (work id) → AtWork policy h t conn id
on_path policy h t conn id c None opened named is = absurd cc
on_path policy h t conn id c (Some p) opened named is =
    record { connection = c; path = p; opened = opened; named = named; works = verdict_works policy h t p c id (same_Some _ _ is) }

of_connection : (policy : Policy) (h : List Entry) (t conn id : ℕ) (o : Option Connection) → connection_with h conn ≡ o
    → option_and_then (verdict_of policy h t) o ≡ Some (work id) → AtWork policy h t conn id
of_connection policy h t conn id None opened is = absurd cc
of_connection policy h t conn id (Some c) opened is = on_path policy h t conn id c (path_named policy h c.path) opened refl is

pub at_work : (policy : Policy) (h : List Entry) (t conn id : ℕ) → verdict policy h t conn ≡ Some (work id) → AtWork policy h t conn id
at_work policy h t conn id is = of_connection policy h t conn id (connection_with h conn) refl is

-- the message that it attempts is a free ready message of its path
pub first_there : (policy : Policy) (h : List Entry) (t : ℕ) (p : Path) (id : ℕ) → first_free policy h t p ≡ Some id → Passing (is_free_id policy h t) (ready policy h p) id
first_there policy h t p id is = find_there (is_free_id policy h t) (ready policy h p) id is
