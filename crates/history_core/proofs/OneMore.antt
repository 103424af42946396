-- What one more entry changes: one law for each list and each state of a history. At an entry whose event is known the
-- right side computes. None needs a legal history.
use Rattle.std.proofs.Common.{◌≡◌, ◌<◌, ℕ, ◌+◌, List, [], ◌∷◌, ◌++◌, Bool, true, false, not, ◌&&◌, ◌||◌, Option, Some, None, cond, eqb, bytes_eq, fold, filter, map, drop, length, option_map, arith, refl, ap, ◌∙◌, sym, subst, append_assoc, append-nil}
use Rattle.std.specs.List.{All, Contains, list_any, find}
use Rattle.std.specs.Option.{option_or, option_and_then, option_to_list}
use Rattle.std.proofs.lemmas.Bool.{and_left, ne_eqb, or_left}
use Rattle.std.proofs.lemmas.List.{drop-append-le, drop_all, length_push, map-append}
use Rattle.std.proofs.lemmas.List.Elements.{All-append, All-cons, All-nil, All-weaker, Contains-append_left, filter-append, filter_agree, filter_map-append}
use Rattle.std.proofs.lemmas.List.Folds.{find-append, list_any-append}
use Rattle.std.proofs.lemmas.List.Sums.{fold-append, sum_by-append}
use Rattle.kumo_base.specs.Moment.{clamped}
use Rattle.queue_name.specs.declared.message.Message.{Message}
use Rattle.policy_core.specs.Policy.{Policy}
use Rattle.policy_core.specs.declared.sources.Pool.{Pool}
use Rattle.history_core.specs.declared.entry.Entry.{Entry}
use Rattle.history_core.specs.declared.path.Path.{Path}
use Rattle.history_core.specs.declared.path.Promoted.{Promoted}
use Rattle.history_core.specs.declared.rule_match.RuleMatch.{RuleMatch}
use Rattle.history_core.specs.Events.{message_in, Promotion, promotion_in, is_stopped, settled_in, taken_in, resumed_in, is_this}
use Rattle.history_core.specs.History.{along_from, along, messages, message_with, has_id, has_stopped, last_moment, path_for, promoted_at, promotions, is_same_path, with_path, paths, path_named, text_of}
use Rattle.history_core.specs.Fate.{fate_of, pending}
use Rattle.history_core.specs.Retry.{failures_after, failures, due_after, due}
use Rattle.history_core.specs.LiveOrders.{given_order_in, orders, is_resumed}
use Rattle.history_core.specs.Connection.{Connection, connection_in, connections, connection_with, is_closed, used, busy_after, busy_with, idle_after, idle_since}
use Rattle.history_core.specs.Firing.{matches_at, matches, fired_at, firings_of, firings}
use Rattle.history_core.specs.Limits.{opened_moments, begun_at, begun_moments}
use Rattle.history_core.specs.Ready.{is_taken, standing_promotions, ready, is_ready_after, is_ready}
use Rattle.history_core.specs.Candidates.{turned, source_taken, sources_taken, place_of, Passage, passage_at, passages, refused_at, last_refusal, run_after, refusals}
use Rattle.history_core.specs.Openable.{rank_after, opened_rank}
use Rattle.history_core.proofs.Lists.{filter_both, filter_turned, filter_where, filter_whole, map-filter}

-- what items add up to
along_from-more : {E A : Type 0} (add : List E → E → List A) (before xs : List E) (x : E)
    → along_from add before (xs ++ x ∷ []) ≡ along_from add before xs ++ add (before ++ xs) x
along_from-more add before [] x = append-nil (add before x) ∙ ap (λ so_far. add so_far x) (sym (append-nil before))
along_from-more add before (e ∷ xs) x =
    ap (λ rest. add before e ++ rest) (along_from-more add (before ++ e ∷ []) xs x)
    ∙ sym (append_assoc (add before e) (along_from add (before ++ e ∷ []) xs) (add (before ++ e ∷ [] ++ xs) x))
    ∙ ap (λ so_far. (add before e ++ along_from add (before ++ e ∷ []) xs) ++ add so_far x) (append_assoc before (e ∷ []) xs)

pub along-more : {E A : Type 0} (add : List E → E → List A) (xs : List E) (x : E) → along add (xs ++ x ∷ []) ≡ along add xs ++ add xs x
along-more add xs x = along_from-more add [] xs x

-- and where more than one item comes
along_from-append : {E A : Type 0} (add : List E → E → List A) (before xs ys : List E)
    → along_from add before (xs ++ ys) ≡ along_from add before xs ++ along_from add (before ++ xs) ys
along_from-append add before [] ys = ap (λ so_far. along_from add so_far ys) (sym (append-nil before))
along_from-append add before (e ∷ xs) ys =
    ap (λ rest. add before e ++ rest) (along_from-append add (before ++ e ∷ []) xs ys)
    ∙ sym (append_assoc (add before e) (along_from add (before ++ e ∷ []) xs) (along_from add (before ++ e ∷ [] ++ xs) ys))
    ∙ ap (λ so_far. (add before e ++ along_from add (before ++ e ∷ []) xs) ++ along_from add so_far ys) (append_assoc before (e ∷ []) xs)

pub along-append : {E A : Type 0} (add : List E → E → List A) (xs ys : List E) → along add (xs ++ ys) ≡ along add xs ++ along_from add xs ys
along-append add xs ys = along_from-append add [] xs ys

-- messages
pub messages-more : (h : List Entry) (e : Entry) → messages (h ++ e ∷ []) ≡ messages h ++ messages (e ∷ [])
messages-more h e = filter_map-append (λ x. message_in x.what) h (e ∷ [])

pub message_with-more : (h : List Entry) (e : Entry) (id : ℕ) → message_with (h ++ e ∷ []) id ≡ option_or (message_with h id) (message_with (e ∷ []) id)
message_with-more h e id = ap (λ ms. find (has_id id) ms) (messages-more h e) ∙ find-append (has_id id) (messages h) (messages (e ∷ []))

pub has_stopped-more : (h : List Entry) (e : Entry) → has_stopped (h ++ e ∷ []) ≡ (has_stopped h || has_stopped (e ∷ []))
has_stopped-more h e = list_any-append (λ x. is_stopped x.what) h (e ∷ [])

pub last_moment-more : (h : List Entry) (e : Entry) → last_moment (h ++ e ∷ []) ≡ e.at
last_moment-more h e = fold-append (λ was x. x.at) 0 h (e ∷ [])

pub fate_of-more : (h : List Entry) (e : Entry) (id : ℕ) → fate_of (h ++ e ∷ []) id ≡ fate_of h id ++ fate_of (e ∷ []) id
fate_of-more h e id = filter-append (λ x. is_this (settled_in x.what) id) h (e ∷ [])

none_of_both : (xs ys : List Entry) → eqb (length (xs ++ ys)) 0 ≡ (eqb (length xs) 0 && eqb (length ys) 0)
none_of_both [] ys = refl
none_of_both (x ∷ xs) ys =
    ne_eqb (length (x ∷ (xs ++ ys))) 0 (λ none. omega (arith, none))
    ∙ sym (and_left (eqb (length (x ∷ xs)) 0) (eqb (length ys) 0) (ne_eqb (length (x ∷ xs)) 0 (λ none. omega (arith, none))))

none_if : (e : Entry) (b : Bool) → eqb (length (cond b (e ∷ []) [])) 0 ≡ not b
none_if e true = ne_eqb (length (e ∷ [])) 0 (λ none. omega (arith, none))
none_if e false = refl

-- whether a message has no fate
abbrev pub lacks_fate : List Entry → Message → Bool
lacks_fate h m = eqb (length (fate_of h m.id)) 0

lacks_fate-more : (h : List Entry) (e : Entry) (m : Message) → lacks_fate (h ++ e ∷ []) m ≡ (lacks_fate h m && not (is_this (settled_in e.what) m.id))
lacks_fate-more h e m =
    ap (λ (xs : List Entry). eqb (length xs) 0) (fate_of-more h e m.id)
    ∙ none_of_both (fate_of h m.id) (fate_of (e ∷ []) m.id)
    ∙ ap (λ b. lacks_fate h m && b) (none_if e (is_this (settled_in e.what) m.id))

-- those that the entry settles go, and one that comes is pending where no entry settled its id
pub pending-more : (h : List Entry) (e : Entry)
    → pending (h ++ e ∷ []) ≡ filter (λ m. not (is_this (settled_in e.what) m.id)) (pending h) ++ filter (lacks_fate (h ++ e ∷ [])) (messages (e ∷ []))
pending-more h e =
    ap (filter (lacks_fate (h ++ e ∷ []))) (messages-more h e)
    ∙ filter-append (lacks_fate (h ++ e ∷ [])) (messages h) (messages (e ∷ []))
    ∙ ap (λ ms. ms ++ filter (lacks_fate (h ++ e ∷ [])) (messages (e ∷ [])))
    (filter_agree (lacks_fate (h ++ e ∷ [])) (λ m. lacks_fate h m && not (is_this (settled_in e.what) m.id)) (lacks_fate-more h e) (messages h)
    ∙ sym (filter_both (λ m. not (is_this (settled_in e.what) m.id)) (lacks_fate h) (messages h)))

pub failures-more : (h : List Entry) (e : Entry) (id : ℕ) → failures (h ++ e ∷ []) id ≡ failures_after id (failures h id) e.what
failures-more h e id = fold-append (λ was x. failures_after id was x.what) 0 h (e ∷ [])

pub due-more : (h : List Entry) (e : Entry) (m : Message) → due (h ++ e ∷ []) m ≡ due_after m.id (due h m) e.what
due-more h e m = fold-append (λ was x. due_after m.id was x.what) m.created h (e ∷ [])

-- orders
pub orders-more : (h : List Entry) (e : Entry) → orders (h ++ e ∷ []) ≡ orders h ++ orders (e ∷ [])
orders-more h e = filter_map-append given_order_in h (e ∷ [])

pub is_resumed-more : (h : List Entry) (e : Entry) (number : ℕ) → is_resumed (h ++ e ∷ []) number ≡ (is_resumed h number || is_resumed (e ∷ []) number)
is_resumed-more h e number = list_any-append (λ x. is_this (resumed_in x.what) number) h (e ∷ [])

-- connections
pub connections-more : (h : List Entry) (e : Entry) → connections (h ++ e ∷ []) ≡ connections h ++ connections (e ∷ [])
connections-more h e = filter_map-append connection_in h (e ∷ [])

pub connection_with-more : (h : List Entry) (e : Entry) (conn : ℕ)
    → connection_with (h ++ e ∷ []) conn ≡ option_or (connection_with h conn) (connection_with (e ∷ []) conn)
connection_with-more h e conn = ap (λ cs. find (λ c. eqb c.number conn) cs) (connections-more h e) ∙ find-append (λ c. eqb c.number conn) (connections h) (connections (e ∷ []))

pub is_closed-more : (h : List Entry) (e : Entry) (conn : ℕ) → is_closed (h ++ e ∷ []) conn ≡ (is_closed h conn || is_closed (e ∷ []) conn)
is_closed-more h e conn = list_any-append _ h (e ∷ [])

pub used-more : (h : List Entry) (e : Entry) (conn : ℕ) → used (h ++ e ∷ []) conn ≡ used h conn + used (e ∷ []) conn
used-more h e conn = sum_by-append _ h (e ∷ [])

pub busy_with-more : (h : List Entry) (e : Entry) (conn : ℕ) → busy_with (h ++ e ∷ []) conn ≡ busy_after conn (busy_with h conn) e.what
busy_with-more h e conn = fold-append (λ was x. busy_after conn was x.what) None h (e ∷ [])

pub idle_since-more : (h : List Entry) (e : Entry) (c : Connection) → idle_since (h ++ e ∷ []) c ≡ idle_after c.number (idle_since h c) e
idle_since-more h e c = fold-append (idle_after c.number) c.at h (e ∷ [])

pub opened_rank-more : (h : List Entry) (e : Entry) (path : List ℕ)
    → opened_rank (h ++ e ∷ []) path ≡ fold (rank_after path) (opened_rank h path) (connections (e ∷ []))
opened_rank-more h e path = ap (fold (rank_after path) 0) (connections-more h e) ∙ fold-append (rank_after path) 0 (connections h) (connections (e ∷ []))

-- a connection that was opened stays so
pub connections-kept : (h : List Entry) (e : Entry) (p : Connection → Bool) → list_any p (connections h) ≡ true → list_any p (connections (h ++ e ∷ [])) ≡ true
connections-kept h e p there =
    ap (list_any p) (connections-more h e) ∙ list_any-append p (connections h) (connections (e ∷ [])) ∙ or_left _ (list_any p (connections (e ∷ []))) there

-- promotions and paths
pub is_ready-more : (h : List Entry) (e : Entry) (id : ℕ) → is_ready (h ++ e ∷ []) id ≡ is_ready_after id (is_ready h id) e.what
is_ready-more h e id = fold-append (λ was x. is_ready_after id was x.what) false h (e ∷ [])

pub promotions-more : (policy : Policy) (h : List Entry) (e : Entry) → promotions policy (h ++ e ∷ []) ≡ promotions policy h ++ promoted_at policy h e
promotions-more policy h e = along-more (promoted_at policy) h e

pub paths-more : (policy : Policy) (h : List Entry) (e : Entry)
    → paths policy (h ++ e ∷ []) ≡ fold (λ seen p. with_path seen p.path) (paths policy h) (promoted_at policy h e)
paths-more policy h e =
    ap (fold (λ seen (p : Promoted). with_path seen p.path) []) (promotions-more policy h e)
    ∙ fold-append (λ seen (p : Promoted). with_path seen p.path) [] (promotions policy h) (promoted_at policy h e)

-- paths come at the end alone
with_grows : (seen : List Path) (p : Path) (b : Bool) → (more : List Path) × (cond b seen (seen ++ p ∷ []) ≡ seen ++ more)
with_grows seen p true = ([], sym (append-nil seen))
with_grows seen p false = (p ∷ [], refl)

fold_grows : (ps : List Promoted) (seen : List Path) → (more : List Path) × (fold (λ seen (p : Promoted). with_path seen p.path) seen ps ≡ seen ++ more)
fold_grows [] seen = ([], sym (append-nil seen))
fold_grows (p ∷ ps) seen =
    let first = with_grows seen p.path (list_any (is_same_path p.path) seen) in
    let rest = fold_grows ps (with_path seen p.path) in
    (first.0 ++ rest.0, rest.1 ∙ ap (λ xs. xs ++ rest.0) first.1 ∙ append_assoc seen first.0 rest.0)

paths_grow : (policy : Policy) (h : List Entry) (e : Entry) → (more : List Path) × (paths policy (h ++ e ∷ []) ≡ paths policy h ++ more)
paths_grow policy h e =
    let grown = fold_grows (promoted_at policy h e) (paths policy h) in
    (grown.0, paths-more policy h e ∙ grown.1)

-- a path that has a name keeps it
pub path_named-kept : (policy : Policy) (h : List Entry) (e : Entry) (text : List ℕ) (p : Path) → path_named policy h text ≡ Some p
    → path_named policy (h ++ e ∷ []) text ≡ Some p
path_named-kept policy h e text p is =
    let grown = paths_grow policy h e in
    ap (find (λ p. bytes_eq (text_of p) text)) grown.1
    ∙ find-append (λ p. bytes_eq (text_of p) text) (paths policy h) grown.0
    ∙ ap (λ o. option_or o (find (λ p. bytes_eq (text_of p) text) grown.0)) is

pub paths-kept : (policy : Policy) (h : List Entry) (e : Entry) (p : Path) → Contains (paths policy h) p → Contains (paths policy (h ++ e ∷ [])) p
paths-kept policy h e p there =
    let grown = paths_grow policy h e in
    subst (λ ps. Contains ps p) (sym grown.1) (Contains-append_left (paths policy h) grown.0 p there)

-- sources
pub sources_taken-more : (policy : Policy) (pool : Pool) (h : List Entry) (e : Entry)
    → sources_taken policy pool (h ++ e ∷ []) ≡ sources_taken policy pool h ++ source_taken policy pool h (promotion_in e.what)
sources_taken-more policy pool h e = along-more (λ before x. source_taken policy pool before (promotion_in x.what)) h e

pub place_of-more : (policy : Policy) (pool : Pool) (h : List Entry) (e : Entry)
    → place_of policy pool (h ++ e ∷ []) ≡ fold (turned pool) (place_of policy pool h) (source_taken policy pool h (promotion_in e.what))
place_of-more policy pool h e =
    ap (fold (turned pool) None) (sources_taken-more policy pool h e)
    ∙ fold-append (turned pool) None (sources_taken policy pool h) (source_taken policy pool h (promotion_in e.what))

-- what is counted for rates, and the openings and closings of a path
pub begun_moments-more : (h : List Entry) (e : Entry) (path : List ℕ) (key : ℕ)
    → begun_moments (h ++ e ∷ []) path key ≡ begun_moments h path key ++ begun_at path key h e
begun_moments-more h e path key = along-more (begun_at path key) h e

pub opened_moments-more : (h : List Entry) (e : Entry) (path : List ℕ) (key : ℕ)
    → opened_moments (h ++ e ∷ []) path key ≡ opened_moments h path key ++ opened_moments (e ∷ []) path key
opened_moments-more h e path key =
    let counts = λ (c : Connection). bytes_eq c.path path && eqb c.key key in
    ap (λ cs. map (λ (c : Connection). clamped c.at) (filter counts cs)) (connections-more h e)
    ∙ ap (map (λ (c : Connection). clamped c.at)) (filter-append counts (connections h) (connections (e ∷ [])))
    ∙ map-append (λ (c : Connection). clamped c.at) (filter counts (connections h)) (filter counts (connections (e ∷ [])))

pub passages-more : (h : List Entry) (e : Entry) (path : List ℕ) → passages (h ++ e ∷ []) path ≡ passages h path ++ passage_at path h e
passages-more h e path = along-more (passage_at path) h e

pub last_refusal-more : (h : List Entry) (e : Entry) (path : List ℕ)
    → last_refusal (h ++ e ∷ []) path ≡ fold (λ was (p : Passage). refused_at p.place p.cause) (last_refusal h path) (passage_at path h e)
last_refusal-more h e path =
    ap (fold (λ was (p : Passage). refused_at p.place p.cause) None) (passages-more h e path)
    ∙ fold-append (λ was (p : Passage). refused_at p.place p.cause) None (passages h path) (passage_at path h e)

pub refusals-more : (h : List Entry) (e : Entry) (path : List ℕ)
    → refusals (h ++ e ∷ []) path ≡ fold (λ was (p : Passage). run_after was p.cause) (refusals h path) (passage_at path h e)
refusals-more h e path =
    ap (fold (λ was (p : Passage). run_after was p.cause) 0) (passages-more h e path)
    ∙ fold-append (λ was (p : Passage). run_after was p.cause) 0 (passages h path) (passage_at path h e)

-- automation
pub matches-more : (policy : Policy) (h : List Entry) (e : Entry) → matches policy (h ++ e ∷ []) ≡ matches policy h ++ matches_at policy h e
matches-more policy h e = along-more (matches_at policy) h e

pub firings_of-more : (all : List RuleMatch) (m : RuleMatch) → firings_of (all ++ m ∷ []) ≡ firings_of all ++ fired_at all m
firings_of-more all m = along-more fired_at all m

pub firings-more : (policy : Policy) (h : List Entry) (e : Entry)
    → firings policy (h ++ e ∷ []) ≡ firings policy h ++ along_from fired_at (matches policy h) (matches_at policy h e)
firings-more policy h e = ap (along fired_at) (matches-more policy h e) ∙ along-append fired_at (matches policy h) (matches_at policy h e)

-- each promotion has its place in the history
placed_if : (before : List Entry) (id : ℕ) (path : Message → Path) (o : Option Message)
    → All (λ (p : Promoted). p.place ≡ length before) (option_to_list (option_map (λ m. record { place = length before; id = id; path = path m }) o))
placed_if before id path None = All-nil (λ (p : Promoted). p.place ≡ length before)
placed_if before id path (Some m) =
    All-cons (λ (p : Promoted). p.place ≡ length before) (record { place = length before; id = id; path = path m }) [] refl (All-nil (λ (p : Promoted). p.place ≡ length before))

placed_by : (policy : Policy) (before : List Entry) (o : Option Promotion)
    → All (λ (p : Promoted). p.place ≡ length before) (option_to_list (option_and_then (λ p.
    option_map (λ m. record { place = length before; id = p.id; path = path_for policy m p.source }) (message_with before p.id)) o))
placed_by policy before None = All-nil (λ (p : Promoted). p.place ≡ length before)
placed_by policy before (Some p) = placed_if before p.id (λ m. path_for policy m p.source) (message_with before p.id)

placed_at : (policy : Policy) (before : List Entry) (e : Entry) → All (λ (p : Promoted). p.place ≡ length before) (promoted_at policy before e)
placed_at policy before e = placed_by policy before (promotion_in e.what)

placed_from : (policy : Policy) (before h : List Entry)
    → All (λ (p : Promoted). p.place < length before + length h) (along_from (promoted_at policy) before h)
placed_from policy before [] = All-nil (λ (p : Promoted). p.place < length before + 0)
placed_from policy before (e ∷ h) =
    All-append (λ (p : Promoted). p.place < length before + length (e ∷ h)) (promoted_at policy before e) (along_from (promoted_at policy) (before ++ e ∷ []) h)
    (All-weaker (λ (p : Promoted). p.place ≡ length before) (λ p. p.place < length before + length (e ∷ h)) (λ p is. omega (arith, is)) (promoted_at policy before e) (placed_at policy before e))
    (All-weaker (λ (p : Promoted). p.place < length (before ++ e ∷ []) + length h) (λ p. p.place < length before + length (e ∷ h))
    (λ p is. omega (arith, is, length_push before e)) (along_from (promoted_at policy) (before ++ e ∷ []) h) (placed_from policy (before ++ e ∷ []) h))

pub promotions-placed : (policy : Policy) (h : List Entry) → All (λ (p : Promoted). p.place < length h) (promotions policy h)
promotions-placed policy h =
    All-weaker (λ (p : Promoted). p.place < 0 + length h) (λ p. p.place < length h) (λ p within. omega (arith, within)) (promotions policy h) (placed_from policy [] h)

-- an entry takes a message from its ready queue
abbrev pub takes : Entry → ℕ → Bool
takes e id = is_this (taken_in e.what) id

taken_or : (b c : Bool) → not (b || (c || false)) ≡ (not b && not c)
taken_or true c = refl
taken_or false true = refl
taken_or false false = refl

is_taken-more : (h : List Entry) (e : Entry) (p : Promoted) → p.place < length h → not (is_taken (h ++ e ∷ []) p) ≡ (not (is_taken h p) && not (takes e p.id))
is_taken-more h e p within =
    ap (λ later. not (list_any (λ x. is_this (taken_in x.what) p.id) later)) (drop-append-le (p.place + 1) h (e ∷ []) (omega (arith, within)))
    ∙ ap not (list_any-append (λ x. is_this (taken_in x.what) p.id) (drop (p.place + 1) h) (e ∷ []))
    ∙ taken_or (is_taken h p) (takes e p.id)

not_taken_yet : (h : List Entry) (e : Entry) (p : Promoted) → p.place ≡ length h → not (is_taken (h ++ e ∷ []) p) ≡ true
not_taken_yet h e p is =
    ap (λ later. not (list_any (λ x. is_this (taken_in x.what) p.id) later)) (drop_all (p.place + 1) (h ++ e ∷ []) (omega (arith, is, length_push h e)))

-- those that the entry takes go, and the one that it promotes comes
pub standing_promotions-more : (policy : Policy) (h : List Entry) (e : Entry)
    → standing_promotions policy (h ++ e ∷ []) ≡ filter (λ (p : Promoted). not (takes e p.id)) (standing_promotions policy h) ++ promoted_at policy h e
standing_promotions-more policy h e =
    ap (filter (λ (p : Promoted). not (is_taken (h ++ e ∷ []) p))) (promotions-more policy h e)
    ∙ filter-append (λ (p : Promoted). not (is_taken (h ++ e ∷ []) p)) (promotions policy h) (promoted_at policy h e)
    ∙ ap (λ was. was ++ filter (λ (p : Promoted). not (is_taken (h ++ e ∷ []) p)) (promoted_at policy h e))
    (filter_where (λ (p : Promoted). p.place < length h) (λ p. not (is_taken (h ++ e ∷ []) p)) (λ p. not (is_taken h p) && not (takes e p.id))
    (λ p within. is_taken-more h e p within) (promotions policy h) (promotions-placed policy h)
    ∙ sym (filter_both (λ (p : Promoted). not (takes e p.id)) (λ p. not (is_taken h p)) (promotions policy h)))
    ∙ ap (λ new. filter (λ (p : Promoted). not (takes e p.id)) (standing_promotions policy h) ++ new)
    (filter_whole (λ (p : Promoted). not (is_taken (h ++ e ∷ []) p)) (promoted_at policy h e)
    (All-weaker (λ (p : Promoted). p.place ≡ length h) (λ p. not (is_taken (h ++ e ∷ []) p) ≡ true) (λ p is. not_taken_yet h e p is)
    (promoted_at policy h e) (placed_at policy h e)))

-- the ready messages among promotions, where they lead to the path
abbrev pub ready_of : Path → List Promoted → List ℕ
ready_of path ps = map (λ (p : Promoted). p.id) (filter (λ (p : Promoted). is_same_path p.path path) ps)

pub ready-more : (policy : Policy) (h : List Entry) (e : Entry) (path : Path)
    → ready policy (h ++ e ∷ []) path ≡ filter (λ id. not (takes e id)) (ready policy h path) ++ ready_of path (promoted_at policy h e)
ready-more policy h e path =
    let kept = filter (λ (p : Promoted). not (takes e p.id)) (standing_promotions policy h) in
    ap (ready_of path) (standing_promotions-more policy h e)
    ∙ ap (map (λ (p : Promoted). p.id)) (filter-append (λ (p : Promoted). is_same_path p.path path) kept (promoted_at policy h e))
    ∙ map-append (λ (p : Promoted). p.id) (filter (λ (p : Promoted). is_same_path p.path path) kept) (filter (λ (p : Promoted). is_same_path p.path path) (promoted_at policy h e))
    ∙ ap (λ ps. map (λ (p : Promoted). p.id) ps ++ ready_of path (promoted_at policy h e))
    (filter_turned (λ (p : Promoted). is_same_path p.path path) (λ p. not (takes e p.id)) (standing_promotions policy h))
    ∙ ap (λ ids. ids ++ ready_of path (promoted_at policy h e))
    (map-filter (λ (p : Promoted). p.id) (λ id. not (takes e id)) (filter (λ (p : Promoted). is_same_path p.path path) (standing_promotions policy h)))
