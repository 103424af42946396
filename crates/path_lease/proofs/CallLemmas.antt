-- What one more call adds to what is counted over the calls.
use Rattle.std.proofs.Common.{◌≡◌, ◌+◌, refl, ap, ◌∙◌, ℕ, List, [], ◌∷◌, ◌++◌, Bool, true, false, cond, not, ◌&&◌, ◌||◌, Option, Some, None, length, filter, map, arith, length-append, append-nil}
use Rattle.std.specs.Prelude.{◌==◌}
use Rattle.std.specs.List.{cons_option}
use Rattle.std.proofs.lemmas.List.{map-append}
use Rattle.std.proofs.lemmas.List.Elements.{filter-append, filter_map-append}
use Rattle.std.proofs.lemmas.List.Sums.{fold-append}
use Rattle.kumo_base.specs.Moment.{clamped}
use Rattle.path_lease.specs.declared.connection.Connection.{Connection}
use Rattle.path_lease.specs.Calls.{Call, Start, opening_in, beginning_in, openings, beginnings, moments_under, closes, was_opened, was_closed, open_count, used, is_busy, busy_after, idle_since, idle_after, refusals, refusals_after}
use Rattle.path_lease.specs.Standing.{connection_of}
use Rattle.path_lease.proofs.ListLemmas.{or_false, any_more, filter_alike, filter_more}

-- a connection from what the calls say of it
abbrev pub from_parts : Bool → Bool → ℕ → ℕ → Bool → Option Connection
from_parts opened closed used idle busy = cond (opened && not closed) (Some (record { beginnings = used; idle = idle; busy = busy })) None

pub by_parts : (calls : List Call) (q : ℕ) (o c : Bool) (u i : ℕ) (b : Bool) → was_opened calls q ≡ o → was_closed calls q ≡ c
    → used calls q ≡ u → idle_since calls q ≡ i → is_busy calls q ≡ b → connection_of calls q ≡ from_parts o c u i b
by_parts calls q o c u i b is_o is_c is_u is_i is_b =
    ap (λ x. from_parts x (was_closed calls q) (used calls q) (idle_since calls q) (is_busy calls q)) is_o
    ∙ ap (λ x. from_parts o x (used calls q) (idle_since calls q) (is_busy calls q)) is_c
    ∙ ap (λ x. from_parts o c x (idle_since calls q) (is_busy calls q)) is_u
    ∙ ap (λ x. from_parts o c u x (is_busy calls q)) is_i
    ∙ ap (λ x. from_parts o c u i x) is_b

-- each count over one call more
pub closed_more : (calls : List Call) (c : Call) (q : ℕ) → was_closed (calls ++ c ∷ []) q ≡ (was_closed calls q || closes q c)
closed_more calls c q = any_more (closes q) calls c

pub closed_same : (calls : List Call) (c : Call) (q : ℕ) → closes q c ≡ false → was_closed (calls ++ c ∷ []) q ≡ was_closed calls q
closed_same calls c q e = closed_more calls c q ∙ ap (λ b. was_closed calls q || b) e ∙ or_false (was_closed calls q)

pub busy_more : (calls : List Call) (c : Call) (q : ℕ) → is_busy (calls ++ c ∷ []) q ≡ busy_after q (is_busy calls q) c
busy_more calls c q = fold-append (busy_after q) false calls (c ∷ [])

pub idle_more : (calls : List Call) (c : Call) (q : ℕ) → idle_since (calls ++ c ∷ []) q ≡ idle_after q (idle_since calls q) c
idle_more calls c q = fold-append (idle_after q) 0 calls (c ∷ [])

pub refusals_more : (calls : List Call) (c : Call) → refusals (calls ++ c ∷ []) ≡ refusals_after (refusals calls) c
refusals_more calls c = fold-append refusals_after 0 calls (c ∷ [])

pub openings_more : (calls : List Call) (c : Call) (o : Start) → opening_in c ≡ Some o → openings (calls ++ c ∷ []) ≡ openings calls ++ o ∷ []
openings_more calls c o is = filter_map-append opening_in calls (c ∷ []) ∙ ap (λ x. openings calls ++ cons_option x []) is

pub openings_same : (calls : List Call) (c : Call) → opening_in c ≡ None → openings (calls ++ c ∷ []) ≡ openings calls
openings_same calls c is =
    filter_map-append opening_in calls (c ∷ []) ∙ ap (λ x. openings calls ++ cons_option x []) is ∙ append-nil (openings calls)

pub beginnings_more : (calls : List Call) (c : Call) (b : Start) → beginning_in c ≡ Some b → beginnings (calls ++ c ∷ []) ≡ beginnings calls ++ b ∷ []
beginnings_more calls c b is = filter_map-append beginning_in calls (c ∷ []) ∙ ap (λ x. beginnings calls ++ cons_option x []) is

pub beginnings_same : (calls : List Call) (c : Call) → beginning_in c ≡ None → beginnings (calls ++ c ∷ []) ≡ beginnings calls
beginnings_same calls c is =
    filter_map-append beginning_in calls (c ∷ []) ∙ ap (λ x. beginnings calls ++ cons_option x []) is ∙ append-nil (beginnings calls)

-- how many are open
abbrev pub open_among : (ℕ → Bool) → List Start → ℕ
open_among closed os = length (filter (λ o. not (closed o.conn)) os)

pub open_alike : (c d : ℕ → Bool) → ((q : ℕ) → c q ≡ d q) → (os : List Start) → open_among c os ≡ open_among d os
open_alike c d same os = ap length (filter_alike (λ o. not (c o.conn)) (λ o. not (d o.conn)) (λ o. ap not (same o.conn)) os)

pub open_same : (calls : List Call) (c : Call) → opening_in c ≡ None → ((q : ℕ) → closes q c ≡ false) → open_count (calls ++ c ∷ []) ≡ open_count calls
open_same calls c none never =
    ap (open_among (was_closed (calls ++ c ∷ []))) (openings_same calls c none)
    ∙ open_alike (was_closed (calls ++ c ∷ [])) (was_closed calls) (λ q. closed_same calls c q (never q)) (openings calls)

pub open_more : (calls : List Call) (c : Call) (o : Start) → opening_in c ≡ Some o → ((q : ℕ) → closes q c ≡ false) → was_closed calls o.conn ≡ false
    → open_count (calls ++ c ∷ []) ≡ open_count calls + 1
open_more calls c o is never fresh =
    let one : filter (λ x. not (was_closed calls x.conn)) (openings calls ++ o ∷ []) ≡ filter (λ x. not (was_closed calls x.conn)) (openings calls) ++ o ∷ [] =
    filter_more (λ x. not (was_closed calls x.conn)) (openings calls) o (ap not fresh) in
    let all : open_count (calls ++ c ∷ []) ≡ open_among (was_closed calls) (openings calls ++ o ∷ []) =
    ap (open_among (was_closed (calls ++ c ∷ []))) (openings_more calls c o is)
    ∙ open_alike (was_closed (calls ++ c ∷ [])) (was_closed calls) (λ q. closed_same calls c q (never q)) (openings calls ++ o ∷ []) in
    omega (arith, all, ap length one, length-append (filter (λ x. not (was_closed calls x.conn)) (openings calls)) (o ∷ []))

-- a key's moments
pub under_more : (os : List Start) (o : Start) (key : ℕ) → moments_under key (os ++ o ∷ []) ≡ moments_under key os ++ cond (o.key == key) (clamped o.at ∷ []) []
under_more os o key =
    ap (map (λ (e : Start). clamped e.at)) (filter-append (λ e. e.key == key) os (o ∷ []))
    ∙ map-append (λ (e : Start). clamped e.at) (filter (λ e. e.key == key) os) (filter (λ e. e.key == key) (o ∷ []))
    ∙ ap (λ ms. moments_under key os ++ ms) (one (o.key == key))
  where
    one : (b : Bool) → map (λ (e : Start). clamped e.at) (cond b (o ∷ []) []) ≡ cond b (clamped o.at ∷ []) []
    one true = refl
    one false = refl
