-- Open connections, entry by entry.
use Rattle.std.proofs.Common.{◌≡◌, ℕ, List, [], ◌∷◌, Bool, true, false, not, Option, Some, None, is_none, option_and_then, filter, filter_map, count_by, length, bytes_eq, refl, sym, ap, ◌∙◌, if◌then◌else◌}
use Rattle.history_core.specs.declared.entry.Entry.{Entry}
use Rattle.history_core.specs.Connection.{Connection, connection_in, is_closed, busy_with, open_connections}
use Rattle.history_views.specs.Opened.{some_passes, open_in, idle_in}
use Rattle.history_views.proofs.ListWalks.{kept, filter-given, counted-given}

open_or : (c : Connection) (closed : Bool) → (if not closed then Some c else None) ≡ (if closed then None else Some c)
open_or c true = refl
open_or c false = refl

kept_open : (h : List Entry) (o : Option Connection)
    → kept (λ c. not (is_closed h c.number)) o ≡ option_and_then (λ c. if is_closed h c.number then None else Some c) o
kept_open h None = refl
kept_open h (Some c) = open_or c (is_closed h c.number)

given_same : (f g : Entry → Option Connection) → ((e : Entry) → f e ≡ g e) → (h : List Entry) → filter_map f h ≡ filter_map g h
given_same f g same [] = refl
given_same f g same (e ∷ h) = rw (same e, given_same f g same h) refl

-- the open connections are what the entries give of them
pub open-given : (h later : List Entry) → filter (λ c. not (is_closed h c.number)) (filter_map connection_in later) ≡ filter_map (open_in h) later
open-given h later =
    filter-given (λ (c : Connection). not (is_closed h c.number)) connection_in later
    ∙ given_same _ (open_in h) (λ e. kept_open h (connection_in e)) later

-- how many of them are of the path of a text
pub open-counted : (h : List Entry) (text : List ℕ)
    → count_by (λ e. some_passes (λ c. bytes_eq c.path text) (open_in h e)) h ≡ length (open_connections h text)
open-counted h text =
    counted-given (λ (c : Connection). bytes_eq c.path text) (open_in h) h
    ∙ ap (λ (cs : List Connection). length (filter (λ c. bytes_eq c.path text) cs)) (sym (open-given h h))

-- those of them that are not busy are what the entries give of them
pub idle_given : (h later : List Entry)
    → filter (λ c. is_none (busy_with h c.number)) (filter (λ c. not (is_closed h c.number)) (filter_map connection_in later)) ≡ filter_map (idle_in h) later
idle_given h later =
    ap (λ (cs : List Connection). filter (λ c. is_none (busy_with h c.number)) cs) (open-given h later)
    ∙ filter-given (λ (c : Connection). is_none (busy_with h c.number)) (open_in h) later
