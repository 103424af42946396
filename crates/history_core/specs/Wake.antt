-- The moments at which something may change by itself, and the moment up to which the work may rest.
use Rattle.std.specs.Prelude.{ℕ, ◌+◌, nat_lt, min, List, [], ◌∷◌, ◌++◌, not, ◌&&◌, Option, is_some, option_map, option_and_then, filter, filter_map, map, flat_map, fold, if◌then◌else◌}
use Rattle.kumo_base.specs.Limits.{latest_moment}
use Rattle.kumo_base.specs.Moment.{clamped}
use Rattle.throttle_spec.specs.Rates.{least_by_rate}
use Rattle.policy_core.specs.Policy.{Policy}
use Rattle.policy_core.specs.LiveOrders.{end_of, duration_of}
use Rattle.history_core.specs.declared.entry.Entry.{Entry}
use Rattle.history_core.specs.declared.path.Path.{Path}
use Rattle.history_core.specs.History.{paths, path_named, text_of}
use Rattle.history_core.specs.Fate.{pending}
use Rattle.history_core.specs.Retry.{due, settings_for}
use Rattle.history_core.specs.LiveOrders.{live_orders}
use Rattle.history_core.specs.Connection.{Connection, is_in_flight, idle_connections, idle_since}
use Rattle.history_core.specs.Firing.{firings_in_force}
use Rattle.history_core.specs.Limits.{limits, opened_moments}
use Rattle.history_core.specs.Ready.{is_ready, first_free}
use Rattle.history_core.specs.Openable.{next_beginning}

-- messages that wait become due
abbrev pub due_marks : List Entry → List ℕ
due_marks h = map (due h) (filter (λ m. not (is_ready h m.id) && not (is_in_flight h m.id)) (pending h))

-- pending messages become too old
abbrev pub age_marks : Policy → List Entry → List ℕ
age_marks policy h = map (λ m. clamped (m.created + (settings_for policy m).max_age + 1)) (pending h)

-- live orders end
abbrev pub order_marks : List Entry → ℕ → List ℕ
order_marks h t = map (λ o. end_of o.at (duration_of o.order)) (live_orders h t)

-- firings in force end
abbrev pub firing_marks : Policy → List Entry → ℕ → List ℕ
firing_marks policy h t = map (λ f. end_of f.at f.rule.duration) (firings_in_force policy h t)

-- the least moment at which the rate of connections of the path admits one
abbrev pub next_opening : Policy → List Entry → ℕ → Path → ℕ
next_opening policy h t p =
    let now = limits policy h t p in
    least_by_rate now.connection_rate (opened_moments h (text_of p) now.connection_key) t

abbrev pub marks_of_path : Policy → List Entry → ℕ → Path → List ℕ
marks_of_path policy h t p = next_opening policy h t p ∷ (next_beginning policy h t p ∷ [])

-- the rates of paths with a free ready message admit more
abbrev pub rate_marks : Policy → List Entry → ℕ → List ℕ
rate_marks policy h t = flat_map (marks_of_path policy h t) (filter (λ p. is_some (first_free policy h t p)) (paths policy h))

abbrev pub stale_mark : Policy → List Entry → ℕ → Connection → Option ℕ
stale_mark policy h t c = option_map (λ timeout. clamped (idle_since h c + timeout))
    (option_and_then (λ p. (limits policy h t p).idle_timeout) (path_named policy h c.path))

-- connections that are kept with nothing to send become stale
abbrev pub stale_marks : Policy → List Entry → ℕ → List ℕ
stale_marks policy h t = filter_map (stale_mark policy h t) (idle_connections h)

abbrev pub marks : Policy → List Entry → ℕ → List ℕ
marks policy h t =
    due_marks h ++ (age_marks policy h ++ (order_marks h t ++ (firing_marks policy h t
    ++ (rate_marks policy h t ++ stale_marks policy h t))))

abbrev pub earlier_after : ℕ → ℕ → ℕ → ℕ
earlier_after t was u = if nat_lt t u then min was u else was

-- the least of moments that is after t, else the latest moment
abbrev pub least_after : ℕ → List ℕ → ℕ
least_after t moments = fold (earlier_after t) latest_moment moments

-- the moment up to which nothing may happen
abbrev pub wake : Policy → List Entry → ℕ → ℕ
wake policy h t = least_after t (marks policy h t ++ policy.stops)
