use Rattle.std.proofs.Common.{◌≡◌, drop, filter, filter_map, not}
use Rattle.history_core.specs.Connection.{connection_in, is_closed}
use Rattle.history_views.proofs.connections.has_open.Given as goal

abbrev pub invariant-loop-entry : goal.invariant-loop-entry
invariant-loop-entry l =
    filter (λ c. not (is_closed l.entries c.number)) (filter_map connection_in l.entries)
    ≡ filter (λ c. not (is_closed l.entries c.number)) (filter_map connection_in (drop l.entry-index l.entries))
