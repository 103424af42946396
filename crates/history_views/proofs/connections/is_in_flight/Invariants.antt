use Rattle.std.proofs.Common.{◌≡◌, drop, filter_map}
use Rattle.std.specs.List.{list_any}
use Rattle.history_core.specs.Events.{is_this}
use Rattle.history_core.specs.Connection.{connection_in, busy_with}
use Rattle.history_views.proofs.connections.is_in_flight.Given as goal

abbrev pub invariant-loop-entry : goal.invariant-loop-entry
invariant-loop-entry l =
    list_any (λ c. is_this (busy_with l.entries c.number) l.id) (filter_map connection_in l.entries)
    ≡ list_any (λ c. is_this (busy_with l.entries c.number) l.id) (filter_map connection_in (drop l.entry-index l.entries))
