use Rattle.std.proofs.Common.{◌≡◌, ◌==◌, ◌&&◌, drop, filter, filter_map, not}
use Rattle.std.specs.List.{list_any}
use Rattle.history_core.specs.Connection.{connection_in, is_closed}
use Rattle.history_views.proofs.connections.is_live_for.Given as goal

abbrev pub invariant-loop-entry : goal.invariant-loop-entry
invariant-loop-entry l =
    list_any (λ c. c.number == l.conn && c.who == l.who) (filter (λ c. not (is_closed l.entries c.number)) (filter_map connection_in l.entries))
    ≡ list_any (λ c. c.number == l.conn && c.who == l.who) (filter (λ c. not (is_closed l.entries c.number)) (filter_map connection_in (drop l.entry-index l.entries)))
