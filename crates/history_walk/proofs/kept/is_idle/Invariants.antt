use Rattle.std.proofs.Common.{◌≡◌, ◌==◌, drop, filter_map}
use Rattle.std.specs.List.{list_any}
use Rattle.history_core.specs.Connection.{idle_connections}
use Rattle.history_views.specs.Opened.{idle_in}
use Rattle.history_walk.proofs.kept.is_idle.Given as goal

abbrev pub invariant-loop-entry : goal.invariant-loop-entry
invariant-loop-entry l =
    list_any (λ d. d.number == l.number) (idle_connections l.entries)
    ≡ list_any (λ d. d.number == l.number) (filter_map (idle_in l.entries) (drop l.entry-index l.entries))
