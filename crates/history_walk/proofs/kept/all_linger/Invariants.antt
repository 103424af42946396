use Rattle.std.proofs.Common.{◌≡◌, drop, filter, filter_map, not}
use Rattle.std.specs.List.{list_all}
use Rattle.history_core.specs.Connection.{connection_in, is_closed}
use Rattle.history_core.specs.Openable.{lingers}
use Rattle.history_walk.proofs.kept.all_linger.Given as goal

abbrev pub invariant-loop-entry : goal.invariant-loop-entry
invariant-loop-entry l =
    list_all (lingers l.scene.policy l.scene.history l.scene.moment) (filter (λ c. not (is_closed l.entries c.number)) (filter_map connection_in (l.entries)))
    ≡ list_all (lingers l.scene.policy l.scene.history l.scene.moment) (filter (λ c. not (is_closed l.entries c.number)) (filter_map connection_in (drop l.entry-index l.entries)))
