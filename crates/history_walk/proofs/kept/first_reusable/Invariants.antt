use Rattle.std.proofs.Common.{◌≡◌, ◌==◌, ◌&&◌, drop, filter_map, find}
use Rattle.history_core.specs.Connection.{idle_connections}
use Rattle.history_core.specs.Openable.{verdict_of, is_work}
use Rattle.history_views.specs.Opened.{idle_in}
use Rattle.history_walk.proofs.kept.first_reusable.Given as goal

abbrev pub invariant-loop-entry : goal.invariant-loop-entry
invariant-loop-entry l =
    find (λ c. c.who == l.who && is_work (verdict_of l.scene.policy l.scene.history l.scene.moment c)) (idle_connections l.entries)
    ≡ find (λ c. c.who == l.who && is_work (verdict_of l.scene.policy l.scene.history l.scene.moment c)) (filter_map (idle_in l.entries) (drop l.entry-index l.entries))
