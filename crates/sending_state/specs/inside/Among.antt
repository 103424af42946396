-- The answers, of some of the entries of a history.
use Rattle.std.specs.Prelude.{ℕ, List, not, filter, filter_map, length, map}
use Rattle.queue_name.specs.declared.criteria.Criteria.{Criteria}
use Rattle.history_core.specs.declared.entry.Entry.{Entry}
use Rattle.history_core.specs.Connection.{connection_in, is_closed}
use Rattle.history_core.specs.Openable.{lingers}
use Rattle.history_walk.specs.Scene.{SceneState}
use Rattle.history_candidates.specs.inside.Soonest.{pending_among}
use Rattle.sending_state.specs.Questions.{is_met}

abbrev pub met_among : List Entry → Criteria → List Entry → List ℕ
met_among h criteria later = map (λ m. m.id) (filter (is_met h criteria) (pending_among h later))

abbrev pub at_work_among : SceneState → List Entry → ℕ
at_work_among s later =
    length (filter (λ c. not (lingers s.policy s.history s.moment c))
    (filter (λ c. not (is_closed s.history c.number)) (filter_map connection_in later)))
