-- The moments at which something may change by itself, of some of the entries, firings and paths of a history.
use Rattle.std.specs.Prelude.{ℕ, ◌+◌, List, not, ◌&&◌, is_some, filter, filter_map, map, flat_map}
use Rattle.kumo_base.specs.Moment.{clamped}
use Rattle.policy_core.specs.Policy.{Policy}
use Rattle.policy_core.specs.LiveOrders.{end_of, duration_of}
use Rattle.history_core.specs.declared.entry.Entry.{Entry}
use Rattle.history_core.specs.declared.path.Path.{Path}
use Rattle.history_core.specs.declared.rule_match.RuleMatch.{RuleMatch}
use Rattle.history_core.specs.Retry.{due, settings_for}
use Rattle.history_core.specs.LiveOrders.{given_order_in, is_live}
use Rattle.history_core.specs.Connection.{is_in_flight}
use Rattle.history_core.specs.Firing.{is_in_force}
use Rattle.history_core.specs.Ready.{is_ready, first_free}
use Rattle.history_core.specs.Wake.{marks_of_path, stale_mark}
use Rattle.history_views.specs.Opened.{idle_in}
use Rattle.history_walk.specs.Scene.{SceneState}
use Rattle.history_candidates.specs.inside.Soonest.{pending_among}

abbrev pub due_marks_among : List Entry → List Entry → List ℕ
due_marks_among h later = map (due h) (filter (λ m. not (is_ready h m.id) && not (is_in_flight h m.id)) (pending_among h later))

abbrev pub age_marks_among : Policy → List Entry → List Entry → List ℕ
age_marks_among policy h later = map (λ m. clamped (m.created + (settings_for policy m).max_age + 1)) (pending_among h later)

abbrev pub order_marks_among : List Entry → ℕ → List Entry → List ℕ
order_marks_among h t later = map (λ o. end_of o.at (duration_of o.order)) (filter (is_live h t) (filter_map given_order_in later))

abbrev pub firing_marks_among : ℕ → List RuleMatch → List ℕ
firing_marks_among t firings = map (λ f. end_of f.at f.rule.duration) (filter (is_in_force t) firings)

abbrev pub rate_marks_among : SceneState → List Path → List ℕ
rate_marks_among s ps =
    flat_map (marks_of_path s.policy s.history s.moment) (filter (λ p. is_some (first_free s.policy s.history s.moment p)) ps)

abbrev pub stale_marks_among : SceneState → List Entry → List ℕ
stale_marks_among s later = filter_map (stale_mark s.policy s.history s.moment) (filter_map (idle_in s.history) later)
