-- The options of a path in force at a moment, and the moments that its rates count.
use Rattle.std.specs.Prelude.{ℕ, ◌==◌, List, [], ◌∷◌, Bool, false, ◌&&◌, Option, Some, None, filter, map, bytes_eq, if◌then◌else◌}
use Rattle.std.specs.List.{list_any}
use Rattle.kumo_base.specs.Moment.{clamped}
use Rattle.policy_core.specs.Policy.{Policy}
use Rattle.policy_core.specs.PathTables.{base_of}
use Rattle.policy_core.specs.Automation.{limits_of}
use Rattle.policy_core.specs.declared.options.InForce.{InForce}
use Rattle.history_core.specs.declared.entry.Entry.{Entry}
use Rattle.history_core.specs.declared.path.Path.{Path}
use Rattle.history_core.specs.declared.rule_match.RuleMatch.{RuleMatch}
use Rattle.history_core.specs.Events.{Beginning, beginning_in}
use Rattle.history_core.specs.History.{along, is_same_path}
use Rattle.history_core.specs.Connection.{connections, path_of_connection}
use Rattle.history_core.specs.Firing.{firings_in_force}

-- a rule of the path, by its number, has a firing among these
abbrev pub is_rule_among : List RuleMatch → Path → ℕ → Bool
is_rule_among firings p number = list_any (λ f. f.number == number && is_same_path f.path p) firings

-- of each option what the last rule in force that sets it says, else what the path's tables say
abbrev pub limits : Policy → List Entry → ℕ → Path → InForce
limits policy h t p = limits_of (base_of policy p.site p.source) (is_rule_among (firings_in_force policy h t) p)

-- the moments at which connections of the path of a text were opened under a key
abbrev pub opened_moments : List Entry → List ℕ → ℕ → List ℕ
opened_moments h path key = map (λ c. clamped c.at) (filter (λ c. bytes_eq c.path path && c.key == key) (connections h))

abbrev pub is_text : Option (List ℕ) → List ℕ → Bool
is_text None text = false
is_text (Some found) text = bytes_eq found text

abbrev pub begun_if : List Entry → List ℕ → ℕ → ℕ → Option Beginning → List ℕ
begun_if before path key at None = []
begun_if before path key at (Some b) = if b.key == key && is_text (path_of_connection before b.conn) path then clamped at ∷ [] else []

abbrev pub begun_at : List ℕ → ℕ → List Entry → Entry → List ℕ
begun_at path key before e = begun_if before path key e.at (beginning_in e.what)

-- the moments at which attempts on connections of the path of a text began under a key
abbrev pub begun_moments : List Entry → List ℕ → ℕ → List ℕ
begun_moments h path key = along (begun_at path key) h
