-- The rates that moments are counted under: which rate a key stands for, and the one path of a text.
use Rattle.std.specs.Prelude.{◌≡◌, ℕ, ◌==◌, List, Option, Some, option_and_then, find, if◌then◌else◌}
use Rattle.std.specs.List.{Contains}
use Rattle.throttle_spec.specs.Throttle.{Throttle}
use Rattle.policy_core.specs.Policy.{Policy}
use Rattle.policy_core.specs.PathOptions.{in_force_of}
use Rattle.policy_core.specs.Automation.{numbered_rules, set_by, message_rate_in, connection_rate_in}
use Rattle.policy_core.specs.declared.rules.Rule.{Rule}
use Rattle.policy_core.specs.declared.rules.Setting.{Setting}
use Rattle.policy_core.specs.declared.site.PathBase.{PathBase}
use Rattle.history_core.specs.declared.entry.Entry.{Entry}
use Rattle.history_core.specs.declared.path.Path.{Path}
use Rattle.history_core.specs.History.{text_of, paths, path_named}

-- key 0 stands for the rate of the path's tables, another one for what the rule of this number sets
abbrev pub rate_under : (Setting → Option Throttle) → Option Throttle → List (ℕ × Rule) → ℕ → Option Throttle
rate_under option own rules key =
    if key == 0 then own else option_and_then (set_by option) (find (λ rule. rule.0 == key) rules)

abbrev pub message_rate_of_key : PathBase → ℕ → Option Throttle
message_rate_of_key base key = rate_under message_rate_in (in_force_of base.options).message_rate (numbered_rules base) key

abbrev pub connection_rate_of_key : PathBase → ℕ → Option Throttle
connection_rate_of_key base key = rate_under connection_rate_in (in_force_of base.options).connection_rate (numbered_rules base) key

-- the path of a text, where no other path of the history has this text
abbrev pub IsOnlyPath : Policy → List Entry → List ℕ → Path → Type 0
IsOnlyPath policy h text p =
    (path_named policy h text ≡ Some p) × ((q : Path) → Contains (paths policy h) q → text_of q ≡ text → q ≡ p)
