-- A history with what was found in it, at a moment.
use Rattle.std.specs.Prelude.{◌≡◌, ℕ, List, Option, Some, None, filter}
use Rattle.policy_core.specs.Policy.{Policy}
use Rattle.history_core.specs.declared.entry.Entry.{Entry}
use Rattle.history_core.specs.declared.rule_match.RuleMatch.{RuleMatch}
use Rattle.history_core.specs.declared.path.Path.{Path}
use Rattle.history_core.specs.History.{text_of}
use Rattle.history_core.specs.Firing.{firings}
use Rattle.history_core.specs.Openable.{is_openable, opened_rank, lesser, least_by}
use Rattle.history_automation.specs.Known.{Known, IsKnown}

pub record SceneState : Type 0 where
  pub policy : Policy
  pub history : List Entry
  pub moment : ℕ

-- what was found is what the definitions say of the history
pub record IsFound (policy : Policy) (h : List Entry) (known : Known) (fired : List RuleMatch) : Type 0 where
  pub known_is : IsKnown policy h known
  pub firings_are : fired ≡ firings policy h

-- the rank of a path among those that may open
abbrev pub rank_in : SceneState → Path → ℕ
rank_in s p = opened_rank s.history (text_of p)

-- the openable path of least rank among these
abbrev pub least_openable : SceneState → List Path → Option Path
least_openable s ps = least_by (rank_in s) (filter (is_openable s.policy s.history s.moment) ps)

-- what was found so far, or what comes of those behind it where its rank is less
abbrev pub least_so_far : SceneState → Option Path → Option Path → Option Path
least_so_far s None later = later
least_so_far s (Some best) later = lesser (rank_in s) best later
