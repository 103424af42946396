-- What automation knows of a history.
use Rattle.std.specs.Prelude.{◌≡◌, List}
use Rattle.policy_core.specs.Policy.{Policy}
use Rattle.history_core.specs.declared.entry.Entry.{Entry}
use Rattle.history_core.specs.declared.rule_match.RuleMatch.{RuleMatch}
use Rattle.history_core.specs.Firing.{matches, firings}

pub record Found : Type 0 where
  pub matches : List RuleMatch
  pub firings : List RuleMatch

-- the matches and the firings of a history
pub record IsExamined (policy : Policy) (h : List Entry) (x : Found) : Type 0 where
  pub matches : x.matches ≡ matches policy h
  pub firings : x.firings ≡ firings policy h
