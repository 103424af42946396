-- What a state keeps beside its entries, and what it owes to them.
use Rattle.std.specs.Prelude.{◌≤◌, ℕ, List, length, take}
use Rattle.policy_core.specs.Policy.{Policy}
use Rattle.history_core.specs.declared.entry.Entry.{Entry}
use Rattle.history_core.specs.Legal.{IsLegal}
use Rattle.history_automation.specs.Known.{Known, IsKnown}
use Rattle.history_automation.specs.Examined.{Found, IsExamined}

-- the history is legal; its promotions and paths are known, and the matches and firings of the entries that were examined
pub record Keeps (policy : Policy) (h : List Entry) (examined : ℕ) (known : Known) (found : Found) : Type 0 where
  pub legal : IsLegal policy h
  pub known_is : IsKnown policy h known
  pub found_is : IsExamined policy (take examined h) found
  pub within : examined ≤ length h
