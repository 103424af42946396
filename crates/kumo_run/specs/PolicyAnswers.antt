-- The texts that `check` and `explain` print.
use Rattle.std.specs.Prelude.{◌≡◌, ℕ, List, Option}
use Rattle.policy_core.specs.Policy.{Policy}
use Rattle.policy_fault.specs.declared.fault.Ignored.{Ignored}
use Rattle.command_words.specs.Commands.{PolicyNames, Question}
use Rattle.policy_texts.specs.Policies.{Loads}
use Rattle.policy_texts.specs.Report.{IsCheckReport}
use Rattle.policy_texts.specs.Explained.{explanation}

-- the report on the keys without effect of texts that give a policy
abbrev pub IsCheckText : (List ℕ → Option (List ℕ)) → PolicyNames → List ℕ → Type 0
IsCheckText told names text =
    (policy : Policy) × (ignored : List Ignored) × Loads told names policy ignored × IsCheckReport ignored text

-- what the policy that the texts give says of the queue's name and the source
abbrev pub IsExplainText : (List ℕ → Option (List ℕ)) → Question → List ℕ → Type 0
IsExplainText told question text =
    (policy : Policy) × (ignored : List Ignored) × Loads told question.texts policy ignored
    × (text ≡ explanation policy question.name question.source)
