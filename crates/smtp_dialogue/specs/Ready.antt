-- Whether a link that greeted serves attempts.
use Rattle.std.specs.Prelude.{Bool, true, false}
use Rattle.smtp_dialogue.specs.declared.greeting.Greeted.{Greeted}
use Rattle.smtp_dialogue.specs.declared.greeting.Greeted.TheVariants.{Ready, Refused}

abbrev pub is_ready : Greeted → Bool
is_ready Ready = true
is_ready Refused = false
