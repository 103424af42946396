-- What one try of a message does, by the part of the transcript that it stands for.
use Rattle.std.specs.Prelude.{◌≡◌, ℕ, List, [], ◌∷◌, Bool, true, false}
use Rattle.kumo_base.specs.Causes.{Rose}
use Rattle.smtp_reply.specs.ReplyText.{IsProperOutcome}
use Rattle.smtp_reply.specs.declared.reply.Reply.{Reply}
use Rattle.smtp_reply.specs.declared.reply.Outcome.{Outcome}
use Rattle.smtp_reply.specs.declared.reply.Outcome.TheVariants as outcome
use Rattle.smtp_reply.specs.declared.reply.Lost.TheVariants.{LinkFault, Ended}
use Rattle.smtp_dialogue.specs.declared.delivery.Tried.{Tried}
use Rattle.smtp_dialogue.specs.Transcript.{Spoken, Standing, alive, over}
use Rattle.smtp_dialogue.specs.Speaks.{Side, Speaks}

pub record Tries (part : List ℕ → Spoken) (old new : Side) (tried : Tried) : Type 0 where
  pub speaks : Speaks part old new (outcome.Lost LinkFault ∷ []) (tried.outcome ∷ []) tried.alive
  pub fault : tried.outcome ≡ outcome.Lost LinkFault → Rose old.link.faults new.link.faults
  pub ended : tried.outcome ≡ outcome.Lost Ended → new.link.ended ≡ true
  pub delivered : (reply : Reply) → tried.outcome ≡ outcome.Delivered reply → tried.alive ≡ true
  pub proper : IsProperOutcome tried.outcome

-- a reply decided it
pub record IsDecided (decided : Outcome) : Type 0 where
  pub no_fault : decided ≡ outcome.Lost LinkFault → ⊥
  pub no_end : decided ≡ outcome.Lost Ended → ⊥
  pub proper : IsProperOutcome decided

-- how the link stands, where no reply is due
abbrev pub standing_of : Bool → Standing
standing_of true = alive
standing_of false = over
