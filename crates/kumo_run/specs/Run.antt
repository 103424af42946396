-- A run that went to its end.
use Rattle.std.specs.Prelude.{◌≡◌, List, [], ◌∷◌, Bool, true, All, length, filter_map, option_map, fold, false}
use Rattle.queue_name.specs.declared.message.Message.{Message}
use Rattle.kumo_outside.specs.declared.session.Session.{Session}
use Rattle.smtp_reply.specs.declared.reply.Reply.{Reply}
use Rattle.smtp_reply.specs.declared.reply.Outcome.{Outcome}
use Rattle.smtp_reply.specs.declared.reply.Outcome.TheVariants.{Delivered}
use Rattle.history_core.specs.declared.entry.Entry.{Entry}
use Rattle.history_core.specs.Events.{attempt_end_in, is_stopped}
use Rattle.history_core.specs.History.{messages}
use Rattle.history_core.specs.Fate.{fate_of, pending}
use Rattle.history_core.specs.Legal.{IsLegal}
use Rattle.kumo_run.specs.PlainPolicy.{plain_policy}
use Rattle.kumo_run.specs.Delivery.{IsSessionOf, IsDeliveredBy}

-- what became of the attempts, in the order in which they ended
abbrev pub outcomes : List Entry → List Outcome
outcomes h = filter_map (λ e. option_map (λ a. a.outcome) (attempt_end_in e.what)) h

abbrev pub ends_with_stopped : List Entry → Bool
ends_with_stopped h = fold (λ was e. is_stopped e.what) false h

-- without a message no session; with one the one session is its transcript and tells the delivery that the history has
abbrev pub Talked : List Message → List Entry → List Session → Type 0
Talked [] h sessions = sessions ≡ []
Talked (m ∷ []) h sessions =
    (s : Session) × (reply : Reply) × (sessions ≡ s ∷ []) × IsSessionOf m s × IsDeliveredBy m reply s
    × (outcomes h ≡ Delivered reply ∷ [])
Talked (m ∷ n ∷ more) h sessions = ⊥

pub record IsRun (mail : List Message) (h : List Entry) (sessions : List Session) : Type 0 where
  pub legal : IsLegal plain_policy h
  pub stopped : ends_with_stopped h ≡ true
  -- what was accepted is the mail
  pub accepted : messages h ≡ mail
  -- each message has one fate, and none is pending
  pub fates : All (λ m. length (fate_of h m.id) ≡ 1) mail
  pub nothing_pending : pending h ≡ []
  pub talked : Talked mail h sessions
