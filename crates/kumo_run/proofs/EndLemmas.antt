-- A command ends: its deed was done and written, or it is refused.
use Rattle.std.proofs.Common.{◌≡◌, ℕ, List, [], Bool, true, false, ◌∙◌, Option, Some, None, refl, sym, ap, subst, inl, inr}
use Rattle.kumo_outside.specs.declared.session.Session.{Session}
use Rattle.history_core.specs.declared.entry.Entry.{Entry}
use Rattle.delivery_log.specs.LogText.{log_text}
use Rattle.scripted_peer.specs.ScriptedPeer.{LinkerState}
use Rattle.command_words.specs.Commands.{Command, Sending, send}
use Rattle.kumo_run.specs.declared.status.Status.{Status}
use Rattle.kumo_run.specs.declared.refusal.Refusal.{Refusal}
use Rattle.kumo_run.specs.RefusalLine.{refusal_line, status_of}
use Rattle.kumo_run.specs.StatusCode.{status_number}
use Rattle.kumo_run.specs.Outside.{Outside}
use Rattle.kumo_run.specs.Ending.{done, unwritten, unfinished, refused, WroteUnlessFailed}
use Rattle.kumo_run.specs.Deeds.{Deed, Does, deed_of_text, deed_of_run, deed_of_sessions, all_sessions, asks_for_mail_alone}
use Rattle.kumo_run.specs.Causes.{Inputs, mail, unbuilt, inputs_of, Refuses}
use Rattle.kumo_run.specs.Ends.{EndsCommand}
use Rattle.kumo_run.specs.inside.Writing.{Writes, WritesLog}

ends_written : (c : Command) (b a : Outside) (status : Status) (history : Option (List Entry)) (d : Deed) → Does c b d
    → history ≡ d.history → Writes status b.out a.out d.text → EndsCommand (Some c) b a (status_number status) history d.sessions
ends_written c b a status history d does is writes =
    elim writes [
      | inl whole ↦ record {
        ending = done;
        deed = d;
        status_is = ap status_number whole.0;
        history_is = is;
        sessions_are = refl;
        did = does;
        printed = whole.1;
      }
      | inr failed ↦ record {
        ending = unwritten;
        deed = d;
        status_is = ap status_number failed.0;
        history_is = is;
        sessions_are = refl;
        did = does;
        printed = failed.1;
      }
    ]

-- a text was made and written, or the sink failed
pub ends_answered : (c : Command) (b a : Outside) (status : Status) (history : Option (List Entry)) (text : List ℕ) → Does c b (deed_of_text text)
    → history ≡ None → Writes status b.out a.out text → EndsCommand (Some c) b a (status_number status) history []
ends_answered c b a status history text does is writes = ends_written c b a status history (deed_of_text text) does is writes

-- a run went to its end and its log was written, or the sink failed, or memory ran out
pub ends_logged : (c : Command) (b a : Outside) (status : Status) (history : Option (List Entry)) (h : List Entry) (sessions : List Session)
    → Does c b (deed_of_run h sessions) → history ≡ Some h → WritesLog status b.out a.out (log_text h)
    → EndsCommand (Some c) b a (status_number status) history sessions
ends_logged c b a status history h sessions does is writes =
    elim writes [
      | inl written ↦ ends_written c b a status history (deed_of_run h sessions) does is written
      | inr short ↦ record {
        ending = unfinished;
        deed = deed_of_run h sessions;
        status_is = ap status_number short.0;
        history_is = is;
        sessions_are = refl;
        did = (does, refl);
        printed = short.1;
      }
    ]

-- a command was refused
pub ends_refused : (c : Option Command) (b a : Outside) (status : Status) (history : Option (List Entry)) (sessions : List Session) (why : Refusal)
    → Refuses (inputs_of c) b a (deed_of_sessions sessions) why → status ≡ status_of why → history ≡ None
    → WroteUnlessFailed b.out a.out (refusal_line why) → EndsCommand c b a (status_number status) history sessions
ends_refused c b a status history sessions why refuses is none wrote = record {
  ending = refused why;
  deed = deed_of_sessions sessions;
  status_is = ap status_number is;
  history_is = none;
  sessions_are = refl;
  did = refuses;
  printed = wrote;
}

-- the same where no linker was used
pub ends_unused : (c : Option Command) (b a : Outside) (status : Status) (history : Option (List Entry)) (linkers : List LinkerState) (why : Refusal)
    → linkers ≡ [] → Refuses (inputs_of c) b a (deed_of_sessions []) why → status ≡ status_of why → history ≡ None
    → WroteUnlessFailed b.out a.out (refusal_line why) → EndsCommand c b a (status_number status) history (all_sessions linkers)
ends_unused c b a status history linkers why unused refuses is none wrote =
    subst (λ (ks : List LinkerState). EndsCommand c b a (status_number status) history (all_sessions ks)) (sym unused)
    (ends_refused c b a status history [] why refuses is none wrote)

-- what ends one command ends that of the words, where no linker was used
pub ends_as : (c words : Option Command) (b a : Outside) (code : ℕ) (history : Option (List Entry)) (linkers : List LinkerState)
    → c ≡ words → linkers ≡ [] → EndsCommand c b a code history [] → EndsCommand words b a code history (all_sessions linkers)
ends_as c words b a code history linkers e unused h = rw (← e, unused) h

-- the same by what the command is given
pub ends_refused_by : (c : Option Command) (i : Inputs) (b a : Outside) (status : Status) (history : Option (List Entry))
    (sessions : List Session) (why : Refusal) → inputs_of c ≡ i → Refuses i b a (deed_of_sessions sessions) why → status ≡ status_of why
    → history ≡ None → WroteUnlessFailed b.out a.out (refusal_line why) → EndsCommand c b a (status_number status) history sessions
ends_refused_by c i b a status history sessions why given refuses is none wrote =
    ends_refused c b a status history sessions why (subst (λ (x : Inputs). Refuses x b a (deed_of_sessions sessions) why) (sym given) refuses)
    is none wrote

-- whether a mail alone is sent, by what the test of it answered
pub is_alone : (s : Sending) (asked : Bool) → asked ≡ asks_for_mail_alone s → asked ≡ true → asks_for_mail_alone s ≡ true
is_alone s asked e h = sym e ∙ h

pub sends_mail : (s : Sending) → asks_for_mail_alone s ≡ true → inputs_of (Some (send s)) ≡ mail s.mail
sends_mail s alone = rw alone refl

pub is_unbuilt : (s : Sending) (asked : Bool) → asked ≡ asks_for_mail_alone s → asked ≡ false → inputs_of (Some (send s)) ≡ unbuilt
is_unbuilt s asked e h = let not_alone : asks_for_mail_alone s ≡ false = sym e ∙ h in rw not_alone refl
