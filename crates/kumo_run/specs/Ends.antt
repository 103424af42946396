-- How a call of the program ends: what the top call promises.
use Rattle.std.specs.Prelude.{◌≡◌, ℕ, List, Option, Some, None, is_some, true}
use Rattle.kumo_outside.specs.declared.session.Session.{Session}
use Rattle.history_core.specs.declared.entry.Entry.{Entry}
use Rattle.command_words.specs.Commands.{Command, command_of}
use Rattle.kumo_run.specs.Outside.{Outside}
use Rattle.kumo_run.specs.Ending.{Ending, done, unwritten, unfinished, refused, status_code_of, Printed}
use Rattle.kumo_run.specs.Deeds.{Deed, Does}
use Rattle.kumo_run.specs.Causes.{inputs_of, Refuses}

-- the whole deed of a command
abbrev pub DoesAll : Option Command → Outside → Deed → Type 0
DoesAll None b d = ⊥
DoesAll (Some c) b d = Does c b d

-- what was done, by the ending; only a log is left unfinished
abbrev pub Did : Ending → Option Command → Outside → Outside → Deed → Type 0
Did done c b a d = DoesAll c b d
Did unwritten c b a d = DoesAll c b d
Did unfinished c b a d = DoesAll c b d × (is_some d.history ≡ true)
Did (refused why) c b a d = Refuses (inputs_of c) b a d why

-- a command ends, by what the outside shows before and after: its status, the history that is handed out and the sessions
pub record EndsCommand (c : Option Command) (b a : Outside) (code : ℕ) (history : Option (List Entry)) (sessions : List Session)
    : Type 0 where
  pub ending : Ending
  pub deed : Deed
  pub status_is : code ≡ status_code_of ending
  pub history_is : history ≡ deed.history
  pub sessions_are : sessions ≡ deed.sessions
  pub did : Did ending c b a deed
  pub printed : Printed ending b.out a.out deed.text

abbrev pub Ends : List (List ℕ) → Outside → Outside → ℕ → Option (List Entry) → List Session → Type 0
Ends words b a code history sessions = EndsCommand (command_of words) b a code history sessions
