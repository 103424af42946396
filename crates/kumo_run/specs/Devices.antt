-- Which devices the words of a command name: the folder of the spool, and the moment at which the clock starts.
use Rattle.std.specs.Prelude.{ℕ, List, Option, Some, None}
use Rattle.command_words.specs.Commands.{Command, check, explain, spool, send, crew, load}

abbrev pub folder_of : Option Command → Option (List ℕ)
folder_of None = None
folder_of (Some (check names)) = None
folder_of (Some (explain question)) = None
folder_of (Some (spool folder)) = folder
folder_of (Some (send s)) = s.spool
folder_of (Some (crew s workers)) = s.spool
folder_of (Some (load seed count)) = None

-- a load runs on a clock of its own that starts at moment 0
abbrev pub start_of : Option Command → Option ℕ
start_of None = None
start_of (Some (check names)) = None
start_of (Some (explain question)) = None
start_of (Some (spool folder)) = None
start_of (Some (send s)) = s.start
start_of (Some (crew s workers)) = s.start
start_of (Some (load seed count)) = Some 0
