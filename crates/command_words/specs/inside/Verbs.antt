-- The first words of commands, and the options that each takes.
use Rattle.std.specs.Prelude.{ℕ, List, [], ◌∷◌, Option, Some, None, bytes_eq, codes, if◌then◌else◌}
use Rattle.command_words.specs.declared.verb.Verb.{Verb}
use Rattle.command_words.specs.declared.verb.Verb.TheVariants as verb
use Rattle.command_words.specs.Options.{GivenOption, value_of}
use Rattle.command_words.specs.Commands.{names_of_texts, names_of_question, names_of_sending, names_of_crew, names_of_load, texts_of, Command, check, spool, send, question_in, sending_in, crew_in, load_in}
use Rattle.std.specs.Option.{option_map}

abbrev pub verb_of : List ℕ → Option Verb
verb_of word =
    if bytes_eq word (codes "check") then Some verb.Check
    else if bytes_eq word (codes "explain") then Some verb.Explain
    else if bytes_eq word (codes "spool") then Some verb.Spool
    else if bytes_eq word (codes "send") then Some verb.Send
    else if bytes_eq word (codes "crew") then Some verb.Crew
    else if bytes_eq word (codes "load") then Some verb.Load
    else None

-- the options that each command takes
abbrev pub names_of : Verb → List (List ℕ)
names_of verb.Check = names_of_texts
names_of verb.Explain = names_of_question
names_of verb.Spool = codes "--spool" ∷ []
names_of verb.Send = names_of_sending
names_of verb.Crew = names_of_crew
names_of verb.Load = names_of_load

-- the command of a verb and options that it takes
abbrev pub command_by : Verb → List GivenOption → Option Command
command_by verb.Check os = Some (check (texts_of os))
command_by verb.Explain os = question_in os
command_by verb.Spool os = Some (spool (value_of (codes "--spool") os))
command_by verb.Send os = option_map send (sending_in os)
command_by verb.Crew os = crew_in os
command_by verb.Load os = load_in os
