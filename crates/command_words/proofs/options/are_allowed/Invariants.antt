use Rattle.std.proofs.Common.{◌≡◌, length}
use Rattle.command_words.specs.Options.{are_allowed}
use Rattle.command_words.specs.inside.Verbs.{names_of}
use Rattle.command_words.specs.inside.Walk.{given_in}
use Rattle.command_words.proofs.options.are_allowed.Given as goal

-- the options are allowed where the rest of them are
abbrev pub invariant-loop-option : goal.invariant-loop-option
invariant-loop-option l = are_allowed (names_of l.verb) (given_in l.fn.words) ≡ are_allowed (names_of l.verb) (given_in l.rest)

abbrev pub decreases-loop-option : goal.decreases-loop-option
decreases-loop-option l = length l.rest
