use Rattle.std.proofs.Common.{◌≡◌, length}
use Rattle.command_words.specs.Options.{value_of}
use Rattle.command_words.specs.inside.Walk.{given_in}
use Rattle.command_words.proofs.options.value_of.Given as goal

-- the value is that among the rest
abbrev pub invariant-loop-option : goal.invariant-loop-option
invariant-loop-option l = value_of l.name (given_in l.fn.words) ≡ value_of l.name (given_in l.rest)

abbrev pub decreases-loop-option : goal.decreases-loop-option
decreases-loop-option l = length l.rest
