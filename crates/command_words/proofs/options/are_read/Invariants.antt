use Rattle.std.proofs.Common.{◌≡◌, length, is_some}
use Rattle.command_words.specs.Options.{options_in}
use Rattle.command_words.proofs.options.are_read.Given as goal

-- the words are options where the rest of them are
abbrev pub invariant-loop-behind : goal.invariant-loop-behind
invariant-loop-behind l = is_some (options_in l.fn.words) ≡ is_some (options_in l.rest)

abbrev pub decreases-loop-behind : goal.decreases-loop-behind
decreases-loop-behind l = length l.rest
