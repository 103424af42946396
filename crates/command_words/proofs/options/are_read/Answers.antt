use Rattle.std.proofs.Common.{sym, ◌∙◌}
use Rattle.command_words.proofs.WalkLemmas.{before, ended}
use Rattle.command_words.proofs.options.are_read.Goals as goal

pub loop-behind-preserved : goal.loop-behind-preserved
loop-behind-preserved c =
    let next = before c.loop-behind.rest.now _ c.in-Some.ensures in
    c.loop-behind.invariant ∙ next.read

pub returns : goal.returns
returns c = c.is_empty.ensures ∙ sym (c.loop-behind.invariant ∙ (ended c.loop-behind.rest.now c.in_default.ensures).read)
