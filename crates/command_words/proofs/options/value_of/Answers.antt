use Rattle.std.proofs.Common.{sym, ◌∙◌}
use Rattle.command_words.proofs.WalkLemmas.{value_here, value_later, value_none}
use Rattle.command_words.proofs.options.value_of.Goals as goal

pub returns-then-eq : goal.returns-then-eq
returns-then-eq c =
    sym (c.loop-option.invariant ∙ value_here c.args.name.now c.loop-option.rest.now _ c.in-Some.ensures (sym c.if-eq.ensures))

pub loop-option-preserved : goal.loop-option-preserved
loop-option-preserved c =
    c.loop-option.invariant ∙ value_later c.args.name.now c.loop-option.rest.now _ c.in-Some.ensures (sym c.if-eq.ensures)

pub returns : goal.returns
returns c = sym (c.loop-option.invariant ∙ value_none c.args.name.now c.loop-option.rest.now c.in_default.ensures)
