use Rattle.std.proofs.Common.{sym, ◌∙◌}
use Rattle.command_words.specs.inside.Verbs.{names_of}
use Rattle.command_words.proofs.WalkLemmas.{allowed_more, allowed_other, allowed_again, allowed_none, is_given_as}
use Rattle.command_words.proofs.options.are_allowed.Goals as goal
use Rattle.command_words.proofs.options.are_allowed.Goals.{then-not-takes-via-then-not-takes, then-not-takes-via-else-not-takes+then-is_some}

pub returns-then-not-takes : goal.returns-then-not-takes
returns-then-not-takes c =
    let names = names_of c.args.verb in
    elim c.then-not-takes.branch [
      | then-not-takes-via-then-not-takes w ↦
          sym (c.loop-option.invariant
          ∙ allowed_other names c.loop-option.rest.now _ c.in-Some.ensures (sym w.if-not-takes.ensures))
      | then-not-takes-via-else-not-takes+then-is_some w ↦
          sym (c.loop-option.invariant
          ∙ allowed_again names c.loop-option.rest.now _ c.in-Some.ensures
          (is_given_as _ _ _ w.value_of.ensures w.if-is_some.ensures))
    ]

pub loop-option-preserved : goal.loop-option-preserved
loop-option-preserved c =
    let names = names_of c.args.verb in
    c.loop-option.invariant
    ∙ allowed_more names c.loop-option.rest.now _ c.in-Some.ensures (sym c.if-not-takes.ensures)
    (is_given_as _ _ _ c.value_of.ensures c.if-is_some.ensures)

pub returns : goal.returns
returns c = sym (c.loop-option.invariant ∙ allowed_none (names_of c.args.verb) c.loop-option.rest.now c.in_default.ensures)
