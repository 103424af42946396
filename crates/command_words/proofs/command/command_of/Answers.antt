use Rattle.std.proofs.Common.{sym, ap, ◌∙◌}
use Rattle.command_words.specs.inside.Verbs.{verb_of}
use Rattle.command_words.specs.Commands.{command_of}
use Rattle.command_words.proofs.CommandLemmas.{command_is}
use Rattle.command_words.proofs.command.command_of.Goals as goal

pub returns-in-Some-of-clause-command : goal.returns-in-Some-of-clause-command
returns-in-Some-of-clause-command c =
    let is =
    command_is c.in-Some.word.now c.in-Some.options.now c.in-Some-of.verb (c.in-Some-of.ensures ∙ ap verb_of c.as_str.ensures) in
    let whole = ap command_of c.in-Some.ensures.cases.0 in
    c.command_with.ensures.command ∙ sym is ∙ sym whole
