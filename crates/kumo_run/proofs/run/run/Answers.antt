use Rattle.std.proofs.Common.{Some, refl, sym, ap, ◌∙◌}
use Rattle.command_words.specs.SeenCommands.{read_as}
use Rattle.command_words.specs.declared.command.Command.{Command as Words}
use Rattle.command_words.specs.Commands.{command_of}
use Rattle.kumo_run.specs.declared.refusal.Refusal.TheVariants as refusal
use Rattle.kumo_run.specs.Causes.{inputs_of}
use Rattle.kumo_run.proofs.EndLemmas.{ends_unused}
use Rattle.kumo_run.proofs.run.run.Goals as goal

pub returns-in-None-clause-ends : goal.returns-in-None-clause-ends
returns-in-None-clause-ends g c =
    ends_unused (command_of c.args.words.now) _ _ _ _ _ refusal.Usage c.requires
    (refl, sym (ap inputs_of c.in-None.ensures.command))
    c.refused.ensures.status c.refused.ensures.history c.refused.ensures.wrote

pub returns-in-Some-Crew-clause-ends : goal.returns-in-Some-Crew-clause-ends
returns-in-Some-Crew-clause-ends g c =
    ends_unused (command_of c.args.words.now) _ _ _ _ _ refusal.NotYetWords c.requires
    (refl, sym (ap inputs_of c.in-Some-Crew.ensures.command) ∙ ap (λ (w : Words). inputs_of (Some (read_as w))) c.in-Some-Crew.field-0-is)
    c.refused-in-Some-Crew.ensures.status c.refused-in-Some-Crew.ensures.history c.refused-in-Some-Crew.ensures.wrote

pub returns-in-Some-Load-clause-ends : goal.returns-in-Some-Load-clause-ends
returns-in-Some-Load-clause-ends g c =
    ends_unused (command_of c.args.words.now) _ _ _ _ _ refusal.NotYetWords c.requires
    (refl, sym (ap inputs_of c.in-Some-Load.ensures.command) ∙ ap (λ (w : Words). inputs_of (Some (read_as w))) c.in-Some-Load.field-0-is)
    c.refused-in-Some-Load.ensures.status c.refused-in-Some-Load.ensures.history c.refused-in-Some-Load.ensures.wrote
