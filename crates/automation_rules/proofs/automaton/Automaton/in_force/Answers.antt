use Rattle.std.proofs.Common.{ap, ◌∙◌, get_or}
use Rattle.automation_rules.proofs.QueryLemmas.{in_force_answer}
use Rattle.automation_rules.proofs.automaton.Automaton.in_force.Goals as goal

pub returns : goal.returns
returns c matches stands latest =
    let p = c.index-known.result.now in
    let here = c.index-known.ensures ∙ ap (λ ps. get_or ps c.args.path p) c.self.view_is in
    c.is_in_force.ensures ∙ in_force_answer c.args.self.now matches c.args.path c.args.rule c.args.t p stands latest c.requires here
