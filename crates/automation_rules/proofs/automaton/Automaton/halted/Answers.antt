use Rattle.std.proofs.Common.{ap, ◌∙◌, get_or}
use Rattle.automation_rules.proofs.QueryLemmas.{halted_answer}
use Rattle.automation_rules.proofs.automaton.Automaton.halted.Goals as goal

pub returns : goal.returns
returns c matches stands latest =
    let p = c.index-known.result.now in
    let here = c.index-known.ensures ∙ ap (λ ps. get_or ps c.args.path p) c.self.view_is in
    c.is_halted.ensures ∙ halted_answer c.args.self.now matches c.args.path c.args.t p stands latest c.requires here
