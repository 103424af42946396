use Rattle.std.proofs.Common.{ap, ◌∙◌}
use Rattle.std.specs.List.{list_any}
use Rattle.automation_rules.specs.inside.Showing.{is_ending_path}
use Rattle.automation_rules.proofs.QueryLemmas.{next_end_answer}
use Rattle.automation_rules.proofs.automaton.Automaton.next_end.Goals as goal

pub returns : goal.returns
returns c matches stands latest =
    next_end_answer c.args.self.now matches c.args.t c.next_end_among.result stands latest
    (λ u. c.next_end_among.ensures u ∙ ap (list_any (is_ending_path c.args.t u)) (c.deref.ensures.value ∙ c.self.view_is))
