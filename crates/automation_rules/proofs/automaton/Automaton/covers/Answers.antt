use Rattle.std.proofs.Common.{◌&&◌, ap, ◌∙◌, get_or}
use Rattle.std.specs.List.{list_any}
use Rattle.policy_core.specs.Site.{is_same_site}
use Rattle.automation_rules.specs.Memory.{PathMemory}
use Rattle.automation_rules.specs.inside.Showing.{is_covering_path}
use Rattle.automation_rules.proofs.QueryLemmas.{covers_answer}
use Rattle.automation_rules.proofs.automaton.Automaton.covers.Goals as goal

pub returns : goal.returns
returns c matches stands latest =
    let p = c.index.result.now in
    let here = c.index.ensures ∙ ap (λ ps. get_or ps c.args.path p) c.self.view_is in
    c.covers_at_site.ensures
    ∙ ap (list_any (λ (q : PathMemory). is_same_site q.site p.site && is_covering_path c.args.t c.args.name.now q)) (c.deref.ensures.value ∙ c.self.view_is)
    ∙ covers_answer c.args.self.now matches c.args.path c.args.t p c.args.name.now stands latest c.requires here
