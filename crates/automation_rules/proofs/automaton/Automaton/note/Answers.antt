use Rattle.std.proofs.Common.{[], ◌∷◌, ◌++◌, ap, sym, ◌∙◌, subst, get_or, set}
use Rattle.std.specs.Prelude.{OnOk}
use Rattle.automation_rules.specs.Standing.{paths_of, StandsFor}
use Rattle.automation_rules.proofs.StandingSteps.{ok_always}
use Rattle.automation_rules.proofs.NoteSteps.{same_paths, fires_step, noted_step}
use Rattle.automation_rules.proofs.automaton.Automaton.note.Goals as goal

pub returns-clause-paths : goal.returns-clause-paths
returns-clause-paths c =
    let p = c.index_mut-known.result.now in
    ok_always c.note.result _
    (same_paths c.self.inside.paths.items c.args.path p c.note.new.self c.index_mut-known.ensures.value c.note.ensures.base c.note.ensures.site ∙ ap paths_of c.self.view_is)

pub returns-clause-fires : goal.returns-clause-fires
returns-clause-fires c matches m stands latest by =
    let p = c.index_mut-known.result.now in
    let here = c.index_mut-known.ensures.value ∙ ap (λ ps. get_or ps c.args.path p) c.self.view_is in
    fires_step c.args.self.now matches c.args.path c.args.rule c.args.t c.args.name.now m p c.note.result stands latest by here c.note.ensures.fires

pub returns-clause-stands : goal.returns-clause-stands
returns-clause-stands c matches m stands latest by =
    let p = c.index_mut-known.result.now in
    let here = c.index_mut-known.ensures.value ∙ ap (λ ps. get_or ps c.args.path p) c.self.view_is in
    let fires = returns-clause-fires c matches m stands latest by in
    subst (λ ps. OnOk c.note.result (StandsFor (set ps c.args.path c.note.new.self) (matches ++ m ∷ []))) (sym c.self.view_is)
    (noted_step c.args.self.now matches c.args.path c.args.rule c.args.t c.args.name.now m p c.note.new.self c.note.result stands latest by here fires
    c.note.ensures.base c.note.ensures.site c.note.ensures.rules)
