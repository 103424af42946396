use Rattle.std.proofs.Common.{List, sym, subst, All}
use Rattle.std.proofs.lemmas.List.Elements.{All-push}
use Rattle.kumo_disk.specs.inside.Crash.{shows, AfterStep}
use Rattle.kumo_disk.specs.declared.crash.Areas.{Areas}
use Rattle.kumo_disk.specs.declared.crash.Branch.{Branch}
use Rattle.kumo_disk.proofs.Runs.{at_some}
use Rattle.kumo_disk.proofs.crash.Step.add.Goals as goal

pub returns : goal.returns
returns c = subst (λ (l : List Branch). All (λ (b : Branch). AfterStep c.args.self.now (shows b.areas)) l) (sym c.in_ok-push.ensures.items)
    (All-push (λ (b : Branch). AfterStep c.args.self.now (shows b.areas)) c.args.found.now.items (record { areas = c.in-Some.areas; later = c.args.later }) c.requires.found
    (at_some (λ (a : Areas). AfterStep c.args.self.now (shows a)) c.in_ok-areas.field-0 c.in-Some.areas c.in-Some.is c.in_ok-areas.ensures))
