use Rattle.std.proofs.Common.{◌≡◌, List, ◌∷◌, [], ◌++◌, reverse, sym, ◌∙◌, ap, subst, All, true}
use Rattle.std.proofs.lemmas.List.Elements.{All-push, All-nil}
use Rattle.std.proofs.lemmas.List.{reverse-append}
use Rattle.kumo_disk.specs.Disk.{Image}
use Rattle.kumo_disk.specs.Memory.{May, may_as_read}
use Rattle.kumo_disk.specs.inside.Crash.{shows, AllMay}
use Rattle.kumo_disk.specs.declared.kept_call.KeptCall.{KeptCall}
use Rattle.kumo_disk.specs.declared.crash.Branch.{Branch}
use Rattle.kumo_disk.proofs.crash.+branches.Goals as goal
use Rattle.kumo_disk.proofs.crash.+branches.Goals.{then-calls-skipped+in-Some+in_ok-before+in_ok-below+in_ok-add_below, else-calls-skipped}

-- after the last of these calls
after_last : (now : Image) (calls rest : List KeptCall) (call : KeptCall) (found : List Branch) → calls ≡ rest ++ call ∷ [] → All (λ (b : Branch). May now (call ∷ reverse rest) (shows b.areas)) found → AllMay now calls found
after_last now calls rest call found are all =
    subst (λ (l : List KeptCall). All (λ (b : Branch). May now l (shows b.areas)) found) (sym (ap reverse are ∙ reverse-append rest (call ∷ []))) all

pub returns : goal.returns
returns t c = subst (λ (l : List Branch). AllMay (shows c.args.now.now) c.args.calls.now l) (sym c.in_ok-push.ensures.items)
    (All-push (λ (b : Branch). May (shows c.args.now.now) (reverse c.args.calls.now) (shows b.areas)) c.if-calls-skipped.found.items (record { areas = c.in_ok-areas.areas; later = true })
    (elim c.if-calls-skipped.branch [
      | then-calls-skipped+in-Some+in_ok-before+in_ok-below+in_ok-add_below w ↦ subst (λ (l : List Branch). AllMay (shows c.args.now.now) c.args.calls.now l) (sym (ap (λ v. v.items) w.found-is))
          (let e = w.in-Some.ensures in let b = w.in_ok-add_below.ensures in after_last (shows c.args.now.now) c.args.calls.now w.in-Some.rest.now w.in-Some.call.now w.add_below.new.found.items e.cases.0 b)
      | else-calls-skipped w ↦ subst (λ (l : List Branch). AllMay (shows c.args.now.now) c.args.calls.now l) (sym (ap (λ v. v.items) w.found-is ∙ c.new-found.ensures.items)) (All-nil (λ (b : Branch). May (shows c.args.now.now) (reverse c.args.calls.now) (shows b.areas)))
    ])
    (may_as_read (shows c.args.now.now) (reverse c.args.calls.now) (shows c.in_ok-areas.areas) c.in_ok-areas.ensures))
