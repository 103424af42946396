-- Images that a crash may leave, as they are found call by call.
use Rattle.std.specs.Prelude.{◌≡◌, List, ◌∷◌, reverse, All}
use Rattle.kumo_disk.specs.Disk.{Image}
use Rattle.kumo_disk.specs.Memory.{undone, May}
use Rattle.kumo_disk.specs.declared.kept_call.KeptCall.{KeptCall}
use Rattle.kumo_disk.specs.declared.crash.Areas.{Areas}
use Rattle.kumo_disk.specs.declared.crash.Branch.{Branch}
use Rattle.kumo_disk.specs.declared.crash.Step.{Step}

abbrev pub shows : Areas → Image
shows areas = record { first = areas.first.items; second = areas.second.items }

-- what is read before the call is found by going back over it
abbrev pub IsStep : Step → Type 0
IsStep step = shows step.before.now ≡ undone step.call.now (shows step.after.now)

-- an image that a crash may leave after the call
abbrev pub AfterStep : Step → Image → Type 0
AfterStep step image = May (shows step.after.now) (step.call.now ∷ reverse step.rest.now) image

abbrev pub AllAfter : Step → List Branch → Type 0
AllAfter step branches = All (λ (b : Branch). AfterStep step (shows b.areas)) branches

-- after these calls, the first one first
abbrev pub AllMay : Image → List KeptCall → List Branch → Type 0
AllMay now calls branches = All (λ (b : Branch). May now (reverse calls) (shows b.areas)) branches
