use Rattle.std.proofs.Common.{◌≡◌, List, ◌∷◌, [], ◌++◌, reverse, Some, ℕ, sym, ◌∙◌, ap, subst, MatchOption}
use Rattle.std.specs.Prelude.{slice_get}
use Rattle.std.proofs.lemmas.List.Elements.{All-pop, All-nil}
use Rattle.kumo_disk.specs.Disk.{Image}
use Rattle.kumo_disk.specs.Memory.{May, may_as_read, reads, mem_seen, Holds, HoldsImage}
use Rattle.kumo_disk.specs.inside.Crash.{shows, AllMay}
use Rattle.kumo_disk.specs.declared.kept_call.KeptCall.{KeptCall}
use Rattle.kumo_disk.specs.declared.crash.Areas.{Areas}
use Rattle.kumo_disk.specs.declared.crash.Branch.{Branch}
use Rattle.kumo_disk.specs.declared.mem_disk.MemDisk.{MemDisk}
use Rattle.kumo_disk.proofs.CrashImages.{first_stays, image_pushed}
use Rattle.kumo_disk.proofs.mem_disk.MemDisk.images.Goals as goal

-- what the areas show that were copied
shows_read : (disk : MemDisk) (areas : Areas) (first second : List ℕ) → areas.first.items ≡ first → areas.second.items ≡ second → first ≡ disk.first.items → second ≡ disk.second.items → shows areas ≡ reads disk
shows_read disk areas first second a b c d = ap (λ (l : List ℕ). record { first = l; second = areas.second.items }) (a ∙ c) ∙ ap (λ (l : List ℕ). record { first = disk.first.items; second = l }) (b ∙ d)

pub loop-branch-init : goal.loop-branch-init
loop-branch-init c =
    let read : shows c.in_ok-areas.areas ≡ reads c.args.self.now =
    shows_read c.args.self.now c.in_ok-areas.areas _ _ c.in_ok-areas.ensures.first c.in_ok-areas.ensures.second c.as_slice.ensures.value c.as_slice-2.ensures.value in
    let all : AllMay (reads c.args.self.now) c.args.self.now.calls.items c.in_ok-found.found.items =
    subst (λ (i : Image). AllMay i c.args.self.now.calls.items c.in_ok-found.found.items) read
    (subst (λ (l : List KeptCall). AllMay (shows c.in_ok-areas.areas) l c.in_ok-found.found.items) c.as_slice-calls.ensures.value c.in_ok-found.ensures) in
    let only : c.push.new.self.items ≡ c.of.result ∷ [] = c.in_ok-push.ensures.items ∙ ap (λ (l : List MemDisk). l ++ c.of.result ∷ []) c.new-disks.ensures.items in
    record {
      found = (All-pop (λ (b : Branch). May (reads c.args.self.now) (reverse c.args.self.now.calls.items) (shows b.areas)) c.in_ok-found.found.items c.pop.new.self.items c.pop.result c.pop.ensures.items all).0;
      sound = image_pushed c.args.self.now [] c.push.new.self.items c.of.result (shows c.in_ok-areas.areas) only
          (may_as_read (reads c.args.self.now) (reverse c.args.self.now.calls.items) (shows c.in_ok-areas.areas) read) c.of.ensures.holds c.of.ensures.plan
          (All-nil (λ (d : MemDisk). HoldsImage (mem_seen c.args.self.now) d));
      first = subst (λ (l : List MemDisk). MatchOption (slice_get l 0) ⊥ (λ d. Holds c.args.self.now.first.items c.args.self.now.second.items (mem_seen d))) (sym only)
          (subst (λ (i : Image). Holds i.first i.second (mem_seen c.of.result)) read c.of.ensures.holds);
    }

pub loop-branch-preserved : goal.loop-branch-preserved
loop-branch-preserved c =
    let one = All-pop (λ (b : Branch). May (reads c.args.self.now) (reverse c.args.self.now.calls.items) (shows b.areas)) c.loop-branch.found.items c.pop-in-loop-branch.new.self.items (Some c.in-Some.branch)
    c.in-Some.ensures.items c.loop-branch.invariant.found in
    record {
      found = one.0;
      sound = image_pushed c.args.self.now c.loop-branch.disks.items c.push-in-Some.new.self.items c.of-in-Some.result (shows c.in-Some.branch.areas) c.in_ok-push-2.ensures.items one.1 c.of-in-Some.ensures.holds c.of-in-Some.ensures.plan c.loop-branch.invariant.sound;
      first = subst (λ (l : List MemDisk). MatchOption (slice_get l 0) ⊥ (λ d. Holds c.args.self.now.first.items c.args.self.now.second.items (mem_seen d))) (sym c.in_ok-push-2.ensures.items)
          (first_stays (λ (d : MemDisk). Holds c.args.self.now.first.items c.args.self.now.second.items (mem_seen d)) c.loop-branch.disks.items c.of-in-Some.result c.loop-branch.invariant.first);
    }
