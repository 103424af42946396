use Rattle.std.proofs.Common.{vec_len, All, MatchOption}
use Rattle.std.specs.Prelude.{slice_get}
use Rattle.kumo_disk.specs.Memory.{reads, mem_seen, Holds, HoldsImage}
use Rattle.kumo_disk.specs.inside.Crash.{AllMay}
use Rattle.kumo_disk.specs.declared.mem_disk.MemDisk.{MemDisk}
use Rattle.kumo_disk.proofs.mem_disk.MemDisk.images.Given as goal

abbrev pub invariant-loop-branch : goal.invariant-loop-branch
invariant-loop-branch l = record {
  found : AllMay (reads l.self) l.self.calls.items l.found.items;
  sound : All (λ (d : MemDisk). HoldsImage (mem_seen l.self) d) l.disks.items;
  first : MatchOption (slice_get l.disks.items 0) ⊥ (λ d. Holds l.self.first.items l.self.second.items (mem_seen d));
}

abbrev pub decreases-loop-branch : goal.decreases-loop-branch
decreases-loop-branch l = vec_len l.found
