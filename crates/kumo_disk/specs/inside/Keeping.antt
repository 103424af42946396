-- What it is to keep a call.
use Rattle.std.specs.Prelude.{◌≡◌, ℕ, [], ◌∷◌, ◌++◌}
use Rattle.kumo_base.specs.Causes.{Rose}
use Rattle.kumo_disk.specs.Memory.{reads, undone}
use Rattle.kumo_disk.specs.declared.kept_call.KeptCall.{KeptCall}
use Rattle.kumo_disk.specs.declared.kept_call.Effect.{Effect}
use Rattle.kumo_disk.specs.declared.mem_disk.MemDisk.{MemDisk}

-- a call of this area, effect and offset was kept, and going back over it gives what was read before
pub record Keeps (area : ℕ) (effect : Effect) (at : ℕ) (old new : MemDisk) : Type 0 where
  pub call : KeptCall
  pub kept : new.calls.items ≡ old.calls.items ++ call ∷ []
  pub goes_back : undone call (reads new) ≡ reads old
  pub of_area : call.area ≡ area
  pub of_effect : call.effect ≡ effect
  pub of_offset : call.at ≡ at

-- no call was kept, since memory for it was refused
pub record IsRefused (old new : MemDisk) : Type 0 where
  pub none : new.calls.items ≡ old.calls.items
  pub refused : Rose old.refused new.refused
