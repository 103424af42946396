use Rattle.std.proofs.Common.{◌≡◌, length, take, drop, ℕ, List, refl, ◌∙◌, ap}
use Rattle.kumo_disk.specs.Disk.{area_of, with_bytes}
use Rattle.kumo_disk.specs.Memory.{reads}
use Rattle.kumo_disk.specs.declared.kept_call.KeptCall.{KeptCall}
use Rattle.kumo_disk.specs.declared.kept_call.Effect.TheVariants.{Write}
use Rattle.kumo_disk.proofs.GoingBack.{goes_back_by, back_write}
use Rattle.kumo_disk.proofs.mem_disk.MemDisk.write.Goals as goal

pub returns-clause-keeps : goal.returns-clause-keeps
returns-clause-keeps c =
    let read : List ℕ = area_of c.args.area (reads c.args.self.now) in
    let call : KeptCall = record { area = c.args.area; effect = Write (length c.args.bytes.now); at = c.args.at; placed = length c.args.bytes.now; replaced = c.in_ok-replaced.replaced; unwritten = c.new-unwritten.result } in
    let piece : c.in_ok-replaced.replaced.items ≡ take (length c.args.bytes.now) (drop c.args.at read) =
    c.in_ok-replaced.ensures ∙ ap (λ (l : List ℕ). take (length c.args.bytes.now) (drop c.args.at l)) c.bytes.ensures in
    record {
      call = call;
      kept = c.in_ok-change.ensures.calls;
      goes_back = goes_back_by call (with_bytes c.args.at c.args.bytes.now read) (reads c.args.self.now) (reads c.change.new.self) c.requires.area c.in_ok-change.ensures.ok
          (back_write c.args.at (length c.args.bytes.now) c.in_ok-replaced.replaced.items c.args.bytes.now read c.requires.at refl piece);
      of_area = refl;
      of_effect = refl;
      of_offset = refl;
    }
