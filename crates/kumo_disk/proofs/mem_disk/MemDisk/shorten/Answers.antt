use Rattle.std.proofs.Common.{take, ℕ, List, refl, ◌∙◌}
use Rattle.kumo_disk.specs.Disk.{area_of}
use Rattle.kumo_disk.specs.Memory.{reads}
use Rattle.kumo_disk.specs.declared.kept_call.KeptCall.{KeptCall}
use Rattle.kumo_disk.specs.declared.kept_call.Effect.TheVariants.{Shorten}
use Rattle.kumo_disk.proofs.GoingBack.{goes_back_by, back_cut, piece_read}
use Rattle.kumo_disk.proofs.mem_disk.MemDisk.shorten.Goals as goal

pub returns-clause-keeps : goal.returns-clause-keeps
returns-clause-keeps c =
    let read : List ℕ = area_of c.args.area (reads c.args.self.now) in
    let call : KeptCall = record { area = c.args.area; effect = Shorten; at = c.args.end; placed = 0; replaced = c.in_ok-replaced.replaced; unwritten = c.new-unwritten.result } in
    record {
      call = call;
      kept = c.truncate.ensures.calls ∙ c.in_ok-push.ensures.items;
      goes_back = goes_back_by call (take c.args.end read) (reads c.args.self.now) (reads c.truncate.new.self) c.requires.area c.truncate.ensures.cut
          (back_cut c.args.end c.in_ok-replaced.replaced.items read c.requires.end
          (piece_read c.args.end c.bytes.result.now c.bytes-long.result.now read c.in_ok-replaced.replaced.items c.bytes.ensures c.bytes-long.ensures c.in_ok-replaced.ensures));
      of_area = refl;
      of_effect = refl;
      of_offset = refl;
    }
