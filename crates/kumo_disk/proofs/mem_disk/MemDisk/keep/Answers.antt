use Rattle.std.proofs.Common.{drop, ◌≡◌, take, ℕ, ◌+◌, List, [], ◌++◌, refl, ◌∙◌, ap}
use Rattle.kumo_disk.specs.Disk.{area_of}
use Rattle.kumo_disk.specs.Memory.{reads}
use Rattle.kumo_disk.proofs.GoingBack.{with_same, back_same}
use Rattle.kumo_disk.proofs.mem_disk.MemDisk.keep.Goals as goal

pub returns-clause-keeps : goal.returns-clause-keeps
returns-clause-keeps c =
    let empty : c.new-replaced.result.items ≡ [] = c.new-replaced.ensures.items in
    let read : List ℕ = area_of c.args.area (reads c.args.self.now) in
    record {
      call = record { area = c.args.area; effect = c.args.effect; at = c.args.at; placed = 0; replaced = c.new-replaced.result; unwritten = c.in_ok-unwritten.unwritten };
      kept = c.in_ok-push.ensures.items;
      goes_back = with_same c.args.area _ (reads c.args.self.now) (ap (λ (l : List ℕ). take c.args.at read ++ l ++ drop (c.args.at + 0) read) empty ∙ back_same c.args.at read);
      of_area = refl;
      of_effect = refl;
      of_offset = refl;
    }
