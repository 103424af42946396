use Rattle.std.proofs.Common.{inl, inr, ⊎_elim, length, List, ℕ, refl}
use Rattle.kumo_disk.specs.Disk.{area_of, with_bytes, Torn}
use Rattle.kumo_disk.specs.Memory.{reads}
use Rattle.kumo_disk.specs.declared.kept_call.Effect.TheVariants.{Write}
use Rattle.kumo_disk.proofs.GoingBack.{moved_by, torn_same, torn_made}
use Rattle.kumo_disk.proofs.KeptCalls.{keeps_lasts, keeps_each, keeps_spreads, tried_lasts, tried_each, tried_spreads, stays_each}
use Rattle.kumo_disk.proofs.mem_disk.MemDiskDisk.write_at.Goals as goal

pub returns-then-fails-clause-time : goal.returns-then-fails-clause-time
returns-then-fails-clause-time c = tried_lasts c.args.area (Write (length c.args.bytes.now)) c.args.at _ _ _ _ c.keep_failed.ensures.keeps c.keep_failed.ensures.same

pub returns-then-fails-clause-images : goal.returns-then-fails-clause-images
returns-then-fails-clause-images c = tried_each c.args.area (Write (length c.args.bytes.now)) c.args.at _ _ 0 0 c.keep_failed.ensures.keeps c.keep_failed.ensures.same (Torn c.args.at (length c.args.bytes.now) (length (area_of c.args.area (reads c.args.self.now)))) (torn_same c.args.at (length c.args.bytes.now) (length (area_of c.args.area (reads c.args.self.now)))) (λ d e does. does)

pub returns-then-fails-clause-each : goal.returns-then-fails-clause-each
returns-then-fails-clause-each c = ⊎_elim (λ each. inl each) (λ rose. inr (refl, rose)) (tried_spreads c.args.area (Write (length c.args.bytes.now)) c.args.at _ _ 0 0 c.keep_failed.ensures.keeps c.keep_failed.ensures.same)

pub returns-in-Ok-clause-time : goal.returns-in-Ok-clause-time
returns-in-Ok-clause-time c = keeps_lasts c.args.area (Write (length c.args.bytes.now)) c.args.at _ _ _ _ c.in-Ok.ensures.keeps

pub returns-in-Ok-clause-images : goal.returns-in-Ok-clause-images
returns-in-Ok-clause-images c = keeps_each c.args.area (Write (length c.args.bytes.now)) c.args.at _ _ 0 0 c.in-Ok.ensures.keeps (Torn c.args.at (length c.args.bytes.now) (length (area_of c.args.area (reads c.args.self.now)))) (torn_same c.args.at (length c.args.bytes.now) (length (area_of c.args.area (reads c.args.self.now)))) (moved_by c.args.area (Torn c.args.at (length c.args.bytes.now) (length (area_of c.args.area (reads c.args.self.now)))) (with_bytes c.args.at c.args.bytes.now (area_of c.args.area (reads c.args.self.now))) (reads c.args.self.now) (reads c.write.new.self) c.requires.area c.in-Ok.ensures.ok (torn_made c.args.at c.args.bytes.now (area_of c.args.area (reads c.args.self.now)) c.requires.at)) (λ d e does. does)

pub returns-in-Ok-clause-each : goal.returns-in-Ok-clause-each
returns-in-Ok-clause-each c = inl (keeps_spreads c.args.area (Write (length c.args.bytes.now)) c.args.at _ _ 0 0 c.in-Ok.ensures.keeps)

pub returns-in-Ok-clause-part : goal.returns-in-Ok-clause-part
returns-in-Ok-clause-part c =
    let read : List ℕ = area_of c.args.area (reads c.args.self.now) in
    (reads c.write.new.self, refl, moved_by c.args.area (λ old. Torn c.args.at (length c.args.bytes.now) (length old) old) (with_bytes c.args.at c.args.bytes.now read) (reads c.args.self.now) (reads c.write.new.self) c.requires.area c.in-Ok.ensures.ok (torn_made c.args.at c.args.bytes.now read c.requires.at))

pub returns-in-Err-clause-images : goal.returns-in-Err-clause-images
returns-in-Err-clause-images c =
    let read : List ℕ = area_of c.args.area (reads c.args.self.now) in
    stays_each (reads c.args.self.now) (reads c.write.new.self) c.args.self.now.calls.items c.write.new.self.calls.items 0 0 c.in-Err.ensures.err.0 c.in-Err.ensures.err.1 c.args.area (Torn c.args.at (length c.args.bytes.now) (length read)) (torn_same c.args.at (length c.args.bytes.now) (length read))
