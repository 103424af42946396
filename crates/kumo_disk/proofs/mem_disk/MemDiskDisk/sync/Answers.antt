use Rattle.std.proofs.Common.{refl, sym, subst}
use Rattle.kumo_disk.specs.Disk.{Image, Same, Moved}
use Rattle.kumo_disk.specs.Memory.{reads}
use Rattle.kumo_disk.specs.declared.kept_call.Effect.TheVariants.{Sync}
use Rattle.kumo_disk.proofs.KeptCalls.{keeps_lasts, keeps_each, keeps_spreads, stays_spreads}
use Rattle.kumo_disk.proofs.mem_disk.MemDiskDisk.sync.Goals as goal

pub returns-then-fails-clause-failed : goal.returns-then-fails-clause-failed
returns-then-fails-clause-failed c = stays_spreads (reads c.args.self.now) (reads c.args.self.now) c.args.self.now.calls.items c.args.self.now.calls.items 0 0 refl refl c.args.area

pub returns-in-Ok-clause-time : goal.returns-in-Ok-clause-time
returns-in-Ok-clause-time c = keeps_lasts c.args.area Sync 0 _ _ _ _ c.in-Ok.ensures.keeps

pub returns-in-Ok-clause-images : goal.returns-in-Ok-clause-images
returns-in-Ok-clause-images c = keeps_each c.args.area Sync 0 _ _ 0 0 c.in-Ok.ensures.keeps Same (λ d. refl) (subst (λ (i : Image). Moved c.args.area Same (reads c.args.self.now) i) (sym c.in-Ok.ensures.same) (record { here = refl; elsewhere = λ other differs. refl })) (λ d e does. does.0)

pub returns-in-Ok-clause-each : goal.returns-in-Ok-clause-each
returns-in-Ok-clause-each c = keeps_spreads c.args.area Sync 0 _ _ 0 0 c.in-Ok.ensures.keeps

pub returns-in-Err-clause-failed : goal.returns-in-Err-clause-failed
returns-in-Err-clause-failed c = stays_spreads (reads c.args.self.now) _ c.args.self.now.calls.items _ 0 0 c.in-Err.ensures.same c.in-Err.ensures.calls c.args.area
