use Rattle.std.proofs.Common.{inl, inr, ⊎_elim, take, refl}
use Rattle.kumo_disk.specs.Disk.{area_of, Cut}
use Rattle.kumo_disk.specs.Memory.{reads}
use Rattle.kumo_disk.specs.declared.kept_call.Effect.TheVariants.{Shorten}
use Rattle.kumo_disk.proofs.GoingBack.{moved_by, cut_same, cut_made}
use Rattle.kumo_disk.proofs.KeptCalls.{keeps_lasts, keeps_each, keeps_spreads, tried_lasts, tried_each, tried_spreads}
use Rattle.kumo_disk.proofs.mem_disk.MemDiskDisk.cut.Goals as goal

pub returns-then-fails-clause-time : goal.returns-then-fails-clause-time
returns-then-fails-clause-time c = tried_lasts c.args.area Shorten c.args.end _ _ _ _ c.keep_failed.ensures.keeps c.keep_failed.ensures.same

pub returns-then-fails-clause-images : goal.returns-then-fails-clause-images
returns-then-fails-clause-images c = tried_each c.args.area Shorten c.args.end _ _ 0 0 c.keep_failed.ensures.keeps c.keep_failed.ensures.same (Cut c.args.end) (cut_same c.args.end) (λ d e does. does)

pub returns-then-fails-clause-each : goal.returns-then-fails-clause-each
returns-then-fails-clause-each c = ⊎_elim (λ each. inl each) (λ rose. inr (refl, rose)) (tried_spreads c.args.area Shorten c.args.end _ _ 0 0 c.keep_failed.ensures.keeps c.keep_failed.ensures.same)

pub returns-in-Ok-clause-time : goal.returns-in-Ok-clause-time
returns-in-Ok-clause-time c = keeps_lasts c.args.area Shorten c.args.end _ _ _ _ c.in-Ok.ensures.keeps

pub returns-in-Ok-clause-images : goal.returns-in-Ok-clause-images
returns-in-Ok-clause-images c = keeps_each c.args.area Shorten c.args.end _ _ 0 0 c.in-Ok.ensures.keeps (Cut c.args.end) (cut_same c.args.end) (moved_by c.args.area (Cut c.args.end) (take c.args.end (area_of c.args.area (reads c.args.self.now))) (reads c.args.self.now) (reads c.shorten.new.self) c.requires.area c.in-Ok.ensures.ok (cut_made c.args.end (area_of c.args.area (reads c.args.self.now)) c.requires.end)) (λ d e does. does)

pub returns-in-Ok-clause-each : goal.returns-in-Ok-clause-each
returns-in-Ok-clause-each c = inl (keeps_spreads c.args.area Shorten c.args.end _ _ 0 0 c.in-Ok.ensures.keeps)
