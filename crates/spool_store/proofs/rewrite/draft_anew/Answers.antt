use Rattle.std.proofs.Common.{◌-◌, [], ℕ, ap, sym}
use Rattle.spool_log.specs.Head.{Clears}
use Rattle.spool_log.specs.Log.{IsDraft}
use Rattle.spool_log.specs.declared.draft.Draft.{Draft}
use Rattle.spool_store.specs.inside.Rewriting.{copies_of, AreWithin}
use Rattle.spool_store.proofs.Turning.{other_apart, clears_begin, copied_ran, carried, carried_back}
use Rattle.spool_store.proofs.rewrite.draft_anew.Goals as goal

pub returns-in_err-draft-clause-ran : goal.returns-in_err-draft-clause-ran
returns-in_err-draft-clause-ran g c =
    clears_begin (1 - c.args.log.area) (g.D.Disk.seen c.args.disk.now) (g.D.Disk.seen c.clear.new.disk) (g.D.Disk.seen c.begin.new.disk)
    c.in_ok-clear.ensures.short c.in_ok-clear.ensures.durable c.clear.ensures.ran c.begin.ensures.ran

pub copy_all-requires-clause-within : goal.copy_all-requires-clause-within
copy_all-requires-clause-within g c =
    let area : ℕ = c.args.log.area in
    let a = g.D.Disk.seen c.args.disk.now in
    let m = g.D.Disk.seen c.begin.new.disk in
    carried area (1 - area) Clears (λ bytes. AreWithin bytes c.args.pending.now) a m (λ is. other_apart area c.requires.area (sym is))
    (clears_begin (1 - area) a (g.D.Disk.seen c.clear.new.disk) m c.in_ok-clear.ensures.short c.in_ok-clear.ensures.durable c.clear.ensures.ran c.begin.ensures.ran)
    c.requires.within

pub returns-in_err-copy_all-clause-ran : goal.returns-in_err-copy_all-clause-ran
returns-in_err-copy_all-clause-ran g c =
    copied_ran (1 - c.args.log.area) c.in_ok-draft.draft [] (g.D.Disk.seen c.args.disk.now) (g.D.Disk.seen c.clear.new.disk) (g.D.Disk.seen c.begin.new.disk) (g.D.Disk.seen c.copy_all.new.disk)
    c.in_ok-clear.ensures.short c.in_ok-clear.ensures.durable c.clear.ensures.ran c.begin.ensures.ran (ap (λ (d : Draft). d.area) c.in_ok-draft.ensures.made) c.in_ok-draft.ensures.draft c.copy_all.ensures.ran

pub returns-clause-ran : goal.returns-clause-ran
returns-clause-ran g c =
    copied_ran (1 - c.args.log.area) c.in_ok-draft.draft [] (g.D.Disk.seen c.args.disk.now) (g.D.Disk.seen c.clear.new.disk) (g.D.Disk.seen c.begin.new.disk) (g.D.Disk.seen c.copy_all.new.disk)
    c.in_ok-clear.ensures.short c.in_ok-clear.ensures.durable c.clear.ensures.ran c.begin.ensures.ran (ap (λ (d : Draft). d.area) c.in_ok-draft.ensures.made) c.in_ok-draft.ensures.draft c.copy_all.ensures.ran

pub returns-clause-draft : goal.returns-clause-draft
returns-clause-draft g c =
    let area : ℕ = c.args.log.area in
    let a = g.D.Disk.seen c.args.disk.now in
    let m = g.D.Disk.seen c.begin.new.disk in
    let d = g.D.Disk.seen c.copy_all.new.disk in
    carried_back area (1 - area) Clears (λ bytes. IsDraft c.copy_all.new.draft (copies_of bytes c.args.pending.now) d) a m (λ is. other_apart area c.requires.area (sym is))
    (clears_begin (1 - area) a (g.D.Disk.seen c.clear.new.disk) m c.in_ok-clear.ensures.short c.in_ok-clear.ensures.durable c.clear.ensures.ran c.begin.ensures.ran)
    c.in_ok-copy_all.ensures.draft
