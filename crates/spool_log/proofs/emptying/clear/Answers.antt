use Rattle.std.proofs.Common.{arith, refl, ◌∙◌}
use Rattle.kumo_disk.specs.Disk.{Same}
use Rattle.kumo_disk.proofs.Runs.{ran_same, durable_stays}
use Rattle.spool_log.proofs.Bytes.{ran_after}
use Rattle.spool_log.proofs.Drafts.{clears_same, clears_shut, clears_cut, gate_written, gate_open, gate_shut_read}
use Rattle.spool_log.proofs.emptying.clear.Goals as goal

pub returns-in_err-gate_is_open-clause-ran : goal.returns-in_err-gate_is_open-clause-ran
returns-in_err-gate_is_open-clause-ran g c =
    let a = g.D.Disk.seen c.args.disk.now in
    let l = g.D.Disk.seen c.length.new.self in
    let o = g.D.Disk.seen c.gate_is_open.new.disk in
    clears_same c.args.area a o o (ran_after c.args.area Same a l o (λ d. refl) (ran_same c.args.area a l c.length.ensures.time c.length.ensures.images c.length.ensures.same) c.gate_is_open.ensures.ran)

pub returns-in_err-set_gate-clause-ran : goal.returns-in_err-set_gate-clause-ran
returns-in_err-set_gate-clause-ran g c =
    let a = g.D.Disk.seen c.args.disk.now in
    let l = g.D.Disk.seen c.length.new.self in
    let o = g.D.Disk.seen c.gate_is_open.new.disk in
    let first = ran_after c.args.area Same a l o (λ d. refl) (ran_same c.args.area a l c.length.ensures.time c.length.ensures.images c.length.ensures.same) c.gate_is_open.ensures.ran in
    clears_shut c.args.area a o (g.D.Disk.seen c.set_gate.new.disk) first (durable_stays c.args.area a o (c.gate_is_open.ensures.same ∙ c.length.ensures.same) first c.requires.durable)
    (gate_open c.args.area c.in_ok-long.long c.in_ok-gate_is_open.field-0 a l o c.length.ensures.same c.gate_is_open.ensures.same c.in_ok-long.ensures.value c.in_ok-gate_is_open.ensures.gate (omega (arith, c.if-long-le1.false)) c.if-branch.true)
    c.set_gate.ensures.ran

pub returns-then-branch-clause-ran : goal.returns-then-branch-clause-ran
returns-then-branch-clause-ran g c =
    let a = g.D.Disk.seen c.args.disk.now in
    let l = g.D.Disk.seen c.length.new.self in
    let o = g.D.Disk.seen c.gate_is_open.new.disk in
    let s = g.D.Disk.seen c.set_gate.new.disk in
    let first = ran_after c.args.area Same a l o (λ d. refl) (ran_same c.args.area a l c.length.ensures.time c.length.ensures.images c.length.ensures.same) c.gate_is_open.ensures.ran in
    clears_cut c.args.area a s (g.D.Disk.seen c.cut_all.new.disk)
    (clears_shut c.args.area a o s first (durable_stays c.args.area a o (c.gate_is_open.ensures.same ∙ c.length.ensures.same) first c.requires.durable)
    (gate_open c.args.area c.in_ok-long.long c.in_ok-gate_is_open.field-0 a l o c.length.ensures.same c.gate_is_open.ensures.same c.in_ok-long.ensures.value c.in_ok-gate_is_open.ensures.gate (omega (arith, c.if-long-le1.false)) c.if-branch.true)
    c.set_gate.ensures.ran)
    c.in_ok-set_gate.ensures.durable (gate_written c.args.area a o s c.in_ok-set_gate.ensures.written) c.cut_all.ensures.ran

pub returns-clause-ran : goal.returns-clause-ran
returns-clause-ran g c =
    let a = g.D.Disk.seen c.args.disk.now in
    let l = g.D.Disk.seen c.length.new.self in
    let o = g.D.Disk.seen c.gate_is_open.new.disk in
    let first = ran_after c.args.area Same a l o (λ d. refl) (ran_same c.args.area a l c.length.ensures.time c.length.ensures.images c.length.ensures.same) c.gate_is_open.ensures.ran in
    clears_cut c.args.area a o (g.D.Disk.seen c.cut_all-2.new.disk) (clears_same c.args.area a o o first)
    (durable_stays c.args.area a o (c.gate_is_open.ensures.same ∙ c.length.ensures.same) first c.requires.durable)
    (gate_shut_read c.args.area c.in_ok-long.long c.in_ok-gate_is_open.field-0 a l o c.length.ensures.same c.gate_is_open.ensures.same c.in_ok-long.ensures.value c.in_ok-gate_is_open.ensures.gate c.if-branch.false)
    c.cut_all-2.ensures.ran
