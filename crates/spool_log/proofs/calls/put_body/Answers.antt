use Rattle.std.proofs.Common.{◌+◌, ◌++◌, length, List, ℕ, arith, ap, sym, subst}
use Rattle.kumo_disk.specs.Disk.{ReadMoves, Written}
use Rattle.spool_log.proofs.calls.put_body.Goals as goal
use Rattle.spool_log.proofs.Bytes.{ran_puts, on_ok_as, written_then}

pub returns-clause-ran : goal.returns-clause-ran
returns-clause-ran g c = ran_puts c.args.area c.args.at (c.args.at + 5) (g.D.Disk.seen c.args.disk.now) (g.D.Disk.seen c.put.new.disk) (g.D.Disk.seen c.put-2.new.disk)
    (omega arith) c.put.ensures.ran c.put-2.ensures.ran

pub returns-clause-written : goal.returns-clause-written
returns-clause-written g c = on_ok_as c.put-2.result
    (λ second. subst (λ (l : List ℕ). ReadMoves c.args.area (Written c.args.at (l ++ c.args.payload.now)) (g.D.Disk.seen c.args.disk.now) (g.D.Disk.seen c.put-2.new.disk)) c.head-head.ensures
    (written_then c.args.area c.args.at (c.args.at + 5) c.head-head.result c.args.payload.now (g.D.Disk.seen c.args.disk.now) (g.D.Disk.seen c.put.new.disk) (g.D.Disk.seen c.put-2.new.disk)
    (ap (λ (l : List ℕ). c.args.at + length l) (sym c.head-head.ensures)) c.requires.at c.in_ok-put.ensures.written second))
    c.put-2.ensures.written
