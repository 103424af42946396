use Rattle.std.proofs.Common.{◌+◌, [], ◌∷◌, length, arith}
use Rattle.spool_log.proofs.calls.stage.Goals as goal
use Rattle.spool_log.specs.Area.{body_of}
use Rattle.spool_log.proofs.Bytes.{ran_puts, on_ok_as, written_then}

pub returns-clause-ran : goal.returns-clause-ran
returns-clause-ran g c = ran_puts c.args.area c.args.at (c.args.at + 5 + length c.args.payload.now) (g.D.Disk.seen c.args.disk.now) (g.D.Disk.seen c.put_body.new.disk) (g.D.Disk.seen c.put_gate.new.disk)
    (omega arith) c.put_body.ensures.ran c.put_gate.ensures.ran

pub returns-clause-written : goal.returns-clause-written
returns-clause-written g c = on_ok_as c.put_gate.result
    (λ second. written_then c.args.area c.args.at (c.args.at + 5 + length c.args.payload.now) (body_of c.args.kind c.args.payload.now) (0 ∷ []) (g.D.Disk.seen c.args.disk.now) (g.D.Disk.seen c.put_body.new.disk) (g.D.Disk.seen c.put_gate.new.disk)
    (omega arith) c.requires.at c.in_ok-put_body.ensures.written second)
    c.put_gate.ensures.written
