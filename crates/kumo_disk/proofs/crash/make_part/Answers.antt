use Rattle.std.proofs.Common.{length, sym, subst, arith}
use Rattle.kumo_disk.specs.Memory.{Does}
use Rattle.kumo_disk.specs.declared.kept_call.Effect.{Effect}
use Rattle.kumo_disk.proofs.crash.make_part.Goals as goal

pub returns-in_ok-put-in-Write : goal.returns-in_ok-put-in-Write
returns-in_ok-put-in-Write c = λ yes. subst (λ (e : Effect). Does e c.args.call.now.at c.args.before.now c.args.area.now.items c.put.new.area.items) (sym c.in-Write.is)
    (c.in_ok-put-in-Write.ensures c.in-Write.count (length c.args.before.now) (omega (arith, c.as_slice.ensures.len, c.in_ok-bytes-in-Write.ensures)))
