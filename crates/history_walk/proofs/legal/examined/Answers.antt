use Rattle.std.proofs.Common.{arith}
use Rattle.history_walk.proofs.legal.examined.Goals as goal

pub loop-place-init : goal.loop-place-init
loop-place-init g c = record { found = c.new-found.ensures c.args.policy.now; later = omega arith }
