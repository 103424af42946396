use Rattle.std.proofs.Common.{◌≤◌, ◌+◌, arith, vec_len, vec_capacity}
use Rattle.sending_state.proofs.Growth.{started_keeps}
use Rattle.sending_state.proofs.state.SendingState.new.Goals as goal

pub invariant_of-result : goal.invariant_of-result
invariant_of-result c =
    let room : vec_len c.new.result + 0 ≤ vec_capacity c.new.result = omega (arith, c.new.ensures.len, c.new.ensures.capacity) in
    (started_keeps c.args.policy c.new.result.items c.new-2.result c.new-3.result c.new.ensures.items (c.new-2.ensures c.args.policy) (c.new-3.ensures c.args.policy), room)
