use Rattle.history_automation.proofs.paths.Known.of.Goals as goal

pub loop-place-init : goal.loop-place-init
loop-place-init c = c.new-known.ensures c.args.policy.now
