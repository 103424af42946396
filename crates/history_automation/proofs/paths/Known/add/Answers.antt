use Rattle.std.proofs.Common.{arith}
use Rattle.history_automation.proofs.KnownPaths.{known_more, known_same}
use Rattle.history_automation.proofs.paths.Known.add.Goals as goal

pub returns-in_ok-add_promoted-in-Some-clause-ok : goal.returns-in_ok-add_promoted-in-Some-clause-ok
returns-in_ok-add_promoted-in-Some-clause-ok c =
    known_more c.args.policy.now c.args.before.now c.args.entry.now c.args.self.now c.add_promoted.new.self c.in-Some.promoted c.requires
    (grind (arith, c.in_ok-promoted.ensures, c.in-Some.is)) c.in_ok-add_promoted-in-Some.ensures.promotions c.in_ok-add_promoted-in-Some.ensures.paths

pub returns-in-None-clause-ok : goal.returns-in-None-clause-ok
returns-in-None-clause-ok c =
    known_same c.args.policy.now c.args.before.now c.args.entry.now c.args.self.now c.requires
    (grind (arith, c.in_ok-promoted.ensures, c.in-None.is))
