use Rattle.std.proofs.Common.{◌≡◌, ◌==◌, ◌/◌, true, false, arith}
use Rattle.std.proofs.lemmas.Bool.Decides.{nat_tests}
use Rattle.smtp_dialogue.proofs.Trying.{tries_same, tries_bad, refused_transient, refused_permanent, refused_bad}
use Rattle.smtp_dialogue.proofs.delivery.refused.Goals as goal

pub returns-in-4-clause-tries : goal.returns-in-4-clause-tries
returns-in-4-clause-tries g c =
    let e : (c.args.reply.code / 100 == 4) ≡ true = grind (arith, nat_tests) in
    tries_same (refused_transient c.args.reply.code c.args.reply.text e) c.reset.ensures.tries

pub returns-in-5-clause-tries : goal.returns-in-5-clause-tries
returns-in-5-clause-tries g c =
    let e : (c.args.reply.code / 100 == 4) ≡ false = grind (arith, nat_tests) in
    let f : (c.args.reply.code / 100 == 5) ≡ true = grind (arith, nat_tests) in
    tries_same (refused_permanent c.args.reply.code c.args.reply.text e f) c.reset-in-5.ensures.tries

pub returns-in_default-clause-tries : goal.returns-in_default-clause-tries
returns-in_default-clause-tries g c =
    let e : (c.args.reply.code / 100 == 4) ≡ false = grind (arith, nat_tests) in
    let f : (c.args.reply.code / 100 == 5) ≡ false = grind (arith, nat_tests) in
    tries_bad (refused_bad c.args.reply.code c.args.reply.text e f) c.lost.ensures
