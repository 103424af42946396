use Rattle.std.proofs.Common.{◌≡◌, ◌==◌, true, false, ap, ◌∙◌, arith}
use Rattle.std.proofs.lemmas.Bool.Decides.{nat_tests}
use Rattle.smtp_dialogue.specs.Transcript.{is_positive}
use Rattle.smtp_dialogue.proofs.Trying.{tries_decided, reset_lost, reset_done, reset_closed}
use Rattle.smtp_dialogue.proofs.delivery.reset.Goals as goal

pub returns-then-code-eq421-clause-tries : goal.returns-then-code-eq421-clause-tries
returns-then-code-eq421-clause-tries g c =
    let e : (c.args.code == 421) ≡ true = grind (arith, nat_tests) in
    tries_decided (reset_closed c.args.decided c.args.code e) c.requires.decided (λ reply d. absurd (c.requires.no_delivery reply d))

pub returns-in-Ok-clause-tries : goal.returns-in-Ok-clause-tries
returns-in-Ok-clause-tries g c =
    let e : (c.args.code == 421) ≡ false = grind (arith, nat_tests) in
    reset_done c.args.decided c.args.code c.is_positive.result e c.requires.decided c.requires.no_delivery (c.is_positive.ensures ∙ ap is_positive c.in-Ok.ensures.asks.2) c.in-Ok.ensures.asks.1

pub returns-in-Err-clause-tries : goal.returns-in-Err-clause-tries
returns-in-Err-clause-tries g c =
    let e : (c.args.code == 421) ≡ false = grind (arith, nat_tests) in
    reset_lost c.in-Err.field-0 c.args.decided c.args.code e c.requires.decided c.requires.no_delivery c.in-Err.ensures.asks.1
