use Rattle.std.proofs.lemmas.Result.{err_from_is_err_and, MatchResult-weaker}
use Rattle.smtp_dialogue.proofs.Sending.{sends_then, sends_then_fails, fails_before}
use Rattle.smtp_dialogue.proofs.send.send_three.Goals as goal

pub returns-in_err-send_all-2-clause-sends : goal.returns-in_err-send_all-2-clause-sends
returns-in_err-send_all-2-clause-sends g c =
    let p = err_from_is_err_and c.from_residual-in_err-send_all-2.result c.from_residual-in_err-send_all-2.ensures.1 in
    rw p.1 (fails_before _ (sends_then_fails c.in_ok-send_all.ensures.sends c.in_err-send_all-2.ensures.sends))

pub returns-clause-sends : goal.returns-clause-sends
returns-clause-sends g c =
    let before = sends_then c.in_ok-send_all.ensures.sends c.in_ok-send_all-2.ensures.sends in
    MatchResult-weaker c.send_all-3.result c.send_all-3.ensures.sends (λ _ s. sends_then before s) (λ _ f. sends_then_fails before f)
