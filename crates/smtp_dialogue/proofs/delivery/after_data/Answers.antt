use Rattle.std.proofs.Common.{◌≡◌, ◌==◌, ℕ, true, false, sym, ap, ◌∙◌, arith}
use Rattle.std.proofs.lemmas.Bool.Decides.{nat_tests}
use Rattle.smtp_reply.specs.Replies.{code_of, one_line_text}
use Rattle.smtp_dialogue.specs.Transcript.{after_body, after_data, refused}
use Rattle.smtp_dialogue.proofs.Listening.{held_reply_text}
use Rattle.smtp_dialogue.proofs.Trying.{tries_then, tries_lost, tries_same, tries_reply, tries_decided, data_says, data_refused}
use Rattle.smtp_dialogue.proofs.delivery.after_data.Goals as goal

pub refused-requires : goal.refused-requires
refused-requires g c = held_reply_text c.requires c.take.ensures

pub after_body-requires : goal.after_body-requires
after_body-requires g c = held_reply_text (c.in-Ok.ensures.asks.0, c.in-Ok.ensures.asks.2) c.take-in-Ok.ensures

pub returns-then-code-ne354-clause-tries : goal.returns-then-code-ne354-clause-tries
returns-then-code-ne354-clause-tries g c reply h =
    let e : (c.code.result == 354) ≡ false = grind (arith, nat_tests) in
    let f : (code_of reply == 354) ≡ false = ap (λ (code : ℕ). code == 354) (sym (c.code.ensures reply h.reads)) ∙ e in
    tries_same (data_refused c.args.body.now (code_of reply) (one_line_text reply) f) (tries_reply refused reply (c.take.ensures reply h.reads) c.refused.ensures.tries)

pub returns-in-Ok-clause-tries : goal.returns-in-Ok-clause-tries
returns-in-Ok-clause-tries g c reply h =
    let e : (c.code.result == 354) ≡ true = grind (arith, nat_tests) in
    let f : (code_of reply == 354) ≡ true = ap (λ (code : ℕ). code == 354) (sym (c.code.ensures reply h.reads)) ∙ e in
    let asks = c.in-Ok.ensures.asks in
    tries_then (after_data c.args.body.now (code_of reply) (one_line_text reply)) after_body (data_says c.args.body.now (code_of reply) (one_line_text reply) f) asks.1
    (tries_reply after_body asks.0 (c.take-in-Ok.ensures asks.0 asks.2.reads) (tries_decided c.after_body.ensures.ends c.after_body.ensures.decided c.after_body.ensures.delivered))

pub returns-in-Err-clause-tries : goal.returns-in-Err-clause-tries
returns-in-Err-clause-tries g c reply h =
    let e : (c.code.result == 354) ≡ true = grind (arith, nat_tests) in
    let f : (code_of reply == 354) ≡ true = ap (λ (code : ℕ). code == 354) (sym (c.code.ensures reply h.reads)) ∙ e in
    tries_lost c.in-Err.why (after_data c.args.body.now (code_of reply) (one_line_text reply)) after_body _ (data_says c.args.body.now (code_of reply) (one_line_text reply) f) c.in-Err.ensures.asks.1 c.lost.ensures
