use Rattle.std.proofs.Common.{◌≡◌, true, false, sym, ap, ◌∙◌}
use Rattle.smtp_reply.specs.Replies.{code_of, one_line_text}
use Rattle.smtp_dialogue.specs.Transcript.{is_positive, after_data, after_recipient, refused}
use Rattle.smtp_dialogue.proofs.Listening.{held_reply_text}
use Rattle.smtp_dialogue.proofs.Trying.{tries_then, tries_lost, tries_same, tries_reply, recipient_says, recipient_refused}
use Rattle.smtp_dialogue.proofs.delivery.after_recipient.Goals as goal

pub refused-requires : goal.refused-requires
refused-requires g c = held_reply_text c.requires c.take.ensures

pub returns-then-not-is_positive-clause-tries : goal.returns-then-not-is_positive-clause-tries
returns-then-not-is_positive-clause-tries g c reply h =
    let e : is_positive (code_of reply) ≡ false = ap is_positive (sym (c.code.ensures reply h.reads)) ∙ sym c.is_positive.ensures ∙ c.if-not-is_positive.true in
    tries_same (recipient_refused c.args.body.now (code_of reply) (one_line_text reply) e) (tries_reply refused reply (c.take.ensures reply h.reads) c.refused.ensures.tries)

pub returns-in-Ok-clause-tries : goal.returns-in-Ok-clause-tries
returns-in-Ok-clause-tries g c reply h =
    let e : is_positive (code_of reply) ≡ true = ap is_positive (sym (c.code.ensures reply h.reads)) ∙ sym c.is_positive.ensures ∙ c.if-not-is_positive.false in
    let asks = c.in-Ok.ensures.asks in
    tries_then (after_recipient c.args.body.now (code_of reply) (one_line_text reply)) (after_data c.args.body.now) (recipient_says c.args.body.now (code_of reply) (one_line_text reply) e) asks.1 (c.after_data.ensures.tries asks.0 asks.2)

pub returns-in-Err-clause-tries : goal.returns-in-Err-clause-tries
returns-in-Err-clause-tries g c reply h =
    let e : is_positive (code_of reply) ≡ true = ap is_positive (sym (c.code.ensures reply h.reads)) ∙ sym c.is_positive.ensures ∙ c.if-not-is_positive.false in
    tries_lost c.in-Err.why (after_recipient c.args.body.now (code_of reply) (one_line_text reply)) (after_data c.args.body.now) _ (recipient_says c.args.body.now (code_of reply) (one_line_text reply) e) c.in-Err.ensures.asks.1 c.lost.ensures
