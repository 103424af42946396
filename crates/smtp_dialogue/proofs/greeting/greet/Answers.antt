use Rattle.std.proofs.Common.{ℕ, ap, sym}
use Rattle.smtp_reply.specs.Replies.{one_line_text}
use Rattle.smtp_dialogue.specs.Transcript.{greeting, no_outcome, after_greeting}
use Rattle.smtp_dialogue.proofs.Parts.{speaks_same, heard_then, heard_none}
use Rattle.smtp_dialogue.proofs.Trying.{greeting_is, answers_none}
use Rattle.smtp_dialogue.proofs.greeting.greet.Goals as goal

pub returns-in-Ok-clause-spoken : goal.returns-in-Ok-clause-spoken
returns-in-Ok-clause-spoken g c =
    rw (← c.clear.ensures)
    (heard_then (greeting c.args.ehlo.now) (after_greeting c.args.ehlo.now) no_outcome (greeting_is c.args.ehlo.now) c.in-Ok.ensures.hears.1
    (speaks_same (λ bytes. ap (λ (code : ℕ). after_greeting c.args.ehlo.now code (one_line_text c.in-Ok.ensures.hears.0) bytes) (sym c.in-Ok.ensures.hears.2)) (c.say_hello.ensures.spoken (one_line_text c.in-Ok.ensures.hears.0))))

pub returns-in-Err-clause-spoken : goal.returns-in-Err-clause-spoken
returns-in-Err-clause-spoken g c =
    rw (← c.clear.ensures)
    (heard_none c.in-Err.field-0 (greeting c.args.ehlo.now) (after_greeting c.args.ehlo.now) no_outcome (greeting_is c.args.ehlo.now) c.in-Err.ensures.hears.1 (answers_none c.in-Err.field-0 (greeting c.args.ehlo.now)))
