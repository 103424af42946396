use Rattle.std.proofs.Common.{◌≡◌, ℕ, true, false, [], ap, sym, ◌∙◌}
use Rattle.smtp_reply.specs.Replies.{code_of, one_line_text}
use Rattle.smtp_dialogue.specs.Transcript.{is_positive, no_outcome, after_ehlo, after_greeting}
use Rattle.smtp_dialogue.proofs.Parts.{speaks_ends, asked_then, asked_none}
use Rattle.smtp_dialogue.proofs.Trying.{hello_says, greeting_refused, answers_none}
use Rattle.smtp_dialogue.proofs.greeting.say_hello.Goals as goal

pub returns-then-not-is_positive-clause-spoken : goal.returns-then-not-is_positive-clause-spoken
returns-then-not-is_positive-clause-spoken g c =
    let e : is_positive c.args.code ≡ false = cc in
    λ text. speaks_ends (after_greeting c.args.ehlo.now c.args.code text) _ [] [] false (greeting_refused c.args.ehlo.now c.args.code text e)

pub returns-in-Ok-clause-spoken : goal.returns-in-Ok-clause-spoken
returns-in-Ok-clause-spoken g c =
    let e : is_positive c.args.code ≡ true = cc in
    λ text. asked_then (after_greeting c.args.ehlo.now c.args.code text) after_ehlo no_outcome (hello_says c.args.ehlo.now c.args.code text e) c.in-Ok.ensures.asks.1
    (speaks_ends (after_ehlo (code_of c.in-Ok.ensures.asks.0) (one_line_text c.in-Ok.ensures.asks.0)) _ [] [] _
    (λ bytes. ap (λ (code : ℕ). after_ehlo code (one_line_text c.in-Ok.ensures.asks.0) bytes) (sym c.in-Ok.ensures.asks.2) ∙ c.ready_at.ensures (one_line_text c.in-Ok.ensures.asks.0) bytes))

pub returns-in-Err-clause-spoken : goal.returns-in-Err-clause-spoken
returns-in-Err-clause-spoken g c =
    let e : is_positive c.args.code ≡ true = cc in
    λ text. asked_none c.in-Err.field-0 (after_greeting c.args.ehlo.now c.args.code text) after_ehlo no_outcome (hello_says c.args.ehlo.now c.args.code text e) c.in-Err.ensures.asks.1 (answers_none c.in-Err.field-0 (after_greeting c.args.ehlo.now c.args.code text))
