use Rattle.std.proofs.Common.{◌∙◌}
use Rattle.smtp_dialogue.specs.Transcript.{after_sender, attempted}
use Rattle.smtp_dialogue.proofs.Trying.{tries_then, tries_lost, attempted_says}
use Rattle.smtp_dialogue.proofs.delivery.attempt.Goals as goal

pub returns-in-Ok : goal.returns-in-Ok
returns-in-Ok g c =
    let asks = c.in-Ok.ensures.asks in
    let t = tries_then (attempted c.args.sender.now c.args.recipient.now c.args.body.now) (after_sender c.args.recipient.now c.args.body.now) (attempted_says c.args.sender.now c.args.recipient.now c.args.body.now) asks.1 (c.after_sender.ensures.tries asks.0 asks.2) in
    record { opening = c.after_sender.ensures.opening ∙ c.ask.ensures.opening; spoken = t.speaks; fault = t.fault; ended = t.ended; delivered = t.delivered; proper = t.proper }

pub returns-in-Err : goal.returns-in-Err
returns-in-Err g c =
    let t = tries_lost c.in-Err.why (attempted c.args.sender.now c.args.recipient.now c.args.body.now) (after_sender c.args.recipient.now c.args.body.now) c.lost.result (attempted_says c.args.sender.now c.args.recipient.now c.args.body.now) c.in-Err.ensures.asks.1 c.lost.ensures in
    record { opening = c.ask.ensures.opening; spoken = t.speaks; fault = t.fault; ended = t.ended; delivered = t.delivered; proper = t.proper }
