use Rattle.std.proofs.Common.{refl, ◌∙◌, arith}
use Rattle.smtp_dialogue.proofs.Sending.{sends_none, send_more}
use Rattle.smtp_dialogue.proofs.send.send_all.Goals as goal

pub loop-at-init : goal.loop-at-init
loop-at-init g c = record { within = omega arith; opening = refl; sends = sends_none _ }

pub loop-at-preserved : goal.loop-at-preserved
loop-at-preserved g c = record {
  within = omega (arith, c.in_ok-at.ensures.taken.1);
  opening = c.in_ok-at.ensures.opening ∙ c.loop-at.invariant.opening;
  sends = send_more c.args.bytes.now _ c.loop-at.at c.in_ok-at.field-0 c.loop-at.invariant.sends c.split_at.ensures.back c.in_ok-at.ensures.sent c.in_ok-at.ensures.got c.in_ok-at.ensures.cause.later;
}
