use Rattle.std.proofs.Common.{◌≡◌, ◌++◌, ◌∷◌, ℕ, List, [], length, flat_map, refl, ap, ◌∙◌, arith}
use Rattle.std.proofs.lemmas.Grind.{common_steps}
use Rattle.std.proofs.lemmas.Result.{err_from_is_err_and, MatchResult-weaker}
use Rattle.smtp_dialogue.specs.Body.{body_lines, wire_line, crlf}
use Rattle.smtp_dialogue.proofs.Sending.{sends_none, sends_then, sends_then_fails, fails_before}
use Rattle.smtp_dialogue.proofs.Bodies.{wire_more, wire_split, wire_end}
use Rattle.smtp_dialogue.proofs.body.send_body.Goals as goal

pub loop-rest-init : goal.loop-rest-init
loop-rest-init g c = record {
  front = [];
  opening = refl;
  sends = sends_none _;
  left = ap (λ (body : List ℕ). flat_map wire_line (body_lines body)) c.as_bytes-rest.ensures.value;
}

pub loop-rest-preserved : goal.loop-rest-preserved
loop-rest-preserved g c = record {
  front = c.loop-rest.invariant.front ++ wire_line c.first_line.result.0.now;
  opening = c.send_line.ensures.opening ∙ c.loop-rest.invariant.opening;
  sends = sends_then c.loop-rest.invariant.sends c.in_ok-send_line.ensures.sends;
  left = wire_more c.args.body.now c.loop-rest.rest.now c.loop-rest.invariant.front c.first_line.result.0.now c.first_line.result.1.now c.loop-rest.invariant.left c.first_line.ensures.lines;
}

pub returns-in_err-send_line-clause-sends : goal.returns-in_err-send_line-clause-sends
returns-in_err-send_line-clause-sends g c =
    let p = err_from_is_err_and c.from_residual.result c.from_residual.ensures.1 in
    let front = c.loop-rest.invariant.front in
    let line = c.first_line.result.0.now in
    let behind = c.first_line.result.1.now in
    let left = wire_more c.args.body.now c.loop-rest.rest.now front line behind c.loop-rest.invariant.left c.first_line.ensures.lines in
    rw (p.1, ← wire_split c.args.body.now behind (front ++ wire_line line) left)
    (fails_before (flat_map wire_line (body_lines behind) ++ (46 ∷ crlf)) (sends_then_fails c.loop-rest.invariant.sends c.in_err-send_line.ensures.sends))

pub returns-clause-sends : goal.returns-clause-sends
returns-clause-sends g c =
    let n : length c.loop-rest.rest.now ≡ 0 = grind (arith, common_steps) in
    let left = wire_end c.args.body.now c.loop-rest.rest.now c.loop-rest.invariant.front c.loop-rest.invariant.left n in
    rw (← left)
    (MatchResult-weaker c.send_all.result c.send_all.ensures.sends (λ _ s. sends_then c.loop-rest.invariant.sends s) (λ _ f. sends_then_fails c.loop-rest.invariant.sends f))
