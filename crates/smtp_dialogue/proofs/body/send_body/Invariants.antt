use Rattle.std.proofs.Common.{◌≡◌, ◌++◌, ℕ, List, length, flat_map}
use Rattle.smtp_dialogue.specs.Body.{body_lines, wire_line}
use Rattle.smtp_dialogue.specs.inside.Asking.{Sends}
use Rattle.smtp_dialogue.proofs.body.send_body.Given as goal

-- what was sent, and the lines of the rest behind it, are the lines of the body
abbrev pub invariant-loop-rest : goal.invariant-loop-rest
invariant-loop-rest g l = record {
  front : List ℕ;
  opening : (g.L.Link.seen l.link).opening ≡ (g.L.Link.seen l.fn.link).opening;
  sends : Sends front (g.L.Link.seen l.fn.link) (g.L.Link.seen l.link);
  left : front ++ flat_map wire_line (body_lines l.rest) ≡ flat_map wire_line (body_lines l.body);
}

abbrev pub decreases-loop-rest : goal.decreases-loop-rest
decreases-loop-rest g l = length l.rest
