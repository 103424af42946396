use Rattle.std.proofs.Common.{◌≡◌, ◌≤◌, ◌==◌, false, length, ap, ◌∙◌, arith}
use Rattle.std.proofs.lemmas.Bool.Decides.{nat_tests}
use Rattle.smtp_reply.proofs.CutLemmas.{return_behind_return, return_waits, byte_behind_return, byte_comes}
use Rattle.smtp_reply.proofs.one_line.OneLine.read_text.Goals as goal
use Rattle.smtp_reply.proofs.one_line.OneLine.read_text.Goals.{then-line, else-line}

pub returns-then-byte-eq13-clause-text : goal.returns-then-byte-eq13-clause-text
returns-then-byte-eq13-clause-text c =
    let old = c.args.self.now in
    let count : c.self.inside.count ≡ length old = c.self.invariant.0 ∙ ap length c.self.view_is in
    let fits : length old ≤ 512 = omega (arith, count, c.self.invariant.1) in
    elim c.if-line.branch [
      | then-line w ↦ return_behind_return 512 old c.if-line.self c.args.line.began c.args.line.waits c.args.byte w.if-line.true c.if-byte-eq13.true (w.self-is ∙ w.put_text.ensures)
      | else-line w ↦ return_waits 512 old c.if-line.self c.args.line.began c.args.line.waits c.args.byte fits w.if-line.false c.if-byte-eq13.true w.self-is
    ]

pub returns-clause-text : goal.returns-clause-text
returns-clause-text c =
    let old = c.args.self.now in
    let other : (c.args.byte == 13) ≡ false = grind (arith, nat_tests) in
    elim c.if-line.branch [
      | then-line w ↦ byte_behind_return 512 old c.if-line.self c.put_text-2.new.self c.args.line.began c.if-line.began c.args.line.waits c.args.byte w.if-line.true other w.began-is (w.self-is ∙ w.put_text.ensures) c.put_text-2.ensures
      | else-line w ↦ byte_comes 512 old c.if-line.self c.put_text-2.new.self c.args.line.began c.if-line.began c.args.line.waits c.args.byte w.if-line.false other w.began-is w.self-is c.put_text-2.ensures
    ]
