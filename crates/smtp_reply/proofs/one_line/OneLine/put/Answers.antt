use Rattle.std.proofs.Common.{◌≡◌, ◌∷◌, ◌++◌, [], length, ap, ◌∙◌, arith}
use Rattle.smtp_reply.proofs.CutLemmas.{take_push, take_full}
use Rattle.smtp_reply.proofs.one_line.OneLine.put.Goals as goal

pub returns-then-self-lt-REPLY_TEXT_LIMIT : goal.returns-then-self-lt-REPLY_TEXT_LIMIT
returns-then-self-lt-REPLY_TEXT_LIMIT c =
    let count : c.self.inside.count ≡ length c.args.self.now = c.self.invariant.0 ∙ ap length c.self.view_is in
    c.push.ensures ∙ ap (λ xs. xs ++ c.args.byte ∷ []) c.self.view_is ∙ take_push 512 c.args.self.now c.args.byte (omega (arith, count))

pub returns-else-self-lt-REPLY_TEXT_LIMIT : goal.returns-else-self-lt-REPLY_TEXT_LIMIT
returns-else-self-lt-REPLY_TEXT_LIMIT c =
    let count : c.self.inside.count ≡ length c.args.self.now = c.self.invariant.0 ∙ ap length c.self.view_is in
    take_full 512 c.args.self.now c.args.byte (omega (arith, count))
