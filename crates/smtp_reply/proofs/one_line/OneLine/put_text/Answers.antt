use Rattle.std.proofs.Common.{◌∷◌, ◌++◌, [], take, ap, sym, ◌∙◌}
use Rattle.smtp_reply.specs.Replies.{shown_more}
use Rattle.smtp_reply.proofs.CutLemmas.{put_text_begins, put_text_more}
use Rattle.smtp_reply.proofs.one_line.OneLine.put_text.Goals as goal
use Rattle.smtp_reply.proofs.one_line.OneLine.put_text.Goals.{then-not-began, else-not-began}

pub returns : goal.returns
returns c =
    let old = c.args.self.now in
    elim c.if-not-began.branch [
      | then-not-began w ↦
          put_text_begins 512 old c.if-not-began.self c.put-2.new.self c.args.byte c.shown.result (w.self-is ∙ w.put.ensures) c.shown.ensures.value c.put-2.ensures
          ∙ ap (λ t. take 512 (old ++ shown_more t (c.args.byte ∷ []))) (sym w.if-not-began.true)
      | else-not-began w ↦
          put_text_more 512 old c.if-not-began.self c.put-2.new.self c.args.byte c.shown.result w.self-is c.shown.ensures.value c.put-2.ensures
          ∙ ap (λ t. take 512 (old ++ shown_more t (c.args.byte ∷ []))) (sym w.if-not-began.false)
    ]
