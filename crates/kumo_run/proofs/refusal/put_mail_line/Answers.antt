use Rattle.std.proofs.Common.{◌≡◌, ◌∙◌, ap, ℕ, List, ◌++◌, codes, decimal}
use Rattle.mail_input.specs.declared.MailWhy.{MailWhy}
use Rattle.kumo_run.specs.declared.refusal.Refusal.TheVariants as refusal
use Rattle.kumo_run.specs.RefusalLine.{refusal_line, end_of_line}
use Rattle.kumo_run.proofs.ResultLemmas.{OnErr-always, told_as, prefix_as}
use Rattle.kumo_run.proofs.refusal.put_mail_line.Goals as goal

-- the three pieces make the line
line_is : (digits behind : List ℕ) (line : ℕ) (why : MailWhy) → digits ≡ decimal line → behind ≡ end_of_line why
    → codes "error: mail line " ++ (digits ++ behind) ≡ refusal_line (refusal.Mail line why)
line_is digits behind line why d e =
    ap (λ (x : List ℕ). codes "error: mail line " ++ (x ++ behind)) d ∙ ap (λ (x : List ℕ). codes "error: mail line " ++ (decimal line ++ x)) e

pub returns-in_err-put_three-clause-part : goal.returns-in_err-put_three-clause-part
returns-in_err-put_three-clause-part g c =
    OnErr-always _ (prefix_as _ _ _ _ (line_is _ _ c.args.line c.args.why c.format.ensures.text c.end_of_line.ensures) c.in_err-put_three.ensures.part)

pub returns-clause-whole : goal.returns-clause-whole
returns-clause-whole g c =
    told_as _ _ _ _ (line_is _ _ c.args.line c.args.why c.format.ensures.text c.end_of_line.ensures) c.in_ok-put_three.ensures.whole
