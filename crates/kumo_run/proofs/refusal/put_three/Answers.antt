use Rattle.kumo_outside.proofs.ContentLemmas.{told_with-next, TakesPrefix-more, TakesPrefix-after}
use Rattle.kumo_run.proofs.ResultLemmas.{OnErr-always}
use Rattle.kumo_run.proofs.refusal.put_three.Goals as goal

pub returns-in_err-put_text-clause-part : goal.returns-in_err-put_text-clause-part
returns-in_err-put_text-clause-part g c =
    OnErr-always _ (TakesPrefix-more _ _ _ _ c.in_err-put_text.ensures.part)

pub returns-in_err-put_text-2-clause-part : goal.returns-in_err-put_text-2-clause-part
returns-in_err-put_text-2-clause-part g c =
    OnErr-always _ (TakesPrefix-after _ _ _ _ _ c.in_ok-put_text.ensures.whole (TakesPrefix-more _ _ _ _ c.in_err-put_text-2.ensures.part))

pub returns-in_err-put_text-3-clause-part : goal.returns-in_err-put_text-3-clause-part
returns-in_err-put_text-3-clause-part g c =
    OnErr-always _ (TakesPrefix-after _ _ _ _ _ c.in_ok-put_text.ensures.whole
    (TakesPrefix-after _ _ _ _ _ c.in_ok-put_text-2.ensures.whole c.in_err-put_text-3.ensures.part))

pub returns-clause-whole : goal.returns-clause-whole
returns-clause-whole g c =
    told_with-next _ _ _ _ _ c.in_ok-put_text.ensures.whole
    (told_with-next _ _ _ _ _ c.in_ok-put_text-2.ensures.whole c.in_ok-put_text-3.ensures.whole)
