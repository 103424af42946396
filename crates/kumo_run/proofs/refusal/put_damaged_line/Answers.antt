use Rattle.std.proofs.Common.{◌≡◌, ap, List, ℕ, ◌++◌, codes, decimal}
use Rattle.kumo_outside.proofs.ContentLemmas.{told_with-next, TakesPrefix-more, TakesPrefix-after}
use Rattle.kumo_run.specs.RefusalLine.{damaged_start}
use Rattle.kumo_run.proofs.ResultLemmas.{OnErr-always, told_as, prefix_as}
use Rattle.kumo_run.proofs.refusal.put_damaged_line.Goals as goal

start_is : (digits : List ℕ) (area : ℕ) → digits ≡ decimal area → codes "error: spool damaged: area " ++ (digits ++ codes " at ") ≡ damaged_start area
start_is digits area e = ap (λ (x : List ℕ). codes "error: spool damaged: area " ++ (x ++ codes " at ")) e

pub returns-in_err-put_three-clause-part : goal.returns-in_err-put_three-clause-part
returns-in_err-put_three-clause-part g c =
    OnErr-always _ (TakesPrefix-more _ _ _ _ (prefix_as _ _ _ _ (start_is _ c.args.area c.format.ensures.text) c.in_err-put_three.ensures.part))

pub returns-in_err-put_text-clause-part : goal.returns-in_err-put_text-clause-part
returns-in_err-put_text-clause-part g c =
    OnErr-always _ (TakesPrefix-after _ _ _ _ _ (told_as _ _ _ _ (start_is _ c.args.area c.format.ensures.text) c.in_ok-put_three.ensures.whole)
    (TakesPrefix-more _ _ _ _ (prefix_as _ _ _ _ c.format-2.ensures.text c.in_err-put_text.ensures.part)))

pub returns-in_err-put_text-2-clause-part : goal.returns-in_err-put_text-2-clause-part
returns-in_err-put_text-2-clause-part g c =
    OnErr-always _ (TakesPrefix-after _ _ _ _ _ (told_as _ _ _ _ (start_is _ c.args.area c.format.ensures.text) c.in_ok-put_three.ensures.whole)
    (TakesPrefix-after _ _ _ _ _ (told_as _ _ _ _ c.format-2.ensures.text c.in_ok-put_text.ensures.whole) c.in_err-put_text-2.ensures.part))

pub returns-clause-whole : goal.returns-clause-whole
returns-clause-whole g c =
    told_with-next _ _ _ _ _ (told_as _ _ _ _ (start_is _ c.args.area c.format.ensures.text) c.in_ok-put_three.ensures.whole)
    (told_with-next _ _ _ _ _ (told_as _ _ _ _ c.format-2.ensures.text c.in_ok-put_text.ensures.whole) c.in_ok-put_text-2.ensures.whole)
