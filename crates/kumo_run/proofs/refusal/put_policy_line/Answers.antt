use Rattle.std.proofs.Common.{◌≡◌, ap, ◌∙◌, List, ℕ, ◌++◌, codes}
use Rattle.policy_fault.specs.Words.{name_of_file, name_of_why}
use Rattle.policy_fault.specs.declared.fault.PolicyFile.{PolicyFile}
use Rattle.policy_fault.specs.declared.fault.Why.{Why}
use Rattle.kumo_outside.proofs.ContentLemmas.{told_with-next, TakesPrefix-more, TakesPrefix-after}
use Rattle.kumo_run.specs.RefusalLine.{policy_start, policy_place, policy_end}
use Rattle.kumo_run.proofs.ResultLemmas.{OnErr-always, told_as, prefix_as}
use Rattle.kumo_run.proofs.refusal.put_policy_line.Goals as goal

start_is : (name : List ℕ) (file : PolicyFile) → name ≡ name_of_file file → codes "error: policy " ++ (name ++ codes " ") ≡ policy_start file
start_is name file e = ap (λ (n : List ℕ). codes "error: policy " ++ (n ++ codes " ")) e

place_is : (first last table key : List ℕ) → first ≡ table → last ≡ key → first ++ (codes " " ++ last) ≡ policy_place table key
place_is first last table key e h = ap (λ (x : List ℕ). x ++ (codes " " ++ last)) e ∙ ap (λ (x : List ℕ). table ++ (codes " " ++ x)) h

end_is : (name : List ℕ) (why : Why) → name ≡ name_of_why why → codes ": " ++ (name ++ codes "\n") ≡ policy_end why
end_is name why e = ap (λ (n : List ℕ). codes ": " ++ (n ++ codes "\n")) e

pub returns-in_err-put_three-clause-part : goal.returns-in_err-put_three-clause-part
returns-in_err-put_three-clause-part g c =
    OnErr-always _ (TakesPrefix-more _ _ _ _ (prefix_as _ _ _ _ (start_is _ c.args.place.now.file c.name.ensures) c.in_err-put_three.ensures.part))

pub returns-in_err-put_three-2-clause-part : goal.returns-in_err-put_three-2-clause-part
returns-in_err-put_three-2-clause-part g c =
    let place = c.args.place.now in
    let middle = place_is _ _ place.table place.key c.as_str.ensures c.as_str-2.ensures in
    OnErr-always _ (TakesPrefix-after _ _ _ _ _ (told_as _ _ _ _ (start_is _ place.file c.name.ensures) c.in_ok-put_three.ensures.whole)
    (TakesPrefix-more _ _ _ _ (prefix_as _ _ _ _ middle c.in_err-put_three-2.ensures.part)))

pub returns-in_err-put_three-3-clause-part : goal.returns-in_err-put_three-3-clause-part
returns-in_err-put_three-3-clause-part g c =
    let place = c.args.place.now in
    let middle = place_is _ _ place.table place.key c.as_str.ensures c.as_str-2.ensures in
    OnErr-always _ (TakesPrefix-after _ _ _ _ _ (told_as _ _ _ _ (start_is _ place.file c.name.ensures) c.in_ok-put_three.ensures.whole)
    (TakesPrefix-after _ _ _ _ _ (told_as _ _ _ _ middle c.in_ok-put_three-2.ensures.whole)
    (prefix_as _ _ _ _ (end_is _ place.why c.name-2.ensures) c.in_err-put_three-3.ensures.part)))

pub returns-clause-whole : goal.returns-clause-whole
returns-clause-whole g c =
    let place = c.args.place.now in
    let middle = place_is _ _ place.table place.key c.as_str.ensures c.as_str-2.ensures in
    told_with-next _ _ _ _ _ (told_as _ _ _ _ (start_is _ place.file c.name.ensures) c.in_ok-put_three.ensures.whole)
    (told_with-next _ _ _ _ _ (told_as _ _ _ _ middle c.in_ok-put_three-2.ensures.whole)
    (told_as _ _ _ _ (end_is _ place.why c.name-2.ensures) c.in_ok-put_three-3.ensures.whole))
