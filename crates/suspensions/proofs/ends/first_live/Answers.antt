use Rattle.std.proofs.Common.{◌∙◌, ◌+◌, Some, take, sym, ap, subst}
use Rattle.suspensions.specs.declared.given.Given.{Given}
use Rattle.suspensions.specs.declared.ends.Ending.{Ending}
use Rattle.suspensions.specs.inside.Question.{is_met}
use Rattle.suspensions.specs.inside.Least.{IsLeast, passes}
use Rattle.suspensions.proofs.AnswerLemmas.{first_answer, first_more, first_same, all_of_rest, passing, rest}
use Rattle.suspensions.proofs.ends.first_live.Goals as goal
use Rattle.suspensions.proofs.ends.first_live.Goals.{then-is_meant, else-is_meant}

pub loop-ending-preserved : goal.loop-ending-preserved
loop-ending-preserved c =
    let book = c.args.book.now in
    let ends = c.args.ends.now in
    let from = c.count_over.result in
    let i = c.loop-ending.ending-index in
    let d : Ending = record { end = 0; number = 0 } in
    let test = λ (g : Given). is_met c.args.question g.order in
    let p = passes c.args.t test book in
    let within = c.loop-ending-test.true in
    let same = passing c.args.t test book ends from i d c.count_over.ensures.later within in
    let was = c.loop-ending.invariant in
    elim c.if-is_meant.branch [
      | then-is_meant w ↦
          subst (λ o. IsLeast (λ e. e.number) p (take (i + 1) (rest ends from)) o)
          (ap Some (sym w.lesser.ensures) ∙ sym w.first-is)
          (first_more p (rest ends from) i d c.loop-ending.first within (same ∙ sym c.is_meant.ensures ∙ w.if-is_meant.true) was)
      | else-is_meant w ↦
          subst (λ o. IsLeast (λ e. e.number) p (take (i + 1) (rest ends from)) o) (sym w.first-is)
          (first_same p (rest ends from) i d c.loop-ending.first within (same ∙ sym c.is_meant.ensures ∙ w.if-is_meant.false) was)
    ]

pub returns : goal.returns
returns c =
    let book = c.args.book.now in
    let ends = c.args.ends.now in
    let from = c.count_over.result in
    let test = λ (g : Given). is_met c.args.question g.order in
    first_answer c.args.t test book ends from c.loop-ending.first c.requires c.count_over.ensures.over c.count_over.ensures.bound
    (all_of_rest (λ e. e.number) (passes c.args.t test book) ends from c.loop-ending.ending-index c.loop-ending.first c.loop-ending-test.false c.loop-ending.invariant)
