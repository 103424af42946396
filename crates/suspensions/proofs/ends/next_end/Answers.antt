use Rattle.std.proofs.Common.{◌≡◌, ◌∙◌, true, false, Some, None, get_or, sym, ap}
use Rattle.std.proofs.lemmas.List.{get_or_default}
use Rattle.std.proofs.lemmas.List.Elements.{AllWithin-more}
use Rattle.suspensions.specs.declared.given.Given.{Given}
use Rattle.suspensions.specs.declared.ends.Ending.{Ending}
use Rattle.suspensions.specs.inside.Least.{is_given, passes}
use Rattle.suspensions.proofs.IndexLemmas.{ends_rise, index_numbers}
use Rattle.suspensions.proofs.AnswerLemmas.{next_answer, found_in_rest, none_in_rest, passing, rest}
use Rattle.suspensions.proofs.ends.next_end.Goals as goal

pub returns-then-was_given-clause-next : goal.returns-then-was_given-clause-next
returns-then-was_given-clause-next c =
    let book = c.args.book.now in
    let ends = c.args.ends.now in
    let from = c.count_over.result in
    let i = c.loop-ending.ending-index in
    let d : Ending = record { end = 0; number = 0 } in
    let test = λ (g : Given). true in
    let within = c.loop-ending-test.true in
    let passing_here = passing c.args.t test book ends from i d c.count_over.ensures.later within ∙ sym c.was_given.ensures ∙ c.if-was_given.true in
    next_answer c.args.t book ends from (Some (get_or (rest ends from) i d).end) c.requires c.count_over.ensures.over c.count_over.ensures.bound
    (found_in_rest (passes c.args.t test book) ends from i d (ends_rise ends c.requires.ordered (index_numbers book ends c.requires)) within c.loop-ending.invariant passing_here)

pub loop-ending-preserved : goal.loop-ending-preserved
loop-ending-preserved c =
    let book = c.args.book.now in
    let ends = c.args.ends.now in
    let from = c.count_over.result in
    let i = c.loop-ending.ending-index in
    let test = λ (g : Given). true in
    let within = c.loop-ending-test.true in
    let none : Ending = record { end = 0; number = 0 } in
    AllWithin-more (λ e. passes c.args.t test book e ≡ false) (rest ends from) 0 i c.loop-ending.invariant
    (λ d.
    passing c.args.t test book ends from i d c.count_over.ensures.later within
    ∙ ap (is_given c.args.t test book) (get_or_default (rest ends from) i d none within) ∙ sym c.was_given.ensures ∙ c.if-was_given.false)

pub returns-clause-next : goal.returns-clause-next
returns-clause-next c =
    let book = c.args.book.now in
    let ends = c.args.ends.now in
    let from = c.count_over.result in
    let test = λ (g : Given). true in
    next_answer c.args.t book ends from None c.requires c.count_over.ensures.over c.count_over.ensures.bound
    (none_in_rest (λ e. e.end) (passes c.args.t test book) ends from c.loop-ending.ending-index c.loop-ending-test.false c.loop-ending.invariant)
