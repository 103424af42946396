use Rattle.std.proofs.Common.{◌≡◌, ◌∙◌, ◌<◌, ◌+◌, ◌-◌, true, false, List, Contains, get_or, length, set, sym, ap, subst, arith}
use Rattle.std.specs.Bool.{⊤}
use Rattle.std.proofs.lemmas.Option.{MatchOption-at_some, get_or_from_slice_get}
use Rattle.suspensions.specs.declared.given.Given.{Given}
use Rattle.suspensions.specs.declared.ends.Ending.{Ending}
use Rattle.suspensions.specs.Orders.{with_resumed}
use Rattle.suspensions.specs.Index.{IsIndex, ending_of}
use Rattle.suspensions.specs.inside.Ends.{IsEndOf}
use Rattle.suspensions.proofs.IndexLemmas.{end_held, taken, set_resumed}
use Rattle.suspensions.proofs.book.Book.resume.Goals as goal

pub place_of-place-requires-clause-held : goal.place_of-place-requires-clause-held
place_of-place-requires-clause-held c =
    let number = c.args.number in
    let e = c.in_ok-ending.ending in
    let end = MatchOption-at_some ⊤ (IsEndOf c.deref.result.now number) e c.in_ok-ending.ensures.ok_part c.live_end.ensures.ending in
    let held = end_held c.self.inside.given.items c.self.inside.ends.items number e c.self.invariant (subst (λ (xs : List Given). IsEndOf xs number e) c.deref.ensures.value end) in
    subst (λ (es : List Ending). Contains es e) (sym c.deref-2.ensures.value) held

pub invariant_of-self : goal.invariant_of-self
invariant_of-self c =
    let number = c.args.number in
    let book = c.self.inside.given.items in
    let ends = c.self.inside.ends.items in
    let e = c.in_ok-ending.ending in
    let g = c.index_mut.result.now in
    let i = c.place_of-place.result in
    let end = subst (λ (xs : List Given). IsEndOf xs number e) c.deref.ensures.value
    (MatchOption-at_some ⊤ (IsEndOf c.deref.result.now number) e c.in_ok-ending.ensures.ok_part c.live_end.ensures.ending) in
    let all : c.deref-2.result.now ≡ ends = c.deref-2.ensures.value in
    let read : get_or book (number - 1) g ≡ g = sym c.index_mut.ensures.value in
    let within : number - 1 < length book = omega (arith, end.0, end.1) in
    let standing : g.resumed ≡ false = ap (λ x. x.resumed) (sym read) ∙ (end.2 g).0 in
    let here : get_or ends i e ≡ e = ap (λ es. get_or es i e) (sym all) ∙ get_or_from_slice_get c.deref-2.result.now i e e c.place_of-place.ensures.held in
    let less : i < length ends = omega (arith, c.place_of-place.ensures.bound, ap length all) in
    subst (λ es. IsIndex (set book (number - 1) (record g { resumed = true })) es) (sym c.remove-ending.ensures.items)
    (taken book ends (number - 1) i g e within read standing less here ((end.2 g).1 ∙ ap ending_of read) c.self.invariant)

pub returns-clause-ok : goal.returns-clause-ok
returns-clause-ok c =
    let number = c.args.number in
    let book = c.self.inside.given.items in
    let e = c.in_ok-ending.ending in
    let g = c.index_mut.result.now in
    let end = subst (λ (xs : List Given). IsEndOf xs number e) c.deref.ensures.value
    (MatchOption-at_some ⊤ (IsEndOf c.deref.result.now number) e c.in_ok-ending.ensures.ok_part c.live_end.ensures.ending) in
    let read : get_or book (number - 1) g ≡ g = sym c.index_mut.ensures.value in
    let within : number - 1 < length book = omega (arith, end.0, end.1) in
    set_resumed book (number - 1) g within read c.self.invariant.numbered
    ∙ ap (λ n. with_resumed n book) {x = number - 1 + 1} {y = number} (omega (arith, end.0))
    ∙ ap (with_resumed number) c.self.view_is
