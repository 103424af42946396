use Rattle.std.proofs.Common.{◌≡◌, ◌∙◌, ◌≤◌, ◌<◌, ◌+◌, ◌∷◌, ◌++◌, [], List, false, insert, length, sym, ap, subst, arith}
use Rattle.std.specs.List.{AllWithin}
use Rattle.suspensions.specs.declared.ends.Ending.{Ending}
use Rattle.suspensions.specs.Orders.{with_order}
use Rattle.suspensions.specs.Index.{IsIndex}
use Rattle.suspensions.proofs.IndexLemmas.{added}
use Rattle.suspensions.proofs.book.Book.add.Goals as goal

pub invariant_of-self-2 : goal.invariant_of-self-2
invariant_of-self-2 c =
    let book = c.self.inside.given.items in
    let ends = c.self.inside.ends.items in
    let place = c.count_over-place.result in
    let e : Ending = record { end = c.end_of-end.result; number = c.len.result + 1 } in
    let count : c.len.result ≡ length book = c.len.ensures ∙ c.reserve.ensures.len ∙ c.self.inside.given.ok.0 in
    let all : c.deref.result.now ≡ ends = c.deref.ensures.value in
    let Over : List Ending → Type 0 = λ es. AllWithin (λ other. other.end ≤ e.end) es 0 place in
    let Later : List Ending → Type 0 = λ es. AllWithin (λ other. e.end < other.end) es place (length es) in
    let bound : place ≤ length ends = omega (arith, c.count_over-place.ensures.bound, ap length all) in
    let right : IsIndex (with_order c.args.at c.args.order book) (insert ends place e) =
    added book ends c.args.at c.args.order place e c.end_of-end.ensures (ap (λ n. n + 1) count)
    (omega (arith, c.requires.room, ap length c.self.view_is)) bound (subst Over all c.count_over-place.ensures.over)
    (subst Later all c.count_over-place.ensures.later) c.self.invariant in
    let given : c.push_reserved.new.self.items ≡ with_order c.args.at c.args.order book =
    c.push_reserved.ensures.items
    ∙ ap (λ xs. xs ++ record { number = c.len.result + 1; at = c.args.at; order = c.args.order; resumed = false } ∷ []) c.reserve.ensures.items
    ∙ ap (λ n. book ++ record { number = n + 1; at = c.args.at; order = c.args.order; resumed = false } ∷ []) count in
    subst (λ es. IsIndex c.push_reserved.new.self.items es) (sym c.in_ok-insert.ensures.items)
    (subst (λ xs. IsIndex xs (insert ends place e)) (sym given) right)
