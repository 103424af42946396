use Rattle.std.proofs.Common.{◌≡◌, ◌∙◌, ◌+◌, is_some, sym, ap, arith}
use Rattle.suspensions.specs.Orders.{is_live, has_live}
use Rattle.suspensions.proofs.AnswerLemmas.{known_at, unknown_at}
use Rattle.suspensions.proofs.ends.live_end.Goals as goal

pub returns-in_err-index-clause-known : goal.returns-in_err-index-clause-known
returns-in_err-index-clause-known c =
    ap is_some c.from_residual.ensures
    ∙ sym (unknown_at c.args.t c.args.book.now c.args.number c.requires (λ k less is. c.in_err-index.ensures (omega (arith, is))))

pub returns-in_err-given-clause-known : goal.returns-in_err-given-clause-known
returns-in_err-given-clause-known c =
    let index = c.in_ok-index.ensures in
    let past = c.in_err-given.ensures.lookup.3 in
    ap is_some c.from_residual-in_err-given.ensures
    ∙ sym (unknown_at c.args.t c.args.book.now c.args.number c.requires (λ k less is. omega (arith, index.0, index.1, past, less, is)))

pub returns-then-not-is_live-clause-known : goal.returns-then-not-is_live-clause-known
returns-then-not-is_live-clause-known c =
    let book = c.args.book.now in
    let index = c.in_ok-index.ensures in
    let given = c.in_ok-given.given.now in
    let lookup = c.in_ok-given.ensures.lookup in
    let number : c.in_ok-index.index + 1 ≡ c.args.number = omega (arith, index.0, index.1) in
    sym c.if-not-is_live.true ∙ c.is_live.ensures ∙ ap (is_live c.args.t) lookup.1
    ∙ sym (known_at c.args.t book c.in_ok-index.index given c.requires lookup.3.0)
    ∙ ap (has_live book c.args.t) number

pub returns-clause-known : goal.returns-clause-known
returns-clause-known c =
    let book = c.args.book.now in
    let index = c.in_ok-index.ensures in
    let given = c.in_ok-given.given.now in
    let lookup = c.in_ok-given.ensures.lookup in
    let number : c.in_ok-index.index + 1 ≡ c.args.number = omega (arith, index.0, index.1) in
    sym c.if-not-is_live.false ∙ c.is_live.ensures ∙ ap (is_live c.args.t) lookup.1
    ∙ sym (known_at c.args.t book c.in_ok-index.index given c.requires lookup.3.0)
    ∙ ap (has_live book c.args.t) number
