use Rattle.std.proofs.Common.{◌≡◌, ◌<◌, ◌*◌, length, take, drop, min, Err, sym, ap, ◌∙◌, arith}
use Rattle.std.specs.List.{prefix_len, take_while}
use Rattle.std.specs.Char.{is_ascii_digit, is_ascii_alphabetic}
use Rattle.std.specs.Str.Parse.{digits_value}
use Rattle.kumo_base.specs.Duration.{is_space, behind}
use Rattle.kumo_base.specs.declared.duration.TheConstants.{TOO_LONG}
use Rattle.kumo_base.proofs.DurationLemmas.{group_none, group_bad, group_is, capped_product, digits_in_front, is_none, is_some}
use Rattle.kumo_base.proofs.duration.first_group.Goals as goal

pub returns-then-is_empty-clause-value : goal.returns-then-is_empty-clause-value
returns-then-is_empty-clause-value c =
    let none : prefix_len is_ascii_digit c.args.bytes.now ≡ 0 =
    sym c.digits_in_front.ensures.value ∙ sym c.split_at.ensures.front_len ∙ is_none _ c.if-is_empty.ensures in
    group_none c.args.whole c.args.bytes.now none ∙ ap Err (sym c.fault_at.ensures)

pub number_in-requires : goal.number_in-requires
number_in-requires c =
    let bytes = c.args.bytes.now in
    let front : c.split_at.result.0.now ≡ take (prefix_len is_ascii_digit bytes) bytes =
    c.split_at.ensures.front ∙ ap (λ n. take n bytes) c.digits_in_front.ensures.value in
    let count : length c.split_at.result.0.now ≡ prefix_len is_ascii_digit bytes =
    c.split_at.ensures.front_len ∙ c.digits_in_front.ensures.value in
    λ k below. rw front (digits_in_front bytes k (omega (arith, below, count)))

pub returns-in-Some-clause-value : goal.returns-in-Some-clause-value
returns-in-Some-clause-value c =
    let bytes = c.args.bytes.now in
    let front : c.split_at.result.0.now ≡ take_while is_ascii_digit bytes =
    c.split_at.ensures.front ∙ ap (λ n. take n bytes) c.digits_in_front.ensures.value in
    let unit : c.without_spaces-unit.result.now ≡ behind is_space (behind is_ascii_digit bytes) =
    c.without_spaces-unit.ensures.value
    ∙ ap (behind is_space) (c.split_at.ensures.back ∙ ap (λ n. drop n bytes) c.digits_in_front.ensures.value) in
    let name : c.split_at-2.result.0.now ≡ take_while is_ascii_alphabetic c.without_spaces-unit.result.now =
    c.split_at-2.ensures.front ∙ ap (λ n. take n c.without_spaces-unit.result.now) c.letters_in_front.ensures.value in
    let rest : c.split_at-2.result.1.now ≡ behind is_ascii_alphabetic c.without_spaces-unit.result.now =
    c.split_at-2.ensures.back ∙ ap (λ n. drop n c.without_spaces-unit.result.now) c.letters_in_front.ensures.value in
    let some : 0 < prefix_len is_ascii_digit bytes =
    omega (arith, c.digits_in_front.ensures.value, c.split_at.ensures.front_len, is_some _ c.if-is_empty.ensures) in
    let number : c.number_in.result ≡ min (digits_value 10 (take_while is_ascii_digit bytes)) TOO_LONG =
    c.number_in.ensures ∙ ap (λ ds. min (digits_value 10 ds) TOO_LONG) front in (
      digits_value 10 (take_while is_ascii_digit bytes) * c.in-Some.factor,
      group_is c.args.whole bytes c.without_spaces-unit.result.now c.split_at-2.result.0.now c.split_at-2.result.1.now c.in-Some.factor some unit name rest (sym c.in-Some.ensures.value),
      c.product.ensures ∙ ap (λ n. min (n * c.in-Some.factor) TOO_LONG) number
          ∙ capped_product _ c.in-Some.factor TOO_LONG c.in-Some.ensures.positive,
    )

pub returns-in-None-clause-value : goal.returns-in-None-clause-value
returns-in-None-clause-value c =
    let bytes = c.args.bytes.now in
    let unit : c.without_spaces-unit.result.now ≡ behind is_space (behind is_ascii_digit bytes) =
    c.without_spaces-unit.ensures.value
    ∙ ap (behind is_space) (c.split_at.ensures.back ∙ ap (λ n. drop n bytes) c.digits_in_front.ensures.value) in
    let name : c.split_at-2.result.0.now ≡ take_while is_ascii_alphabetic c.without_spaces-unit.result.now =
    c.split_at-2.ensures.front ∙ ap (λ n. take n c.without_spaces-unit.result.now) c.letters_in_front.ensures.value in
    let some : 0 < prefix_len is_ascii_digit bytes =
    omega (arith, c.digits_in_front.ensures.value, c.split_at.ensures.front_len, is_some _ c.if-is_empty.ensures) in
    group_bad c.args.whole bytes c.without_spaces-unit.result.now c.split_at-2.result.0.now some unit name
    (sym c.in-None.ensures.value) ∙ ap Err (sym c.fault_at-in-None.ensures)
