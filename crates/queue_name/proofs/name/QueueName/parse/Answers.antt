use Rattle.std.proofs.Common.{◌≡◌, sym, ap, ◌∙◌, arith, None}
use Rattle.std.specs.List.{position}
use Rattle.queue_name.specs.NameText.{is_exclamation, bad_byte}
use Rattle.queue_name.proofs.NameTextLemmas.{is_name-found}
use Rattle.queue_name.proofs.name.QueueName.parse.Goals as goal

pub to_name-requires : goal.to_name-requires
to_name-requires c =
    let text = c.args.text.now in
    let no_mark : position is_exclamation text ≡ None =
    ap (position is_exclamation) (sym c.as_bytes.ensures.value) ∙ sym c.first_exclamation.ensures ∙ c.in_default.is in
    let no_bad : bad_byte text ≡ None =
    ap bad_byte (sym c.as_bytes-2.ensures.value) ∙ sym c.bad_byte.ensures ∙ c.in_default-bad_byte.is in
    let full = sym c.has_empty.ensures ∙ c.if-has_empty.false in
    is_name-found text _ _ _ c.components-found.ensures no_mark no_bad full (omega (arith, c.if-text-gt-NAME_LIMIT.false))
