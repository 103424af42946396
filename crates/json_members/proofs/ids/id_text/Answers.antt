-- The text that is copied is the printed id.
use Rattle.std.proofs.Common.{◌∙◌, ap}
use Rattle.std.proofs.lemmas.Result.{IfOk-weaker}
use Rattle.uuid.specs.Text.{hyphenated_text, lower}
use Rattle.json_members.specs.Members.{id_text}
use Rattle.json_members.proofs.ids.id_text.Goals as goal

pub returns : goal.returns
unfolding id_text
returns c =
    let printed = c.encode_lower-text.ensures.text ∙ ap (hyphenated_text lower) (c.hyphenated.ensures ∙ c.from_u128.ensures) in
    IfOk-weaker c.of.result _ _ (λ v e. e ∙ printed) c.of.ensures
