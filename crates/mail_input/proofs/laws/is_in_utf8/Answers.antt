use Rattle.std.proofs.Common.{ℕ, List, Option, IsTrue, ap, subst, ◌∙◌}
use Rattle.std.specs.Prelude.{IfSome}
use Rattle.std.specs.Str.{is_utf8}
use Rattle.std.proofs.lemmas.Str.{is_utf8-from_IsUtf8}
use Rattle.queue_name.specs.declared.message.Message.{Message}
use Rattle.mail_input.proofs.laws.is_in_utf8.Goals as goal

pub returns : goal.returns
returns c =
    let v = c.message.view_is in
    record {
      sender = subst (λ (xs : List ℕ). IsTrue (is_utf8 xs)) (c.as_str-sender.ensures ∙ ap (λ (m : Message). m.sender) v)
          (is_utf8-from_IsUtf8 _ c.as_str-sender.utf8);
      recipient = subst (λ (xs : List ℕ). IsTrue (is_utf8 xs)) (c.as_str-recipient.ensures ∙ ap (λ (m : Message). m.recipient) v)
          (is_utf8-from_IsUtf8 _ c.as_str-recipient.utf8);
      campaign = subst (λ (o : Option (List ℕ)). IfSome o (λ t. IsTrue (is_utf8 t))) (ap (λ (m : Message). m.name.campaign) v)
          c.is_component_in_utf8.ensures;
      tenant = subst (λ (o : Option (List ℕ)). IfSome o (λ t. IsTrue (is_utf8 t))) (ap (λ (m : Message). m.name.tenant) v)
          c.is_component_in_utf8-2.ensures;
      body = subst (λ (xs : List ℕ). IsTrue (is_utf8 xs)) (c.as_str-body.ensures ∙ ap (λ (m : Message). m.body) v)
          (is_utf8-from_IsUtf8 _ c.as_str-body.utf8);
    }
