use Rattle.std.proofs.Common.{[], length, ap, ◌∙◌, arith}
use Rattle.std.specs.Prelude.{unwrap_or}
use Rattle.queue_name.specs.declared.message.Message.{Message}
use Rattle.spool_format.proofs.LengthLemmas.{short}
use Rattle.spool_format.proofs.held.held_length.Goals as goal

pub overflow_add-result-2 : goal.overflow_add-result-2
overflow_add-result-2 c =
    let s = short c.args.message.now c.requires.proper in
    let sender = c.as_str.ensures ∙ ap (λ (m : Message). m.sender) c.message.view_is in
    let recipient = c.as_str-2.ensures ∙ ap (λ (m : Message). m.recipient) c.message.view_is in
    omega (arith, ap length sender, ap length recipient, s.sender, s.recipient)

pub overflow_add-result-3 : goal.overflow_add-result-3
overflow_add-result-3 c =
    let s = short c.args.message.now c.requires.proper in
    let sender = c.as_str.ensures ∙ ap (λ (m : Message). m.sender) c.message.view_is in
    let recipient = c.as_str-2.ensures ∙ ap (λ (m : Message). m.recipient) c.message.view_is in
    let campaign = c.or_empty-campaign.ensures ∙ ap (λ (m : Message). unwrap_or m.name.campaign []) c.message.view_is in
    omega (arith, ap length sender, ap length recipient, ap length campaign, s.sender, s.recipient, s.campaign)

pub overflow_add-result-4 : goal.overflow_add-result-4
overflow_add-result-4 c =
    let s = short c.args.message.now c.requires.proper in
    let sender = c.as_str.ensures ∙ ap (λ (m : Message). m.sender) c.message.view_is in
    let recipient = c.as_str-2.ensures ∙ ap (λ (m : Message). m.recipient) c.message.view_is in
    let campaign = c.or_empty-campaign.ensures ∙ ap (λ (m : Message). unwrap_or m.name.campaign []) c.message.view_is in
    let tenant = c.or_empty-tenant.ensures ∙ ap (λ (m : Message). unwrap_or m.name.tenant []) c.message.view_is in
    omega (arith, ap length sender, ap length recipient, ap length campaign, ap length tenant, s.sender, s.recipient, s.campaign, s.tenant)

pub overflow_add-result-5 : goal.overflow_add-result-5
overflow_add-result-5 c =
    let s = short c.args.message.now c.requires.proper in
    let sender = c.as_str.ensures ∙ ap (λ (m : Message). m.sender) c.message.view_is in
    let recipient = c.as_str-2.ensures ∙ ap (λ (m : Message). m.recipient) c.message.view_is in
    let campaign = c.or_empty-campaign.ensures ∙ ap (λ (m : Message). unwrap_or m.name.campaign []) c.message.view_is in
    let tenant = c.or_empty-tenant.ensures ∙ ap (λ (m : Message). unwrap_or m.name.tenant []) c.message.view_is in
    let body = c.as_str-3.ensures ∙ ap (λ (m : Message). m.body) c.message.view_is in
    omega (arith, ap length sender, ap length recipient, ap length campaign, ap length tenant, ap length body, s.sender, s.recipient, s.campaign, s.tenant, s.body)
