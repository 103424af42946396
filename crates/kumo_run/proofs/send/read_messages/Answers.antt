use Rattle.std.proofs.Common.{◌≡◌, ℕ, List, Option, Some, None, Result, IfOk, IfSome, ◌∙◌}
use Rattle.std.proofs.lemmas.Result.{IfOk-weaker, IfErr-weaker}
use Rattle.kumo_outside.specs.declared.text_reader.TheConstants.{TEXT_LIMIT}
use Rattle.kumo_outside.specs.Reading.{IsReadUpTo}
use Rattle.kumo_run.specs.MailRead.{MailRead, mail_read}
use Rattle.kumo_run.specs.declared.refusal.Refusal.{Refusal}
use Rattle.kumo_run.proofs.MailLemmas.{same_read}
use Rattle.kumo_run.proofs.SendLemmas.{unread}
use Rattle.kumo_run.proofs.send.read_messages.Goals as goal

-- what was read says what the told text gives
read_ok : {X : Type 0} (gives : X → MailRead) (told : Option (List ℕ)) (read : List ℕ) (r : Result X Refusal)
    → IfSome told (λ text. IsReadUpTo TEXT_LIMIT text read) → IfOk r (λ x. mail_read read ≡ gives x)
    → IfSome told (λ text. IfOk r (λ x. mail_read text ≡ gives x))
read_ok gives None read r up ok = tt
read_ok gives (Some text) read r up ok = IfOk-weaker r _ _ (λ x e. same_read text read up ∙ e) ok

as_read : (told : Option (List ℕ)) (read same : List ℕ) → same ≡ read → IfSome told (λ text. IsReadUpTo TEXT_LIMIT text read)
    → IfSome told (λ text. IsReadUpTo TEXT_LIMIT text same)
as_read told read same e h = rw e h

pub returns-in-Ok-clause-ok : goal.returns-in-Ok-clause-ok
returns-in-Ok-clause-ok g c =
    let told = (g.T.Texts.seen c.args.texts.now).told c.args.name.now in
    read_ok _ told c.as_slice.result.now c.messages_in.result (as_read told _ _ c.as_slice.ensures c.in-Ok.ensures.text) c.messages_in.ensures.ok

pub returns-in-Ok-clause-err : goal.returns-in-Ok-clause-err
returns-in-Ok-clause-err g c =
    let before = g.T.Texts.seen c.args.texts.now in
    let name = c.args.name.now in
    IfErr-weaker c.messages_in.result _ _
    (unread before (g.T.Texts.seen c.read_text.new.texts) name c.as_slice.result.now
    (as_read (before.told name) _ _ c.as_slice.ensures c.in-Ok.ensures.text))
    c.messages_in.ensures.err
