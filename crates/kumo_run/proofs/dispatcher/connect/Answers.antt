use Rattle.std.proofs.Common.{◌≡◌, ℕ, List, [], ◌∷◌, ◌++◌, length, set, Option, Some, None, Result, Ok, Err, IfSome, refl, ap, ◌∙◌, subst}
use Rattle.kumo_outside.specs.Sessions.{Opening, LinkSeen, Opens, GivesBack, fresh, session_of}
use Rattle.queue_name.specs.declared.message.Message.{Message}
use Rattle.kumo_outside.specs.declared.session.Session.{Session}
use Rattle.kumo_run.specs.declared.dispatcher.DeliveryFault.{DeliveryFault}
use Rattle.kumo_run.specs.declared.dispatcher.DeliveryFault.TheVariants.{NotOpened, NotDelivered, Memory}
use Rattle.history_core.specs.declared.entry.Entry.{Entry}
use Rattle.policy_core.specs.Limits.{unspecified}
use Rattle.kumo_run.specs.inside.OneMessage.{IsFreshLink, Converses, Connects, Tells, TellsOneMore}
use Rattle.kumo_run.proofs.SessionLemmas.{sessions_stay}
use Rattle.kumo_run.proofs.dispatcher.connect.Goals as goal

-- the last item of a list is set
set_last : (before : List Session) (x y : Session) → set (before ++ x ∷ []) (length before) y ≡ before ++ y ∷ []
set_last [] x y = refl
set_last (s ∷ before) x y = ap (λ (rest : List Session). s ∷ rest) (set_last before x y)

module _ (m : Message) (host source : List ℕ) (host_is : host ≡ m.name.domain) (source_is : source ≡ unspecified)
    (k1 k2 : LinkSeen) (same : k2.opening ≡ k1.opening) (mid new : Option (List Session)) where
  -- what the link told is what the linker tells at its place
  one_more : (before : List Session) (P : Session → Type 0) → Opens (Some before) mid host source k1 → GivesBack mid new k2
      → Tells m k2 P → TellsOneMore m new before P
  one_more before P opens gives t =
      let session : Session = session_of k2 t.sent_bytes t.got_bytes in
      let at_mid : Option (List Session) → Type 0 = λ told. GivesBack told new k2 in
      let given : GivesBack (Some (before ++ fresh k1.opening ∷ [])) new k2 = subst at_mid opens.told.1 gives in
      let place : k2.opening.place ≡ length before = ap (λ (o : Opening). o.place) same ∙ opens.told.0 in
      record {
        session = session;
        added = given t.sent_bytes t.got_bytes t.sent_is t.got_is
            ∙ ap Some (ap (λ (k : ℕ). set (before ++ fresh k1.opening ∷ []) k session) place ∙ set_last before (fresh k1.opening) session);
        session_is = record {
          host = ap (λ (o : Opening). o.host) same ∙ opens.host_is ∙ host_is;
          source = ap (λ (o : Opening). o.source) same ∙ opens.source_is ∙ source_is;
          transcript = t.transcript;
        };
        decided = t.decided;
      }

  connects_at : {T : Type 0} (before : List Session) (r : Result T DeliveryFault) (h : List Entry) → Opens (Some before) mid host source k1
      → GivesBack mid new k2 → Converses m k2 r h → Connects m r h new before
  connects_at before (Ok x) h opens gives t = one_more before _ opens gives t
  connects_at before (Err NotOpened) h opens gives t = absurd t
  connects_at before (Err NotDelivered) h opens gives t = one_more before _ opens gives t
  connects_at before (Err Memory) h opens gives t = absurd t

  connects : {T : Type 0} (old : Option (List Session)) (r : Result T DeliveryFault) (h : List Entry) → Opens old mid host source k1
      → GivesBack mid new k2 → (IsFreshLink k1 → Converses m k2 r h) → IfSome old (λ before. Connects m r h new before)
  connects None r h opens gives told = tt
  connects (Some before) r h opens gives told =
      let is_fresh : IsFreshLink k1 = record { sent_is = opens.told.2; got_is = opens.told.3; faults_are = opens.told.4 } in
      connects_at before r h opens gives (told is_fresh)

pub returns-in-Err-clause-told : goal.returns-in-Err-clause-told
returns-in-Err-clause-told g c = sessions_stay _ _ c.in-Err.ensures.failed

pub returns-clause-told : goal.returns-clause-told
returns-clause-told g c =
    connects c.args.message.now _ _ (c.as_str.ensures ∙ ap (λ (x : Message). x.name.domain) c.message.view_is) refl
    (g.K.Link.Link.seen c.in-Ok.link) (g.K.Link.Link.seen c.converse-worked.new.link) c.converse-worked.ensures.opening
    (g.K.Linker.seen c.open.new.self).sessions (g.K.Linker.seen c.done.new.self).sessions
    (g.K.Linker.seen c.args.linker.now).sessions c.converse-worked.result c.converse-worked.new.registry.history c.in-Ok.ensures.opened c.done.ensures.session c.converse-worked.ensures.told
