-- Held payloads: what was written is read, and what is read was written so and is proper.
use Rattle.std.proofs.Common.{◌≡◌, ℕ, ◌^◌, ◌⊎◌, inl, inr, Bool, true, List, [], ◌∷◌, ◌++◌, length, Option, Some, None, nat_le, nat_lt, ◌==◌, ◌&&◌, ◌||◌, IsTrue, refl, sym, ap, subst, ◌∙◌, arith}
use Rattle.std.specs.Prelude.{unwrap_or, IfSome, if◌then◌else◌}
use Rattle.std.specs.Int.{w64, w128, to_be_bytes}
use Rattle.std.specs.Str.{is_utf8}
use Rattle.std.proofs.lemmas.Bool.{and_parts, or_cases, or_left, or_right, leb-true, le-leb, ltb-true, lt-ltb, eqb-true}
use Rattle.std.proofs.lemmas.List.{append-nil, nil_from_length}
use Rattle.std.proofs.lemmas.Option.{cond_some}
use Rattle.std.proofs.lemmas.Str.{is_utf8-from_IsUtf8, IsUtf8-nil}
use Rattle.kumo_base.specs.Limits.{latest_moment}
use Rattle.queue_name.specs.Address.{is_address, domain_of}
use Rattle.queue_name.specs.Limits.{body_limit}
use Rattle.queue_name.specs.NameText.{if_any}
use Rattle.queue_name.specs.QueueName.{is_name, is_optional_component, is_domain, spelling}
use Rattle.queue_name.specs.Message.{IsProperMessage}
use Rattle.queue_name.specs.declared.message.Message.{Message}
use Rattle.queue_name.specs.Limits.{name_limit}
use Rattle.spool_format.specs.Fields.{◌>>=◌, text_field, number_at, text_at}
use Rattle.spool_format.specs.Held.{HeldFields, held_payload, fields_in, message_of, keeps_rules, if_proper, held_in, IsInUtf8}
use Rattle.spool_format.proofs.NumberLemmas.{exact_64, exact_128}
use Rattle.spool_format.proofs.FieldLemmas.{bind_some, Splits, splits_then, number_splits, number_again, text_splits, text_again, alone_is}
use Rattle.spool_format.proofs.LengthLemmas.{short}

-- the bytes of fields
abbrev pub fields_payload : HeldFields → List ℕ
fields_payload f =
    to_be_bytes w128 f.id ++ (to_be_bytes w64 f.created ++ (text_field f.sender ++ (text_field f.recipient
    ++ (text_field f.campaign ++ (text_field f.tenant ++ text_field f.body)))))

record AreTexts (f : HeldFields) : Type 0 where
  pub sender : IsTrue (is_utf8 f.sender)
  pub recipient : IsTrue (is_utf8 f.recipient)
  pub campaign : IsTrue (is_utf8 f.campaign)
  pub tenant : IsTrue (is_utf8 f.tenant)
  pub body : IsTrue (is_utf8 f.body)

-- fields that were split off one after another, with nothing behind the last
joined : (p r1 r2 r3 r4 r5 r6 r7 : List ℕ) (g f : HeldFields) → g ≡ f → r7 ≡ [] → Splits p (to_be_bytes w128 g.id) r1
    → Splits r1 (to_be_bytes w64 g.created) r2 → Splits r2 (text_field g.sender) r3 × IsTrue (is_utf8 g.sender)
    → Splits r3 (text_field g.recipient) r4 × IsTrue (is_utf8 g.recipient)
    → Splits r4 (text_field g.campaign) r5 × IsTrue (is_utf8 g.campaign)
    → Splits r5 (text_field g.tenant) r6 × IsTrue (is_utf8 g.tenant) → Splits r6 (text_field g.body) r7 × IsTrue (is_utf8 g.body)
    → Splits p (fields_payload f) [] × AreTexts f
joined p r1 r2 r3 r4 r5 r6 r7 g f is none s0 s1 s2 s3 s4 s5 s6 =
    let t5 = splits_then r5 (text_field g.tenant) r6 (text_field g.body) r7 s5.0 s6.0 in
    let t4 = splits_then r4 (text_field g.campaign) r5 _ r7 s4.0 t5 in
    let t3 = splits_then r3 (text_field g.recipient) r4 _ r7 s3.0 t4 in
    let t2 = splits_then r2 (text_field g.sender) r3 _ r7 s2.0 t3 in
    let t1 = splits_then r1 (to_be_bytes w64 g.created) r2 _ r7 s1 t2 in
    let t0 = splits_then p (to_be_bytes w128 g.id) r1 _ r7 s0 t1 in
    let texts : AreTexts g = record { sender = s2.1; recipient = s3.1; campaign = s4.1; tenant = s5.1; body = s6.1 } in
    subst (λ (h : HeldFields). Splits p (fields_payload h) [] × AreTexts h) is
    (subst (λ (r : List ℕ). Splits p (fields_payload g) r) none t0, texts)

fields_parts : (p : List ℕ) (f : HeldFields) → fields_in p ≡ Some f → Splits p (fields_payload f) [] × AreTexts f
unfolding fields_in
fields_parts p f e =
    let id = bind_some (number_at w128 p) _ f e in
    let created = bind_some (number_at w64 id.0.1) _ f id.2 in
    let sender = bind_some (text_at created.0.1) _ f created.2 in
    let recipient = bind_some (text_at sender.0.1) _ f sender.2 in
    let campaign = bind_some (text_at recipient.0.1) _ f recipient.2 in
    let tenant = bind_some (text_at campaign.0.1) _ f campaign.2 in
    let body = bind_some (text_at tenant.0.1) _ f tenant.2 in
    let only = alone_is _ f body.0.1 body.2 in
    joined p id.0.1 created.0.1 sender.0.1 recipient.0.1 campaign.0.1 tenant.0.1 body.0.1 _ f only.0 only.1
    (number_splits w128 (2 ^ 128) exact_128 p id.0 id.1) (number_splits w64 (2 ^ 64) exact_64 id.0.1 created.0 created.1)
    (text_splits created.0.1 sender.0 sender.1) (text_splits sender.0.1 recipient.0 recipient.1)
    (text_splits recipient.0.1 campaign.0 campaign.1) (text_splits campaign.0.1 tenant.0 tenant.1)
    (text_splits tenant.0.1 body.0 body.1)

or_any : (xs : List ℕ) → unwrap_or (if_any xs) [] ≡ xs
or_any [] = refl
or_any (x ∷ xs) = refl

utf8_any : (xs : List ℕ) → IsTrue (is_utf8 xs) → IfSome (if_any xs) (λ c. IsTrue (is_utf8 c))
utf8_any [] h = tt
utf8_any (x ∷ xs) h = h

payload_of : (f : HeldFields) → held_payload (message_of f) ≡ fields_payload f
unfolding held_payload
payload_of f =
    ap (λ (c : List ℕ). fields_payload (record { id = f.id; created = f.created; sender = f.sender; recipient = f.recipient; campaign = c; tenant = unwrap_or (if_any f.tenant) []; body = f.body })) (or_any f.campaign)
    ∙ ap (λ (t : List ℕ). fields_payload (record { id = f.id; created = f.created; sender = f.sender; recipient = f.recipient; campaign = f.campaign; tenant = t; body = f.body })) (or_any f.tenant)

sender_from : (xs : List ℕ) → ((length xs == 0) ≡ true) ⊎ IsTrue (is_address xs) → (xs ≡ []) ⊎ IsTrue (is_address xs)
sender_from xs (inl h) = inl (nil_from_length xs (eqb-true _ _ h))
sender_from xs (inr h) = inr h

sender_to : (xs : List ℕ) → (xs ≡ []) ⊎ IsTrue (is_address xs) → (length xs == 0 || is_address xs) ≡ true
sender_to xs (inl h) = or_left (length xs == 0) (is_address xs) (ap (λ (ys : List ℕ). length ys == 0) h)
sender_to xs (inr h) = or_right (length xs == 0) (is_address xs) h

proper_from : (m : Message) → keeps_rules m ≡ true → m.name.domain ≡ domain_of m.recipient → IsProperMessage m
proper_from m h domain =
    let bodies = and_parts _ (nat_le (length m.body) body_limit) h in
    let names = and_parts _ (is_name m.name) bodies.0 in
    let recipients = and_parts _ (is_address m.recipient) names.0 in
    let senders = and_parts _ (length m.sender == 0 || is_address m.sender) recipients.0 in
    let numbers = and_parts (nat_lt m.id (2 ^ 128)) (nat_le m.created latest_moment) senders.0 in
    record {
      id = ltb-true _ _ numbers.0;
      created = leb-true _ _ numbers.1;
      sender = sender_from m.sender (or_cases (length m.sender == 0) (is_address m.sender) senders.1);
      recipient = recipients.1;
      name = names.1;
      domain = domain;
      body = leb-true _ _ bodies.1;
    }

all_six : (x y z u v w : Bool) → x ≡ true → y ≡ true → z ≡ true → u ≡ true → v ≡ true → w ≡ true → (x && y && z && u && v && w) ≡ true
all_six x y z u v w p q r s t k = rw (p, q, r, s, t, k) refl

rules_from : (m : Message) → IsProperMessage m → keeps_rules m ≡ true
rules_from m p =
    all_six _ _ _ _ _ _ (lt-ltb _ _ p.id) (le-leb _ _ p.created) (sender_to m.sender p.sender) p.recipient p.name (le-leb _ _ p.body)

-- what is read of any list of numbers
pub record HeldIn (p : List ℕ) (m : Message) : Type 0 where
  pub splits : Splits p (held_payload m) []
  pub proper : IsProperMessage m
  pub texts : IsInUtf8 m

pub held_parts : (p : List ℕ) (m : Message) → held_in p ≡ Some m → HeldIn p m
unfolding held_in
held_parts p m e =
    let f = bind_some (fields_in p) _ m e in
    let c = cond_some (keeps_rules (message_of f.0)) (message_of f.0) m f.2 in
    let parts = fields_parts p f.0 f.1 in
    let texts : IsInUtf8 (message_of f.0) = record {
      sender = parts.1.sender;
      recipient = parts.1.recipient;
      campaign = utf8_any f.0.campaign parts.1.campaign;
      tenant = utf8_any f.0.tenant parts.1.tenant;
      body = parts.1.body;
    } in
    let whole : HeldIn p (message_of f.0) = record {
      splits = subst (λ (xs : List ℕ). Splits p xs []) (sym (payload_of f.0)) parts.0;
      proper = proper_from (message_of f.0) c.0 refl;
      texts = texts;
    } in
    subst (HeldIn p) c.1 whole

-- ---- what was written is read

fields_chain : (p r1 r2 r3 r4 r5 r6 : List ℕ) (f : HeldFields) → number_at w128 p ≡ Some (f.id, r1) → number_at w64 r1 ≡ Some (f.created, r2)
    → text_at r2 ≡ Some (f.sender, r3) → text_at r3 ≡ Some (f.recipient, r4) → text_at r4 ≡ Some (f.campaign, r5)
    → text_at r5 ≡ Some (f.tenant, r6) → text_at r6 ≡ Some (f.body, []) → fields_in p ≡ Some f
unfolding fields_in
fields_chain p r1 r2 r3 r4 r5 r6 f e0 e1 e2 e3 e4 e5 e6 = rw (e0, e1, e2, e3, e4, e5, e6) refl

-- a component that may stand in a name, or none
any_or : (c : Option (List ℕ)) → is_optional_component c ≡ true → if_any (unwrap_or c []) ≡ c
any_or None h = refl
any_or (Some []) h = absurd cc
any_or (Some (x ∷ xs)) h = refl

utf8_or : (c : Option (List ℕ)) → IfSome c (λ t. IsTrue (is_utf8 t)) → IsTrue (is_utf8 (unwrap_or c []))
utf8_or None h = is_utf8-from_IsUtf8 [] IsUtf8-nil
utf8_or (Some xs) h = h

abbrev fields_of_message : Message → HeldFields
fields_of_message m = record {
  id = m.id;
  created = m.created;
  sender = m.sender;
  recipient = m.recipient;
  campaign = unwrap_or m.name.campaign [];
  tenant = unwrap_or m.name.tenant [];
  body = m.body;
}

components : (m : Message) → IsProperMessage m
    → (is_optional_component m.name.campaign ≡ true) × (is_optional_component m.name.tenant ≡ true)
components m p =
    let lengths = and_parts _ (nat_le (length (spelling m.name)) name_limit) p.name in
    let domains = and_parts _ (is_domain m.name.domain) lengths.0 in
    and_parts (is_optional_component m.name.campaign) (is_optional_component m.name.tenant) domains.0

message_again : (m : Message) → IsProperMessage m → message_of (fields_of_message m) ≡ m
message_again m p =
    let both = components m p in
    let campaign = any_or m.name.campaign both.0 in
    let tenant = any_or m.name.tenant both.1 in
    let domain = p.domain in
    λ i. record {
      id = m.id;
      created = m.created;
      sender = m.sender;
      recipient = m.recipient;
      name = record { campaign = campaign i; tenant = tenant i; domain = (sym domain) i };
      body = m.body;
    }

fields_again : (m : Message) → IsProperMessage m → IsInUtf8 m → fields_in (held_payload m) ≡ Some (fields_of_message m)
unfolding held_payload
fields_again m p utf8 =
    let lens = short m p in
    let campaign = unwrap_or m.name.campaign [] in
    let tenant = unwrap_or m.name.tenant [] in
    let r6 = text_field m.body in
    let r5 = text_field tenant ++ r6 in
    let r4 = text_field campaign ++ r5 in
    let r3 = text_field m.recipient ++ r4 in
    let r2 = text_field m.sender ++ r3 in
    let r1 = to_be_bytes w64 m.created ++ r2 in
    let last = ap text_at (sym (append-nil r6)) ∙ text_again m.body [] (omega (arith, lens.body)) utf8.body in
    fields_chain (to_be_bytes w128 m.id ++ r1) r1 r2 r3 r4 r5 r6 (fields_of_message m)
    (number_again w128 (2 ^ 128) exact_128 m.id r1 p.id)
    (number_again w64 (2 ^ 64) exact_64 m.created r2 (omega (arith, p.created)))
    (text_again m.sender r3 (omega (arith, lens.sender)) utf8.sender)
    (text_again m.recipient r4 (omega (arith, lens.recipient)) utf8.recipient)
    (text_again campaign r5 (omega (arith, lens.campaign)) (utf8_or m.name.campaign utf8.campaign))
    (text_again tenant r6 (omega (arith, lens.tenant)) (utf8_or m.name.tenant utf8.tenant))
    last

kept : (m : Message) → keeps_rules m ≡ true → if_proper m ≡ Some m
kept m h = ap (λ b. if b then Some m else None) h

pub held_again : (m : Message) → IsProperMessage m → IsInUtf8 m → held_in (held_payload m) ≡ Some m
unfolding held_in
held_again m p utf8 =
    ap (λ (o : Option HeldFields). o >>= (λ f. if_proper (message_of f))) (fields_again m p utf8)
    ∙ ap if_proper (message_again m p) ∙ kept m (rules_from m p)
