-- The test of a message's rules.
use Rattle.std.proofs.Common.{◌≡◌, ◌<◌, ◌^◌, ◌↔◌, ◌&&◌, ◌||◌, ◌==◌, ◌⊎◌, inl, inr, ℕ, List, [], ◌∷◌, Bool, true, nat_le, length, refl, ap, arith, bytes_eq, IsTrue}
use Rattle.std.proofs.lemmas.Bool.{and_parts, or_cases, or_left, or_right, le-leb, leb-true}
use Rattle.std.proofs.lemmas.Bool.Decides.{nat_tests}
use Rattle.queue_name.specs.Address.{is_address, domain_of}
use Rattle.queue_name.specs.QueueName.{is_name}
use Rattle.queue_name.specs.Message.{IsProperMessage}
use Rattle.queue_name.specs.declared.message.Message.{Message}
use Rattle.queue_name.specs.declared.message.TheConstants.{BODY_LIMIT}
use Rattle.kumo_base.specs.declared.moment.TheConstants.{LAST_MOMENT}
use Rattle.queue_name.proofs.EqualLemmas.{equal, equal_from}

empty_is : (xs : List ℕ) → (length xs == 0) ≡ true → xs ≡ []
empty_is [] h = refl
empty_is (x ∷ xs) h = let e : length (x ∷ xs) ≡ 0 = grind (arith, nat_tests) in absurd (omega (arith, e))

sender_from : (xs : List ℕ) → ((length xs == 0) ≡ true) ⊎ IsTrue (is_address xs) → (xs ≡ []) ⊎ IsTrue (is_address xs)
sender_from xs (inl h) = inl (empty_is xs h)
sender_from xs (inr h) = inr h

sender_to : (xs : List ℕ) → (xs ≡ []) ⊎ IsTrue (is_address xs) → (length xs == 0 || is_address xs) ≡ true
sender_to xs (inl h) = or_left (length xs == 0) (is_address xs) (ap (λ (ys : List ℕ). length ys == 0) h)
sender_to xs (inr h) = or_right (length xs == 0) (is_address xs) h

abbrev pub keeps_rules : Message → Bool
keeps_rules m =
    nat_le m.created LAST_MOMENT && (length m.sender == 0 || is_address m.sender) && is_address m.recipient
    && bytes_eq m.name.domain (domain_of m.recipient) && nat_le (length m.body) BODY_LIMIT

all_five : (x y z u v : Bool) → x ≡ true → y ≡ true → z ≡ true → u ≡ true → v ≡ true → (x && y && z && u && v) ≡ true
all_five x y z u v p q r s t = rw (p, q, r, s, t) refl

-- with a number of 128 bits and a name, the test decides
pub proper_is : (m : Message) → m.id < 2 ^ 128 → IsTrue (is_name m.name) → IsTrue (keeps_rules m) ↔ IsProperMessage m
proper_is m id name = (
  λ h.
      let bodies = and_parts _ (nat_le (length m.body) BODY_LIMIT) h in
      let domains = and_parts _ (bytes_eq m.name.domain (domain_of m.recipient)) bodies.0 in
      let recipients = and_parts _ (is_address m.recipient) domains.0 in
      let senders = and_parts (nat_le m.created LAST_MOMENT) (length m.sender == 0 || is_address m.sender) recipients.0 in
      record {
        id = id;
        created = leb-true _ _ senders.0;
        sender = sender_from m.sender (or_cases (length m.sender == 0) (is_address m.sender) senders.1);
        recipient = recipients.1;
        name = name;
        domain = equal_from _ _ domains.1;
        body = leb-true _ _ bodies.1;
      },
  λ p. all_five _ _ _ _ _ (le-leb _ _ p.created) (sender_to m.sender p.sender) p.recipient (equal _ _ p.domain)
      (le-leb _ _ p.body),
)
