-- How long the texts of a message are.
use Rattle.std.proofs.Common.{◌≡◌, ℕ, ◌≤◌, ◌⊎◌, inl, inr, List, [], ◌∷◌, ◌++◌, length, Option, Some, None, nat_le, IsTrue, ap, arith}
use Rattle.std.specs.Prelude.{unwrap_or, nat_lt}
use Rattle.std.specs.List.{list_all, list_any, before_last}
use Rattle.std.proofs.lemmas.Bool.{and_parts, leb-true}
use Rattle.std.proofs.lemmas.List.{length-append}
use Rattle.queue_name.specs.Address.{is_address, is_address_byte, is_at, is_routed_domain, domain_of}
use Rattle.queue_name.specs.Limits.{name_limit, address_limit, body_limit}
use Rattle.queue_name.specs.QueueName.{Name, is_name, spelled}
use Rattle.queue_name.specs.Message.{IsProperMessage}
use Rattle.queue_name.specs.declared.message.Message.{Message}

pub record IsShort (m : Message) : Type 0 where
  pub sender : length m.sender ≤ address_limit
  pub recipient : length m.recipient ≤ address_limit
  pub campaign : length (unwrap_or m.name.campaign []) ≤ name_limit
  pub tenant : length (unwrap_or m.name.tenant []) ≤ name_limit
  pub body : length m.body ≤ body_limit

address_short : (xs : List ℕ) → IsTrue (is_address xs) → length xs ≤ address_limit
unfolding is_address
address_short xs h =
    let a = and_parts _ (is_routed_domain (domain_of xs)) h in
    let b = and_parts _ (nat_lt 0 (length (before_last is_at xs))) a.0 in
    let c = and_parts _ (list_any is_at xs) b.0 in
    let d = and_parts _ (list_all is_address_byte xs) c.0 in
    let e = and_parts (nat_lt 0 (length xs)) (nat_le (length xs) address_limit) d.0 in
    leb-true _ _ e.1

sender_short : (xs : List ℕ) → (xs ≡ []) ⊎ IsTrue (is_address xs) → length xs ≤ address_limit
sender_short xs (inl e) = omega (arith, ap length e)
sender_short xs (inr h) = address_short xs h

parts_short : (campaign tenant : Option (List ℕ)) (domain : List ℕ) → length (spelled campaign tenant domain) ≤ name_limit
    → (length (unwrap_or campaign []) ≤ name_limit) × (length (unwrap_or tenant []) ≤ name_limit)
parts_short None None domain h = (omega arith, omega arith)
parts_short None (Some tenant) domain h = (omega arith, omega (arith, length-append tenant (64 ∷ domain)))
parts_short (Some campaign) None domain h = (omega (arith, length-append campaign (58 ∷ (64 ∷ domain))), omega arith)
parts_short (Some campaign) (Some tenant) domain h =
    let whole = length-append campaign (58 ∷ (tenant ++ (64 ∷ domain))) in
    let back = length-append tenant (64 ∷ domain) in
    (omega (arith, whole), omega (arith, whole, back))

name_short : (n : Name) → IsTrue (is_name n)
    → (length (unwrap_or n.campaign []) ≤ name_limit) × (length (unwrap_or n.tenant []) ≤ name_limit)
name_short n h =
    parts_short n.campaign n.tenant n.domain
    (leb-true _ _ (and_parts _ (nat_le (length (spelled n.campaign n.tenant n.domain)) name_limit) h).1)

pub short : (m : Message) → IsProperMessage m → IsShort m
short m proper =
    let name = name_short m.name proper.name in
    record {
      sender = sender_short m.sender proper.sender;
      recipient = address_short m.recipient proper.recipient;
      campaign = name.0;
      tenant = name.1;
      body = proper.body;
    }
