-- Pieces sent one after the other, whole or up to a fault.
use Rattle.std.proofs.Common.{◌≡◌, ℕ, ◌+◌, ◌<◌, ◌≤◌, List, [], ◌++◌, length, take, drop, false, refl, ap, sym, ◌∙◌, take-append-drop, length-drop, take-add, le_trans, arith}
use Rattle.kumo_base.specs.Causes.{Rose}
use Rattle.kumo_outside.specs.Sessions.{LinkSeen}
use Rattle.kumo_outside.specs.Content.{told_with}
use Rattle.smtp_dialogue.specs.inside.Asking.{Sends, FailsToSend}
use Rattle.kumo_outside.proofs.ContentLemmas.{told_with-next, told_with-nil, TakesProperPrefix-after, TakesProperPrefix-more}

-- nothing is sent yet
pub sends_none : (k : LinkSeen) → Sends [] k k
sends_none k = record { whole = sym (told_with-nil k.sent); got_is = refl; later = omega arith }

-- one piece and then another
pub sends_then : {x y : List ℕ} {k0 k1 k2 : LinkSeen} → Sends x k0 k1 → Sends y k1 k2 → Sends (x ++ y) k0 k2
sends_then {x} {y} {k0} {k1} {k2} a b = record {
  whole = told_with-next k0.sent k1.sent k2.sent x y a.whole b.whole;
  got_is = b.got_is ∙ a.got_is;
  later = le_trans a.later b.later;
}

-- one piece, and the link failed in the next
pub sends_then_fails : {x y : List ℕ} {k0 k1 k2 : LinkSeen} → Sends x k0 k1 → FailsToSend y k1 k2 → FailsToSend (x ++ y) k0 k2
sends_then_fails {x} {y} {k0} {k1} {k2} a b = record {
  part = TakesProperPrefix-after k0.sent k1.sent k2.sent x y a.whole b.part;
  got_is = b.got_is ∙ a.got_is;
  not_ended = b.not_ended;
  later = le_trans a.later b.later;
  rose = omega (arith, a.later, b.rose);
}

-- the link failed in the first piece
pub fails_before : {x : List ℕ} (y : List ℕ) {k0 k1 : LinkSeen} → FailsToSend x k0 k1 → FailsToSend (x ++ y) k0 k1
fails_before {x} y {k0} {k1} a = record {
  part = TakesProperPrefix-more k0.sent k1.sent x y a.part;
  got_is = a.got_is;
  not_ended = a.not_ended;
  later = a.later;
  rose = a.rose;
}

-- some of what is left was sent
pub send_more : (bytes rest : List ℕ) (at n : ℕ) {k0 k1 k2 : LinkSeen} → Sends (take at bytes) k0 k1 → rest ≡ drop at bytes
    → k2.sent ≡ told_with k1.sent (take n rest) → k2.got ≡ k1.got → k1.faults ≤ k2.faults → Sends (take (at + n) bytes) k0 k2
send_more bytes rest at n {k0} {k1} {k2} a e s g f = record {
  whole = told_with-next k0.sent k1.sent k2.sent (take at bytes) (take n rest) a.whole s ∙ ap (told_with k0.sent) (ap (λ (r : List ℕ). take at bytes ++ take n r) e ∙ sym (take-add at n bytes));
  got_is = g ∙ a.got_is;
  later = le_trans a.later f;
}

rest_is_there : (bytes : List ℕ) (at : ℕ) → at < length bytes → drop at bytes ≡ [] → ⊥
rest_is_there bytes at l e =
    let n : length (drop at bytes) ≡ 0 = ap length e in
    let m = length-drop at bytes in omega arith

-- the link failed where some was left
pub send_stopped : (bytes : List ℕ) (at : ℕ) {k0 k1 k2 : LinkSeen} → Sends (take at bytes) k0 k1 → at < length bytes
    → k2.sent ≡ k1.sent → k2.got ≡ k1.got → k2.ended ≡ false → k1.faults ≤ k2.faults → Rose k1.faults k2.faults → FailsToSend bytes k0 k2
send_stopped bytes at {k0} {k1} {k2} a l s g n f r = record {
  part = (take at bytes, drop at bytes, record { whole = take-append-drop at bytes; added = s ∙ a.whole }, rest_is_there bytes at l);
  got_is = g ∙ a.got_is;
  not_ended = n;
  later = le_trans a.later f;
  rose = omega (arith, a.later, r);
}
