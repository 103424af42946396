-- Fields that are split off the front: how long they are, that they were written so, and that what was written is read.
use Rattle.std.proofs.Common.{◌≡◌, ℕ, ◌+◌, ◌^◌, ◌<◌, ◌≤◌, true, List, [], ◌++◌, length, take, drop, Option, Some, None, nat_le, ◌==◌, IsTrue, refl, sym, ap, subst, ◌∙◌, append_assoc, arith}
use Rattle.std.specs.Int.{Width, w32, byte_len, from_be_bytes, to_be_bytes}
use Rattle.std.specs.Str.{is_utf8}
use Rattle.std.proofs.lemmas.Bool.{leb-true, le-leb, eqb-true}
use Rattle.std.proofs.lemmas.List.{append-nil, take_at, drop_at, take-append-drop, length-append, length-take, length-drop, nil_from_length}
use Rattle.std.proofs.lemmas.Option.{cond_some, same_Some}
use Rattle.kumo_base.specs.Utf8.{utf8_in}
use Rattle.spool_format.specs.Fields.{◌>>=◌, text_field, bytes_at, number_at, text_at, alone}
use Rattle.spool_format.proofs.NumberLemmas.{IsBytes, IsBytes-drop, IsBytes-take, IsExact, exact_32}

-- the value that the next reading had
pub bind_some : {A B : Type 0} (o : Option A) (next : A → Option B) (y : B) → (o >>= next) ≡ Some y → (x : A) × (o ≡ Some x) × (next x ≡ Some y)
bind_some None next y e = absurd cc
bind_some (Some x) next y e = (x, refl, e)

-- bytes that were split into a field and what is behind it
pub record Splits (bytes field rest : List ℕ) : Type 0 where
  pub len : length bytes ≡ length field + length rest
  pub whole : IsBytes bytes → (bytes ≡ field ++ rest) × IsBytes rest

pub splits_then : (a x b y c : List ℕ) → Splits a x b → Splits b y c → Splits a (x ++ y) c
splits_then a x b y c p q = record {
  len = omega (arith, p.len, q.len, length-append x y);
  whole = λ are.
      let first = p.whole are in
      let second = q.whole first.1 in
      (first.0 ∙ ap (λ (r : List ℕ). x ++ r) second.0 ∙ sym (append_assoc x y c), second.1);
}

-- so many bytes
pub bytes_parts : (n : ℕ) (bytes : List ℕ) (x : List ℕ × List ℕ) → bytes_at n bytes ≡ Some x
    → (n ≤ length bytes) × (take n bytes ≡ x.0) × (drop n bytes ≡ x.1)
bytes_parts n bytes x e =
    let c = cond_some (nat_le n (length bytes)) (take n bytes, drop n bytes) x e in
    (leb-true _ _ c.0, ap (λ (p : List ℕ × List ℕ). p.0) c.1, ap (λ (p : List ℕ × List ℕ). p.1) c.1)

pub bytes_again : (front rest : List ℕ) (n : ℕ) → length front ≡ n → bytes_at n (front ++ rest) ≡ Some (front, rest)
bytes_again front rest n len =
    let within : nat_le n (length (front ++ rest)) ≡ true = le-leb _ _ (omega (arith, len, length-append front rest)) in
    rw (within, take_at front rest n len, drop_at front rest n len) refl

pub number_splits : (w : Width) (limit : ℕ) → IsExact w limit → (bytes : List ℕ) (x : ℕ × List ℕ) → number_at w bytes ≡ Some x
    → Splits bytes (to_be_bytes w x.0) x.1
unfolding number_at
number_splits w limit exact bytes x e =
    let b = bind_some (bytes_at (byte_len w) bytes) (λ front. Some (from_be_bytes w front.0, front.1)) x e in
    let parts = bytes_parts (byte_len w) bytes b.0 b.1 in
    let is = same_Some (from_be_bytes w b.0.0, b.0.1) x b.2 in
    let n_is : from_be_bytes w (take (byte_len w) bytes) ≡ x.0 = ap (from_be_bytes w) parts.1 ∙ ap (λ (p : ℕ × List ℕ). p.0) is in
    let rest_is : drop (byte_len w) bytes ≡ x.1 = parts.2 ∙ ap (λ (p : ℕ × List ℕ). p.1) is in
    let front_len : length (take (byte_len w) bytes) ≡ byte_len w = omega (arith, length-take (byte_len w) bytes, parts.0) in
    record {
      len = omega (arith, exact.len x.0, ap length rest_is, length-drop (byte_len w) bytes, parts.0);
      whole = λ are.
          let written : to_be_bytes w x.0 ≡ take (byte_len w) bytes =
          ap (to_be_bytes w) (sym n_is) ∙ exact.back (take (byte_len w) bytes) front_len (IsBytes-take (byte_len w) bytes are) in (
            sym (take-append-drop (byte_len w) bytes) ∙ ap (λ (r : List ℕ). take (byte_len w) bytes ++ r) rest_is
                ∙ ap (λ (r : List ℕ). r ++ x.1) (sym written),
            subst IsBytes rest_is (IsBytes-drop (byte_len w) bytes are),
          );
    }

pub number_again : (w : Width) (limit : ℕ) → IsExact w limit → (n : ℕ) (rest : List ℕ) → n < limit
    → number_at w (to_be_bytes w n ++ rest) ≡ Some (n, rest)
unfolding number_at
number_again w limit exact n rest small =
    rw (bytes_again (to_be_bytes w n) rest (byte_len w) (exact.len n), exact.again n small) refl

utf8_is : (bytes text : List ℕ) → utf8_in bytes ≡ Some text → (is_utf8 bytes ≡ true) × (bytes ≡ text)
utf8_is bytes text e = cond_some (is_utf8 bytes) bytes text e

pub text_splits : (bytes : List ℕ) (x : List ℕ × List ℕ) → text_at bytes ≡ Some x
    → Splits bytes (text_field x.0) x.1 × IsTrue (is_utf8 x.0)
unfolding text_at text_field
text_splits bytes x e =
    let s = bind_some (number_at w32 bytes) _ x e in
    let f = bind_some (bytes_at s.0.0 s.0.1) _ x s.2 in
    let t = bind_some (utf8_in f.0.0) _ x f.2 in
    let size = number_splits w32 (2 ^ 32) exact_32 bytes s.0 s.1 in
    let parts = bytes_parts s.0.0 s.0.1 f.0 f.1 in
    let utf8 = utf8_is f.0.0 t.0 t.1 in
    let is = same_Some (t.0, f.0.1) x t.2 in
    let text_is : take s.0.0 s.0.1 ≡ x.0 = parts.1 ∙ utf8.1 ∙ ap (λ (p : List ℕ × List ℕ). p.0) is in
    let rest_is : drop s.0.0 s.0.1 ≡ x.1 = parts.2 ∙ ap (λ (p : List ℕ × List ℕ). p.1) is in
    let text_len : s.0.0 ≡ length x.0 = omega (arith, ap length text_is, length-take s.0.0 s.0.1, parts.0) in
    let behind : Splits s.0.1 x.0 x.1 = record {
      len = omega (arith, ap length text_is, ap length rest_is, length-take s.0.0 s.0.1, length-drop s.0.0 s.0.1, parts.0);
      whole = λ are. (
        sym (take-append-drop s.0.0 s.0.1) ∙ ap (λ (r : List ℕ). r ++ drop s.0.0 s.0.1) text_is ∙ ap (λ (r : List ℕ). x.0 ++ r) rest_is,
        subst IsBytes rest_is (IsBytes-drop s.0.0 s.0.1 are),
      );
    } in
    let size_is : Splits bytes (to_be_bytes w32 (length x.0)) s.0.1 = subst (λ (k : ℕ). Splits bytes (to_be_bytes w32 k) s.0.1) text_len size in (
      splits_then bytes (to_be_bytes w32 (length x.0)) s.0.1 x.0 x.1 size_is behind,
      subst (λ (r : List ℕ). IsTrue (is_utf8 r)) (utf8.1 ∙ ap (λ (p : List ℕ × List ℕ). p.0) is) utf8.0,
    )

text_chain : (bytes behind text rest : List ℕ) (n : ℕ) → number_at w32 bytes ≡ Some (n, behind)
    → bytes_at n behind ≡ Some (text, rest) → utf8_in text ≡ Some text → text_at bytes ≡ Some (text, rest)
unfolding text_at
text_chain bytes behind text rest n e0 e1 e2 = rw (e0, e1, e2) refl

pub text_again : (text rest : List ℕ) → length text < 2 ^ 32 → IsTrue (is_utf8 text) → text_at (text_field text ++ rest) ≡ Some (text, rest)
unfolding text_field
text_again text rest short utf8 =
    let size : number_at w32 (to_be_bytes w32 (length text) ++ (text ++ rest)) ≡ Some (length text, text ++ rest) =
    number_again w32 (2 ^ 32) exact_32 (length text) (text ++ rest) short in
    let is_text : utf8_in text ≡ Some text = rw utf8 refl in
    ap text_at (append_assoc (to_be_bytes w32 (length text)) text rest)
    ∙ text_chain (to_be_bytes w32 (length text) ++ (text ++ rest)) (text ++ rest) text rest (length text) size (bytes_again text rest (length text) refl) is_text

-- nothing is behind the last field
pub alone_is : {A : Type 0} (value y : A) (rest : List ℕ) → alone value rest ≡ Some y → (value ≡ y) × (rest ≡ [])
alone_is value y rest e =
    let c = cond_some (length rest == 0) value y e in
    (c.1, nil_from_length rest (eqb-true _ _ c.0))

-- a payload that is one field: as long as that, and that where it is bytes
pub splits_length : (p field : List ℕ) → Splits p field [] → length p ≡ length field
splits_length p field s = omega (arith, s.len)

pub splits_whole : (p field : List ℕ) → Splits p field [] → IsBytes p → field ≡ p
splits_whole p field s are = sym ((s.whole are).0 ∙ append-nil field)
