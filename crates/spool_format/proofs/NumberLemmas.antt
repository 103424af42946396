-- Numbers of 16 bytes, by their two halves: what was written is read, and what is read was written so.
use Rattle.std.proofs.Common.{◌≡◌, ℕ, ◌+◌, ◌*◌, ◌/◌, ◌%◌, ◌^◌, ◌<◌, List, [], ◌∷◌, ◌++◌, length, get_or, take, drop, refl, sym, ap, ◌∙◌, arith, inl, inr}
use Rattle.std.specs.Int.{Width, w32, w64, w128, byte_len, from_be_bytes, to_be_bytes}
use Rattle.std.proofs.Math.Nat.{div-div-eq-div-mul}
use Rattle.std.proofs.lemmas.Bool.{cases_lt}
use Rattle.std.proofs.lemmas.List.{take-append-drop, length-take, length-drop, get_or-drop, get_or-take, get_or_past}
use Rattle.std.proofs.lemmas.Nat.{be_bytes_4, be_bytes_8, from_be_bytes-to_be_bytes_4, from_be_bytes-to_be_bytes_8, div-mul-add}

abbrev pub IsBytes : List ℕ → Type 0
IsBytes bytes = (i : ℕ) → get_or bytes i 0 < 256

pub IsBytes-drop : (n : ℕ) (bytes : List ℕ) → IsBytes bytes → IsBytes (drop n bytes)
IsBytes-drop n bytes are i = rw get_or-drop (are (n + i))

pub IsBytes-take : (n : ℕ) (bytes : List ℕ) → IsBytes bytes → IsBytes (take n bytes)
IsBytes-take n bytes are i = elim (cases_lt i n) [
  | inl lt ↦ rw (get_or-take n bytes i 0 lt) (are i)
  | inr le ↦ rw (get_or_past (take n bytes) i 0 (omega (arith, length-take n bytes))) (omega arith)
]

-- a byte of the upper half, and one of the lower half
upper : (h l c : ℕ) → l < 2 ^ 64 → (h * 2 ^ 64 + l) / (2 ^ 64 * c) % 256 ≡ h / c % 256
upper h l c small =
    ap (λ k. k % 256) (sym (div-div-eq-div-mul (h * 2 ^ 64 + l) (2 ^ 64) c) ∙ ap (λ k. k / c) (div-mul-add h (2 ^ 64) l small))

-- the bytes of two halves
halves_written : (h l : ℕ) → l < 2 ^ 64 → to_be_bytes w128 (h * 2 ^ 64 + l) ≡ to_be_bytes w64 h ++ to_be_bytes w64 l
halves_written h l small =
    let upper_7 = upper h l 72057594037927936 small in
    let upper_6 = upper h l 281474976710656 small in
    let upper_5 = upper h l 1099511627776 small in
    let upper_4 = upper h l 4294967296 small in
    let upper_3 = upper h l 16777216 small in
    let upper_2 = upper h l 65536 small in
    let upper_1 = upper h l 256 small in
    let upper_0 : (h * 2 ^ 64 + l) / 2 ^ 64 % 256 ≡ h % 256 = ap (λ k. k % 256) (div-mul-add h (2 ^ 64) l small) in
    let lower_7 : (h * 2 ^ 64 + l) / 72057594037927936 % 256 ≡ l / 72057594037927936 % 256 = omega arith in
    let lower_6 : (h * 2 ^ 64 + l) / 281474976710656 % 256 ≡ l / 281474976710656 % 256 = omega arith in
    let lower_5 : (h * 2 ^ 64 + l) / 1099511627776 % 256 ≡ l / 1099511627776 % 256 = omega arith in
    let lower_4 : (h * 2 ^ 64 + l) / 4294967296 % 256 ≡ l / 4294967296 % 256 = omega arith in
    let lower_3 : (h * 2 ^ 64 + l) / 16777216 % 256 ≡ l / 16777216 % 256 = omega arith in
    let lower_2 : (h * 2 ^ 64 + l) / 65536 % 256 ≡ l / 65536 % 256 = omega arith in
    let lower_1 : (h * 2 ^ 64 + l) / 256 % 256 ≡ l / 256 % 256 = omega arith in
    let lower_0 : (h * 2 ^ 64 + l) % 256 ≡ l % 256 = omega arith in
    λ i. upper_7 i ∷ upper_6 i ∷ upper_5 i ∷ upper_4 i ∷ upper_3 i ∷ upper_2 i ∷ upper_1 i ∷ upper_0 i ∷ lower_7 i ∷ lower_6 i ∷ lower_5 i ∷ lower_4 i ∷ lower_3 i ∷ lower_2 i ∷ lower_1 i ∷ lower_0 i ∷ []

-- a number of 16 bytes has two halves
halves_read : (bytes : List ℕ) → from_be_bytes w128 bytes ≡ from_be_bytes w64 (take 8 bytes) * 2 ^ 64 + from_be_bytes w64 (drop 8 bytes)
halves_read bytes = omega (
  arith,
  get_or-take 8 bytes 0 0 (omega arith),
  get_or-take 8 bytes 1 0 (omega arith),
  get_or-take 8 bytes 2 0 (omega arith),
  get_or-take 8 bytes 3 0 (omega arith),
  get_or-take 8 bytes 4 0 (omega arith),
  get_or-take 8 bytes 5 0 (omega arith),
  get_or-take 8 bytes 6 0 (omega arith),
  get_or-take 8 bytes 7 0 (omega arith),
  get_or-drop 8 bytes 0 0,
  get_or-drop 8 bytes 1 0,
  get_or-drop 8 bytes 2 0,
  get_or-drop 8 bytes 3 0,
  get_or-drop 8 bytes 4 0,
  get_or-drop 8 bytes 5 0,
  get_or-drop 8 bytes 6 0,
  get_or-drop 8 bytes 7 0,
)

below_64 : (bytes : List ℕ) → IsBytes bytes → from_be_bytes w64 bytes < 2 ^ 64
below_64 bytes are = omega (arith, are 0, are 1, are 2, are 3, are 4, are 5, are 6, are 7)

be_bytes_16 : (bytes : List ℕ) → length bytes ≡ 16 → IsBytes bytes → to_be_bytes w128 (from_be_bytes w128 bytes) ≡ bytes
be_bytes_16 bytes len are =
    let front = take 8 bytes in
    let back = drop 8 bytes in
    let first = be_bytes_8 front _ (omega (arith, length-take 8 bytes)) (IsBytes-take 8 bytes are) refl in
    let second = be_bytes_8 back _ (omega (arith, length-drop 8 bytes)) (IsBytes-drop 8 bytes are) refl in
    ap (to_be_bytes w128) (halves_read bytes)
    ∙ halves_written (from_be_bytes w64 front) (from_be_bytes w64 back) (below_64 back (IsBytes-drop 8 bytes are))
    ∙ ap (λ (xs : List ℕ). xs ++ to_be_bytes w64 (from_be_bytes w64 back)) first ∙ ap (λ (xs : List ℕ). front ++ xs) second
    ∙ take-append-drop 8 bytes

from_be_bytes-to_be_bytes_16 : (n : ℕ) → n < 2 ^ 128 → from_be_bytes w128 (to_be_bytes w128 n) ≡ n
from_be_bytes-to_be_bytes_16 n small =
    let h = n / 2 ^ 64 in
    let l = n % 2 ^ 64 in
    let parts : n ≡ h * 2 ^ 64 + l = omega arith in
    let first = from_be_bytes-to_be_bytes_8 h (omega arith) in
    let second = from_be_bytes-to_be_bytes_8 l (omega arith) in
    ap (λ k. from_be_bytes w128 (to_be_bytes w128 k)) parts
    ∙ ap (from_be_bytes w128) (halves_written h l (omega arith)) ∙ halves_read (to_be_bytes w64 h ++ to_be_bytes w64 l)
    ∙ ap (λ k. k * 2 ^ 64 + from_be_bytes w64 (to_be_bytes w64 l)) first ∙ ap (λ k. h * 2 ^ 64 + k) second ∙ sym parts

-- a width whose numbers below a limit are those that its bytes say
pub record IsExact (w : Width) (limit : ℕ) : Type 0 where
  pub len : (n : ℕ) → length (to_be_bytes w n) ≡ byte_len w
  pub back : (bytes : List ℕ) → length bytes ≡ byte_len w → IsBytes bytes → to_be_bytes w (from_be_bytes w bytes) ≡ bytes
  pub again : (n : ℕ) → n < limit → from_be_bytes w (to_be_bytes w n) ≡ n

pub exact_32 : IsExact w32 (2 ^ 32)
exact_32 = record {
  len = λ n. refl;
  back = λ bytes len are. be_bytes_4 bytes _ len are refl;
  again = λ n small. from_be_bytes-to_be_bytes_4 n small;
}

pub exact_64 : IsExact w64 (2 ^ 64)
exact_64 = record {
  len = λ n. refl;
  back = λ bytes len are. be_bytes_8 bytes _ len are refl;
  again = λ n small. from_be_bytes-to_be_bytes_8 n small;
}

pub exact_128 : IsExact w128 (2 ^ 128)
exact_128 = record {
  len = λ n. refl;
  back = λ bytes len are. be_bytes_16 bytes len are;
  again = λ n small. from_be_bytes-to_be_bytes_16 n small;
}
