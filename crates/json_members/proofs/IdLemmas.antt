-- A printed id is read as that id, and is ASCII.
use Rattle.std.proofs.Common.{◌≡◌, ℕ, zero, suc, ◌^◌, ◌<◌, Bool, true, false, cond, get_or, All, IsTrue, Some, option_map, inl, inr, refl, sym, ap, ◌∙◌, arith}
use Rattle.std.specs.Int.{w128, from_be_bytes, to_be_bytes, byte_at, bytes_high_first}
use Rattle.std.specs.Str.{is_utf8}
use Rattle.std.proofs.lemmas.Bool.{cases_lt}
use Rattle.std.proofs.lemmas.Bool.Decides.{nat_tests}
use Rattle.std.proofs.lemmas.List.{get_or_past}
use Rattle.std.proofs.lemmas.List.Elements.{All-nil, All-cons}
use Rattle.std.proofs.lemmas.Str.{IsUtf8-from_ascii, is_utf8-from_IsUtf8}
use Rattle.uuid.specs.Text.{lower, parsed, by_index, is_hyphen_place, hex_digit, nibble, digit_place}
use Rattle.uuid.proofs.OrderLemmas.{from_be_bytes-to_be_bytes_16}
use Rattle.uuid.proofs.RoundTrips.{parses_hyphenated}
use Rattle.uuid.proofs.TextLemmas.{by_index_length, by_index_at, nibble_small}
use Rattle.json_members.specs.Members.{id_text}

byte_small : (k n : ℕ) → byte_at k n < 256
byte_small zero n = omega arith
byte_small (suc k) n = omega arith

-- the bytes of a number are bytes
bytes_small : (k n : ℕ) → All (λ b. b < 256) (bytes_high_first k n)
bytes_small zero n = All-nil (λ b. b < 256)
bytes_small (suc k) n = All-cons (λ b. b < 256) (byte_at k n) (bytes_high_first k n) (byte_small k n) (bytes_small k n)

pub id_is_read : (id : ℕ) → id < 2 ^ 128 → option_map (from_be_bytes w128) (parsed (id_text id)) ≡ Some id
unfolding id_text
id_is_read id small =
    ap (option_map (from_be_bytes w128)) (sym (parses_hyphenated lower (to_be_bytes w128 id) (inl refl) refl (bytes_small 16 id)))
    ∙ ap Some (from_be_bytes-to_be_bytes_16 id small)

digit_is_ascii : (b : Bool) (d : ℕ) → d < 16 → cond b 45 (hex_digit lower d) < 128
digit_is_ascii true d small = omega arith
digit_is_ascii false d small = grind (arith, nat_tests)

-- each place of an id's text
id_is_ascii : (id k : ℕ) → get_or (id_text id) k 0 < 128
unfolding id_text
id_is_ascii id k =
    let bytes = to_be_bytes w128 id in
    let place : ℕ → ℕ = λ j. cond (is_hyphen_place j) 45 (hex_digit lower (nibble bytes (digit_place j))) in
    elim (cases_lt k 36) [
      | inl below ↦ rw (by_index_at 36 place k 0 below) (digit_is_ascii (is_hyphen_place k) _ (nibble_small bytes (digit_place k)))
      | inr past ↦ rw (get_or_past (by_index 36 place) k 0 (omega (arith, by_index_length 36 place))) (omega arith)
    ]

pub id_is_utf8 : (id : ℕ) → IsTrue (is_utf8 (id_text id))
id_is_utf8 id = is_utf8-from_IsUtf8 _ (IsUtf8-from_ascii _ (λ k. id_is_ascii id k))
