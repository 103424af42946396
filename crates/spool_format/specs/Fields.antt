-- The fields of a payload, one after another: numbers, most significant byte first, and texts with their length before them.
use Rattle.std.specs.Prelude.{ℕ, ◌==◌, nat_le, List, ◌++◌, length, take, drop, Option, Some, None, if◌then◌else◌}
use Rattle.std.specs.Int.{Width, w32, byte_len, to_be_bytes, from_be_bytes}
use Rattle.kumo_base.specs.Utf8.{utf8_in}

-- the length in four bytes, and the text
unfoldable pub text_field : List ℕ → List ℕ
text_field text = to_be_bytes w32 (length text) ++ text

-- the next reading of the value, where there is one
infixl 10 ◌>>=◌
abbrev pub ◌>>=◌ : {A B : Type 0} → Option A → (A → Option B) → Option B
None >>= next = None
(Some a) >>= next = next a

-- so many bytes and what is behind them
abbrev pub bytes_at : ℕ → List ℕ → Option (List ℕ × List ℕ)
bytes_at n bytes = if nat_le n (length bytes) then Some (take n bytes, drop n bytes) else None

-- a number of this width and what is behind it
unfoldable pub number_at : Width → List ℕ → Option (ℕ × List ℕ)
number_at w bytes = do
  front ← bytes_at (byte_len w) bytes
  Some (from_be_bytes w front.0, front.1)

-- a text in UTF-8, its length before it, and what is behind it
unfoldable pub text_at : List ℕ → Option (List ℕ × List ℕ)
text_at bytes = do
  size ← number_at w32 bytes
  front ← bytes_at size.0 size.1
  text ← utf8_in front.0
  Some (text, front.1)

-- the value, where nothing is behind it
abbrev pub alone : {A : Type 0} → A → List ℕ → Option A
alone value rest = if length rest == 0 then Some value else None
