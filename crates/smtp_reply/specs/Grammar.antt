-- The grammar of a reply to an SMTP client, on its whole bytes (RFC 5321 section 4.2): lines that carry one code, of
-- which all but the last go on.
use Rattle.std.specs.Prelude.{ℕ, ◌==◌, nat_le, List, [], ◌∷◌, length, take, drop, bytes_eq, Bool, true, false, ◌&&◌, ◌||◌}
use Rattle.std.specs.List.{slice_split}

abbrev pub is_first_digit : ℕ → Bool
is_first_digit b = nat_le 50 b && nat_le b 53

abbrev pub is_digit : ℕ → Bool
is_digit b = nat_le 48 b && nat_le b 57

-- a front of a code: up to three digits, the first from 2 to 5
abbrev pub is_code_front : List ℕ → Bool
is_code_front [] = true
is_code_front (a ∷ []) = is_first_digit a
is_code_front (a ∷ (b ∷ [])) = is_first_digit a && is_digit b
is_code_front (a ∷ (b ∷ (c ∷ more))) = is_first_digit a && is_digit b && is_digit c && length more == 0

abbrev pub is_code : List ℕ → Bool
is_code code = length code == 3 && is_code_front code

-- the bytes that end a line, and the lines between them; what stands behind the last one counts as a line too
abbrev pub is_line_feed : ℕ → Bool
is_line_feed b = b == 10

abbrev pub lines_of : List ℕ → List (List ℕ)
lines_of bytes = slice_split is_line_feed bytes

-- the code that the bytes carry
abbrev pub code_in : List ℕ → List ℕ
code_in bytes = take 3 bytes

-- behind the code of a reply's last line: nothing, a carriage return, or a blank and a text
abbrev pub is_end : List ℕ → Bool
is_end [] = true
is_end (b ∷ text) = b == 32 || (b == 13 && length text == 0)

-- behind the code of a line that goes on: `-` and a text
abbrev pub is_going_on : List ℕ → Bool
is_going_on [] = false
is_going_on (b ∷ text) = b == 45

abbrev pub is_last_line : List ℕ → List ℕ → Bool
is_last_line code line = bytes_eq (take 3 line) code && is_end (drop 3 line)

abbrev pub is_open_line : List ℕ → List ℕ → Bool
is_open_line code line = bytes_eq (take 3 line) code && is_going_on (drop 3 line)

-- nothing stands behind the last line feed
abbrev pub ends_there : List (List ℕ) → Bool
ends_there [] = false
ends_there (rest ∷ []) = length rest == 0
ends_there (rest ∷ (next ∷ more)) = false

-- lines that go on, and then the last one
abbrev pub are_reply_lines : List ℕ → List (List ℕ) → Bool
are_reply_lines code [] = false
are_reply_lines code (line ∷ more) =
    (is_last_line code line && ends_there more) || (is_open_line code line && are_reply_lines code more)

-- a whole reply
abbrev pub is_reply : List ℕ → Bool
is_reply bytes = is_code (code_in bytes) && are_reply_lines (code_in bytes) (lines_of bytes)

-- behind the code of a line of which more may come
abbrev pub is_tail_front : List ℕ → Bool
is_tail_front [] = true
is_tail_front (b ∷ text) = b == 32 || b == 45 || (b == 13 && length text == 0)

-- a front of a line that carries the code
abbrev pub is_line_front : List ℕ → List ℕ → Bool
is_line_front code rest = bytes_eq (take 3 rest) (take (length rest) code) && is_tail_front (drop 3 rest)

-- lines that go on, and then a front of a line
abbrev pub are_front_lines : List ℕ → List (List ℕ) → Bool
are_front_lines code [] = false
are_front_lines code (rest ∷ []) = is_line_front code rest
are_front_lines code (line ∷ (next ∷ more)) = is_open_line code line && are_front_lines code (next ∷ more)

-- bytes with which a reply goes on: some bytes make them a reply, and they are none yet
abbrev pub is_front : List ℕ → Bool
is_front bytes = is_code_front (code_in bytes) && are_front_lines (code_in bytes) (lines_of bytes)
