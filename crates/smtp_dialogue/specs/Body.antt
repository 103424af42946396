-- A body on the wire: its lines with a `.` before each that begins with one, then the line `.` (RFC 5321 section 4.5.2).
use Rattle.std.specs.Prelude.{ℕ, ◌==◌, List, [], ◌∷◌, ◌++◌, flat_map, Bool, false, ◌&&◌, ◌||◌, if◌then◌else◌}

abbrev pub begins_with_line_feed : List ℕ → Bool
begins_with_line_feed [] = false
begins_with_line_feed (b ∷ bytes) = b == 10

-- the first line begins with this byte
abbrev pub onto_first_line : ℕ → List (List ℕ) → List (List ℕ)
onto_first_line b [] = (b ∷ []) ∷ []
onto_first_line b (line ∷ lines) = (b ∷ line) ∷ lines

-- the lines end at CR LF, LF or CR; a last line without end counts where it is not empty
abbrev pub body_lines : List ℕ → List (List ℕ)
body_lines [] = []
body_lines (b ∷ bytes) =
    if b == 13 && begins_with_line_feed bytes then body_lines bytes
    else (if b == 13 || b == 10 then [] ∷ body_lines bytes
    else onto_first_line b (body_lines bytes))

abbrev pub crlf : List ℕ
crlf = 13 ∷ (10 ∷ [])

abbrev pub stuffed : List ℕ → List ℕ
stuffed [] = []
stuffed (b ∷ line) = if b == 46 then 46 ∷ (b ∷ line) else b ∷ line

abbrev pub wire_line : List ℕ → List ℕ
wire_line line = stuffed line ++ crlf

unfoldable pub wire : List ℕ → List ℕ
wire body = flat_map wire_line (body_lines body) ++ (46 ∷ crlf)
