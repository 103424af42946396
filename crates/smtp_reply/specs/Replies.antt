-- What bytes begin with, read as a reply: their first front that is a reply, with which no reply goes on, or that is too
-- long. And what a reply says.
use Rattle.std.specs.Prelude.{ℕ, ◌+◌, ◌-◌, ◌*◌, ◌==◌, nat_lt, List, [], ◌∷◌, ◌++◌, length, take, drop, map, flat_map, Bool, true, false, not, if◌then◌else◌}
use Rattle.std.specs.Str.Lines.{strip_carriage_return}
use Rattle.kumo_base.specs.Limits.{reply_text_limit}
use Rattle.smtp_reply.specs.Limits.{reply_limit}
use Rattle.smtp_reply.specs.declared.reader.Heard.{Heard}
use Rattle.smtp_reply.specs.declared.reader.Heard.TheVariants.{Whole, More, Bad, TooLong}
use Rattle.smtp_reply.specs.declared.reader.Fed.{Fed}
use Rattle.smtp_reply.specs.declared.reply.Reply.{Reply}
use Rattle.smtp_reply.specs.ReplyText.{is_printable}
use Rattle.smtp_reply.specs.Grammar.{is_reply, is_front, lines_of, code_in}

abbrev pub fed : ℕ → Heard → Fed
fed used what = record { used = used; what = what }

-- the fronts of `front ++ bytes` that are longer than `front`, the shortest first
abbrev pub heard_from : List ℕ → List ℕ → Fed
heard_from front [] = fed (length front) More
heard_from front (b ∷ bytes) =
    if is_reply (front ++ b ∷ []) then fed (length front + 1) Whole
    else (if not (is_front (front ++ b ∷ [])) then fed (length front + 1) (Bad (length front))
    else (if nat_lt (length front + 1) reply_limit then heard_from (front ++ b ∷ []) bytes
    else fed (length front + 1) TooLong))

-- what the bytes begin with, and how many of them it takes
unfoldable pub heard : List ℕ → Fed
heard bytes = heard_from [] bytes

-- the number of a code
abbrev pub number_in : List ℕ → ℕ
number_in [] = 0
number_in (a ∷ []) = 0
number_in (a ∷ (b ∷ [])) = 0
number_in (a ∷ (b ∷ (c ∷ more))) = (a - 48) * 100 + (b - 48) * 10 + (c - 48)

abbrev pub code_of : List ℕ → ℕ
code_of reply = number_in (code_in reply)

-- the text of a line: behind its code and the byte after it, without a carriage return at the end
abbrev pub text_of_line : List ℕ → List ℕ
text_of_line line = drop 4 (strip_carriage_return line)

abbrev pub printable_of : ℕ → ℕ
printable_of b = if is_printable b then b else 63

-- a blank and the text, where it is not empty
abbrev pub shown_text : List ℕ → List ℕ
shown_text [] = []
shown_text (b ∷ text) = 32 ∷ map printable_of (b ∷ text)

-- what a text becomes with more of it: the blank stands before its first byte alone
abbrev pub shown_more : Bool → List ℕ → List ℕ
shown_more true text = map printable_of text
shown_more false text = shown_text text

abbrev pub has_bytes : List ℕ → Bool
has_bytes [] = false
has_bytes (b ∷ more) = true

-- a carriage return that waits for the byte behind it
abbrev pub waiting : Bool → List ℕ
waiting waits = if waits then 13 ∷ [] else []

-- what a byte adds to a text: the carriage return that waited, and itself unless it must wait
abbrev pub bytes_added : Bool → ℕ → List ℕ
bytes_added waits b = waiting waits ++ (if b == 13 then [] else b ∷ [])

abbrev pub shown_line : List ℕ → List ℕ
shown_line line = shown_text (text_of_line line)

-- the code and the text of each line on one line, cut to what is kept
unfoldable pub one_line_text : List ℕ → List ℕ
one_line_text reply = take reply_text_limit (code_in reply ++ flat_map shown_line (lines_of reply))

abbrev pub reply_of : List ℕ → Reply
reply_of reply = record { code = code_of reply; text = one_line_text reply }
