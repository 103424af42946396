-- What a reader of replies stands for: the bytes of one reply that it took so far.
use Rattle.std.specs.Prelude.{◌≡◌, ℕ, ◌+◌, ◌<◌, ◌≤◌, nat_lt, List, [], ◌∷◌, ◌++◌, length, take, drop, Bool, true, false, if◌then◌else◌}
use Rattle.smtp_reply.specs.declared.place.Digit.{Digit}
use Rattle.smtp_reply.specs.declared.place.Digit.TheVariants.{First, Second, Third}
use Rattle.smtp_reply.specs.declared.place.Place.{Place}
use Rattle.smtp_reply.specs.declared.place.Place.TheVariants.{Code, AfterCode, AfterReturn, Text}
use Rattle.smtp_reply.specs.declared.place.Next.{Next}
use Rattle.smtp_reply.specs.declared.place.Next.TheVariants as next
use Rattle.smtp_reply.specs.declared.said.Code.{Code as Digits}
use Rattle.smtp_reply.specs.declared.said.Said.{Said}
use Rattle.smtp_reply.specs.declared.reader.Heard.{Heard}
use Rattle.smtp_reply.specs.declared.reader.Heard.TheVariants.{Whole, More, Bad, TooLong}
use Rattle.smtp_reply.specs.declared.reader.Fed.{Fed}
use Rattle.smtp_reply.specs.declared.reader.ReplyReader.{ReplyReader}
use Rattle.smtp_reply.specs.Limits.{reply_limit}
use Rattle.smtp_reply.specs.ReplyText.{IsReplyText}
use Rattle.smtp_reply.specs.Grammar.{is_reply, is_front, is_first_digit, is_digit, lines_of, code_in}
use Rattle.smtp_reply.specs.Replies.{heard, code_of, text_of_line, has_bytes, waiting, one_line_text}

-- the reader answered that the reply is whole
abbrev pub IsWhole : ReplyReader → Type 0
IsWhole reader = reader.answered ≡ Whole

-- the line that the next byte belongs to: what stands behind the last line feed
abbrev pub last_of : List (List ℕ) → List ℕ
last_of [] = []
last_of (line ∷ []) = line
last_of (line ∷ (next ∷ more)) = last_of (next ∷ more)

abbrev pub line_begun : List ℕ → List ℕ
line_begun bytes = last_of (lines_of bytes)

-- the byte behind the code of a line with a text
abbrev pub mark : Bool → ℕ
mark goes_on = if goes_on then 45 else 32

-- the place of the next byte in the line that was begun
abbrev pub IsAt : Place → List ℕ → Type 0
IsAt (Code First) line = length line ≡ 0
IsAt (Code Second) line = length line ≡ 1
IsAt (Code Third) line = length line ≡ 2
IsAt AfterCode line = length line ≡ 3
IsAt AfterReturn line = drop 3 line ≡ 13 ∷ []
IsAt (Text text) line =
    (drop 3 line ≡ mark text.goes_on ∷ drop 4 line)
    × (drop 4 line ≡ text_of_line line ++ waiting text.waits)
    × (text.began ≡ has_bytes (text_of_line line))

-- the place behind a digit
abbrev pub after_digit : Digit → Place
after_digit First = Code Second
after_digit Second = Code Third
after_digit Third = AfterCode

-- whether a byte may stand at a digit of a code
abbrev pub may_stand : Digit → ℕ → Bool
may_stand First b = is_first_digit b
may_stand Second b = is_digit b
may_stand Third b = is_digit b

abbrev pub digit_at : Digits → Digit → ℕ
digit_at code First = code.first
digit_at code Second = code.second
digit_at code Third = code.third

abbrev pub with_digit : Digits → Digit → ℕ → Digits
with_digit code First b = record code { first = b }
with_digit code Second b = record code { second = b }
with_digit code Third b = record code { third = b }

abbrev pub digits_in : Digits → List ℕ
digits_in code = code.first ∷ code.second ∷ code.third ∷ []

-- what was said are the code and the text of the bytes; digits that did not come yet are any
pub record Tells (said : Said) (bytes : List ℕ) : Type 0 where
  pub code_is : code_in bytes ≡ take (length bytes) (digits_in said.code)
  pub text_is : said.text ≡ one_line_text bytes

-- the next byte after the front of a reply
pub record Stands (place : Place) (said : Said) (bytes : List ℕ) : Type 0 where
  pub front : is_front bytes ≡ true
  pub place_is : IsAt place (line_begun bytes)
  pub tells : Tells said bytes

-- what the last byte made of the bytes
abbrev pub Makes : Next → Said → List ℕ → Type 0
Makes next.Whole said bytes = (is_reply bytes ≡ true) × Tells said bytes
Makes (next.Front place) said bytes = (is_reply bytes ≡ false) × Stands place said bytes
Makes next.Bad said bytes = (is_reply bytes ≡ false) × (is_front bytes ≡ false)

-- the place behind the last byte, which stays where no byte follows
abbrev pub next_place : Next → Place → Place
next_place next.Whole place = place
next_place (next.Front to) place = to
next_place next.Bad place = place

-- the answer, by what the last byte made of the bytes and its offset
abbrev pub answer_of : Next → ℕ → Heard
answer_of next.Whole at = Whole
answer_of (next.Front place) at = if nat_lt (at + 1) reply_limit then More else TooLong
answer_of next.Bad at = Bad at

-- what the reader keeps of the bytes, by its answer: nothing where it answers no more than that
abbrev pub Keeps : Heard → ReplyReader → List ℕ → Type 0
Keeps Whole reader bytes = Tells reader.said bytes
Keeps More reader bytes = Stands reader.place reader.said bytes
Keeps (Bad at) reader bytes = Unit {0}
Keeps TooLong reader bytes = Unit {0}

-- the reader took these bytes of a reply and no others
pub record Reads (reader : ReplyReader) (bytes : List ℕ) : Type 0 where
  pub answered_is : reader.answered ≡ (heard bytes).what
  pub all_used : (heard bytes).used ≡ length bytes
  pub count_is : reader.count ≡ length bytes
  pub keeps : Keeps reader.answered reader bytes

-- what a piece does: the answer depends on the bytes so far alone, and the reader took what it used
pub record Feeds (so_far piece : List ℕ) (answer : Fed) (reader : ReplyReader) : Type 0 where
  pub what : answer.what ≡ (heard (so_far ++ piece)).what
  pub used : length so_far + answer.used ≡ (heard (so_far ++ piece)).used
  pub reads : Reads reader (so_far ++ take answer.used piece)

-- a whole reply, and what holds of its length, code and text
pub record IsProperReply (bytes : List ℕ) : Type 0 where
  pub is_reply : is_reply bytes ≡ true
  pub long : 4 ≤ length bytes
  pub short : length bytes ≤ reply_limit
  pub low : 200 ≤ code_of bytes
  pub high : code_of bytes < 600
  pub text : IsReplyText (code_of bytes) (one_line_text bytes)
