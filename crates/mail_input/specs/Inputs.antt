-- What a mail text gives: its messages, or the first line that is refused and why.
use Rattle.std.specs.Prelude.{◌≡◌, ℕ, ◌==◌, nat_le, List, Bool, [], ◌∷◌, ◌++◌, length, Result, Ok, Err, if◌then◌else◌, ⊤}
use Rattle.std.specs.List.{list_any}
use Rattle.kumo_base.specs.Lines.{numbered_lines}
use Rattle.queue_name.specs.declared.message.Message.{Message}
use Rattle.mail_input.specs.Limits.{message_limit}
use Rattle.mail_input.specs.declared.MailWhy.{MailWhy}
use Rattle.mail_input.specs.declared.MailWhy.TheVariants.{TooMany, Duplicate}
use Rattle.mail_input.specs.declared.MailFault.{MailFault}
use Rattle.mail_input.specs.declared.MailFault.TheVariants as fault
use Rattle.mail_input.specs.Fields.{then_read, line_of}

pub data Mail : Type 0 where
  messages : List Message → Mail
  refused : ℕ → MailWhy → Mail

-- one of the messages has this id
abbrev pub has_id : ℕ → List Message → Bool
has_id id ms = list_any (λ m. m.id == id) ms

-- the messages so far and one more, unless one of them has its id
unfoldable pub with_message : List Message → Message → Result (List Message) MailWhy
with_message done m = if has_id m.id done then Err Duplicate else Ok (done ++ m ∷ [])

-- the messages so far and that of the next line
unfoldable pub with_line : List Message → List ℕ → Result (List Message) MailWhy
with_line done line =
    if nat_le message_limit (length done) then Err TooMany else then_read (line_of line) (with_message done)

-- the refused line, or how it goes on with these messages
abbrev pub then_on : ℕ → Result (List Message) MailWhy → (List Message → Mail) → Mail
then_on number (Err why) next = refused number why
then_on number (Ok done) next = next done

-- the messages so far and those of the lines, which have their numbers
abbrev pub mail_from : List Message → List (ℕ × List ℕ) → Mail
mail_from done [] = messages done
mail_from done (line ∷ more) = then_on line.0 (with_line done line.1) (λ all. mail_from all more)

unfoldable pub mail_of : List ℕ → Mail
mail_of text = mail_from [] (numbered_lines text)

-- a refusal other than for memory is what the text deserves
abbrev pub IsFaultOf : MailFault → Mail → Type 0
IsFaultOf (fault.At line why) mail = mail ≡ refused line why
IsFaultOf fault.Memory mail = ⊤
