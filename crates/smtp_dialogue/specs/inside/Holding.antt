-- A reader of replies that holds a whole one.
use Rattle.std.specs.Prelude.{ℕ, List}
use Rattle.smtp_reply.specs.declared.reader.ReplyReader.{ReplyReader}
use Rattle.smtp_reply.specs.Reading.{Reads, IsWhole}

-- these are the bytes of the reply that the reader holds
pub record Holds (reader : ReplyReader) (reply : List ℕ) : Type 0 where
  pub reads : Reads reader reply
  pub whole : IsWhole reader

-- the reader holds a whole reply
abbrev pub HoldsReply : ReplyReader → Type 0
HoldsReply reader = (reply : List ℕ) × Holds reader reply
