-- What the bytes of an area say: a header, records without gaps, and a gate that is not open.
use Rattle.std.specs.Prelude.{◌≡◌, ◌≢◌, ◌⊎◌, ℕ, ◌+◌, ◌<◌, ◌^◌, List, [], ◌∷◌, ◌++◌, length, drop, ⊤}
use Rattle.std.proofs.Common.{get_or}
use Rattle.std.specs.Int.{to_be_bytes, w32, w64}
use Rattle.spool_log.specs.declared.head.Header.{Header}

pub record LogRecord : Type 0 where
  pub kind : ℕ
  pub payload : List ℕ

-- the kind and the payload's length in four bytes, the most significant first
abbrev pub head_of : ℕ → ℕ → List ℕ
head_of kind length = kind ∷ to_be_bytes w32 length

-- what follows a record's gate
abbrev pub body_of : ℕ → List ℕ → List ℕ
body_of kind payload = head_of kind (length payload) ++ payload

-- a record behind an open gate
abbrev pub bytes_of : LogRecord → List ℕ
bytes_of r = 1 ∷ body_of r.kind r.payload

abbrev pub bytes_of_all : List LogRecord → List ℕ
bytes_of_all [] = []
bytes_of_all (r ∷ rs) = bytes_of r ++ bytes_of_all rs

-- bytes 1 to 15: `KSP`, the version, three zeros, and the generation
abbrev pub header_rest : Header → List ℕ
header_rest h = 75 ∷ 83 ∷ 80 ∷ h.version ∷ 0 ∷ 0 ∷ 0 ∷ to_be_bytes w64 h.generation

-- the first 16 bytes, with the gate open
abbrev pub header_of : Header → List ℕ
header_of h = 1 ∷ header_rest h

abbrev pub IsVersion : ℕ → Type 0
IsVersion version = (version ≡ 1) ⊎ (version ≡ 2)

-- each payload's length fits its four bytes
abbrev pub AreSmall : List LogRecord → Type 0
AreSmall [] = ⊤
AreSmall (r ∷ rs) = (length r.payload < 2 ^ 32) × AreSmall rs

-- the area is this header, these records, and at this offset a gate that is not open; what follows has no meaning
pub record Form (h : Header) (rs : List LogRecord) (end : ℕ) (area : List ℕ) : Type 0 where
  pub gate : ℕ
  pub rest : List ℕ
  pub split : area ≡ header_of h ++ bytes_of_all rs ++ gate ∷ rest
  pub shut : gate ≢ 1
  pub ends : end ≡ length (header_of h ++ bytes_of_all rs)
  pub version : IsVersion h.version
  pub fits : h.generation < 2 ^ 64
  pub small : AreSmall rs

-- the area is in form, with some records
abbrev pub IsForm : Header → ℕ → List ℕ → Type 0
IsForm h end area = (rs : List LogRecord) × Form h rs end area

-- Whatever records the area has up to a gate at this offset, it then has them, with this one more or without.
abbrev pub Adds : Header → ℕ → LogRecord → List ℕ → List ℕ → Type 0
Adds h end r old new = (rs : List LogRecord) → Form h rs end old
    → Form h rs end new ⊎ Form h (rs ++ r ∷ []) (end + length (bytes_of r)) new

-- whatever records the area has up to a gate at this offset, it then has them and this one more
abbrev pub Added : Header → ℕ → ℕ → LogRecord → List ℕ → List ℕ → Type 0
Added h end later r old new = (rs : List LogRecord) → Form h rs end old → Form h (rs ++ r ∷ []) later new

-- at an offset stand a whole record behind an open gate, and a further gate
pub record RecordAt (at : ℕ) (r : LogRecord) (area : List ℕ) : Type 0 where
  pub gate : ℕ
  pub rest : List ℕ
  pub split : drop at area ≡ bytes_of r ++ gate ∷ rest
  pub small : length r.payload < 2 ^ 32

-- no whole record stands at an offset
abbrev pub NoRecordAt : ℕ → List ℕ → Type 0
NoRecordAt at area = (r : LogRecord) → RecordAt at r area → ⊥

-- an open gate is not followed by a whole record and a further gate
abbrev pub IsDamaged : ℕ → List ℕ → Type 0
IsDamaged at area = (get_or area at 0 ≡ 1) × NoRecordAt at area
