-- The records of pending messages that are written anew.
use Rattle.std.specs.Prelude.{ℕ, ◌+◌, ◌≤◌, ◌==◌, List, [], ◌∷◌, ◌++◌, length, take, drop, if◌then◌else◌, ⊤}
use Rattle.spool_log.specs.Area.{LogRecord}
use Rattle.spool_format.specs.Deferred.{deferred_payload}
use Rattle.spool_index.specs.declared.place.Place.{Place}

-- the record of a message's failures, where it has some
abbrev pub deferral_of : Place → List LogRecord
deferral_of p =
    if p.failures == 0 then []
    else (record { kind = 3; payload = deferred_payload (record { id = p.id; failures = p.failures; due = p.due }) }) ∷ []

-- the records of a message whose payload stands among these bytes
abbrev pub copy_of : List ℕ → Place → List LogRecord
copy_of bytes p = (record { kind = 1; payload = take p.size (drop p.at bytes) }) ∷ deferral_of p

abbrev pub copies_of : List ℕ → List Place → List LogRecord
copies_of bytes [] = []
copies_of bytes (p ∷ ps) = copy_of bytes p ++ copies_of bytes ps

-- each payload stands among these bytes
abbrev pub AreWithin : List ℕ → List Place → Type 0
AreWithin bytes [] = ⊤
AreWithin bytes (p ∷ ps) = (p.at + p.size ≤ length bytes) × AreWithin bytes ps
