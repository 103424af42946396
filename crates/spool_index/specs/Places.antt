-- The pending messages of a spool in the order of their holding, and the bytes that a file of them takes.
use Rattle.std.specs.Prelude.{ℕ, ◌+◌, ◌==◌, ◌&&◌, Bool, true, not, List, [], ◌∷◌, Option, if◌then◌else◌, sum_by, map}
use Rattle.std.specs.List.{list_any}
use Rattle.std.specs.List as list
use Rattle.spool_index.specs.declared.place.Place.{Place}

-- the ids of messages
abbrev pub ids_of : List Place → List ℕ
ids_of places = map (λ p. p.id) places

-- some message has this id
abbrev pub has : ℕ → List Place → Bool
has id places = list_any (λ p. p.id == id) places

-- the first message of this id
abbrev pub find : ℕ → List Place → Option Place
find id places = list.find (λ p. p.id == id) places

-- no id stands twice
abbrev pub are_distinct : List Place → Bool
are_distinct [] = true
are_distinct (p ∷ ps) = not (has p.id ps) && are_distinct ps

-- without the first message of this id
abbrev pub without : ℕ → List Place → List Place
without id [] = []
without id (p ∷ ps) = if p.id == id then ps else p ∷ without id ps

-- the message, with so many failures and due then
abbrev pub delayed : ℕ → ℕ → Place → Place
delayed failures due p = record p { failures = failures; due = due }

-- the first message of this id has so many failures and is due then, and all else is as it was
abbrev pub with_delay : ℕ → ℕ → ℕ → List Place → List Place
with_delay id failures due [] = []
with_delay id failures due (p ∷ ps) = if p.id == id then delayed failures due p ∷ ps else p ∷ with_delay id failures due ps

-- the bytes of the record that holds a message
abbrev pub record_size : Place → ℕ
record_size p = 6 + p.size

-- the bytes of the record, and of the records that may still follow it
abbrev pub live_cost : Place → ℕ
live_cost p = record_size p + 90

-- the bytes of the record, and of that of its failures where it has some
abbrev pub compacted_cost : Place → ℕ
compacted_cost p = record_size p + (if p.failures == 0 then 0 else 34)

-- the bytes that a file has to have room for, with these messages pending
abbrev pub live_size : List Place → ℕ
live_size places = 17 + sum_by live_cost places

-- the bytes of a file that is written anew, with these messages pending
abbrev pub compacted_size : List Place → ℕ
compacted_size places = 17 + sum_by compacted_cost places

-- the offset behind the records of a message in a file that is written anew, when they begin at this one
abbrev pub after_place : ℕ → Place → ℕ
after_place at p = at + compacted_cost p

-- the offset behind the records of all messages
abbrev pub after_all : ℕ → List Place → ℕ
after_all at [] = at
after_all at (p ∷ ps) = after_all (after_place at p) ps

-- the messages, each with its payload where a file that is written anew has it, when the records begin at this offset
abbrev pub laid_out : ℕ → List Place → List Place
laid_out at [] = []
laid_out at (p ∷ ps) = record p { at = at + 6 } ∷ laid_out (after_place at p) ps
