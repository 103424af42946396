-- A ledger of marks, as a value with a history.
use Rattle.std.specs.Prelude.{ℕ, List, [], ◌∷◌, ◌++◌, map, Bool, cond}
use base.Stored.{gnil, gnum}
use Rattle.turnstile.specs.declared.chronicle.Note.{Note}
use Rattle.turnstile.specs.declared.chronicle.Shown.{Shown}
use Rattle.turnstile_tests.specs.declared.ledger.Mark.{Mark}

abbrev pub note : Mark → Note
note m = record { by = m.by; what = record { of = gnum m.number } }

-- it has no stem and no counts
abbrev pub shown_marks : List Mark → Shown
shown_marks ms = record {
  stem = record { of = gnil };
  entries = map note ms;
  counts = record { disk = 0; clock = 0; search = 0; high = 0 };
}

-- the marks with one more
abbrev pub with_mark : List Mark → ℕ → ℕ → List Mark
with_mark ms by number = ms ++ record { by = by; number = number } ∷ []

-- the entries that a turn made which answered `b`
abbrev pub notes_made : Bool → ℕ → ℕ → List Note
notes_made b by number = cond b (note record { by = by; number = number } ∷ []) []
