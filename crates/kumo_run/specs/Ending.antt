-- How a call ends: its status, and what was printed.
use Rattle.std.specs.Prelude.{◌≡◌, ℕ, List, ◌++◌}
use Rattle.kumo_base.specs.Causes.{Rose}
use Rattle.kumo_outside.specs.Content.{SinkSeen, told_with, TakesPrefix}
use Rattle.kumo_run.specs.declared.refusal.Refusal.{Refusal}
use Rattle.kumo_run.specs.RefusalLine.{refusal_line, status_of}
use Rattle.kumo_run.specs.StatusCode.{status_number}

pub data Ending : Type 0 where
  -- the deed was done and written
  done : Ending
  -- it was done, and the sink failed
  unwritten : Ending
  -- it was done, and memory ran out while its log was written
  unfinished : Ending
  refused : Refusal → Ending

abbrev pub status_code_of : Ending → ℕ
status_code_of done = 0
status_code_of unwritten = 6
status_code_of unfinished = 11
status_code_of (refused why) = status_number (status_of why)

-- a text was written whole
abbrev pub Wrote : SinkSeen → SinkSeen → List ℕ → Type 0
Wrote b a text = a.told ≡ told_with b.told text

-- a prefix of a text was written, perhaps all of it
abbrev pub WrotePrefix : SinkSeen → SinkSeen → List ℕ → Type 0
WrotePrefix b a text = TakesPrefix b.told a.told text

-- a text was written: whole, unless the sink failed, and then a prefix of it
pub record WroteUnlessFailed (b a : SinkSeen) (text : List ℕ) : Type 0 where
  pub prefix : WrotePrefix b a text
  pub whole : (Rose b.faults a.faults → ⊥) → Wrote b a text

-- what was printed of a deed's text, by the ending; the line of a refusal stands behind it
abbrev pub Printed : Ending → SinkSeen → SinkSeen → List ℕ → Type 0
Printed done b a text = Wrote b a text
Printed unwritten b a text = Rose b.faults a.faults × WrotePrefix b a text
Printed unfinished b a text = WrotePrefix b a text
Printed (refused why) b a text = WroteUnlessFailed b a (text ++ refusal_line why)
