-- What the writing of a deed's text leaves.
use Rattle.std.specs.Prelude.{◌≡◌, ℕ, ◌⊎◌, List, Result, Ok, Err}
use Rattle.kumo_outside.specs.Content.{SinkSeen}
use Rattle.delivery_log.specs.declared.log.LogWriteFault.{LogWriteFault}
use Rattle.delivery_log.specs.declared.log.LogWriteFault.TheVariants as log
use Rattle.kumo_run.specs.declared.status.Status.{Status}
use Rattle.kumo_run.specs.declared.status.Status.TheVariants.{Drained, WriteFault, Memory}
use Rattle.kumo_run.specs.Ending.{done, unwritten, unfinished, Printed}

-- the status that the writing of the log leaves
abbrev pub status_of_log : {T : Type 0} → Result T LogWriteFault → Status
status_of_log (Ok x) = Drained
status_of_log (Err log.WriteFault) = WriteFault
status_of_log (Err log.Memory) = Memory

-- the status that the writing of a text leaves
abbrev pub status_of_text : {T E : Type 0} → Result T E → Status
status_of_text (Ok x) = Drained
status_of_text (Err e) = WriteFault

-- a text was written whole, or the sink failed
abbrev pub Writes : Status → SinkSeen → SinkSeen → List ℕ → Type 0
Writes status b a text =
    ((status ≡ Drained) × Printed done b a text) ⊎ ((status ≡ WriteFault) × Printed unwritten b a text)

-- a log was, or memory ran out
abbrev pub WritesLog : Status → SinkSeen → SinkSeen → List ℕ → Type 0
WritesLog status b a text = Writes status b a text ⊎ ((status ≡ Memory) × Printed unfinished b a text)
