-- Bytes on their way into a sink.
use Rattle.std.specs.Prelude.{ℕ, List, Option}
use Rattle.kumo_outside.specs.Content.{AddsPrefix}

-- of these bytes a front was added, and the rest is gathered
abbrev pub Gathers : Option (List ℕ) → Option (List ℕ) → List ℕ → List ℕ → Type 0
Gathers old new gathered bytes = (front : List ℕ) × AddsPrefix old new bytes front gathered
