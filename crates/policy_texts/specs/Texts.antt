-- What each policy text comes to: it is too long, it is refused at a place, or it gives what its definition says.
use Rattle.std.specs.Prelude.{◌≡◌, ℕ, nat_lt, List, [], length, Option, Some, None, Result, Ok, Err, IfSome, if◌then◌else◌}
use Rattle.kumo_outside.specs.Limits.{text_limit}
use Rattle.policy_fault.specs.declared.fault.PolicyFile.TheVariants as file
use Rattle.policy_fault.specs.declared.fault.PolicyPlace.{PolicyPlace}
use Rattle.policy_core.specs.declared.mx.MxRow.{MxRow}
use Rattle.policy_toml.specs.Reports.{reported}
use Rattle.sources_policy.specs.SourcesFile.{SourcesFile, sources_file}
use Rattle.queues_policy.specs.QueuesFile.{QueuesFile, queues_file}
use Rattle.shaping_policy.specs.ShapingFile.{ShapingFile, shaping_file}
use Rattle.mx_table.specs.MxText.{rows_in, reported as reported_line}

-- why a text gives nothing: it has more bytes than are read, or it is refused
pub data Stop : Type 0 where
  too_long : Stop
  refused : PolicyPlace → Stop

-- what a text gives that is not too long, by its definition and the report of its faults
abbrev pub unless_refused : {A F : Type 0} → (F → PolicyPlace) → Result A F → Result A Stop
unless_refused report (Ok a) = Ok a
unless_refused report (Err f) = Err (refused (report f))

unfoldable pub read_by : {A F : Type 0} → (F → PolicyPlace) → (List ℕ → Result A F) → List ℕ → Result A Stop
read_by report read text = if nat_lt text_limit (length text) then Err too_long else unless_refused report (read text)

abbrev pub sources_given : List ℕ → Result SourcesFile Stop
sources_given = read_by (reported file.Sources) sources_file

abbrev pub queues_given : List ℕ → Result QueuesFile Stop
queues_given = read_by (reported file.Queues) queues_file

abbrev pub shaping_given : List ℕ → Result ShapingFile Stop
shaping_given = read_by (reported file.Shaping) shaping_file

abbrev pub mx_given : List ℕ → Result (List MxRow) Stop
mx_given = read_by reported_line rows_in

-- the text of a name, where it is told; without a name it is the empty text
abbrev pub told_by : (List ℕ → Option (List ℕ)) → Option (List ℕ) → Option (List ℕ)
told_by told None = Some []
told_by told (Some name) = told name

-- the text is the one that is told, or none is told
abbrev pub MayBe : Option (List ℕ) → List ℕ → Type 0
MayBe told text = IfSome told (λ known. text ≡ known)
