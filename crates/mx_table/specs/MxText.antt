-- What an MX table gives (the format is this project's): lines of a domain and its hosts.
use Rattle.std.specs.Prelude.{◌≡◌, ℕ, ◌-◌, ◌==◌, nat_lt, List, [], ◌∷◌, ◌++◌, length, take, Bool, false, ◌&&◌, ◌||◌, Option, Some, None, Result, Ok, Err, ⊤, if◌then◌else◌, map, bytes_eq, codes, decimal, slice_index}
use Rattle.std.specs.List.{list_all, list_any, filter, slice_split}
use Rattle.std.specs.Str.{is_utf8, str_to_ascii_lowercase}
use Rattle.kumo_base.specs.Lines.{numbered_lines}
use Rattle.policy_core.specs.Names.{is_host_name}
use Rattle.policy_core.specs.declared.mx.MxRow.{MxRow}
use Rattle.policy_fault.specs.declared.fault.Why.{Why}
use Rattle.policy_fault.specs.declared.fault.Why.TheVariants.{NotText, NoHost, BadName}
use Rattle.policy_fault.specs.declared.fault.PolicyFile.TheVariants as file
use Rattle.policy_fault.specs.declared.fault.PolicyFault.{PolicyFault}
use Rattle.policy_fault.specs.declared.fault.PolicyFault.TheVariants as policy_fault
use Rattle.policy_fault.specs.declared.fault.PolicyPlace.{PolicyPlace}

-- words are separated by blanks and tabs
abbrev pub is_space : ℕ → Bool
is_space b = b == 32 || b == 9

abbrev pub words_of : List ℕ → List (List ℕ)
words_of line = filter (λ word. nat_lt 0 (length word)) (slice_split is_space line)

-- a name without the dot at its end, in lower case
abbrev pub ends_with_dot : List ℕ → Bool
ends_with_dot word = nat_lt 0 (length word) && slice_index word (length word - 1) == 46

abbrev pub without_dot : List ℕ → List ℕ
without_dot word = if ends_with_dot word then take (length word - 1) word else word

unfoldable pub name_of : List ℕ → List ℕ
name_of word = str_to_ascii_lowercase (without_dot word)

abbrev pub row : List ℕ → List (List ℕ) → MxRow
row domain hosts = record { domain = domain; hosts = hosts }

abbrev pub row_named : List ℕ → List (List ℕ) → Result MxRow Why
row_named domain hosts = if is_host_name domain && list_all is_host_name hosts then Ok (row domain hosts) else Err BadName

-- the row that the words of a line are, none where there are no words
abbrev pub row_of_words : List (List ℕ) → Option (Result MxRow Why)
row_of_words [] = None
row_of_words (domain ∷ []) = Some (Err NoHost)
row_of_words (domain ∷ host ∷ hosts) = Some (row_named (name_of domain) (map name_of (host ∷ hosts)))

abbrev pub is_comment : List ℕ → Bool
is_comment [] = false
is_comment (b ∷ line) = b == 35

-- the row that a line is; a comment is none
unfoldable pub row_of : List ℕ → Option (Result MxRow Why)
row_of line = if is_comment line then None else row_of_words (words_of line)

-- a refused line: its number and why
pub record LineFault : Type 0 where
  pub line : ℕ
  pub why : Why

abbrev pub line_fault : ℕ → Why → LineFault
line_fault line why = record { line = line; why = why }

-- the rows so far and those of the lines, or the first line that is refused
abbrev pub after_line : (List MxRow → Result (List MxRow) LineFault) → List MxRow → ℕ → Option (Result MxRow Why) → Result (List MxRow) LineFault
after_line go_on done n None = go_on done
after_line go_on done n (Some (Ok r)) = go_on (done ++ r ∷ [])
after_line go_on done n (Some (Err why)) = Err (line_fault n why)

abbrev pub rows_from : List MxRow → List (ℕ × List ℕ) → Result (List MxRow) LineFault
rows_from done [] = Ok done
rows_from done (line ∷ more) = after_line (λ rows. rows_from rows more) done line.0 (row_of line.1)

unfoldable pub rows_in : List ℕ → Result (List MxRow) LineFault
rows_in text = if is_utf8 text then rows_from [] (numbered_lines text) else Err (line_fault 1 NotText)

-- whether some row gives a domain a host
abbrev pub gives : List MxRow → List ℕ → List ℕ → Bool
gives rows domain host = list_any (λ r. bytes_eq r.domain domain && list_any (bytes_eq host) r.hosts) rows

-- a table joins rows where it gives each domain the hosts that they give it
unfoldable pub Joins : List MxRow → List MxRow → Type 0
Joins table rows = (domain host : List ℕ) → gives table domain host ≡ gives rows domain host

-- a refusal other than for memory names the first line that is refused
abbrev pub reported : LineFault → PolicyPlace
reported f = record { file = file.Mx; table = codes "line " ++ decimal f.line; key = codes "-"; why = f.why }

abbrev pub IsMxRefusal : PolicyFault → Result (List MxRow) LineFault → Type 0
IsMxRefusal (policy_fault.At place) read = (found : LineFault) × (read ≡ Err found) × (place ≡ reported found)
IsMxRefusal policy_fault.Memory read = ⊤
IsMxRefusal policy_fault.Search read = ⊥

-- what a text reads as: a table that joins its rows
abbrev pub IsMxOf : List MxRow → Result (List MxRow) LineFault → Type 0
IsMxOf table (Ok rows) = Joins table rows
IsMxOf table (Err fault) = ⊥
