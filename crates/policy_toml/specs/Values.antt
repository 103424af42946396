-- What the values at the keys of a TOML policy file give, or the word by which they are refused.
use Rattle.std.specs.Prelude.{ℕ, ℤ, pos, negsuc, ◌*◌, nat_le, List, Option, option_and_then, Result, Ok, Err, if◌then◌else◌}
use Rattle.toml.specs.Data.{Data, string, integer, Members}
use Rattle.toml.specs.Parse.{parse_document}
use Rattle.kumo_base.specs.Duration.{duration_in}
use Rattle.kumo_base.specs.Utf8.{utf8_in}
use Rattle.kumo_base.specs.declared.duration.DurationFault.{DurationFault}
use Rattle.kumo_base.specs.Duration.{longest}
use Rattle.policy_fault.specs.declared.fault.Why.{Why}
use Rattle.policy_fault.specs.declared.fault.Why.TheVariants.{BadType, BadDuration}

-- the table that bytes are, where they are TOML in UTF-8
unfoldable pub document_in : List ℕ → Option Members
document_in bytes = option_and_then parse_document (utf8_in bytes)

abbrev pub text_in : Data → Result (List ℕ) Why
text_in (string s) = Ok s
text_in _ = Err BadType

-- the milliseconds of a duration as text
abbrev pub spelled_duration : Result ℕ DurationFault → Result ℕ Why
spelled_duration (Ok milliseconds) = Ok milliseconds
spelled_duration (Err fault) = Err BadDuration

-- of one in whole seconds
abbrev pub seconds : ℤ → Result ℕ Why
seconds (pos n) = if nat_le (n * 1000) longest then Ok (n * 1000) else Err BadDuration
seconds (negsuc n) = Err BadDuration

-- the milliseconds of a duration: a text with units, or a whole number of seconds
abbrev pub duration_at : Data → Result ℕ Why
duration_at (string s) = spelled_duration (duration_in s)
duration_at (integer n) = seconds n
duration_at _ = Err BadType
