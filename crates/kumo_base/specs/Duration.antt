-- Durations as texts, as `1h 30 mins`: groups of a number and a unit, with spaces between as one likes.
use Rattle.std.specs.Prelude.{ℕ, zero, suc, ◌+◌, ◌-◌, ◌*◌, ◌==◌, ◌||◌, nat_lt, Bool, if◌then◌else◌, List, length, drop, take_while, Option, Some, None, Result, Ok, Err, bytes_eq, codes}
use Rattle.std.specs.List.{prefix_len}
use Rattle.std.specs.Char.{is_ascii_digit, is_ascii_alphabetic}
use Rattle.std.specs.Str.Parse.{digits_value}
use Rattle.kumo_base.specs.declared.duration.DurationFault.{DurationFault}
use Rattle.kumo_base.specs.declared.duration.DurationWhy.{DurationWhy}
use Rattle.kumo_base.specs.declared.duration.DurationWhy.TheVariants.{Empty, NoNumber, BadUnit, TooLong}

abbrev pub is_space : ℕ → Bool
is_space b = b == 32

-- what stands behind the bytes at the front that pass a test
abbrev pub behind : (ℕ → Bool) → List ℕ → List ℕ
behind test bytes = drop (prefix_len test bytes) bytes

-- the names of each unit
unfoldable pub means_milliseconds : List ℕ → Bool
means_milliseconds name =
    bytes_eq name (codes "ms") || bytes_eq name (codes "msec") || bytes_eq name (codes "millisecond")
    || bytes_eq name (codes "milliseconds")

unfoldable pub means_seconds : List ℕ → Bool
means_seconds name =
    bytes_eq name (codes "s") || bytes_eq name (codes "sec") || bytes_eq name (codes "secs")
    || bytes_eq name (codes "second") || bytes_eq name (codes "seconds")

unfoldable pub means_minutes : List ℕ → Bool
means_minutes name =
    bytes_eq name (codes "m") || bytes_eq name (codes "min") || bytes_eq name (codes "mins")
    || bytes_eq name (codes "minute") || bytes_eq name (codes "minutes")

unfoldable pub means_hours : List ℕ → Bool
means_hours name =
    bytes_eq name (codes "h") || bytes_eq name (codes "hr") || bytes_eq name (codes "hrs")
    || bytes_eq name (codes "hour") || bytes_eq name (codes "hours")

unfoldable pub means_days : List ℕ → Bool
means_days name = bytes_eq name (codes "d") || bytes_eq name (codes "day") || bytes_eq name (codes "days")

unfoldable pub means_weeks : List ℕ → Bool
means_weeks name = bytes_eq name (codes "w") || bytes_eq name (codes "week") || bytes_eq name (codes "weeks")

-- the milliseconds of a unit
abbrev pub unit_milliseconds : List ℕ → Option ℕ
unit_milliseconds name =
    if means_milliseconds name then Some 1
    else if means_seconds name then Some 1000
    else if means_minutes name then Some 60000
    else if means_hours name then Some 3600000
    else if means_days name then Some 86400000
    else if means_weeks name then Some 604800000
    else None

-- the longest duration: 36,500 days
abbrev pub longest : ℕ
longest = 36500 * 86400000

-- a fault where the rest of a text of some length begins
abbrev pub fault_at : ℕ → List ℕ → DurationWhy → DurationFault
fault_at whole rest why = record { at = whole - length rest; why = why }

-- one group: its milliseconds, and the text behind it
pub record Group : Type 0 where
  pub milliseconds : ℕ
  pub rest : List ℕ

-- a number before what should be its unit
abbrev pub timed : ℕ → ℕ → List ℕ → Option ℕ → Result Group DurationFault
timed whole number bytes None = Err (fault_at whole bytes BadUnit)
timed whole number bytes (Some factor) = Ok (record { milliseconds = number * factor; rest = behind is_ascii_alphabetic bytes })

-- the group with which the rest of a text should begin
unfoldable pub group : ℕ → List ℕ → Result Group DurationFault
group whole bytes =
    let unit = behind is_space (behind is_ascii_digit bytes) in
    if prefix_len is_ascii_digit bytes == 0 then Err (fault_at whole bytes NoNumber)
    else timed whole (digits_value 10 (take_while is_ascii_digit bytes)) unit
    (unit_milliseconds (take_while is_ascii_alphabetic unit))

-- goes on behind a group
abbrev pub with_group : Result Group DurationFault → (Group → Result ℕ DurationFault) → Result ℕ DurationFault
with_group (Err fault) more = Err fault
with_group (Ok found) more = more found

-- the sum of the groups of a rest that begins with no space, and of those before. A group takes two bytes or more,
-- so as many steps as the rest has bytes are enough: each group is one step, which shows that the reading ends.
unfoldable pub groups : ℕ → ℕ → ℕ → List ℕ → Result ℕ DurationFault
groups zero whole sum bytes = Ok sum
groups (suc steps) whole sum bytes =
    if length bytes == 0 then Ok sum
    else with_group (group whole bytes) (λ found.
    if nat_lt longest (sum + found.milliseconds) then Err (fault_at whole bytes TooLong)
    else groups steps whole (sum + found.milliseconds) (behind is_space found.rest))

-- the milliseconds of a text, or the first thing that is wrong with it
unfoldable pub duration_in : List ℕ → Result ℕ DurationFault
duration_in text =
    if length (behind is_space text) == 0 then Err (record { at = 0; why = Empty })
    else groups (length text) (length text) 0 (behind is_space text)
