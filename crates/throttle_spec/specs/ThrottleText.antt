-- Throttles as texts, as `local:1_000/hour,max_burst=50`: the form is KumoMTA's, the exact spellings are this project's.
use Rattle.std.specs.Prelude.{ℕ, ◌==◌, nat_lt, nat_le, Bool, ◌&&◌, if◌then◌else◌, List, [], ◌∷◌, length, Option, Some, None, Result, Ok, Err, codes}
use Rattle.std.specs.List.{list_any, list_all, filter, before_first, after_first, slice_split}
use Rattle.std.specs.Char.{is_ascii_digit}
use Rattle.std.specs.Str.Parse.{digits_value}
use Rattle.kumo_base.specs.Duration.{unit_milliseconds}
use Rattle.throttle_spec.specs.Throttle.{Throttle}
use Rattle.throttle_spec.specs.Limits.{greatest_quantity, longest_period, shortest_unit}
use Rattle.throttle_spec.specs.declared.parse.ThrottleFault.{ThrottleFault}
use Rattle.throttle_spec.specs.declared.parse.ThrottleFault.TheVariants.{NoSlash, BadQuantity, Zero, BadPeriod, BadBurst}

abbrev pub is_slash : ℕ → Bool
is_slash b = b == 47

abbrev pub is_underscore : ℕ → Bool
is_underscore b = b == 95

-- what stands behind a word at the front of a text, where it begins with it
abbrev pub behind_word : List ℕ → List ℕ → Option (List ℕ)
behind_word [] text = Some text
behind_word (w ∷ word) [] = None
behind_word (w ∷ word) (b ∷ text) = if w == b then behind_word word text else None

abbrev pub or_whole : List ℕ → Option (List ℕ) → List ℕ
or_whole text None = text
or_whole text (Some rest) = rest

-- a text without a word at its front
abbrev pub without_word : List ℕ → List ℕ → List ℕ
without_word word text = or_whole text (behind_word word text)

-- what stands before and behind a word
pub record Around : Type 0 where
  pub before : List ℕ
  pub behind : List ℕ

abbrev pub put_before : ℕ → Option Around → Option Around
put_before b None = None
put_before b (Some cut) = Some (record { before = b ∷ cut.before; behind = cut.behind })

abbrev pub here_or_later : ℕ → Option (List ℕ) → Option Around → Option Around
here_or_later b (Some behind) later = Some (record { before = []; behind = behind })
here_or_later b None later = put_before b later

-- a text around the first place where a word stands in it
abbrev pub around_word : List ℕ → List ℕ → Option Around
around_word word [] = here_or_later 0 (behind_word word []) None
around_word word (b ∷ text) = here_or_later b (behind_word word (b ∷ text)) (around_word word text)

-- one digit or more
abbrev pub is_digits : List ℕ → Bool
is_digits part = nat_lt 0 (length part) && list_all is_ascii_digit part

-- digits; each `_` stands between two of them
unfoldable pub is_number : List ℕ → Bool
is_number text = list_all is_digits (slice_split is_underscore text)

abbrev pub within_limit : ℕ → Option ℕ
within_limit n = if nat_le n greatest_quantity then Some n else None

-- the number that a text writes, where it is one and not too large
unfoldable pub number_of : List ℕ → Option ℕ
number_of text = if is_number text then within_limit (digits_value 10 (filter is_ascii_digit text)) else None

abbrev pub from_second_to_day : Option ℕ → Option ℕ
from_second_to_day None = None
from_second_to_day (Some unit) = if nat_le shortest_unit unit && nat_le unit longest_period then Some unit else None

-- the milliseconds of a unit from a second to a day
abbrev pub period_of : List ℕ → Option ℕ
period_of text = from_second_to_day (unit_milliseconds text)

-- what stands behind the slash: a unit, and a burst where one is given
abbrev pub unit_part : List ℕ → Option Around → List ℕ
unit_part text None = text
unit_part text (Some cut) = cut.before

abbrev pub burst_of : ℕ → Option Around → Option ℕ
burst_of quantity None = Some quantity
burst_of quantity (Some cut) = number_of cut.behind

abbrev pub with_burst : ℕ → ℕ → Option ℕ → Result Throttle ThrottleFault
with_burst quantity period None = Err BadBurst
with_burst quantity period (Some burst) =
    if burst == 0 then Err BadBurst else Ok (record { quantity = quantity; period = period; burst = burst })

abbrev pub with_period : ℕ → Option ℕ → Option ℕ → Result Throttle ThrottleFault
with_period quantity None burst = Err BadPeriod
with_period quantity (Some period) burst = with_burst quantity period burst

abbrev pub with_rate : ℕ → List ℕ → Option Around → Result Throttle ThrottleFault
with_rate quantity text cut = with_period quantity (period_of (unit_part text cut)) (burst_of quantity cut)

abbrev pub with_quantity : Option ℕ → List ℕ → Option Around → Result Throttle ThrottleFault
with_quantity None text cut = Err BadQuantity
with_quantity (Some quantity) text cut = if quantity == 0 then Err Zero else with_rate quantity text cut

-- a text without `local:`, by what stands before and behind its first slash
abbrev pub throttle_around : List ℕ → List ℕ → Result Throttle ThrottleFault
throttle_around before behind = with_quantity (number_of before) behind (around_word (codes ",max_burst=") behind)

abbrev pub throttle_in : List ℕ → Result Throttle ThrottleFault
throttle_in text =
    if list_any is_slash text then throttle_around (before_first is_slash text) (after_first is_slash text) else Err NoSlash

-- the throttle that a text writes, or the first thing that is wrong with it
unfoldable pub throttle_of : List ℕ → Result Throttle ThrottleFault
throttle_of text = throttle_in (without_word (codes "local:") text)
