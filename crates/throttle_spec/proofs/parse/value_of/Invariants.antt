use Rattle.std.proofs.Common.{◌≡◌, min, take, filter}
use Rattle.std.specs.Char.{is_ascii_digit}
use Rattle.std.specs.Str.Parse.{digits_value}
use Rattle.throttle_spec.specs.declared.parse.TheConstants.{TOO_LARGE}
use Rattle.throttle_spec.proofs.parse.value_of.Given as goal

-- the number that the digits passed write
abbrev pub invariant-loop-byte : goal.invariant-loop-byte
invariant-loop-byte l = l.number ≡ min (digits_value 10 (filter is_ascii_digit (take l.byte-index l.text))) TOO_LARGE
