use Rattle.std.proofs.Common.{◌≡◌, min, take}
use Rattle.std.specs.Str.Parse.{digits_value}
use Rattle.kumo_base.specs.declared.duration.TheConstants.{TOO_LONG}
use Rattle.kumo_base.proofs.duration.number_in.Given as goal

-- the number that the digits passed write
abbrev pub invariant-loop-digit : goal.invariant-loop-digit
invariant-loop-digit l = l.number ≡ min (digits_value 10 (take l.digit-index l.digits)) TOO_LONG
