-- What a receiver decided for good.
use Rattle.std.specs.Prelude.{Bool, true, false}
use Rattle.history_core.specs.declared.entry.Next.{Next}
use Rattle.history_core.specs.declared.entry.Next.TheVariants.{Settled, Due, Expired}

abbrev pub is_settled : Next → Bool
is_settled Settled = true
is_settled (Due moment) = false
is_settled Expired = false
