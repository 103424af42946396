use Rattle.std.proofs.Common.{◌≡◌, true, false}
use Rattle.std.specs.List.{AllWithin}
use Rattle.suspensions.specs.inside.Least.{passes}
use Rattle.suspensions.proofs.ends.next_end.Given as goal

abbrev pub invariant-loop-ending : goal.invariant-loop-ending
invariant-loop-ending l = AllWithin (λ e. passes l.t (λ g. true) l.book e ≡ false) l.ending-items 0 l.ending-index
