use Rattle.std.proofs.Common.{refl}
use Rattle.turnstile.proofs.TurnMoves.{grown}
use Rattle.turnstile.proofs.laws.others_entries_stay.Goals as goal

pub returns : goal.returns
returns c = λ w u y x f ne. (grown w w y x refl f).others u ne
