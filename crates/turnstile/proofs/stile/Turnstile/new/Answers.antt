use Rattle.std.proofs.Common.{sym, subst, ◌∷◌, [], None}
use Rattle.atomic_table.specs.Table.{opening}
use Rattle.turnstile.specs.Rule.{Kept}
use Rattle.turnstile.specs.Views.{founder}
use Rattle.turnstile.proofs.Seats.{opens}
use Rattle.turnstile.proofs.stile.Turnstile.new.Goals as goal

pub vacant-requires : goal.vacant-requires
vacant-requires g c = subst (λ x. Kept g.T.Chronicle.shown (opening (1 ∷ 0 ∷ []) (None ∷ []) (founder (g.T.Chronicle.shown x)))) (sym c.of-about.ensures) (opens g.T.Chronicle.shown c.args.value c.requires.first)
