use Rattle.turnstile.proofs.laws.one_pass_has_the_value.Goals as goal

pub returns : goal.returns
returns g c = λ s r i j v w x y at there took has. r.apart i j r.turn v w at there ((r.each i v at).took x took).0 ((r.each j w there).took y has).0
