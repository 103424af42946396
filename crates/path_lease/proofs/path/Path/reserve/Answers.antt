use Rattle.std.proofs.Common.{subst, sym, refl}
use Rattle.path_lease.specs.Standing.{StandsFor}
use Rattle.path_lease.proofs.StandingLemmas.{unchanged}
use Rattle.path_lease.proofs.path.Path.reserve.Goals as goal

pub returns-in_err-reserve-clause-stands : goal.returns-in_err-reserve-clause-stands
returns-in_err-reserve-clause-stands c = λ rates calls is.
    unchanged _ _ rates calls (subst (λ p. StandsFor p rates calls) (sym c.self.view_is) is) c.reserve.ensures.entries refl refl refl

pub returns-in_err-reserve-2-clause-stands : goal.returns-in_err-reserve-2-clause-stands
returns-in_err-reserve-2-clause-stands c = λ rates calls is.
    unchanged _ _ rates calls (subst (λ p. StandsFor p rates calls) (sym c.self.view_is) is)
    c.reserve.ensures.entries c.reserve-2.ensures.entries refl refl

pub returns-in_err-reserve-3-clause-stands : goal.returns-in_err-reserve-3-clause-stands
returns-in_err-reserve-3-clause-stands c = λ rates calls is.
    unchanged _ _ rates calls (subst (λ p. StandsFor p rates calls) (sym c.self.view_is) is)
    c.reserve.ensures.entries c.reserve-2.ensures.entries c.reserve-3.ensures.entries refl

pub returns-clause-stands : goal.returns-clause-stands
returns-clause-stands c = λ rates calls is.
    unchanged _ _ rates calls (subst (λ p. StandsFor p rates calls) (sym c.self.view_is) is)
    c.reserve.ensures.entries c.reserve-2.ensures.entries c.reserve-3.ensures.entries refl
