use Rattle.std.proofs.Common.{refl, sym, subst}
use Rattle.path_lease.specs.Standing.{kept_at, StandsFor}
use Rattle.path_lease.specs.Allowed.{IsBusy}
use Rattle.path_lease.proofs.AllowedLemmas.{at_work_kept}
use Rattle.path_lease.proofs.StandingLemmas.{ended_one}
use Rattle.path_lease.proofs.path.Path.end.Goals as goal

pub returns-clause-stands : goal.returns-clause-stands
returns-clause-stands c = λ rates calls is.
    let stands = subst (λ p. StandsFor p rates calls) (sym c.self.view_is) is in
    let there = at_work_kept (kept_at c.self.inside.connections.entries c.args.conn) (subst (λ p. IsBusy p c.args.conn) (sym c.self.view_is) c.requires) in
    ended_one _ _ rates calls c.args.t c.args.conn there.0 stands there.1
    (c.end_attempt.ensures.updates there.0 there.1) c.end_attempt.ensures.len refl refl refl
