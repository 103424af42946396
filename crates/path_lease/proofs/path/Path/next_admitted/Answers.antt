use Rattle.std.proofs.Common.{◌∙◌, sym, subst, ap, min}
use Rattle.path_lease.specs.Calls.{openings_under, beginnings_under}
use Rattle.path_lease.specs.Leaves.{after_or_latest}
use Rattle.path_lease.specs.Standing.{StandsFor}
use Rattle.path_lease.proofs.LeaveLemmas.{earliest}
use Rattle.path_lease.proofs.StandingLemmas.{opening_at, beginning_at}
use Rattle.path_lease.proofs.path.Path.next_admitted.Goals as goal

pub returns : goal.returns
returns c = λ rates calls is agrees.
    let now = c.args.now.now in
    let stands = subst (λ p. StandsFor p rates calls) (sym c.self.view_is) is in
    let first = c.next-opening.ensures (openings_under calls now.connection_key) (opening_at _ rates calls now stands agrees) in
    let second = c.next-beginning.ensures (beginnings_under calls now.message_key) (beginning_at _ rates calls now stands agrees) in
    c.min.ensures ∙ ap (λ m. min m c.after_or_latest-2.result) (c.after_or_latest.ensures ∙ ap (after_or_latest c.args.t) first)
    ∙ ap (min _) (c.after_or_latest-2.ensures ∙ ap (after_or_latest c.args.t) second) ∙ earliest calls c.args.t now
