use Rattle.std.proofs.Common.{subst}
use Rattle.history_core.specs.Legal.{KnownRow}
use Rattle.sending_state.proofs.KnownIds.{known_no_fresh}
use Rattle.sending_state.proofs.state.SendingState.acceptance.Goals as goal

pub returns-then-may_know-clause-fresh : goal.returns-then-may_know-clause-fresh
returns-then-may_know-clause-fresh c =
    let h = c.args.self.now.history in
    let row : KnownRow h c.args.id = subst (λ g. KnownRow g c.args.id) c.entries.ensures.same (c.may_know.ensures.0 c.if-may_know.true) in
    (λ same. absurd cc, λ none. absurd (known_no_fresh h c.args.id row none))
