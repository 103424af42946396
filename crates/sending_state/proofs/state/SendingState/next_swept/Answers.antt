use Rattle.std.proofs.Common.{subst}
use Rattle.history_core.specs.Legal.{IsLegal}
use Rattle.sending_state.specs.State.{State}
use Rattle.sending_state.proofs.SweptRows.{swept_may}
use Rattle.sending_state.proofs.state.SendingState.next_swept.Goals as goal

pub returns-clause-may : goal.returns-clause-may
returns-clause-may c who event swept running later latest =
    let s = c.args.self.now in
    let legal : IsLegal s.policy s.history = subst (λ (state : State). IsLegal state.policy state.history) c.self.view_is c.self.invariant.0.legal in
    swept_may s.policy s.history c.args.t who legal event swept running later latest
