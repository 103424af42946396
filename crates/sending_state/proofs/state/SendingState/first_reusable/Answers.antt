use Rattle.std.proofs.Common.{◌==◌, ◌&&◌, ◌∙◌, option_map, ap, sym}
use Rattle.history_core.specs.Connection.{idle_connections}
use Rattle.history_core.specs.Openable.{is_work, verdict_of}
use Rattle.history_views.specs.Opened.{connection_of}
use Rattle.history_walk.proofs.NoneFound.{none_found}
use Rattle.sending_state.proofs.state.SendingState.first_reusable.Goals as goal

pub returns-clause-none : goal.returns-clause-none
returns-clause-none c none =
    let s = c.args.self.now in
    none_found (λ d. d.who == c.args.who && is_work (verdict_of s.policy s.history c.args.t d)) (idle_connections s.history)
    (sym (rw c.scene.ensures at c.reusable.ensures) ∙ ap (option_map connection_of) none)
