use Rattle.std.proofs.Common.{sym}
use Rattle.history_core.specs.declared.path.Path.{Path}
use Rattle.history_core.specs.History.{paths, text_of}
use Rattle.history_core.specs.Openable.{is_openable, opened_rank}
use Rattle.history_walk.proofs.NoneFound.{no_least}
use Rattle.sending_state.proofs.state.SendingState.next_to_open.Goals as goal

pub returns-in-None-clause-none : goal.returns-in-None-clause-none
returns-in-None-clause-none c none =
    let s = c.args.self.now in
    no_least (λ (p : Path). opened_rank s.history (text_of p)) (is_openable s.policy s.history c.args.t) (paths s.policy s.history)
    (sym (rw c.scene-scene.ensures at c.in-None.ensures.next))
