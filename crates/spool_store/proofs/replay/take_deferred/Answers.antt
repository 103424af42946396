use Rattle.std.proofs.Common.{sym, ◌∙◌, ap, not, Bool}
use Rattle.spool_store.proofs.ContentLemmas.{takes_deferred}
use Rattle.spool_store.proofs.replay.take_deferred.Goals as goal

pub returns : goal.returns
returns c = takes_deferred c.args.payload.now c.in-Some.deferral c.args.pending.now c.delay.new.self (sym c.in-Some.ensures)
    (sym c.find.ensures.known ∙ c.is_none.ensures ∙ ap (λ (t : Bool). not t) c.if-is_none.false) c.delay.ensures
