use Rattle.std.proofs.Common.{sym, ◌∙◌, ap, not, Bool}
use Rattle.spool_store.proofs.ContentLemmas.{takes_settled}
use Rattle.spool_store.proofs.replay.take_settled.Goals as goal

pub returns : goal.returns
returns c = takes_settled c.args.payload.now c.in-Some.id c.args.pending.now c.settle.new.self (sym c.in-Some.ensures)
    (sym c.find.ensures.known ∙ c.is_none.ensures ∙ ap (λ (t : Bool). not t) c.if-is_none.false) c.settle.ensures
