use Rattle.std.proofs.Common.{arith, sym, ◌∙◌, refl}
use Rattle.spool_format.proofs.ReadLemmas.{held_long}
use Rattle.spool_store.proofs.ContentLemmas.{takes_held}
use Rattle.spool_store.proofs.Lists.{held_small}
use Rattle.spool_store.proofs.replay.take_held.Goals as goal

pub overflow_cast-payload : goal.overflow_cast-payload
overflow_cast-payload c = record { fits = omega (arith, held_long c.args.payload.now c.in-Ok.message c.in-Ok.ensures.ok, held_small c.in-Ok.message c.in-Ok.ensures.proper) }

pub returns : goal.returns
returns c = takes_held c.args.at c.args.payload.now c.in-Ok.message _ c.args.pending.now c.push.new.self c.in-Ok.ensures.ok
    (sym c.find.ensures.known ∙ sym c.is_some.ensures ∙ c.if-is_some.false) refl c.in_ok-push.ensures.ok
