use Rattle.std.proofs.Common.{◌∙◌, ap, sym}
use Rattle.spool_index.specs.Places.{has}
use Rattle.spool_store.specs.Store.{StoreSeen}
use Rattle.spool_store.proofs.Waiting.{has-unplaced}
use Rattle.spool_store.proofs.store.Store.contains.Goals as goal

pub returns-in-Some : goal.returns-in-Some
returns-in-Some g c = c.in-Some.ensures.known ∙ sym (has-unplaced c.args.id c.self.inside.pending) ∙ ap (λ (s : StoreSeen _). has c.args.id s.pending) c.self.view_is

pub returns-in-None : goal.returns-in-None
returns-in-None g c = c.in-None.ensures.known ∙ sym (has-unplaced c.args.id c.self.inside.pending) ∙ ap (λ (s : StoreSeen _). has c.args.id s.pending) c.self.view_is
