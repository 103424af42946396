use Rattle.std.proofs.Common.{◌∙◌, ap, sym}
use Rattle.spool_index.specs.Places.{ids_of}
use Rattle.spool_store.specs.Store.{StoreSeen}
use Rattle.spool_store.proofs.Waiting.{ids-unplaced}
use Rattle.spool_store.proofs.store.Store.pending.Goals as goal

pub returns : goal.returns
returns g c = ap ids_of c.walk.ensures ∙ sym (ids-unplaced c.self.inside.pending) ∙ ap (λ (s : StoreSeen _). ids_of s.pending) c.self.view_is
