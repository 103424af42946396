use Rattle.std.proofs.Common.{inl, ◌∙◌, ◌++◌, ◌∷◌, [], List}
use Rattle.spool_format.specs.declared.kept.Kept.{Kept}
use Rattle.spool_store.specs.Content.{fresh}
use Rattle.spool_store.specs.Reading.{Recovers}
use Rattle.spool_store.specs.Crash.{Either}
use Rattle.spool_store.proofs.Keeping.{since_then}
use Rattle.spool_store.proofs.Waiting.{has_same}
use Rattle.spool_store.proofs.fitting.hold_within.Goals as goal

pub add_held-requires-clause-fresh : goal.add_held-requires-clause-fresh
add_held-requires-clause-fresh g c = has_same c.args.message.now.id c.fit.new.pending c.args.pending.now c.in-Ok.ensures.pending ∙ c.requires.fresh

pub returns-in-Ok-add_held-clause-since : goal.returns-in-Ok-add_held-clause-since
returns-in-Ok-add_held-clause-since g c = λ before content.
    let later : List Kept = before ++ fresh c.args.message.now ∷ [] in
    since_then (λ read image. Recovers image before) (Either before later) (Either before later) (g.D.Disk.seen c.args.disk.now) (g.D.Disk.seen c.fit.new.disk) (g.D.Disk.seen c.add_held.new.disk)
    (λ read image recovers. inl recovers) (λ read now image told is either. either) (c.fit.ensures.since before content) (c.add_held.ensures.since before (c.in-Ok.ensures.content before content))

pub returns-in-Err-add_held-clause-since : goal.returns-in-Err-add_held-clause-since
returns-in-Err-add_held-clause-since g c = λ before content.
    let later : List Kept = before ++ fresh c.args.message.now ∷ [] in
    since_then (λ read image. Recovers image before) (Either before later) (Either before later) (g.D.Disk.seen c.args.disk.now) (g.D.Disk.seen c.fit.new.disk) (g.D.Disk.seen c.add_held.new.disk)
    (λ read image recovers. inl recovers) (λ read now image told is either. either) (c.fit.ensures.since before content) (c.add_held.ensures.since before (c.in-Ok.ensures.content before content))
