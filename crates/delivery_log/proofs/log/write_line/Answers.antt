-- What one line does to the sink and to what is gathered.
use Rattle.std.proofs.Common.{◌∙◌, ap}
use Rattle.kumo_outside.specs.Content.{told_with}
use Rattle.delivery_log.proofs.LogWriting.{OnErr-from, gathers_all, gathers_none, front_first, front_second}
use Rattle.delivery_log.proofs.log.write_line.Goals as goal

pub returns-then-has_room-clause-ok : goal.returns-then-has_room-clause-ok
returns-then-has_room-clause-ok g c = gathers_all _ _ _ c.append.ensures

pub returns-in_err-put_all-clause-err : goal.returns-in_err-put_all-clause-err
returns-in_err-put_all-clause-err g c = OnErr-from _ (front_first _ _ _ _ _ c.bytes.ensures c.in_err-put_all.ensures.part)

pub returns-in_err-put_all-2-clause-err : goal.returns-in_err-put_all-2-clause-err
returns-in_err-put_all-2-clause-err g c =
    OnErr-from _ (front_second _ _ _ _ _ _ c.bytes.ensures c.in_ok-put_all.ensures.whole c.in_err-put_all-2.ensures.part)

pub returns-clause-ok : goal.returns-clause-ok
returns-clause-ok g c =
    let first = c.in_ok-put_all.ensures.whole ∙ ap (told_with (g.O.Sink.seen c.args.out.now).told) c.bytes.ensures in
    gathers_none _ _ _ _ _ _ first c.in_ok-put_all-2.ensures.whole c.clear.ensures
