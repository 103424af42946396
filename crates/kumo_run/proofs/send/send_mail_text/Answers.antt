use Rattle.std.proofs.lemmas.Result.{IfErr-weaker}
use Rattle.kumo_run.specs.Deeds.{all_sessions}
use Rattle.kumo_run.proofs.SendLemmas.{stops_short, refused_unused}
use Rattle.kumo_run.proofs.send.send_mail_text.Goals as goal

pub returns-in-Ok-clause-err : goal.returns-in-Ok-clause-err
returns-in-Ok-clause-err g c =
    IfErr-weaker c.send.result _ _
    (stops_short (g.T.Texts.seen c.args.texts.now) (g.T.Texts.seen c.read_messages.new.texts) c.args.mail.now
    c.as_slice.result.now (rw c.as_slice.ensures.value c.in-Ok.ensures.ok) (all_sessions c.send.new.peers.items))
    c.send.ensures.err

pub returns-in-Err-clause-err : goal.returns-in-Err-clause-err
returns-in-Err-clause-err g c =
    refused_unused (g.T.Texts.seen c.args.texts.now) (g.T.Texts.seen c.read_messages.new.texts) c.args.mail.now
    _ c.args.peers.now.items c.requires c.in-Err.ensures.err
