use Rattle.std.proofs.Common.{Some, refl}
use Rattle.command_words.specs.Commands.{Sending, send}
use Rattle.command_words.specs.SeenCommands.{seen_sending}
use Rattle.kumo_run.specs.declared.refusal.Refusal.TheVariants as refusal
use Rattle.kumo_run.specs.Causes.{mail}
use Rattle.kumo_run.specs.Deeds.{all_sessions}
use Rattle.kumo_run.proofs.EndLemmas.{ends_logged, ends_refused_by, ends_unused, is_alone, sends_mail, is_unbuilt}
use Rattle.kumo_run.proofs.run.run_send.Goals as goal

pub returns-then-not-asks_for_mail_alone : goal.returns-then-not-asks_for_mail_alone
returns-then-not-asks_for_mail_alone g c = λ search disk.
    let s : Sending = seen_sending c.args.sending.now in
    ends_unused (Some (send s)) _ _ _ _ _ refusal.NotYetWords c.requires
    (refl, is_unbuilt s c.asks_for_mail_alone.result c.asks_for_mail_alone.ensures c.if-not-asks_for_mail_alone.true)
    c.refused.ensures.status c.refused.ensures.history c.refused.ensures.wrote

pub returns-in-Ok : goal.returns-in-Ok
returns-in-Ok g c = λ search disk.
    let s : Sending = seen_sending c.args.sending.now in
    let alone = is_alone s c.asks_for_mail_alone.result c.asks_for_mail_alone.ensures c.if-not-asks_for_mail_alone.false in
    ends_logged (send s) _ _ _ _ c.in-Ok.history _ (alone, c.in-Ok.history, c.in-Ok.ensures.ok, refl)
    c.logged.ensures.history c.logged.ensures.wrote

pub returns-in-Err : goal.returns-in-Err
returns-in-Err g c = λ search disk.
    let s : Sending = seen_sending c.args.sending.now in
    let alone = is_alone s c.asks_for_mail_alone.result c.asks_for_mail_alone.ensures c.if-not-asks_for_mail_alone.false in
    ends_refused_by (Some (send s)) (mail s.mail) _ _ _ _ (all_sessions c.send_mail_text.new.peers.items) c.in-Err.why (sends_mail s alone)
    (c.in-Err.ensures.err (g.O.Sink.seen c.args.out.now) (g.O.Sink.seen c.refused-in-Err.new.out) search search disk)
    c.refused-in-Err.ensures.status c.refused-in-Err.ensures.history c.refused-in-Err.ensures.wrote
