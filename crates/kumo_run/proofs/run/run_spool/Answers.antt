use Rattle.std.proofs.Common.{Some, [], refl}
use Rattle.command_words.specs.Commands.{spool}
use Rattle.kumo_run.specs.Outside.{shown}
use Rattle.kumo_run.specs.Spool.{IsSpoolText}
use Rattle.kumo_run.specs.inside.SpoolCauses.{RefusesSpool}
use Rattle.kumo_run.proofs.EndLemmas.{ends_answered, ends_refused}
use Rattle.kumo_run.proofs.ResultLemmas.{ok_of, err_of}
use Rattle.kumo_run.proofs.run.run_spool.Goals as goal

pub returns-in-Ok-clause-ends : goal.returns-in-Ok-clause-ends
returns-in-Ok-clause-ends g c = λ folder texts search.
    let text = ok_of c.spool_text-text.result.0 c.in-Ok.text (IsSpoolText (g.D.Disk.seen c.args.disk).told) c.in-Ok.is c.spool_text-text.ensures.ok in
    ends_answered (spool folder) _ _ _ _ c.as_str.result.now
    (c.as_str.result.now, rw c.as_str.ensures text, refl) c.printed.ensures.history c.printed.ensures.wrote

pub returns-in-Err-clause-ends : goal.returns-in-Err-clause-ends
returns-in-Err-clause-ends g c = λ folder texts search.
    let refuses = err_of c.spool_text-text.result.0 c.in-Err.why
    (RefusesSpool (shown (g.D.Disk.seen c.args.disk)) (shown (g.D.Disk.seen c.spool_text-text.result.1))) c.in-Err.is c.spool_text-text.ensures.err in
    ends_refused (Some (spool folder)) _ _ _ _ [] c.in-Err.why
    (refuses texts texts (g.O.Sink.seen c.args.out.now) (g.O.Sink.seen c.refused.new.out) search search)
    c.refused.ensures.status c.refused.ensures.history c.refused.ensures.wrote
