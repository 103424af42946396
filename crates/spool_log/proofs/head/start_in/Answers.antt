use Rattle.std.proofs.Common.{sym, subst, arith}
use Rattle.spool_log.specs.declared.head.Start.{Start}
use Rattle.spool_log.specs.inside.Steps.{SaysFront}
use Rattle.spool_log.proofs.Headers.{says_front}
use Rattle.spool_log.proofs.head.start_in.Goals as goal

pub returns-clause-front : goal.returns-clause-front
returns-clause-front c = subst (λ (s : Start). SaysFront c.args.bytes.now s) (sym c.start_by-start.ensures) (says_front c.args.bytes.now (λ i. omega (arith, c.type_inv.bytes i)))
