use Rattle.std.proofs.lemmas.Result.{err_from_is_err_and}
use Rattle.policy_texts.proofs.Loading.{base_pool, one_stop, pools_cause}
use Rattle.policy_texts.proofs.load.assembled.Goals as goal

pub assemble-requires-clause-stops : goal.assemble-requires-clause-stops
assemble-requires-clause-stops c = rw c.in_ok-stops.ensures.items one_stop

pub assemble-requires-clause-base : goal.assemble-requires-clause-base
assemble-requires-clause-base c = base_pool c.args.sources c.args.queues c.requires.base

pub returns-in_err-assemble-clause-err : goal.returns-in_err-assemble-clause-err
returns-in_err-assemble-clause-err c =
    let p = err_from_is_err_and c.from_residual-in_err-assemble.result c.from_residual-in_err-assemble.ensures.1 in
    rw (p.1, p.2) (pools_cause c.args.sources c.args.queues _ c.in_err-assemble.ensures.err)
