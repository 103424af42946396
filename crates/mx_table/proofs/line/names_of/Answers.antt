use Rattle.mx_table.proofs.WordLemmas.{bad_among}
use Rattle.mx_table.proofs.line.names_of.Goals as goal

pub returns-in-Err-clause-err : goal.returns-in-Err-clause-err
returns-in-Err-clause-err c = bad_among c.in-Err.fault c.args.words.now c.loop-word.word-index _ c.loop-word-test.true c.in-Err.ensures.err
