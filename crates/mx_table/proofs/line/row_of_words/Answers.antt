use Rattle.std.proofs.Common.{◌∙◌, ap, ◌<◌, length, arith, Some}
use Rattle.std.proofs.lemmas.Bool.Decides.{nat_tests}
use Rattle.mx_table.proofs.WordLemmas.{row_with_hosts}
use Rattle.mx_table.proofs.line.row_of_words.Goals as goal

pub returns-in-Ok-clause-ok : goal.returns-in-Ok-clause-ok
returns-in-Ok-clause-ok c =
    let some : 0 < length c.in-Some.hosts.now = grind (arith, nat_tests) in
    row_with_hosts c.args.words.now c.in-Some.domain.now c.in-Some.hosts.now c.in-Some.ensures.cases.0 some ∙ ap Some c.in-Ok.ensures.ok

pub returns-in-Err-clause-err : goal.returns-in-Err-clause-err
returns-in-Err-clause-err c =
    let some : 0 < length c.in-Some.hosts.now = grind (arith, nat_tests) in
    rw (row_with_hosts c.args.words.now c.in-Some.domain.now c.in-Some.hosts.now c.in-Some.ensures.cases.0 some) c.in-Err.ensures.err
