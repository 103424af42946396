use Rattle.spool_store.proofs.Unique.{never_both, recovered_same, left_recovers, left_large}
use Rattle.spool_store.proofs.laws.opening_again_answers_the_same.Goals as goal

pub returns-clause-answer : goal.returns-clause-answer
returns-clause-answer g c = λ kept image left. left_recovers kept (g.D.Disk.seen c.args.disk.now) image left

pub returns-clause-same : goal.returns-clause-same
returns-clause-same g c = λ kept again image left recovers. recovered_same image again kept recovers (left_recovers kept (g.D.Disk.seen c.args.disk.now) image left)

pub returns-clause-never_damaged : goal.returns-clause-never_damaged
returns-clause-never_damaged g c = λ kept image left area at reads.
    let recovers = left_recovers kept (g.D.Disk.seen c.args.disk.now) image left in
    never_both image recovers.items area at recovers.reads reads

pub returns-clause-never_large : goal.returns-clause-never_large
returns-clause-never_large g c = λ kept image left within pending large. left_large kept large.0 (g.D.Disk.seen c.args.disk.now) image left within large.1 large.3
