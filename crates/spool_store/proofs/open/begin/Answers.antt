use Rattle.spool_store.proofs.OpenLemmas.{begin_first, begin_ran, begin_form}
use Rattle.spool_store.proofs.open.begin.Goals as goal

pub clear-requires-clause-durable : goal.clear-requires-clause-durable
clear-requires-clause-durable g c = c.requires

pub returns-in_err-clear-clause-ran : goal.returns-in_err-clear-clause-ran
returns-in_err-clear-clause-ran g c = begin_first (g.D.Disk.seen c.args.disk.now) (g.D.Disk.seen c.clear.new.disk) c.clear.ensures.ran

pub returns-clause-ran : goal.returns-clause-ran
returns-clause-ran g c = begin_ran (g.D.Disk.seen c.args.disk.now) (g.D.Disk.seen c.clear.new.disk) (g.D.Disk.seen c.create.new.disk) c.in_ok-clear.ensures.durable c.in_ok-clear.ensures.short c.clear.ensures.ran c.create.ensures.ran

pub returns-clause-form : goal.returns-clause-form
returns-clause-form g c = begin_form c.create.result (g.D.Disk.seen c.clear.new.disk) (g.D.Disk.seen c.create.new.disk) c.create.ensures.form
