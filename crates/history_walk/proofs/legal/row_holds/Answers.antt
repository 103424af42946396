use Rattle.history_walk.proofs.legal.row_holds.Goals as goal

pub returns-in-Opened : goal.returns-in-Opened
returns-in-Opened c = rw c.in-Opened.is c.may_open.ensures

pub returns-in-Resumed : goal.returns-in-Resumed
returns-in-Resumed c = rw (c.in-Resumed.is, ← c.entries-entries.ensures, ← c.moment-t.ensures) c.may_resume.ensures
