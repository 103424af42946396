use Rattle.std.proofs.Common.{refl}
use Rattle.mx_table.specs.MxText.{name_of}
use Rattle.mx_table.proofs.NameLemmas.{no_name}
use Rattle.mx_table.proofs.line.name_of.Goals as goal

pub returns-in_default-clause-err : goal.returns-in_default-clause-err
unfolding name_of
returns-in_default-clause-err c = (refl, rw (← c.without_dot.ensures) (no_name _ c.in_default.ensures.cases.0))
