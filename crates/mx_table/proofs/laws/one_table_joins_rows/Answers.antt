use Rattle.mx_table.proofs.LawLemmas.{one_table}
use Rattle.mx_table.proofs.laws.one_table_joins_rows.Goals as goal

pub returns : goal.returns
returns c = one_table
