use Rattle.json_members.proofs.IdLemmas.{id_is_read}
use Rattle.json_members.proofs.laws.printed_id_is_read.Goals as goal

pub returns : goal.returns
returns c = λ id small. id_is_read id small
