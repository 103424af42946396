use Rattle.json_members.proofs.IdLemmas.{id_is_utf8}
use Rattle.json_members.proofs.laws.printed_id_is_utf8.Goals as goal

pub returns : goal.returns
returns c = λ id. id_is_utf8 id
