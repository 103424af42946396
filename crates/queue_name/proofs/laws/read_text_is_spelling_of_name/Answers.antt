use Rattle.queue_name.proofs.NameTextLemmas.{read_is_name}
use Rattle.queue_name.proofs.laws.read_text_is_spelling_of_name.Goals as goal

pub returns : goal.returns
returns c = read_is_name
