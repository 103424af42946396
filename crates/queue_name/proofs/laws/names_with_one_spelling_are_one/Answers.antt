use Rattle.queue_name.proofs.SpellingLemmas.{same_spelling}
use Rattle.queue_name.proofs.laws.names_with_one_spelling_are_one.Goals as goal

pub returns : goal.returns
returns c = same_spelling
