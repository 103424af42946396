use Rattle.queue_name.proofs.SpellingLemmas.{spelling_read}
use Rattle.queue_name.proofs.laws.spelling_of_name_is_read.Goals as goal

pub returns : goal.returns
returns c = spelling_read
