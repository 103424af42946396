use Rattle.history_core.proofs.LegalLemmas.{IsLegal-front}
use Rattle.history_core.proofs.laws.front_of_legal_history_is_legal.Goals as goal

pub returns : goal.returns
returns c = IsLegal-front
