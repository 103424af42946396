use Rattle.history_core.proofs.LegalLemmas.{IsLegal-push}
use Rattle.history_core.proofs.laws.legal_history_grows.Goals as goal

pub returns : goal.returns
returns c = IsLegal-push
