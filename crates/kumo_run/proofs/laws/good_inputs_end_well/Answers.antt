use Rattle.kumo_run.proofs.LawLemmas.{ends_well}
use Rattle.kumo_run.proofs.laws.good_inputs_end_well.Goals as goal

pub returns : goal.returns
returns c = ends_well
