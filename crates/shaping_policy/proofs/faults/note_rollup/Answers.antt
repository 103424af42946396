use Rattle.shaping_policy.specs.Faults.{faults_of_rollup}
use Rattle.shaping_policy.proofs.faults.note_rollup.Goals as goal

pub returns-in-None : goal.returns-in-None
unfolding faults_of_rollup
returns-in-None c = rw (← c.in-None.ensures) c.note.ensures.ok
