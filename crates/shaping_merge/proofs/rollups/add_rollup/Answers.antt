use Rattle.std.proofs.Common.{arith}
use Rattle.std.proofs.lemmas.Map.Text.{text_keys}
use Rattle.shaping_merge.proofs.rollups.add_rollup.Goals as goal

pub returns-clause-rollups : goal.returns-clause-rollups
returns-clause-rollups c = λ name. grind (arith, text_keys)
