use Rattle.std.proofs.Common.{true, bytes_eq}
use Rattle.std.specs.BTreeSet.{contains_text}
use Rattle.std.proofs.lemmas.Map.Text.{btree_set_updates_text}
use Rattle.shaping_merge.proofs.FirstsLemmas.{added}
use Rattle.shaping_merge.proofs.tables.is_new.Goals as goal

pub returns-clause-met : goal.returns-clause-met
returns-clause-met c =
    λ other.
    added (bytes_eq c.args.name.now other) (contains_text c.args.met.now other) (contains_text c.insert.new.self other)
    (rw (← c.in_ok-key.ensures.ok) (btree_set_updates_text _ _ _ true c.in_ok-insert.ensures.updates other))
