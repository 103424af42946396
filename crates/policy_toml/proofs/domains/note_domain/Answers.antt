use Rattle.std.proofs.Common.{true}
use Rattle.std.specs.BTreeSet.{contains_text}
use Rattle.std.proofs.lemmas.Map.Text.{btree_set_updates_text}
use Rattle.policy_toml.proofs.DomainLemmas.{inserted}
use Rattle.policy_toml.proofs.domains.note_domain.Goals as goal

pub returns-else-not-branch-clause-met : goal.returns-else-not-branch-clause-met
returns-else-not-branch-clause-met c =
    inserted (contains_text c.args.met.now) (contains_text c.insert.new.self) c.args.key.now
    (λ name. rw (← c.in_ok-to_ascii_lowercase.ensures.ok) (btree_set_updates_text _ _ _ true c.in_ok-insert.ensures.updates name))
