-- What a match changes in the state of its rule.
use Rattle.std.specs.Prelude.{ℕ, max, List, [], ◌∷◌, ◌++◌, Bool, false, Option, Some, None, nat_le, if◌then◌else◌}
use Rattle.circular_buffer.specs.Buffer.{keep_last}
use Rattle.queue_name.specs.QueueName.{Name}
use Rattle.policy_core.specs.LiveOrders.{end_of}
use Rattle.policy_core.specs.declared.rules.Rule.{Rule}
use Rattle.automation_rules.specs.declared.firing.Firing.{Firing}
use Rattle.automation_rules.specs.Memory.{RuleMemory, is_live, kept_firing, last_end}

-- the firings from the first on that is not over
abbrev pub without_over : ℕ → List Firing → List Firing
without_over t [] = []
without_over t (f ∷ firings) = if is_live t f then f ∷ firings else without_over t firings

-- a rule's state after a match, which fires or does not
abbrev pub noted_in : RuleMemory → Rule → ℕ → Name → Bool → RuleMemory
noted_in s rule t name fires = record {
  most = s.most;
  moments = keep_last s.most (s.moments ++ t ∷ []);
  firings = if fires then without_over t (s.firings ++ kept_firing rule.action (max (end_of t rule.duration) (last_end s.firings)) name ∷ []) else s.firings;
}

-- it is there, and no later
abbrev pub is_by : ℕ → Option ℕ → Bool
is_by u None = false
is_by u (Some end) = nat_le end u
