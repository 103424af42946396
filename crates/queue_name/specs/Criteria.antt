-- When a name has the components that are asked for.
use Rattle.std.specs.Prelude.{ℕ, List, Bool, true, false, ◌&&◌, Option, Some, None, bytes_eq}
use Rattle.queue_name.specs.QueueName.{Name}
use Rattle.queue_name.specs.declared.criteria.Criteria.{Criteria}

-- what is not asked for is met by any; what is asked for has to be there and equal
abbrev pub matches_component : Option (List ℕ) → Option (List ℕ) → Bool
matches_component None found = true
matches_component (Some given) None = false
matches_component (Some given) (Some found) = bytes_eq given found

abbrev pub matches : Criteria → Name → Bool
matches c n =
    matches_component c.campaign n.campaign && matches_component c.tenant n.tenant
    && matches_component c.domain (Some n.domain)
