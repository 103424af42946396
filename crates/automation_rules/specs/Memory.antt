-- What an automaton keeps of the matches that it was told.
use Rattle.std.specs.Prelude.{◌≤◌, ℕ, List, [], ◌∷◌, ⊤, map, Bool, true, false, None, nat_lt, if◌then◌else◌}
use Rattle.std.specs.List.{AllByRecursion}
use Rattle.queue_name.specs.QueueName.{Name}
use Rattle.policy_core.specs.declared.site.Site.{Site}
use Rattle.policy_core.specs.declared.site.PathBase.{PathBase}
use Rattle.policy_core.specs.declared.rules.Rule.{Rule}
use Rattle.policy_core.specs.declared.rules.Action.{Action}
use Rattle.policy_core.specs.declared.rules.Action.TheVariants.{SuspendTenant, SuspendCampaign}
use Rattle.policy_core.specs.declared.rules.Trigger.{Trigger}
use Rattle.policy_core.specs.declared.rules.Trigger.TheVariants.{Immediate, Threshold}
use Rattle.automation_rules.specs.declared.firing.Firing.{Firing}

-- the last of some moments, and how many of them there are at most
pub record LastMoments : Type 0 where
  pub most : ℕ
  pub moments : List ℕ

-- of one rule: its last match moments, and firings
pub record RuleMemory : Type 0 where
  pub most : ℕ
  pub moments : List ℕ
  pub firings : List Firing

-- how many moments a trigger looks back on
abbrev pub looks_back : Trigger → ℕ
looks_back Immediate = 0
looks_back (Threshold count period) = count

-- no moment is below one before it
abbrev pub IsAscending : List ℕ → Type 0
IsAscending [] = ⊤
IsAscending (s ∷ later) = AllByRecursion (λ t. s ≤ t) later × IsAscending later

-- it holds messages back by tenant or campaign
abbrev pub is_covering : Action → Bool
is_covering SuspendTenant = true
is_covering SuspendCampaign = true
is_covering _ = false

-- what is kept of a firing that ends at a moment, of a rule of an action, by the reply to a message of a queue
abbrev pub kept_firing : Action → ℕ → Name → Firing
kept_firing action end name = record {
  end = end;
  tenant = if is_covering action then name.tenant else None;
  campaign = if is_covering action then name.campaign else None;
}

-- a name of what is kept; coverage does not look at domains
abbrev pub name_kept : Firing → Name
name_kept f = record { campaign = f.campaign; tenant = f.tenant; domain = [] }

abbrev pub ends_of : List Firing → List ℕ
ends_of firings = map (λ f. f.end) firings

-- when the last firing ends
abbrev pub last_end : List Firing → ℕ
last_end [] = 0
last_end (f ∷ []) = f.end
last_end (f ∷ (g ∷ firings)) = last_end (g ∷ firings)

-- it is not over
abbrev pub is_live : ℕ → Firing → Bool
is_live t f = nat_lt t f.end

-- of a path: what its tables come to, its site, and what is kept of each of its rules
pub record PathMemory : Type 0 where
  pub base : PathBase
  pub site : Site
  pub rules : List RuleMemory

-- a rule that nothing matched yet
abbrev pub blank_rule : Rule → RuleMemory
blank_rule rule = record { most = looks_back rule.trigger; moments = []; firings = [] }
