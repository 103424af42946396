-- Automation: which replies match which rules of their paths, when a rule fires, and what is in force by its firings (KumoMTA's
-- manual, the shaping helper's automation).
use Rattle.std.specs.Prelude.{ℕ, ◌==◌, List, [], ◌∷◌, ◌++◌, Bool, false, not, ◌&&◌, ◌||◌, Option, Some, None, unwrap_or, option_and_then, option_to_list, map, filter, flat_map, if◌then◌else◌}
use Rattle.std.specs.List.{list_any}
use Rattle.kumo_outside.specs.Search.{found}
use Rattle.queue_name.specs.QueueName.{Name}
use Rattle.queue_name.specs.declared.message.Message.{Message}
use Rattle.smtp_reply.specs.declared.reply.Outcome.{Outcome}
use Rattle.smtp_reply.specs.declared.reply.Outcome.TheVariants.{Transient, Permanent}
use Rattle.policy_core.specs.Policy.{Policy}
use Rattle.policy_core.specs.Site.{site_of, is_same_site}
use Rattle.policy_core.specs.PathTables.{base_of}
use Rattle.policy_core.specs.LiveOrders.{is_during}
use Rattle.policy_core.specs.Automation.{is_fired, covers, is_suspend, numbered_rules}
use Rattle.policy_core.specs.declared.rules.Rule.{Rule}
use Rattle.history_core.specs.declared.entry.Entry.{Entry}
use Rattle.history_core.specs.declared.path.Path.{Path}
use Rattle.history_core.specs.declared.rule_match.RuleMatch.{RuleMatch}
use Rattle.history_core.specs.Events.{attempt_end_in}
use Rattle.history_core.specs.History.{along, message_with, text_of, is_same_path, path_named}
use Rattle.history_core.specs.Connection.{path_of_connection}
use Rattle.history_core.specs.LiveOrders.{is_held, is_suspended}

-- the text of a refusal, for now or for good; nothing else is matched
abbrev pub refusal_text : Outcome → Option (List ℕ)
refusal_text (Transient reply) = Some reply.text
refusal_text (Permanent reply) = Some reply.text
refusal_text _ = None

-- some pattern of the rule is found in a text
abbrev pub is_matched : List ℕ → Rule → Bool
is_matched text rule = list_any (λ pattern. unwrap_or (found pattern text) false) rule.patterns

-- a refusal of an attempt: its text, the path and the queue of the message
pub record Refusal : Type 0 where
  pub at : ℕ
  pub text : List ℕ
  pub path : Path
  pub name : Name

abbrev pub refusal_by : ℕ → Option (List ℕ) → Option Path → Option Message → Option Refusal
refusal_by at (Some text) (Some path) (Some m) = Some (record { at = at; text = text; path = path; name = m.name })
refusal_by at _ path m = None

abbrev pub refusal_at : Policy → List Entry → Entry → Option Refusal
refusal_at policy before e = option_and_then (λ a.
    refusal_by e.at (refusal_text a.outcome) (option_and_then (path_named policy before) (path_of_connection before a.conn))
    (message_with before a.id)) (attempt_end_in e.what)

-- the rules of its path that match a refusal
abbrev pub matches_of : Policy → Refusal → List RuleMatch
matches_of policy r =
    map (λ rule. record { at = r.at; path = r.path; number = rule.0; rule = rule.1; name = r.name })
    (filter (λ rule. is_matched r.text rule.1) (numbered_rules (base_of policy r.path.site r.path.source)))

abbrev pub matches_at : Policy → List Entry → Entry → List RuleMatch
matches_at policy before e = flat_map (matches_of policy) (option_to_list (refusal_at policy before e))

-- the matches of a history, in order
abbrev pub matches : Policy → List Entry → List RuleMatch
matches policy h = along (matches_at policy) h

abbrev pub is_same_rule : RuleMatch → RuleMatch → Bool
is_same_rule a b = a.number == b.number && is_same_path a.path b.path

-- the moments of the matches of a rule on a path, up to one of them and with it
abbrev pub moments_with : List RuleMatch → RuleMatch → List ℕ
moments_with before m = map (λ was. was.at) (filter (is_same_rule m) before) ++ m.at ∷ []

-- a match that fires its rule, by the matches before it
abbrev pub fired_at : List RuleMatch → RuleMatch → List RuleMatch
fired_at before m = if is_fired m.rule.trigger (moments_with before m) m.at then m ∷ [] else []

-- the firings that these matches come to
abbrev pub firings_of : List RuleMatch → List RuleMatch
firings_of all = along fired_at all

abbrev pub firings : Policy → List Entry → List RuleMatch
firings policy h = firings_of (matches policy h)

-- from its moment on, for the rule's duration
abbrev pub is_in_force : ℕ → RuleMatch → Bool
is_in_force t f = is_during f.at f.rule.duration t

abbrev pub firings_in_force : Policy → List Entry → ℕ → List RuleMatch
firings_in_force policy h t = filter (is_in_force t) (firings policy h)

-- some firing holds the message back, at its site
abbrev pub is_covered : Policy → List Entry → ℕ → Message → Bool
is_covered policy h t m =
    list_any (λ f. is_same_site f.path.site (site_of policy m.name.domain) && covers f.rule.action f.name m.name)
    (firings_in_force policy h t)

-- an order or a firing lets the path neither open a connection nor begin an attempt
abbrev pub is_halted : Policy → List Entry → ℕ → Path → Bool
is_halted policy h t p =
    is_suspended h t (text_of p)
    || list_any (λ f. is_suspend f.rule.action && is_same_path f.path p) (firings_in_force policy h t)

-- nothing holds the message back
abbrev pub is_free : Policy → List Entry → ℕ → Message → Bool
is_free policy h t m = not (is_held h t m.name) && not (is_covered policy h t m)
