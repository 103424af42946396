use Rattle.std.proofs.Common.{◌≡◌, ◌&&◌, drop, filter}
use Rattle.std.specs.List.{list_any}
use Rattle.policy_core.specs.Automation.{covers}
use Rattle.policy_core.specs.Site.{site_of, is_same_site}
use Rattle.history_core.specs.Firing.{is_in_force}
use Rattle.history_automation.proofs.automation.is_covered.Given as goal

abbrev pub invariant-loop-firing : goal.invariant-loop-firing
invariant-loop-firing l =
    list_any (λ f. is_same_site f.path.site (site_of l.policy l.message.name.domain) && covers f.rule.action f.name l.message.name) (filter (is_in_force l.t) l.firings)
    ≡ list_any (λ f. is_same_site f.path.site (site_of l.policy l.message.name.domain) && covers f.rule.action f.name l.message.name) (filter (is_in_force l.t) (drop l.firing-index l.firings))
