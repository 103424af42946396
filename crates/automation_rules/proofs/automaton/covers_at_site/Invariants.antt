use Rattle.std.proofs.Common.{◌≡◌, ◌&&◌, drop}
use Rattle.std.specs.List.{list_any}
use Rattle.policy_core.specs.Site.{is_same_site}
use Rattle.automation_rules.specs.inside.Showing.{is_covering_path}
use Rattle.automation_rules.proofs.automaton.covers_at_site.Given as goal

abbrev pub invariant-loop-known : goal.invariant-loop-known
invariant-loop-known l =
    list_any (λ p. is_same_site p.site l.here.site && is_covering_path l.t l.name p) l.paths
    ≡ list_any (λ p. is_same_site p.site l.here.site && is_covering_path l.t l.name p) (drop l.known-index l.paths)
