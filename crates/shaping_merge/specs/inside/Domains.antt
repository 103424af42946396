-- The domains of a site, as far as providers look at them.
use Rattle.std.specs.Prelude.{◌≡◌, ℕ, List, Bool}
use Rattle.std.specs.List.{list_any}
use Rattle.policy_core.specs.declared.site.Site.{Site}
use Rattle.policy_core.specs.Policy.{Policy}
use Rattle.policy_core.specs.Site.{domains_of}

-- a list has the domains of a site: a test that one of them passes is passed by one in the list
abbrev pub AreDomainsOf : Policy → Site → List (List ℕ) → Type 0
AreDomainsOf policy site domains = (test : List ℕ → Bool) → list_any test domains ≡ list_any test (domains_of policy site)
