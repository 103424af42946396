-- Sites: the mail exchangers that domains share, and which domains share them (the form of a site's name is this project's).
use Rattle.std.specs.Prelude.{ℕ, List, [], ◌∷◌, ◌++◌, Bool, true, false, ◌&&◌, Option, Some, None, is_none, unwrap_or, if◌then◌else◌, map, find, bytes_eq}
use Rattle.std.specs.List.{filter}
use Rattle.policy_core.specs.declared.shaping.Shaping.{Shaping}
use Rattle.policy_core.specs.declared.shaping.DomainShape.{DomainShape}
use Rattle.policy_core.specs.declared.site.Site.{Site}
use Rattle.policy_core.specs.Mx.{hosts_in}
use Rattle.policy_core.specs.Policy.{Policy}

-- texts one behind another, with `|` between
abbrev pub with_bars : List (List ℕ) → List ℕ
with_bars [] = []
with_bars (text ∷ more) = 124 ∷ (text ++ with_bars more)

abbrev pub joined_by_bars : List (List ℕ) → List ℕ
joined_by_bars [] = []
joined_by_bars (text ∷ more) = text ++ with_bars more

-- the hosts of a domain: those of its MX row, or itself
abbrev pub hosts_of : Policy → List ℕ → List (List ℕ)
hosts_of policy domain = unwrap_or (hosts_in policy.mx domain) (domain ∷ [])

-- what is said for a domain; of equal names the first counts
abbrev pub domain_shape : Shaping → List ℕ → Option DomainShape
domain_shape shaping domain = find (λ d. bytes_eq d.domain domain) shaping.domains

abbrev pub rollup_of : Option DomainShape → Bool
rollup_of None = true
rollup_of (Some d) = d.rollup

abbrev pub site_name : Bool → List ℕ → List (List ℕ) → List ℕ
site_name true domain hosts = joined_by_bars hosts
site_name false domain hosts = domain ++ 61 ∷ joined_by_bars hosts

-- the site of a domain: it is shared by hosts, unless the domain's table says `mx_rollup = false`
unfoldable pub site_of : Policy → List ℕ → Site
site_of policy domain = record {
  name = site_name (rollup_of (domain_shape policy.shaping domain)) domain (hosts_of policy domain);
  hosts = hosts_of policy domain;
}

-- two sites are the same where both name and hosts are equal
abbrev pub are_same_texts : List (List ℕ) → List (List ℕ) → Bool
are_same_texts [] [] = true
are_same_texts [] (other ∷ others) = false
are_same_texts (text ∷ texts) [] = false
are_same_texts (text ∷ texts) (other ∷ others) = bytes_eq text other && are_same_texts texts others

abbrev pub is_same_site : Site → Site → Bool
is_same_site a b = bytes_eq a.name b.name && are_same_texts a.hosts b.hosts

unfoldable pub is_at_site : Policy → Site → List ℕ → Bool
is_at_site policy site domain = is_same_site (site_of policy domain) site

-- a site that has the name of a host without a row is that host's own
abbrev pub own_domain : Policy → Site → List (List ℕ)
own_domain policy site =
    if is_none (hosts_in policy.mx site.name) && is_at_site policy site site.name then site.name ∷ [] else []

-- the domains of a site: of the MX rows, of the shaping tables, and the host that is a site of its own
abbrev pub domains_of : Policy → Site → List (List ℕ)
domains_of policy site =
    filter (is_at_site policy site) (map (λ row. row.domain) policy.mx)
    ++ (filter (is_at_site policy site) (map (λ d. d.domain) policy.shaping.domains) ++ own_domain policy site)
