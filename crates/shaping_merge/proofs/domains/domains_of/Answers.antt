use Rattle.std.proofs.Common.{map, append_assoc}
use Rattle.std.specs.List.{filter}
use Rattle.policy_core.specs.Site.{is_at_site, own_domain}
use Rattle.policy_core.specs.PathTables.{firsts}
use Rattle.shaping_merge.proofs.FirstsLemmas.{any_name, any_between}
use Rattle.shaping_merge.proofs.domains.domains_of.Goals as goal

pub returns : goal.returns
returns c = λ test.
    let policy = c.args.policy.now in
    let here = is_at_site policy c.args.site.now in
    let rows = filter here (map (λ row. row.domain) policy.mx) in
    let names = map (λ d. d.domain) (filter (λ d. here d.domain) (firsts (λ d. d.domain) policy.shaping.domains)) in
    let own = own_domain policy c.args.site.now in
    rw (c.in_ok-add_own.ensures, c.in_ok-add_of_shapes.ensures, c.in_ok-add_of_rows.ensures, c.new-domains.ensures.items, c.as_slice.ensures.value, c.requires.at_site, append_assoc rows names own)
    (any_between test rows names _ own (any_name (λ d. d.domain) here test policy.shaping.domains))
