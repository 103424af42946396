use Rattle.std.proofs.Common.{rules}
use Rattle.shaping_merge.proofs.SameSite.{same_hosts}
use Rattle.shaping_merge.proofs.domains.is_at.Goals as goal

pub returns : goal.returns
returns c =
    let hosts = c.as_slice-hosts.ensures in
    rw (c.is_site_name.ensures, c.as_str.ensures, hosts)
    (same_hosts c.args.policy.now c.args.site.now c.args.domain.now c.args.rollup c.requires
    (rw (← hosts, ← c.are_hosts_of.ensures) (search rules)))
