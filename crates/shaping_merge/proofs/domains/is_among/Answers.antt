use Rattle.std.proofs.Common.{◌∙◌, ap}
use Rattle.policy_core.specs.Site.{domain_shape}
use Rattle.shaping_merge.specs.inside.Rollups.{rollup_at}
use Rattle.shaping_merge.proofs.SameSite.{rollup_found}
use Rattle.shaping_merge.proofs.domains.is_among.Goals as goal

pub is_at-requires : goal.is_at-requires
is_at-requires c = c.rollup_in.ensures ∙ ap rollup_at (c.requires c.args.domain.now) ∙ rollup_found (domain_shape c.args.policy.now.shaping c.args.domain.now)
