use Rattle.shaping_merge.proofs.SitePieces.{behind_is}
use Rattle.shaping_merge.proofs.site_names.behind.Goals as goal

pub returns : goal.returns
returns c = behind_is c.args.front.now c.args.bytes.now c.strip_prefix.result c.strip_prefix.ensures.cases
