use Rattle.std.proofs.Common.{◌∙◌}
use Rattle.history_views.proofs.OpenWalks.{open-counted}
use Rattle.history_views.proofs.connections.open_count.Goals as goal

pub returns : goal.returns
returns c = c.openings_on.ensures ∙ open-counted c.args.entries.now c.args.text.now
