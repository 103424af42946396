use Rattle.std.proofs.Common.{◌∙◌, arith}
use Rattle.history_automation.proofs.KnownPaths.{known_of_same}
use Rattle.history_automation.proofs.paths.known_path_of.Goals as goal

pub returns : goal.returns
returns c p h is =
    c.same.ensures ∙ known_of_same p h c.args.known.now c.args.path.now c.deref.result.now (grind (arith, c.deref.ensures.value, c.known.view_is)) is
