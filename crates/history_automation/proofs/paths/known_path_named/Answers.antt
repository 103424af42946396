use Rattle.std.proofs.Common.{◌∙◌, arith}
use Rattle.history_automation.proofs.KnownPaths.{named_known}
use Rattle.history_automation.proofs.paths.known_path_named.Goals as goal

pub returns : goal.returns
returns c p h is =
    c.named.ensures ∙ named_known p h c.args.known.now c.args.text.now c.deref.result.now (grind (arith, c.deref.ensures.value, c.known.view_is)) is
