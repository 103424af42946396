use Rattle.std.proofs.Common.{sym}
use Rattle.policy_core.proofs.SameTexts.{other_length}
use Rattle.policy_core.proofs.site.are_same_texts.Goals as goal

pub returns-then-texts-others : goal.returns-then-texts-others
returns-then-texts-others c = sym (other_length c.args.texts.now c.args.others.now c.if-texts-others.true)
