use Rattle.std.proofs.Common.{rules}
use borrow.Author.Tests.{tests}
use Rattle.std.proofs.lemmas.Iterator.Search.{all_from_yields_List}
use Rattle.std.proofs.lemmas.Iterator.Splits.{YieldsList-from_slice_split}
use Rattle.throttle_spec.specs.ThrottleText.{is_number, is_digits, is_underscore}
use Rattle.throttle_spec.proofs.parse.is_number.Goals as goal

pub returns : goal.returns
unfolding is_number
returns c =
    all_from_yields_List is_digits _ _ c.all.result c.all.ensures.ran
    (YieldsList-from_slice_split _ is_underscore c.args.text.now c.split.ensures.rest c.split.ensures.done c.split.ensures.closure (λ x r q k. search (rules, tests)))
    (λ x b q k. search (rules, tests))
