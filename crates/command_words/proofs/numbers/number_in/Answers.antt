use Rattle.std.proofs.Common.{sym}
use Rattle.command_words.proofs.NumberLemmas.{number_past_type}
use Rattle.command_words.proofs.numbers.number_in.Goals as goal

pub returns-in-Err-clause-value : goal.returns-in-Err-clause-value
returns-in-Err-clause-value c =
    number_past_type c.args.least c.args.greatest c.args.text.now
    (sym c.if-not-is_number.ensures) c.ranges.greatest.fits c.in-Err.ensures.value.0
