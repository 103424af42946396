use Rattle.std.proofs.Common.{◌≡◌, [], length}
use Rattle.std.specs.List.{All}
use Rattle.kumo_base.specs.Lines.{numbered_lines, left}
use Rattle.queue_name.specs.Message.{IsProperMessage}
use Rattle.mail_input.specs.Inputs.{mail_from}
use Rattle.mail_input.proofs.read_mail.Given as goal

abbrev pub invariant-loop-number : goal.invariant-loop-number
invariant-loop-number l =
    (mail_from [] (numbered_lines l.text) ≡ mail_from l.reading (left l.lines)) × All IsProperMessage l.reading

abbrev pub decreases-loop-number : goal.decreases-loop-number
decreases-loop-number l = length (left l.lines)
