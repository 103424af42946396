use Rattle.std.proofs.lemmas.List.Elements.{All-push}
use Rattle.queue_name.specs.Message.{IsProperMessage}
use Rattle.mail_input.proofs.reading.Reading.add.Goals as goal

pub returns-clause-proper : goal.returns-clause-proper
returns-clause-proper c =
    λ proper all. rw (c.in-Ok.ensures.items, c.reserve.ensures.items, c.self.view_is) (All-push IsProperMessage _ _ all proper)
