use Rattle.std.proofs.Common.{ap, sym, ◌∙◌}
use Rattle.smtp_reply.specs.Reading.{answer_of}
use Rattle.smtp_reply.proofs.ReadLemmas.{reads_byte, more_place, count_more}
use Rattle.smtp_reply.proofs.reader.ReplyReader.read_byte.Goals as goal

pub returns : goal.returns
returns c bytes reads =
    let old = c.args.self.now in
    reads_byte c.read_byte-next.result _ bytes c.args.byte (sym reads.answered_is ∙ c.requires)
    (c.read_byte-next.ensures bytes (sym reads.count_is) (more_place old bytes c.requires reads))
    (c.answer-self.ensures ∙ ap (answer_of c.read_byte-next.result) reads.count_is)
    (count_more old bytes c.saturating_add-self.result c.requires reads c.saturating_add-self.ensures)
    old.place c.place_behind-self.ensures
