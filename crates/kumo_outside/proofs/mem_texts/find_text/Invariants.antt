use Rattle.std.proofs.Common.{◌≡◌, drop}
use Rattle.kumo_outside.specs.Devices.{text_at}
use Rattle.kumo_outside.proofs.mem_texts.find_text.Given as goal

-- the texts passed have another name
abbrev pub invariant-loop-found : goal.invariant-loop-found
invariant-loop-found l = text_at l.texts l.name ≡ text_at (drop l.found-index l.texts) l.name
