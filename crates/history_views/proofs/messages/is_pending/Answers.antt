use Rattle.std.proofs.Common.{◌==◌, sym, ap, ◌∙◌}
use Rattle.std.proofs.lemmas.List.Sums.{length-filter}
use Rattle.history_core.specs.Events.{settled_in, is_this}
use Rattle.history_core.specs.declared.entry.Entry.{Entry}
use Rattle.history_views.proofs.messages.is_pending.Goals as goal

pub returns : goal.returns
returns c = ap (λ n. n == 0) (c.settled_count.ensures ∙ sym (length-filter (λ (e : Entry). is_this (settled_in e.what) c.args.id) c.args.entries.now))
