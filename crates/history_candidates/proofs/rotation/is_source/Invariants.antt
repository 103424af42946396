use Rattle.std.proofs.Common.{◌≡◌, map, take, bytes_eq}
use Rattle.history_candidates.proofs.rotation.is_source.Given as goal

abbrev pub invariant-loop-entrant : goal.invariant-loop-entrant
invariant-loop-entrant l = l.flags.items ≡ map (λ e. bytes_eq e.source l.source) (take l.entrant-index l.entrant-items)
