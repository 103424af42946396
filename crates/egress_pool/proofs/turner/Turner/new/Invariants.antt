use Rattle.std.proofs.Common.{◌≡◌, map, take}
use Rattle.egress_pool.proofs.turner.Turner.new.Given as goal

abbrev pub invariant-loop-entrant : goal.invariant-loop-entrant
invariant-loop-entrant l = l.weights.items ≡ map (λ e. e.weight) (take l.entrant-index l.entrant-items)
