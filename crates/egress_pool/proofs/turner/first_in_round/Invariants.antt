use Rattle.std.proofs.Common.{◌≡◌, find}
use Rattle.policy_core.specs.Rotation.{is_eligible}
use Rattle.egress_pool.specs.Turner.{turns_behind}
use Rattle.egress_pool.proofs.turner.first_in_round.Given as goal

abbrev pub invariant-loop-entrant : goal.invariant-loop-entrant
invariant-loop-entrant l =
    find (is_eligible l.eligible) (turns_behind l.weights l.round l.from)
    ≡ find (is_eligible l.eligible) (turns_behind l.weights l.round l.entrant)
