use Rattle.std.proofs.Common.{◌≡◌}
use Rattle.dialogue_tests.proofs.scripted_peers.first_other_answer.Given as goal

-- the link is the one that was opened
abbrev pub invariant-loop-place : goal.invariant-loop-place
invariant-loop-place l = l.link.opening ≡ l.fn.link.opening
