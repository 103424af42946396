use Rattle.std.proofs.Common.{◌≡◌, ◌-◌, length}
use Rattle.scripted_peer.specs.inside.Begins.{Begins}
use Rattle.scripted_peer.proofs.peer.Peer.answer.Given as goal

-- nothing is taken back
abbrev pub invariant-loop-line : goal.invariant-loop-line
invariant-loop-line l = record {
  heard : l.self.heard.items ≡ l.fn.self.heard.items;
  said : Begins l.fn.self.said.items l.self.said.items;
}

abbrev pub decreases-loop-line : goal.decreases-loop-line
decreases-loop-line l = length l.self.heard.items - l.self.progress.answered
