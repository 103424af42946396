use Rattle.std.proofs.Common.{◌≤◌, ◌<◌, ◌+◌, ◌-◌, List, arith, subst, sym, vec_len, vec_capacity}
use Rattle.history_core.specs.declared.entry.Entry.{Entry}
use Rattle.history_core.specs.Legal.{MayFollow}
use Rattle.sending_state.specs.State.{State}
use Rattle.sending_state.specs.Kept.{Keeps}
use Rattle.sending_state.proofs.Growth.{grown, known_still}
use Rattle.sending_state.proofs.state.SendingState.take_owed.Goals as goal

pub invariant_of-self : goal.invariant_of-self
invariant_of-self c =
    let policy = c.self.inside.policy in
    let h = c.self.inside.entries.items in
    let known = c.self.inside.known in
    let e = c.args.entry in
    let follows : MayFollow policy h e = subst (λ (s : State). MayFollow s.policy s.history e) (sym c.self.view_is) c.requires.follows in
    let some : 0 < c.self.inside.owed = subst (λ (s : State). 0 < s.owed) (sym c.self.view_is) c.requires.room in
    let room : vec_len c.push_reserved.new.self + (c.self.inside.owed - 1) ≤ vec_capacity c.push_reserved.new.self =
    omega (arith, c.push_reserved.ensures.len, c.push_reserved.ensures.capacity, c.self.invariant.1, some) in (
      subst (λ (g : List Entry). Keeps policy g c.self.inside.examined known c.self.inside.found) (sym c.push_reserved.ensures.items)
          (grown policy h c.self.inside.examined known known c.self.inside.found e c.self.invariant.0 follows
          (known_still policy h e known c.self.invariant.0.known_is c.requires.owed)),
      room,
    )
