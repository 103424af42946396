use Rattle.std.proofs.Common.{◌≡◌, ◌≤◌, ◌+◌, ◌∷◌, ◌++◌, [], List, ap, arith, subst, sym, ◌∙◌, vec_len, vec_capacity}
use Rattle.history_core.specs.declared.entry.Entry.{Entry}
use Rattle.history_core.specs.Legal.{MayFollow}
use Rattle.history_automation.specs.Known.{IsKnown}
use Rattle.sending_state.specs.State.{State}
use Rattle.sending_state.specs.Kept.{Keeps}
use Rattle.sending_state.proofs.Growth.{grown}
use Rattle.sending_state.proofs.state.SendingState.take.Goals as goal

pub invariant_of-self-2 : goal.invariant_of-self-2
invariant_of-self-2 c =
    let policy = c.self.inside.policy in
    let h = c.self.inside.entries.items in
    let e = c.args.entry in
    let follows : MayFollow policy h e = subst (λ (s : State). MayFollow s.policy s.history e) (sym c.self.view_is) c.requires in
    let known : IsKnown policy (h ++ e ∷ []) c.add.new.self =
    subst (λ (g : List Entry). IsKnown policy (g ++ e ∷ []) c.add.new.self) (c.deref.ensures.value ∙ c.in_ok-reserve.ensures.items) c.in_ok-add.ensures.ok in
    let pushed : c.push_reserved.new.self.items ≡ h ++ e ∷ [] =
    c.push_reserved.ensures.items ∙ ap (λ (g : List Entry). g ++ e ∷ []) c.in_ok-reserve.ensures.items in
    let room : vec_len c.push_reserved.new.self + c.self.inside.owed ≤ vec_capacity c.push_reserved.new.self =
    omega (arith, c.push_reserved.ensures.len, c.push_reserved.ensures.capacity, c.in_ok-reserve.ensures.len, c.in_ok-reserve.ensures.ok) in (
      subst (λ (g : List Entry). Keeps policy g c.self.inside.examined c.add.new.self c.self.inside.found) (sym pushed)
          (grown policy h c.self.inside.examined c.self.inside.known c.add.new.self c.self.inside.found e c.self.invariant.0 follows known),
      room,
    )
