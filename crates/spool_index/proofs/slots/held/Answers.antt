use Rattle.std.proofs.Common.{◌≡◌, option_map, sym, ap, ◌∙◌, arith}
use Rattle.spool_index.proofs.KeptLemmas.{within_at}
use Rattle.spool_index.proofs.IndexLemmas.{holds, not_held, find_held}
use Rattle.spool_index.proofs.slots.held.Goals as goal

pub returns-in_err-slot-clause-found : goal.returns-in_err-slot-clause-found
returns-in_err-slot-clause-found c =
    ap (option_map (λ held. held.1)) c.from_residual.ensures
    ∙ sym (not_held c.args.index.now c.args.slots.now c.args.id c.requires (sym c.in_err-slot.ensures.value))

pub bounds-slots-slot : goal.bounds-slots-slot
bounds-slots-slot c =
    let slots = c.args.slots.now in
    let at = holds c.args.index.now slots c.args.id c.in_ok-slot.field-0.now c.requires (sym c.in_ok-slot.ensures.value) in
    within_at slots c.in_ok-slot.field-0.now at.0 at.1

pub offset_bounds-slots-slot : goal.offset_bounds-slots-slot
offset_bounds-slots-slot c =
    let slots = c.args.slots.now in
    let at = holds c.args.index.now slots c.args.id c.in_ok-slot.field-0.now c.requires (sym c.in_ok-slot.ensures.value) in
    let within = within_at slots c.in_ok-slot.field-0.now at.0 at.1 in
    omega (arith, within)

pub returns-in_err-place-clause-found : goal.returns-in_err-place-clause-found
returns-in_err-place-clause-found c =
    let slots = c.args.slots.now in
    let at = holds c.args.index.now slots c.args.id c.in_ok-slot.field-0.now c.requires (sym c.in_ok-slot.ensures.value) in
    let none = c.in_err-place.was in
    absurd (let two = at.1 in cc)

pub returns-clause-found : goal.returns-clause-found
returns-clause-found c =
    let slots = c.args.slots.now in
    let at = holds c.args.index.now slots c.args.id c.in_ok-slot.field-0.now c.requires (sym c.in_ok-slot.ensures.value) in
    let found = find_held slots c.args.id c.in_ok-slot.field-0.now at.0 c.requires.distinct at.1 at.2 in
    sym c.in_ok-place.was ∙ at.1 ∙ sym found

pub returns-clause-slot : goal.returns-clause-slot
returns-clause-slot c =
    let slots = c.args.slots.now in
    let at = holds c.args.index.now slots c.args.id c.in_ok-slot.field-0.now c.requires (sym c.in_ok-slot.ensures.value) in
    let there = at.1 in
    let read = c.in_ok-place.was in
    let same : c.in_ok-place.place ≡ at.0 = cc in
    (read, ap (λ p. p.id) same ∙ at.2)
