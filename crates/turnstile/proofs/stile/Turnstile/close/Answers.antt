use Rattle.std.proofs.Common.{◌≡◌, ℕ, zero, suc, ◌<◌, List, [], ◌∷◌, Bool, false, slice_index_or, slice_set, arith, refl, sym, ap, ◌∙◌}
use Rattle.turnstile.proofs.Seats.{found}
use Rattle.turnstile.proofs.stile.Turnstile.close.Goals as goal

pub unwrap-requires : goal.unwrap-requires
unwrap-requires g c = (found g.T.Chronicle.shown _ _ _ _ _ _ c.take_seat.ensures.view c.close_with-closed.ensures.values.2 c.requires.first c.args.pass.resting.0 c.requires.idle c.requires.met c.take-slot.ensures.value).0

pub returns : goal.returns
returns g c = let h = (found g.T.Chronicle.shown _ _ _ _ _ _ c.take_seat.ensures.view c.close_with-closed.ensures.values.2 c.requires.first c.args.pass.resting.0 c.requires.idle c.requires.met c.take-slot.ensures.value).1 c.unwrap.result c.unwrap.ensures in
    record { stem = sym h.0.stem; prefix = h.0.begins; own = h.0.own; others = h.1; numbers = h.0.counts }

pub take-slot-requires : goal.take-slot-requires
take-slot-requires g c = let one = c.close_with-closed.ensures.counts.1 ∙ c.args.self.sized.1 in
    (omega (arith, one), c.close_with-closed.ensures.values.1 0 (omega arith) (omega (arith, one)))

-- a list of one, whose first was set
none_left : (l : List Bool) (k : ℕ) → k < 1 → slice_index_or (slice_set l 0 false) k false ≡ false
none_left [] k low = refl
none_left (x ∷ xs) zero low = refl
none_left (x ∷ xs) (suc k) low = absurd (omega (arith, low))

pub free-requires : goal.free-requires
free-requires g c = λ k low. let one = c.close_with-closed.ensures.counts.1 ∙ c.args.self.sized.1 in let others = c.take-slot.ensures.others in
    ap (λ l. slice_index_or l k false) others.1 ∙ none_left _ k (omega (arith, low, one, others.2))
