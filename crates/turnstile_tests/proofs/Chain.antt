-- Whom the passes of the tests met.
use Rattle.std.proofs.Common.{◌≡◌, ℕ, zero, suc, ◌<◌, [], ◌∷◌, ◌++◌, refl, Contains, arith, subst, sym}
use Rattle.turnstile.specs.Passes.{view}
use Rattle.turnstile.specs.Views.{joined, AllMet}
use Rattle.turnstile.specs.declared.view.View.{View}
use Rattle.turnstile_tests.specs.inside.Alone.{Four, both_joined}

-- the four passes from `a` on met nobody
pub record AreNumbered (a b c d : ℕ) (q : Four) : Type 0 where
  pub numbers : ((view q.0.0).number ≡ a) × ((view q.0.1).number ≡ b) × ((view q.1.0).number ≡ c) × ((view q.1.1).number ≡ d)
  pub met : ((view q.0.0).met ≡ []) × ((view q.0.1).met ≡ []) × ((view q.1.0).met ≡ []) × ((view q.1.1).met ≡ [])

abbrev pub four_joined : Four → View
four_joined q = joined (both_joined q.0) (both_joined q.1)

four_met : (a b c d : ℕ) (q : Four) → AreNumbered a b c d q → (four_joined q).met ≡ b ∷ c ∷ d ∷ []
four_met a b c d q h = let n = h.numbers in let m = h.met in λ i. (m.0 i ++ n.1 i ∷ m.1 i) ++ n.2 i ∷ (m.2 i ++ n.3 i ∷ m.3 i)

in_order : (w : ℕ) → 0 < w → w < 8 → Contains (1 ∷ 2 ∷ 3 ∷ 4 ∷ 5 ∷ 6 ∷ 7 ∷ []) w
in_order zero some few = absurd (omega arith)
in_order (suc zero) some few = (0, omega arith, refl)
in_order (suc (suc zero)) some few = (1, omega arith, refl)
in_order (suc (suc (suc zero))) some few = (2, omega arith, refl)
in_order (suc (suc (suc (suc zero)))) some few = (3, omega arith, refl)
in_order (suc (suc (suc (suc (suc zero))))) some few = (4, omega arith, refl)
in_order (suc (suc (suc (suc (suc (suc zero)))))) some few = (5, omega arith, refl)
in_order (suc (suc (suc (suc (suc (suc (suc zero))))))) some few = (6, omega arith, refl)
in_order (suc (suc (suc (suc (suc (suc (suc (suc w)))))))) some few = absurd (omega arith)

pub eight_met : (p q : Four) → AreNumbered 0 1 2 3 p → AreNumbered 4 5 6 7 q → (view p.0.0).given ≡ 8 → AllMet (joined (four_joined p) (four_joined q))
eight_met p q x y given w some few = subst (λ ms. Contains ms w) (sym met) (in_order w some (subst (λ n. w < n) given few))
  where
    met : (joined (four_joined p) (four_joined q)).met ≡ 1 ∷ 2 ∷ 3 ∷ 4 ∷ 5 ∷ 6 ∷ 7 ∷ []
    met = λ i. four_met 0 1 2 3 p x i ++ y.numbers.0 i ∷ four_met 4 5 6 7 q y i
