-- Passes as the tests have them: of this turnstile, without the turn; with a number, before they met any.
use Rattle.std.specs.Prelude.{◌≡◌, ◌≢◌, ℕ, ◌+◌, []}
use Rattle.atomic_table.specs.Seated.{TableId}
use Rattle.turnstile.specs.declared.pass.Pass.{Pass}
use Rattle.turnstile.specs.declared.view.View.{View}
use Rattle.turnstile.specs.Passes.{view, stile_of, IsIdle, KeepsPlace}
use Rattle.turnstile.specs.Views.{joined}

abbrev pub Pair : Type 0
Pair = Pass × Pass

abbrev pub Four : Type 0
Four = Pair × Pair

abbrev pub IsReady : TableId → Pass → Type 0
IsReady z p = (stile_of p ≡ z) × IsIdle p

abbrev pub BothReady : TableId → Pair → Type 0
BothReady z p = IsReady z p.0 × IsReady z p.1

abbrev pub AllReady : TableId → Four → Type 0
AllReady z q = BothReady z q.0 × BothReady z q.1

abbrev pub IsAlone : TableId → ℕ → Pass → Type 0
IsAlone z n p = IsReady z p × ((view p).number ≡ n) × ((view p).met ≡ [])

-- the passes `n` and `n + 1`
abbrev pub BothAlone : TableId → ℕ → Pair → Type 0
BothAlone z n p = IsAlone z n p.0 × IsAlone z (n + 1) p.1

abbrev pub KeepsBoth : Pair → Pair → Type 0
KeepsBoth p q = KeepsPlace p.0 q.0 × KeepsPlace p.1 q.1

abbrev pub KeepsAll : Four → Four → Type 0
KeepsAll p q = KeepsBoth p.0 q.0 × KeepsBoth p.1 q.1

-- it is not the first pass, which is never met
abbrev pub IsSecond : Pass → Type 0
IsSecond p = (view p).number ≢ 0

abbrev pub AreSeconds : Four → Type 0
AreSeconds q = IsSecond q.0.1 × IsSecond q.1.0 × IsSecond q.1.1

-- the first of two passes, once it has met the second
abbrev pub both_joined : Pair → View
both_joined p = joined (view p.0) (view p.1)
