-- The turns of a round, one by one, and the first of an eligible entrant among them.
use Rattle.std.proofs.Common.{◌≡◌, ◌<◌, ◌+◌, ℕ, zero, suc, List, [], ◌∷◌, Bool, true, false, cond, nat_le, length, get_or, Option, Some, None, find, refl, sym, ap, ◌∙◌, arith}
use Rattle.std.proofs.lemmas.Bool.Decides.{nat_tests}
use Rattle.policy_core.specs.Rotation as rotation
use Rattle.policy_core.specs.Rotation.{turns_from, is_eligible}
use Rattle.policy_core.proofs.RotationLemmas.{turn, first_turn}

find-cond : (p : rotation.Place → Bool) (x : rotation.Place) (xs : List rotation.Place) (t : Bool)
    → find p (cond t (x ∷ xs) xs) ≡ cond t (cond (p x) (Some x) (find p xs)) (find p xs)
find-cond p x xs true = refl
find-cond p x xs false = refl

find_step : (e : List Bool) (r i w : ℕ) (ws : List ℕ)
    → find (is_eligible e) (turns_from r i (w ∷ ws))
    ≡ cond (nat_le r w) (cond (get_or e i false) (Some (turn r i)) (find (is_eligible e) (turns_from r (i + 1) ws))) (find (is_eligible e) (turns_from r (i + 1) ws))
find_step e r i w ws =
    ap (find (is_eligible e)) (first_turn r i w ws _ refl) ∙ find-cond (is_eligible e) (turn r i) (turns_from r (i + 1) ws) (nat_le r w)

-- no entrant that is eligible has a turn in the round
abbrev pub NoTurn : List Bool → ℕ → ℕ → List ℕ → Type 0
NoTurn e r i ws = (k : ℕ) → k < length ws → get_or e (i + k) false ≡ true → get_or ws k 0 < r

none_at : (e : List Bool) (r i w : ℕ) (f : Option rotation.Place) (t b : Bool) → nat_le r w ≡ t → get_or e i false ≡ b
    → cond t (cond b (Some (turn r i)) f) f ≡ None → (b ≡ true → w < r) × (f ≡ None)
none_at e r i w f true true test here is = absurd cc
none_at e r i w f true false test here is = (λ no. absurd cc, is)
none_at e r i w f false b test here is = (λ _. grind (arith, nat_tests, test), is)

pub no_turn : (e : List Bool) (r i : ℕ) (ws : List ℕ) → find (is_eligible e) (turns_from r i ws) ≡ None → NoTurn e r i ws
no_turn e r i [] is k within here = absurd (omega (arith, within))
no_turn e r i (w ∷ ws) is zero within here =
    (none_at e r i w _ _ _ refl refl (sym (find_step e r i w ws) ∙ is)).0 (ap (λ n. get_or e n false) {x = i} {y = i + 0} (omega arith) ∙ here)
no_turn e r i (w ∷ ws) is (suc k) within here =
    no_turn e r (i + 1) ws (none_at e r i w _ _ _ refl refl (sym (find_step e r i w ws) ∙ is)).1 k (omega (arith, within))
    (ap (λ n. get_or e n false) {x = i + 1 + k} {y = i + suc k} (omega arith) ∙ here)

none_by : (e : List Bool) (r i w : ℕ) (f : Option rotation.Place) (t b : Bool) → nat_le r w ≡ t → get_or e i false ≡ b
    → (b ≡ true → w < r) → f ≡ None → cond t (cond b (Some (turn r i)) f) f ≡ None
none_by e r i w f true true test here low rest = let l = low refl in absurd (grind (arith, nat_tests, test, l))
none_by e r i w f true false test here low rest = rest
none_by e r i w f false b test here low rest = rest

pub none_found : (e : List Bool) (r i : ℕ) (ws : List ℕ) → NoTurn e r i ws → find (is_eligible e) (turns_from r i ws) ≡ None
none_found e r i [] none = refl
none_found e r i (w ∷ ws) none =
    find_step e r i w ws
    ∙ none_by e r i w _ _ _ refl refl (λ here. none 0 (omega arith) (ap (λ n. get_or e n false) {x = i + 0} {y = i} (omega arith) ∙ here))
    (none_found e r (i + 1) ws (λ k within here. none (suc k) (omega (arith, within)) (ap (λ n. get_or e n false) {x = i + suc k} {y = i + 1 + k} (omega arith) ∙ here)))
