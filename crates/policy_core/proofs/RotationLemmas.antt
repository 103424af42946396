-- The turns of a round, one by one, and how many an entrant has.
use Rattle.std.proofs.Common.{◌≡◌, ◌<◌, ◌≤◌, ◌+◌, ℕ, zero, suc, List, [], ◌∷◌, Bool, true, false, cond, ◌==◌, nat_le, min, max, length, get_or, fold, count_by, refl, ap, ◌∙◌, arith, eq-eqb, ne_eqb}
use Rattle.std.proofs.lemmas.Bool.Decides.{nat_tests}
use Rattle.std.proofs.lemmas.List.Sums.{sum_by-cons, sum_by-append}
use Rattle.policy_core.specs.Rotation as rotation
use Rattle.policy_core.specs.Rotation.{turns_from, turns_of_round, rounds_from, rotation_of, greatest}

abbrev pub turn : ℕ → ℕ → rotation.Place
turn round entrant = record { round = round; entrant = entrant }

-- the first entrant has a turn, or it has none
pub first_turn : (r i w : ℕ) (ws : List ℕ) (t : Bool) → nat_le r w ≡ t
    → turns_from r i (w ∷ ws) ≡ cond t (turn r i ∷ turns_from r (i + 1) ws) (turns_from r (i + 1) ws)
first_turn r i w ws true e = rw e refl
first_turn r i w ws false e = rw e refl

-- no weight is above the greatest
fold_max : (a : ℕ) (ws : List ℕ) → a ≤ fold max a ws
fold_max a [] = omega arith
fold_max a (w ∷ ws) = let h = fold_max (max a w) ws in omega (arith, h)

at_most_fold : (a : ℕ) (ws : List ℕ) (k : ℕ) → k < length ws → get_or ws k 0 ≤ fold max a ws
at_most_fold a [] k within = absurd (omega (arith, within))
at_most_fold a (w ∷ ws) zero within = let h = fold_max (max a w) ws in omega (arith, h)
at_most_fold a (w ∷ ws) (suc k) within = at_most_fold (max a w) ws k (omega (arith, within))

pub at_most_greatest : (ws : List ℕ) (k : ℕ) → k < length ws → get_or ws k 0 ≤ greatest ws
at_most_greatest ws k within = at_most_fold 0 ws k within

-- how many of the turns are those of one entrant
abbrev turns_of : ℕ → List rotation.Place → ℕ
turns_of k places = count_by (λ p. p.entrant == k) places

-- a turn counts where it is that entrant's
abbrev is_of : ℕ → rotation.Place → ℕ
is_of k p = cond (p.entrant == k) 1 0

count_first : (k : ℕ) (p : rotation.Place) (ps : List rotation.Place) (t : Bool)
    → turns_of k (cond t (p ∷ ps) ps) ≡ cond t (cond (p.entrant == k) 1 0) 0 + turns_of k ps
count_first k p ps true = sum_by-cons (is_of k) p ps
count_first k p ps false = omega arith

-- the turns of an entrant in a round whose first entrant has this weight
count_step : (r i w k : ℕ) (ws : List ℕ)
    → turns_of k (turns_from r i (w ∷ ws)) ≡ cond (nat_le r w) (cond (i == k) 1 0) 0 + turns_of k (turns_from r (i + 1) ws)
count_step r i w k ws = ap (turns_of k) (first_turn r i w ws _ refl) ∙ count_first k (turn r i) (turns_from r (i + 1) ws) (nat_le r w)

no_count : (t : Bool) → ◌≡◌ {A = ℕ} (cond t 0 0) 0
no_count true = refl
no_count false = refl

none_of_earlier : (r i k : ℕ) (ws : List ℕ) → k < i → turns_of k (turns_from r i ws) ≡ 0
none_of_earlier r i k [] less = refl
none_of_earlier r i k (w ∷ ws) less =
    count_step r i w k ws
    ∙ rw (ne_eqb i k (λ e. omega (arith, less, e)), no_count (nat_le r w), none_of_earlier r (i + 1) k ws (omega (arith, less))) refl

-- an entrant has one turn in a round up to its weight, and none in a later one
turns_in_round : (r i k : ℕ) (ws : List ℕ) → k < length ws → turns_of (i + k) (turns_from r i ws) ≡ cond (nat_le r (get_or ws k 0)) 1 0
turns_in_round r i k [] within = absurd (omega (arith, within))
turns_in_round r i zero (w ∷ ws) within =
    ap (λ n. turns_of n (turns_from r i (w ∷ ws))) {x = i + 0} {y = i} (omega arith)
    ∙ count_step r i w i ws
    ∙ rw (eq-eqb i i refl, none_of_earlier r (i + 1) i ws (omega arith)) (omega arith)
turns_in_round r i (suc k) (w ∷ ws) within =
    count_step r i w (i + suc k) ws
    ∙ rw (ne_eqb i (i + suc k) (λ e. omega (arith, e)), no_count (nat_le r w))
    (ap (λ n. 0 + turns_of n (turns_from r (i + 1) ws)) {x = i + suc k} {y = i + 1 + k} (omega arith)
    ∙ ap (λ n. 0 + n) (turns_in_round r (i + 1) k ws (omega (arith, within)))
    ∙ omega arith)

one_more : (r w : ℕ) (t : Bool) → nat_le r w ≡ t → ◌≡◌ {A = ℕ} (cond t 1 0 + min r (w + 1)) (min (r + 1) (w + 1))
one_more r w true e = let h : r ≤ w = grind (arith, nat_tests, e) in omega (arith, h)
one_more r w false e = let h : w < r = grind (arith, nat_tests, e) in omega (arith, h)

-- in n rounds from round r on an entrant has a turn in each up to its weight
turns_in_rounds : (ws : List ℕ) (r n k : ℕ) → k < length ws
    → turns_of k (rounds_from ws r n) + min r (get_or ws k 0 + 1) ≡ min (r + n) (get_or ws k 0 + 1)
turns_in_rounds ws r zero k within = omega arith
turns_in_rounds ws r (suc n) k within =
    let more = turns_in_rounds ws (r + 1) n k within in
    let parts = sum_by-append (is_of k) (turns_of_round ws r) (rounds_from ws (r + 1) n) in
    let here : turns_of k (turns_of_round ws r) ≡ cond (nat_le r (get_or ws k 0)) 1 0 =
    ap (λ j. turns_of j (turns_of_round ws r)) {x = k} {y = 0 + k} (omega arith) ∙ turns_in_round r 0 k ws within in
    let step = one_more r (get_or ws k 0) _ refl in
    omega (arith, more, parts, here, step)

pub turns_are_weight : (ws : List ℕ) (k : ℕ) → k < length ws → turns_of k (rotation_of ws) ≡ get_or ws k 0
unfolding rotation_of
turns_are_weight ws k within =
    let all = turns_in_rounds ws 1 (greatest ws) k within in
    let most = at_most_greatest ws k within in
    omega (arith, all, most)
