-- The rotation cut at a place, and the three rounds that a pick looks at.
use Rattle.std.proofs.Common.{◌≡◌, ◌<◌, ◌≤◌, ◌+◌, ◌-◌, ℕ, zero, suc, List, [], ◌∷◌, ◌++◌, Bool, true, false, cond, nat_le, length, get_or, take, drop, Option, Some, None, find, option_map, IfSome, refl, sym, ap, ◌∙◌, arith, eq-eqb, drop-cons, subst}
use Rattle.std.proofs.lemmas.List.{append_assoc, take-append-drop, length-take-le, get_or-drop, length-drop}
use Rattle.std.proofs.Math.Seq.{take-append_seam, drop-append-add}
use Rattle.std.proofs.lemmas.Bool.Decides.{nat_tests}
use Rattle.std.proofs.lemmas.Bool.{le-leb, or_parts}
use Rattle.std.proofs.lemmas.List.Folds.{find-append, list_any-append}
use Rattle.std.specs.List.{list_any, before_first, after_first, position_or_len}
use Rattle.std.specs.Option.{option_or}
use Rattle.policy_core.specs.Rotation as rotation
use Rattle.policy_core.specs.Rotation.{turns_from, turns_of_round, rounds_from, rotation_of, greatest, is_same_place, is_eligible, pick}
use Rattle.egress_pool.specs.Turner.{turns_behind, NoneEligible, IsTurn, place_of}
use Rattle.egress_pool.specs.declared.turner.Place.{Place}
use Rattle.policy_core.proofs.RotationLemmas.{turn, first_turn, at_most_greatest}
use Rattle.egress_pool.proofs.Rounds.{no_turn, none_found}

-- what has no turn in a round has none in a later one, from any entrant on
none_later : (e : List Bool) (r s : ℕ) (ws : List ℕ) → r ≤ s → find (is_eligible e) (turns_from r 0 ws) ≡ None → find (is_eligible e) (turns_from s 0 ws) ≡ None
none_later e r s ws le none =
    none_found e s 0 ws (λ k within here. let h = no_turn e r 0 ws none k within here in omega (arith, le, h))

or_later : (a b : Option rotation.Place) → (a ≡ None → b ≡ None) → option_or a b ≡ a
or_later None b h = h refl
or_later (Some x) b h = refl

-- the first turn in rounds that go on to the greatest weight is in the first of them
pub first_of_rounds : (e : List Bool) (ws : List ℕ) (r n : ℕ) → greatest ws < r + n
    → find (is_eligible e) (rounds_from ws r n) ≡ find (is_eligible e) (turns_of_round ws r)
first_of_rounds e ws r zero past =
    sym (none_found e r 0 ws (λ k within here. let h = at_most_greatest ws k within in omega (arith, past, h)))
first_of_rounds e ws r (suc n) past =
    find-append (is_eligible e) (turns_of_round ws r) (rounds_from ws (r + 1) n)
    ∙ ap (option_or (find (is_eligible e) (turns_of_round ws r))) (first_of_rounds e ws (r + 1) n (omega (arith, past)))
    ∙ or_later _ _ (none_later e r (r + 1) ws (omega arith))

-- rounds in two parts
rounds-add : (ws : List ℕ) (r m n : ℕ) → rounds_from ws r (m + n) ≡ rounds_from ws r m ++ rounds_from ws (r + m) n
rounds-add ws r zero n = ap (rounds_from ws r) {x = 0 + n} {y = n} (omega arith) ∙ ap (λ s. rounds_from ws s n) {x = r} {y = r + 0} (omega arith)
rounds-add ws r (suc m) n =
    ap (rounds_from ws r) {x = suc m + n} {y = suc (m + n)} (omega arith)
    ∙ ap (λ l. turns_of_round ws r ++ l) (rounds-add ws (r + 1) m n ∙ ap (λ s. rounds_from ws (r + 1) m ++ rounds_from ws s n) {x = r + 1 + m} {y = r + suc m} (omega arith))
    ∙ sym (append_assoc (turns_of_round ws r) (rounds_from ws (r + 1) m) (rounds_from ws (r + suc m) n))

-- one entrant more in front of a round that is cut
cut_behind : (r i x w : ℕ) (xs ys : List ℕ) (t : Bool) → nat_le r x ≡ t
    → turns_from r (i + 1) (xs ++ w ∷ ys) ≡ turns_from r (i + 1) xs ++ turn r (i + 1 + length xs) ∷ turns_from r (i + 1 + length xs + 1) ys
    → turns_from r i (x ∷ (xs ++ w ∷ ys)) ≡ turns_from r i (x ∷ xs) ++ turn r (i + 1 + length xs) ∷ turns_from r (i + 1 + length xs + 1) ys
cut_behind r i x w xs ys true e cut =
    first_turn r i x (xs ++ w ∷ ys) true e ∙ rw (first_turn r i x xs true e) (ap (λ l. turn r i ∷ l) cut)
cut_behind r i x w xs ys false e cut =
    first_turn r i x (xs ++ w ∷ ys) false e ∙ rw (first_turn r i x xs false e) cut

-- a round cut at an entrant that has a turn in it
turns-cut : (r i : ℕ) (xs : List ℕ) (w : ℕ) (ys : List ℕ) → r ≤ w
    → turns_from r i (xs ++ w ∷ ys) ≡ turns_from r i xs ++ turn r (i + length xs) ∷ turns_from r (i + length xs + 1) ys
turns-cut r i [] w ys le =
    first_turn r i w ys true (le-leb r w le)
    ∙ ap (λ k. turn r k ∷ turns_from r (k + 1) ys) {x = i} {y = i + 0} (omega arith)
turns-cut r i (x ∷ xs) w ys le =
    cut_behind r i x w xs ys _ refl (turns-cut r (i + 1) xs w ys le)
    ∙ ap (λ k. turns_from r i (x ∷ xs) ++ turn r k ∷ turns_from r (k + 1) ys) {x = i + 1 + length xs} {y = i + suc (length xs)} (omega arith)

-- the turn of an entrant is not among those of rounds before, nor of entrants before it
different_round : (r s k : ℕ) (j : ℕ) → s < r → is_same_place (turn r k) (turn s j) ≡ false
different_round r s k j less = grind (arith, nat_tests)

different_entrant : (r k : ℕ) (j : ℕ) → j < k → is_same_place (turn r k) (turn r j) ≡ false
different_entrant r k j less = grind (arith, nat_tests)

none_among : (p q : rotation.Place) (xs : List rotation.Place) (t : Bool) → is_same_place p q ≡ false → list_any (is_same_place p) xs ≡ false
    → list_any (is_same_place p) (cond t (q ∷ xs) xs) ≡ false
none_among p q xs true here rest = rw (here, rest) refl
none_among p q xs false here rest = rest

not_in_round : (r k s i : ℕ) (ws : List ℕ) → s < r → list_any (is_same_place (turn r k)) (turns_from s i ws) ≡ false
not_in_round r k s i [] less = refl
not_in_round r k s i (w ∷ ws) less =
    ap (list_any (is_same_place (turn r k))) (first_turn s i w ws _ refl)
    ∙ none_among (turn r k) (turn s i) (turns_from s (i + 1) ws) _ (different_round r s k i less) (not_in_round r k s (i + 1) ws less)

not_in_rounds : (r k s n : ℕ) (ws : List ℕ) → s + n ≤ r → list_any (is_same_place (turn r k)) (rounds_from ws s n) ≡ false
not_in_rounds r k s zero ws le = refl
not_in_rounds r k s (suc n) ws le =
    list_any-append (is_same_place (turn r k)) (turns_of_round ws s) (rounds_from ws (s + 1) n)
    ∙ rw (not_in_round r k s 0 ws (omega (arith, le)), not_in_rounds r k (s + 1) n ws (omega (arith, le))) refl

not_before : (r k i : ℕ) (ws : List ℕ) → i + length ws ≤ k → list_any (is_same_place (turn r k)) (turns_from r i ws) ≡ false
not_before r k i [] le = refl
not_before r k i (w ∷ ws) le =
    ap (list_any (is_same_place (turn r k))) (first_turn r i w ws _ refl)
    ∙ none_among (turn r k) (turn r i) (turns_from r (i + 1) ws) _ (different_entrant r k i (omega (arith, le))) (not_before r k (i + 1) ws (omega (arith, le)))

-- a list cut at the first element that passes
first_at : (p : rotation.Place → Bool) (xs : List rotation.Place) (x : rotation.Place) (ys : List rotation.Place)
    → list_any p xs ≡ false → p x ≡ true → position_or_len p (xs ++ x ∷ ys) ≡ length xs
first_at p [] x ys none here = rw here refl
first_at p (z ∷ zs) x ys none here =
    let parts = or_parts (p z) (list_any p zs) none in
    rw parts.0 (ap (λ n. 1 + n) (first_at p zs x ys parts.1 here) ∙ omega arith)

pub before_is : (p : rotation.Place → Bool) (xs : List rotation.Place) (x : rotation.Place) (ys : List rotation.Place)
    → list_any p xs ≡ false → p x ≡ true → before_first p (xs ++ x ∷ ys) ≡ xs
before_is p xs x ys none here = ap (λ n. take n (xs ++ x ∷ ys)) (first_at p xs x ys none here) ∙ take-append_seam xs (x ∷ ys)

pub after_is : (p : rotation.Place → Bool) (xs : List rotation.Place) (x : rotation.Place) (ys : List rotation.Place)
    → list_any p xs ≡ false → p x ≡ true → after_first p (xs ++ x ∷ ys) ≡ ys
after_is p xs x ys none here = ap (λ n. drop (n + 1) (xs ++ x ∷ ys)) (first_at p xs x ys none here) ∙ drop-append-add xs (x ∷ ys) 1

-- a round cut at an entrant, by its number
round_cut : (ws : List ℕ) (r k : ℕ) → k < length ws → r ≤ get_or ws k 0
    → turns_of_round ws r ≡ turns_from r 0 (take k ws) ++ turn r k ∷ turns_behind ws r (k + 1)
round_cut ws r k within le =
    let apart : ws ≡ take k ws ++ (get_or ws k 0 ∷ drop (k + 1) ws) =
    sym (take-append-drop k ws) ∙ ap (λ l. take k ws ++ l) (drop-cons ws k 0 within ∙ ap (λ n. get_or ws k 0 ∷ drop n ws) {x = suc k} {y = k + 1} (omega arith)) in
    let place : 0 + length (take k ws) ≡ k = omega (arith, length-take-le k ws (omega (arith, within))) in
    ap (turns_from r 0) apart ∙ turns-cut r 0 (take k ws) (get_or ws k 0) (drop (k + 1) ws) le
    ∙ ap (λ n. turns_from r 0 (take k ws) ++ turn r n ∷ turns_from r (n + 1) (drop (k + 1) ws)) place

-- rounds cut at a turn
rounds-cut : (ws : List ℕ) (m n k : ℕ) → k < length ws → m + 1 ≤ get_or ws k 0
    → rounds_from ws 1 (m + suc n)
    ≡ (rounds_from ws 1 m ++ turns_from (m + 1) 0 (take k ws)) ++ turn (m + 1) k ∷ (turns_behind ws (m + 1) (k + 1) ++ rounds_from ws (m + 1 + 1) n)
rounds-cut ws m n k within le =
    let front = rounds_from ws 1 m in
    let rest = rounds_from ws (m + 1 + 1) n in
    rounds-add ws 1 m (suc n)
    ∙ ap (λ r. front ++ rounds_from ws r (suc n)) {x = 1 + m} {y = m + 1} (omega arith)
    ∙ ap (λ l. front ++ (l ++ rest)) (round_cut ws (m + 1) k within le)
    ∙ ap (λ l. front ++ l) (append_assoc (turns_from (m + 1) 0 (take k ws)) (turn (m + 1) k ∷ turns_behind ws (m + 1) (k + 1)) rest)
    ∙ sym (append_assoc front (turns_from (m + 1) 0 (take k ws)) (turn (m + 1) k ∷ (turns_behind ws (m + 1) (k + 1) ++ rest)))

or_again : (a b : Option rotation.Place) → option_or b a ≡ option_or b (option_or a b)
or_again None None = refl
or_again None (Some y) = refl
or_again (Some x) None = refl
or_again (Some x) (Some y) = refl

or_assoc : (a b c : Option rotation.Place) → option_or (option_or a b) c ≡ option_or a (option_or b c)
or_assoc None b c = refl
or_assoc (Some x) b c = refl

-- what is found behind a place of a list, cyclically: what is found in the rest of the list, or else in all of it
pick_cut : (e : List Bool) (xs : List rotation.Place) (x : rotation.Place) (ys all : List rotation.Place)
    → all ≡ xs ++ x ∷ ys → list_any (is_same_place x) xs ≡ false → is_same_place x x ≡ true
    → pick all e (Some x) ≡ option_or (find (is_eligible e) ys) (find (is_eligible e) all)
unfolding pick
pick_cut e xs x ys all cut none here =
    let same = is_same_place x in
    ap (λ l. find (is_eligible e) (after_first same l ++ (before_first same l ++ x ∷ []))) cut
    ∙ ap (λ l. find (is_eligible e) (l ++ (before_first same (xs ++ x ∷ ys) ++ x ∷ []))) (after_is same xs x ys none here)
    ∙ ap (λ l. find (is_eligible e) (ys ++ (l ++ x ∷ []))) (before_is same xs x ys none here)
    ∙ find-append (is_eligible e) ys (xs ++ x ∷ [])
    ∙ or_again (find (is_eligible e) (xs ++ x ∷ [])) (find (is_eligible e) ys)
    ∙ ap (option_or (find (is_eligible e) ys))
    (sym (find-append (is_eligible e) (xs ++ x ∷ []) ys)
    ∙ ap (find (is_eligible e)) (append_assoc xs (x ∷ []) ys ∙ sym cut))

same_place : (r k : ℕ) → is_same_place (turn r k) (turn r k) ≡ true
same_place r k = rw (eq-eqb r r refl, eq-eqb k k refl) refl

not_earlier : (ws : List ℕ) (m k : ℕ) → k < length ws
    → list_any (is_same_place (turn (m + 1) k)) (rounds_from ws 1 m ++ turns_from (m + 1) 0 (take k ws)) ≡ false
not_earlier ws m k within =
    list_any-append (is_same_place (turn (m + 1) k)) (rounds_from ws 1 m) (turns_from (m + 1) 0 (take k ws))
    ∙ rw (not_in_rounds (m + 1) k 1 m ws (omega arith), not_before (m + 1) k 0 (take k ws) (omega (arith, length-take-le k ws (omega (arith, within))))) refl

-- a pick without an earlier one looks at the first round
pub pick_first : (e : List Bool) (ws : List ℕ) → pick (rotation_of ws) e None ≡ find (is_eligible e) (turns_of_round ws 1)
unfolding pick rotation_of
pick_first e ws = first_of_rounds e ws 1 (greatest ws) (omega arith)

pick_in : (e : List Bool) (ws : List ℕ) (m n k : ℕ) → k < length ws → m + 1 ≤ get_or ws k 0 → greatest ws ≡ m + suc n
    → pick (rotation_of ws) e (Some (turn (m + 1) k))
    ≡ option_or (find (is_eligible e) (turns_behind ws (m + 1) (k + 1))) (option_or (find (is_eligible e) (turns_of_round ws (m + 1 + 1))) (find (is_eligible e) (turns_of_round ws 1)))
unfolding rotation_of pick
pick_in e ws m n k within le rounds =
    let front = rounds_from ws 1 m ++ turns_from (m + 1) 0 (take k ws) in
    let rest = turns_behind ws (m + 1) (k + 1) in
    let later = rounds_from ws (m + 1 + 1) n in
    pick_cut e front (turn (m + 1) k) (rest ++ later) (rotation_of ws) (ap (rounds_from ws 1) rounds ∙ rounds-cut ws m n k within le)
    (not_earlier ws m k within) (same_place (m + 1) k)
    ∙ ap (option_or (find (is_eligible e) (rest ++ later))) (pick_first e ws)
    ∙ ap (λ o. option_or o (find (is_eligible e) (turns_of_round ws 1)))
    (find-append (is_eligible e) rest later
    ∙ ap (option_or (find (is_eligible e) rest)) (first_of_rounds e ws (m + 1 + 1) n (omega (arith, rounds))))
    ∙ or_assoc (find (is_eligible e) rest) (find (is_eligible e) (turns_of_round ws (m + 1 + 1))) (find (is_eligible e) (turns_of_round ws 1))

-- a pick behind an earlier one looks at the rest of that one's round, at the next round and at the first
pub pick_behind : (e : List Bool) (ws : List ℕ) (last : Place) → IsTurn ws last
    → pick (rotation_of ws) e (Some (place_of last))
    ≡ option_or (find (is_eligible e) (turns_behind ws last.round (last.entrant + 1))) (option_or (find (is_eligible e) (turns_behind ws (last.round + 1) 0)) (find (is_eligible e) (turns_behind ws 1 0)))
pick_behind e ws last is =
    let k = last.entrant in
    let back : last.round - 1 + 1 ≡ last.round = omega (arith, is.round) in
    let P : ℕ → Type 0 = λ r. pick (rotation_of ws) e (Some (turn r k)) ≡ option_or (find (is_eligible e) (turns_behind ws r (k + 1))) (option_or (find (is_eligible e) (turns_of_round ws (r + 1))) (find (is_eligible e) (turns_of_round ws 1))) in
    let most = at_most_greatest ws k is.entrant in
    subst P back (pick_in e ws (last.round - 1) (greatest ws - last.round) k is.entrant (omega (arith, is.round, is.weight)) (omega (arith, is.round, is.weight, most)))

-- no entrant that is eligible has a turn
none_in_first : (e : List Bool) (ws : List ℕ) → find (is_eligible e) (turns_of_round ws 1) ≡ None → NoneEligible ws e
none_in_first e ws none k within here =
    let low = no_turn e 1 0 ws none k within (ap (λ n. get_or e n false) {x = 0 + k} {y = k} (omega arith) ∙ here) in
    omega (arith, low)

none_in_rest : (e : List Bool) (ws : List ℕ) (r i : ℕ) → 1 ≤ r → NoneEligible ws e → find (is_eligible e) (turns_behind ws r i) ≡ None
none_in_rest e ws r i from none =
    none_found e r i (drop i ws) (λ k within here.
    let long = length-drop i ws in
    let low = none (i + k) (omega (arith, within, long)) here in
    rw (get_or-drop i ws k 0) (omega (arith, from, low)))

or_none : (a b : Option rotation.Place) → option_or a b ≡ None → b ≡ None
or_none None b is = is
or_none (Some x) b is = absurd cc

pub no_pick : (e : List Bool) (ws : List ℕ) (last : Option Place) → IfSome last (IsTurn ws)
    → pick (rotation_of ws) e (option_map place_of last) ≡ None → NoneEligible ws e
no_pick e ws None is none = none_in_first e ws (sym (pick_first e ws) ∙ none)
no_pick e ws (Some p) is none = none_in_first e ws (or_none _ _ (or_none _ _ (sym (pick_behind e ws p is) ∙ none)))

pub none_to_pick : (e : List Bool) (ws : List ℕ) (last : Option Place) → IfSome last (IsTurn ws)
    → NoneEligible ws e → pick (rotation_of ws) e (option_map place_of last) ≡ None
none_to_pick e ws None is none = pick_first e ws ∙ none_in_rest e ws 1 0 (omega arith) none
none_to_pick e ws (Some p) is none =
    pick_behind e ws p is
    ∙ rw (none_in_rest e ws p.round (p.entrant + 1) is.round none, none_in_rest e ws (p.round + 1) 0 (omega arith) none, none_in_rest e ws 1 0 (omega arith) none) refl
