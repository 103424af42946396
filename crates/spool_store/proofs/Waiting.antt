-- Pending messages without the places of their records, and the bytes that they may need.
use Rattle.std.proofs.Common.{◌≡◌, ℕ, ◌+◌, ◌*◌, ◌≤◌, List, [], ◌∷◌, ◌++◌, length, map, Bool, true, false, ◌==◌, ◌||◌, refl, sym, ◌∙◌, ap, arith, cond}
use Rattle.std.specs.Prelude.{sum_by}
use Rattle.std.proofs.lemmas.List.{length-map}
use Rattle.std.proofs.lemmas.List.Sums.{sum_by-append}
use Rattle.spool_index.specs.declared.place.Place.{Place}
use Rattle.spool_index.specs.Places.{ids_of, has, without, with_delay, delayed, record_size, live_cost, compacted_cost, live_size, compacted_size}
use Rattle.spool_index.proofs.PlaceLemmas.{sum_between}
use Rattle.spool_store.specs.Store.{unplaced}

pub has-unplaced : (id : ℕ) (ps : List Place) → has id (map unplaced ps) ≡ has id ps
has-unplaced id [] = refl
has-unplaced id (p ∷ ps) = ap (λ (t : Bool). (p.id == id) || t) (has-unplaced id ps)

pub ids-unplaced : (ps : List Place) → ids_of (map unplaced ps) ≡ ids_of ps
ids-unplaced [] = refl
ids-unplaced (p ∷ ps) = ap (λ (l : List ℕ). p.id ∷ l) (ids-unplaced ps)

pub without-unplaced : (id : ℕ) (ps : List Place) → map unplaced (without id ps) ≡ without id (map unplaced ps)
without-unplaced id [] = refl
without-unplaced id (p ∷ ps) = by (p.id == id) (without-unplaced id ps)
  where
    by : (t : Bool) → map unplaced (without id ps) ≡ without id (map unplaced ps) → map unplaced (cond t ps (p ∷ without id ps)) ≡ cond t (map unplaced ps) (unplaced p ∷ without id (map unplaced ps))
    by true same = refl
    by false same = ap (λ (l : List Place). unplaced p ∷ l) same

pub delay-unplaced : (id failures due : ℕ) (ps : List Place) → map unplaced (with_delay id failures due ps) ≡ with_delay id failures due (map unplaced ps)
delay-unplaced id failures due [] = refl
delay-unplaced id failures due (p ∷ ps) = by (p.id == id) (delay-unplaced id failures due ps)
  where
    by : (t : Bool) → map unplaced (with_delay id failures due ps) ≡ with_delay id failures due (map unplaced ps)
        → map unplaced (cond t (delayed failures due p ∷ ps) (p ∷ with_delay id failures due ps)) ≡ cond t (delayed failures due (unplaced p) ∷ map unplaced ps) (unplaced p ∷ with_delay id failures due (map unplaced ps))
    by true same = refl
    by false same = ap (λ (l : List Place). unplaced p ∷ l) same

sum-unplaced : (f : Place → ℕ) → ((p : Place) → f (unplaced p) ≡ f p) → (ps : List Place) → sum_by f (map unplaced ps) ≡ sum_by f ps
sum-unplaced f same [] = refl
sum-unplaced f same (p ∷ ps) = omega (arith, same p, sum-unplaced f same ps, sum_between f [] p ps, sum_between f [] (unplaced p) (map unplaced ps))

pub live-unplaced : (ps : List Place) → live_size (map unplaced ps) ≡ live_size ps
live-unplaced ps = ap (λ (n : ℕ). 17 + n) (sum-unplaced live_cost (λ p. refl) ps)

pub compacted-unplaced : (ps : List Place) → compacted_size (map unplaced ps) ≡ compacted_size ps
compacted-unplaced ps = ap (λ (n : ℕ). 17 + n) (sum-unplaced compacted_cost (λ p. refl) ps)

-- the same messages: of the same size
pub live_same : (ps qs : List Place) → map unplaced ps ≡ map unplaced qs → live_size ps ≡ live_size qs
live_same ps qs same = sym (live-unplaced ps) ∙ ap (λ (l : List Place). live_size l) same ∙ live-unplaced qs

pub length_same : (ps qs : List Place) → map unplaced ps ≡ map unplaced qs → length ps ≡ length qs
length_same ps qs same = sym (length-map ps unplaced) ∙ ap (λ (l : List Place). length l) same ∙ length-map qs unplaced

pub has_same : (id : ℕ) (ps qs : List Place) → map unplaced ps ≡ map unplaced qs → has id ps ≡ has id qs
has_same id ps qs same = sym (has-unplaced id ps) ∙ ap (λ (l : List Place). has id l) same ∙ has-unplaced id qs

pub live-push : (ps : List Place) (p : Place) → live_size (ps ++ p ∷ []) ≡ live_size ps + (96 + p.size)
live-push ps p = omega (arith, sum_by-append live_cost ps (p ∷ []))

-- an area that was written anew has room to settle each message and to defer each
pub compacted_room : (ps : List Place) → compacted_size ps + 56 * length ps ≤ live_size ps
compacted_room ps = omega (arith, sums ps)
  where
    cost : (p : Place) → compacted_cost p + 56 ≤ live_cost p
    cost p = by (p.failures == 0)
      where
        by : (t : Bool) → record_size p + cond t 0 34 + 56 ≤ record_size p + 90
        by true = omega arith
        by false = omega arith

    sums : (ps : List Place) → sum_by compacted_cost ps + 56 * length ps ≤ sum_by live_cost ps
    sums [] = omega arith
    sums (p ∷ ps) = omega (arith, cost p, sums ps, sum_between compacted_cost [] p ps, sum_between live_cost [] p ps)

pub length-without : (id : ℕ) (ps : List Place) → has id ps ≡ true → length (without id ps) + 1 ≡ length ps
length-without id [] known = absurd (let clash : false ≡ true = known in cc)
length-without id (p ∷ ps) known = by (p.id == id) (λ rest. length-without id ps rest) known
  where
    by : (t : Bool) → (has id ps ≡ true → length (without id ps) + 1 ≡ length ps) → (t || has id ps) ≡ true → length (cond t ps (p ∷ without id ps)) + 1 ≡ length (p ∷ ps)
    by true more known = omega arith
    by false more known = omega (arith, more known)

pub live-without : (id : ℕ) (ps : List Place) → live_size (without id ps) ≤ live_size ps
live-without id ps = omega (arith, sums ps)
  where
    sums : (ps : List Place) → sum_by live_cost (without id ps) ≤ sum_by live_cost ps
    sums [] = omega arith
    sums (p ∷ ps) = by (p.id == id) (sums ps)
      where
        by : (t : Bool) → sum_by live_cost (without id ps) ≤ sum_by live_cost ps → sum_by live_cost (cond t ps (p ∷ without id ps)) ≤ sum_by live_cost (p ∷ ps)
        by true less = omega (arith, sum_between live_cost [] p ps)
        by false less = omega (arith, less, sum_between live_cost [] p ps, sum_between live_cost [] p (without id ps))

pub length-delay : (id failures due : ℕ) (ps : List Place) → length (with_delay id failures due ps) ≡ length ps
length-delay id failures due [] = refl
length-delay id failures due (p ∷ ps) = by (p.id == id) (length-delay id failures due ps)
  where
    by : (t : Bool) → length (with_delay id failures due ps) ≡ length ps → length (cond t (delayed failures due p ∷ ps) (p ∷ with_delay id failures due ps)) ≡ length (p ∷ ps)
    by true same = refl
    by false same = omega (arith, same)

pub live-delay : (id failures due : ℕ) (ps : List Place) → live_size (with_delay id failures due ps) ≡ live_size ps
live-delay id failures due ps = omega (arith, sums ps)
  where
    sums : (ps : List Place) → sum_by live_cost (with_delay id failures due ps) ≡ sum_by live_cost ps
    sums [] = refl
    sums (p ∷ ps) = by (p.id == id) (sums ps)
      where
        by : (t : Bool) → sum_by live_cost (with_delay id failures due ps) ≡ sum_by live_cost ps → sum_by live_cost (cond t (delayed failures due p ∷ ps) (p ∷ with_delay id failures due ps)) ≡ sum_by live_cost (p ∷ ps)
        by true same = omega (arith, sum_between live_cost [] p ps, sum_between live_cost [] (delayed failures due p) ps)
        by false same = omega (arith, same, sum_between live_cost [] p ps, sum_between live_cost [] p (with_delay id failures due ps))
