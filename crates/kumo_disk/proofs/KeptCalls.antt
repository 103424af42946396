-- What a crash may leave of a disk in memory after one call more.
use Rattle.std.proofs.Common.{◌≡◌, ◌≢◌, ◌⊎◌, inl, inr, ⊎_elim, ℕ, ◌+◌, ◌≤◌, zero, suc, List, [], ◌∷◌, ◌++◌, length, reverse, refl, sym, ◌∙◌, ap, subst, arith}
use Rattle.std.proofs.lemmas.List.{reverse-append, length-append}
use Rattle.kumo_disk.specs.Disk.{Image, area_of, Lasts, Moved, Each, Same}
use Rattle.kumo_base.specs.Causes.{Rose}
use Rattle.kumo_disk.specs.Memory.{reads, LeavesEach, undone, Does, May, MayAgo, MaySince, left_by, seen_by, may_as_read}
use Rattle.kumo_disk.specs.inside.Keeping.{Keeps, IsRefused}
use Rattle.kumo_disk.specs.declared.kept_call.KeptCall.{KeptCall}
use Rattle.kumo_disk.specs.declared.kept_call.Effect.{Effect}
use Rattle.kumo_disk.specs.declared.mem_disk.MemDisk.{MemDisk}

-- what may be left now is what may be left at the moment
pub left_now : (now : Image) (calls : List KeptCall) (made : ℕ) (image : Image) → MaySince now calls made made image → May now calls image
left_now now calls made image left = by left.0 left.1 left.2
  where
    by : (ago : ℕ) → made + ago ≤ made → MayAgo ago now calls image → May now calls image
    by zero le may = may
    by (suc ago) le may = absurd (omega (arith, le))

module _ (old new : MemDisk) (f g : ℕ) (call : KeptCall) (kept : new.calls.items ≡ old.calls.items ++ call ∷ []) (back : undone call (reads new) ≡ reads old) where
  abbrev pub made : ℕ
  made = length old.calls.items

  abbrev pub before : List KeptCall
  before = reverse old.calls.items

  last_first : reverse new.calls.items ≡ call ∷ before
  last_first = ap reverse kept ∙ reverse-append old.calls.items (call ∷ [])

  one_more : length new.calls.items ≡ made + 1
  one_more = ap length kept ∙ length-append old.calls.items (call ∷ [])

  new_from : (s : ℕ) (image : Image) → left_by (reads new) new.calls.items s image → MaySince (reads new) (call ∷ before) (made + 1) s image
  new_from s image left =
      (left.0, subst (λ (n : ℕ). s + left.0 ≤ n) one_more left.1, subst (λ (l : List KeptCall). MayAgo left.0 (reads new) l image) last_first left.2)

  new_of : (s ago : ℕ) (image : Image) → s + ago ≤ made + 1 → MayAgo ago (reads new) (call ∷ before) image → left_by (reads new) new.calls.items s image
  new_of s ago image le may =
      (ago, subst (λ (n : ℕ). s + ago ≤ n) (sym one_more) le, subst (λ (l : List KeptCall). MayAgo ago (reads new) l image) (sym last_first) may)

  old_or_now : (s : ℕ) (image : Image) → left_by (reads new) new.calls.items s image → left_by (reads old) old.calls.items s image ⊎ May (reads new) (call ∷ before) image
  old_or_now s image left = let from = new_from s image left in by from.0 from.1 from.2
    where
      by : (ago : ℕ) → s + ago ≤ made + 1 → MayAgo ago (reads new) (call ∷ before) image → left_by (reads old) old.calls.items s image ⊎ May (reads new) (call ∷ before) image
      by zero le may = inr may
      by (suc ago) le may = inl (ago, omega (arith, le), subst (λ (i : Image). MayAgo ago i before image) back may)

  pub one_lasts : Lasts (seen_by (reads old) old.calls.items f) (seen_by (reads new) new.calls.items g)
  one_lasts = record {
    later = omega (arith, one_more);
    nothing_else = λ s image le left. ⊎_elim (λ was. inl was) (λ may. inr (new_of made 0 image (omega arith) may)) (old_or_now s image left);
    keeps = λ s image le left. new_of s (suc left.0) image (omega (arith, left.1)) (subst (λ (i : Image). MayAgo left.0 i before image) (sym back) left.2);
  }

  pub one_each : (step : List ℕ → List ℕ → Type 0) → ((d : List ℕ) → step d d) → Moved call.area step (reads old) (reads new)
      → ((d e : List ℕ) → Does call.effect call.at (area_of call.area (reads old)) d e → step d e) → Each call.area step (seen_by (reads old) old.calls.items f) (seen_by (reads new) new.calls.items g)
  one_each step same moved weaker = λ image left. ⊎_elim (λ was. (image, was, record { here = same (area_of call.area image); elsewhere = λ other differs. refl }))
      (λ may. ⊎_elim (λ is. reads_so image is) (λ from. stepped image from) may) (old_or_now made image left)
    where
      reads_so : (image : Image) → image ≡ reads new → (from : Image) × left_by (reads old) old.calls.items made from × Moved call.area step from image
      reads_so image is =
          (reads old, (0, omega arith, may_as_read (reads old) before (reads old) refl), subst (λ (i : Image). Moved call.area step (reads old) i) (sym is) moved)

      stepped : (image : Image) → (from : Image) × May (undone call (reads new)) before from × Moved call.area (Does call.effect call.at (area_of call.area (undone call (reads new)))) from image
          → (from : Image) × left_by (reads old) old.calls.items made from × Moved call.area step from image
      stepped image s = (
        s.0,
        (0, omega arith, subst (λ (i : Image). May i before s.0) back s.1),
        record { here = weaker _ _ (subst (λ (i : Image). Does call.effect call.at (area_of call.area i) (area_of call.area s.0) (area_of call.area image)) back s.2.here); elsewhere = s.2.elsewhere },
      )

  -- and each step of the call is one that a crash may leave
  pub one_spreads : (from image : Image) → left_by (reads old) old.calls.items made from → Moved call.area (Does call.effect call.at (area_of call.area (reads old))) from image → left_by (reads new) new.calls.items (length new.calls.items) image
  one_spreads from image left moved = new_of (length new.calls.items) 0 image (omega (arith, one_more)) (inr (from, was, step))
    where
      was : May (undone call (reads new)) before from
      was = subst (λ (i : Image). May i before from) (sym back) (left_now (reads old) before made from left)

      step : Moved call.area (Does call.effect call.at (area_of call.area (undone call (reads new)))) from image
      step = subst (λ (i : Image). Moved call.area (Does call.effect call.at (area_of call.area i)) from image) (sym back) moved

module _ (area : ℕ) (effect : Effect) (at : ℕ) (old new : MemDisk) (f g : ℕ) (keeps : Keeps area effect at old new) where
  pub keeps_lasts : Lasts (seen_by (reads old) old.calls.items f) (seen_by (reads new) new.calls.items g)
  keeps_lasts = one_lasts old new f g keeps.call keeps.kept keeps.goes_back

  does_as : (a : ℕ) (read d e : List ℕ) → Does keeps.call.effect keeps.call.at read d e → Does effect at read d e
  does_as a read d e does = subst (λ (n : ℕ). Does effect n read d e) keeps.of_offset (subst (λ (x : Effect). Does x keeps.call.at read d e) keeps.of_effect does)

  as_does : (a : ℕ) (read d e : List ℕ) → Does effect at read d e → Does keeps.call.effect keeps.call.at read d e
  as_does a read d e does = subst (λ (x : Effect). Does x keeps.call.at read d e) (sym keeps.of_effect) (subst (λ (n : ℕ). Does effect n read d e) (sym keeps.of_offset) does)

  pub keeps_each : (step : List ℕ → List ℕ → Type 0) → ((d : List ℕ) → step d d) → Moved area step (reads old) (reads new)
      → ((d e : List ℕ) → Does effect at (area_of area (reads old)) d e → step d e) → Each area step (seen_by (reads old) old.calls.items f) (seen_by (reads new) new.calls.items g)
  keeps_each step same moved weaker = subst (λ (a : ℕ). Each a step (seen_by (reads old) old.calls.items f) (seen_by (reads new) new.calls.items g)) keeps.of_area
      (one_each old new f g keeps.call keeps.kept keeps.goes_back step same (subst (λ (a : ℕ). Moved a step (reads old) (reads new)) (sym keeps.of_area) moved)
      (λ d e does. weaker d e (subst (λ (a : ℕ). Does effect at (area_of a (reads old)) d e) keeps.of_area (does_as area (area_of keeps.call.area (reads old)) d e does))))

  pub keeps_spreads : (from image : Image) → left_by (reads old) old.calls.items (length old.calls.items) from → Moved area (Does effect at (area_of area (reads old))) from image
      → left_by (reads new) new.calls.items (length new.calls.items) image
  keeps_spreads from image left moved = one_spreads old new f g keeps.call keeps.kept keeps.goes_back from image left
      (by (subst (λ (a : ℕ). Moved a (Does effect at (area_of a (reads old))) from image) (sym keeps.of_area) moved))
    where
      by : Moved keeps.call.area (Does effect at (area_of keeps.call.area (reads old))) from image → Moved keeps.call.area (Does keeps.call.effect keeps.call.at (area_of keeps.call.area (reads old))) from image
      by moved = record { here = as_does area (area_of keeps.call.area (reads old)) (area_of keeps.call.area from) (area_of keeps.call.area image) moved.here; elsewhere = moved.elsewhere }

-- two images that agree on this area and on the others are one
pub one_image : (area : ℕ) (old new : Image) → area_of area new ≡ area_of area old → ((other : ℕ) → other ≢ area → area_of other new ≡ area_of other old) → old ≡ new
one_image zero old new here elsewhere = both (sym here) (sym (elsewhere 1 (λ is. absurd (omega (arith, is)))))
  where
    both : old.first ≡ new.first → old.second ≡ new.second → old ≡ new
    both first second = ap (λ (l : List ℕ). record { first = l; second = old.second }) first ∙ ap (λ (l : List ℕ). record { first = new.first; second = l }) second
one_image (suc zero) old new here elsewhere = both (sym (elsewhere 0 (λ is. absurd (omega (arith, is))))) (sym here)
  where
    both : old.first ≡ new.first → old.second ≡ new.second → old ≡ new
    both first second = ap (λ (l : List ℕ). record { first = l; second = old.second }) first ∙ ap (λ (l : List ℕ). record { first = new.first; second = l }) second
one_image (suc (suc area)) old new here elsewhere = both (sym (elsewhere 0 (λ is. absurd (omega (arith, is))))) (sym (elsewhere 1 (λ is. absurd (omega (arith, is)))))
  where
    both : old.first ≡ new.first → old.second ≡ new.second → old ≡ new
    both first second = ap (λ (l : List ℕ). record { first = l; second = old.second }) first ∙ ap (λ (l : List ℕ). record { first = new.first; second = l }) second

-- a call that kept nothing
module _ (was now : Image) (calls more : List KeptCall) (f g : ℕ) (reads_same : now ≡ was) (calls_same : more ≡ calls) where
  moment_same : length more ≡ length calls
  moment_same = ap length calls_same

  pub left_stays : (s : ℕ) (image : Image) → left_by was calls s image → left_by now more s image
  left_stays s image left = (
    left.0,
    subst (λ (n : ℕ). s + left.0 ≤ n) (sym moment_same) left.1,
    subst (λ (l : List KeptCall). MayAgo left.0 now (reverse l) image) (sym calls_same) (subst (λ (i : Image). MayAgo left.0 i (reverse calls) image) (sym reads_same) left.2),
  )

  pub left_stayed : (s : ℕ) (image : Image) → left_by now more s image → left_by was calls s image
  left_stayed s image left = (
    left.0,
    subst (λ (n : ℕ). s + left.0 ≤ n) moment_same left.1,
    subst (λ (l : List KeptCall). MayAgo left.0 was (reverse l) image) calls_same (subst (λ (i : Image). MayAgo left.0 i (reverse more) image) reads_same left.2),
  )

  pub stays_lasts : Lasts (seen_by was calls f) (seen_by now more g)
  stays_lasts = record {
    later = omega (arith, moment_same);
    nothing_else = λ s image le left. inl (left_stayed s image left);
    keeps = λ s image le left. left_stays s image left;
  }

  pub stays_each : (area : ℕ) (step : List ℕ → List ℕ → Type 0) → ((d : List ℕ) → step d d) → Each area step (seen_by was calls f) (seen_by now more g)
  stays_each area step same = λ image left. (image, left_stayed (length calls) image left, record { here = same (area_of area image); elsewhere = λ other differs. refl })

  pub stays_spreads : (area : ℕ) → LeavesEach area Same (seen_by was calls f) (seen_by now more g)
  stays_spreads area from image left moved = subst (λ (i : Image). left_by now more (length more) i) (one_image area from image moved.here moved.elsewhere)
      (subst (λ (n : ℕ). left_by now more n from) (sym moment_same) (left_stays (length calls) from left))

-- a call that failed, and that was kept where there was memory for it
module _ (area : ℕ) (effect : Effect) (at : ℕ) (old new : MemDisk) (f g : ℕ) (tried : Keeps area effect at old new ⊎ IsRefused old new) (reads_same : reads new ≡ reads old) where
  pub tried_lasts : Lasts (seen_by (reads old) old.calls.items f) (seen_by (reads new) new.calls.items g)
  tried_lasts = ⊎_elim (λ keeps. keeps_lasts area effect at old new f g keeps) (λ refused. stays_lasts (reads old) (reads new) old.calls.items new.calls.items f g reads_same refused.none) tried

  pub tried_each : (step : List ℕ → List ℕ → Type 0) → ((d : List ℕ) → step d d) → ((d e : List ℕ) → Does effect at (area_of area (reads old)) d e → step d e)
      → Each area step (seen_by (reads old) old.calls.items f) (seen_by (reads new) new.calls.items g)
  tried_each step same weaker =
      ⊎_elim (λ keeps. keeps_each area effect at old new f g keeps step same moved weaker) (λ refused. stays_each (reads old) (reads new) old.calls.items new.calls.items f g reads_same refused.none area step same) tried
    where
      moved : Moved area step (reads old) (reads new)
      moved = subst (λ (i : Image). Moved area step (reads old) i) (sym reads_same) (record { here = same (area_of area (reads old)); elsewhere = λ other differs. refl })

  pub tried_spreads : LeavesEach area (Does effect at (area_of area (reads old))) (seen_by (reads old) old.calls.items f) (seen_by (reads new) new.calls.items g) ⊎ Rose old.refused new.refused
  tried_spreads = ⊎_elim (λ keeps. inl (keeps_spreads area effect at old new f g keeps)) (λ refused. inr refused.refused) tried
