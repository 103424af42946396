-- What a store that is not down keeps, through its calls.
use Rattle.std.proofs.Common.{◌≡◌, ◌⊎◌, inl, inr, ⊎_elim, ℕ, ◌+◌, ◌*◌, ◌≤◌, ◌<◌, List, [], ◌∷◌, ◌++◌, length, map, min, true, IfSome, sym, ◌∙◌, subst, ap, arith}
use Rattle.std.proofs.lemmas.List.{length-map, length-append}
use Rattle.kumo_disk.specs.Disk.{DiskSeen}
use Rattle.spool_log.specs.declared.log.Log.{Log}
use Rattle.spool_index.specs.declared.place.Place.{Place}
use Rattle.spool_index.specs.Places.{has, without, with_delay, live_size, compacted_size}
use Rattle.spool_store.specs.declared.limits.TheConstants.{AREA_LIMIT}
use Rattle.spool_format.specs.declared.kept.Kept.{Kept}
use Rattle.kumo_disk.proofs.Runs.{at_some, if_some}
use Rattle.spool_store.specs.Reading.{Recovers}
use Rattle.spool_store.specs.Store.{unplaced, waiting_of, live_size_of}
use Rattle.spool_store.specs.declared.faults.RewriteFault.{RewriteFault}
use Rattle.spool_store.specs.declared.faults.RewriteFault.TheVariants as fault
use Rattle.spool_store.specs.Standing.{Stands, IsUndone}
use Rattle.spool_store.specs.Whole.{IsWhole}
use Rattle.spool_store.proofs.Waiting.{live-unplaced, live-push, live_same, length_same, compacted_room, length-without, live-without, length-delay, live-delay}

pub held_whole : (later : Log) (ps qs : List Place) (w : Place) (room size : ℕ) (b : DiskSeen) → room ≤ length ps → Stands later qs b → later.header.version ≡ 2 → map unplaced qs ≡ map unplaced ps ++ w ∷ [] → w.size ≡ size
    → live_size ps + 96 + size ≤ AREA_LIMIT
    → (later.end + 1 + (6 + size + 22 * (length ps + 1) + 34 * room) ≤ AREA_LIMIT + (6 + size)) ⊎ (later.end + 1 ≡ compacted_size ps + (6 + size)) → IsWhole later qs room b
held_whole later ps qs w room size b within stands version same size_is full fits =
    let one_more : length qs ≡ length ps + 1 = omega (arith, length-map qs unplaced, length-map ps unplaced, ap length same, length-append (map unplaced ps) (w ∷ [])) in
    let live : live_size qs ≡ live_size ps + 96 + size =
    sym (live-unplaced qs) ∙ ap (λ (l : List Place). live_size l) same ∙ live-push (map unplaced ps) w ∙ omega (arith, live-unplaced ps, size_is) in
    record {
      stands = stands;
      version = version;
      live = omega (arith, live, full);
      room_within = omega (arith, one_more, within);
      fits = ⊎_elim (λ fit. omega (arith, fit, one_more)) (λ anew. omega (arith, anew, one_more, compacted_room ps, within, full)) fits;
    }

-- so there is room for what may still come
pub room_left : (log : Log) (ps : List Place) (room : ℕ) (a : DiskSeen) → IsWhole log ps room a → log.end + 1 + 22 * length (map unplaced ps) + 34 * room ≤ AREA_LIMIT
room_left log ps room a whole = omega (arith, whole.fits, length-map ps unplaced)

pub live_within : (log : Log) (ps : List Place) (room : ℕ) (a : DiskSeen) → IsWhole log ps room a → live_size (map unplaced ps) ≤ AREA_LIMIT
live_within log ps room a whole = omega (arith, whole.live, live-unplaced ps)

-- the same messages, where they were or written anew
pub kept_whole : (old later : Log) (ps qs : List Place) (before room : ℕ) (a b : DiskSeen) → IsWhole old ps before a → Stands later qs b → later.header.version ≡ 2 → map unplaced qs ≡ map unplaced ps → room ≤ length ps
    → (later.end + 1 + (22 * length ps + 34 * room) ≤ AREA_LIMIT) ⊎ (later.end + 1 ≡ compacted_size ps) → IsWhole later qs room b
kept_whole old later ps qs before room a b whole stands version same within fits = record {
  stands = stands;
  version = version;
  live = omega (arith, live_same qs ps same, whole.live);
  room_within = omega (arith, length_same qs ps same, within);
  fits = ⊎_elim (λ fit. omega (arith, fit, length_same qs ps same)) (λ anew. omega (arith, anew, length_same qs ps same, compacted_room ps, within, whole.live)) fits;
}

pub moved_whole : (old later : Log) (ps qs : List Place) (room : ℕ) (a b : DiskSeen) → IsWhole old ps room a → Stands later qs b → later.header.version ≡ 2 → map unplaced qs ≡ map unplaced ps
    → (later.end ≡ old.end) ⊎ (later.end + 1 ≡ compacted_size ps) → IsWhole later qs room b
moved_whole old later ps qs room a b whole stands version same moved = kept_whole old later ps qs room room a b whole stands version same whole.room_within
    (⊎_elim (λ still. inl (omega (arith, still, whole.fits))) (λ anew. inr anew) moved)

pub settled_whole : (old later : Log) (ps : List Place) (id room left : ℕ) (a b : DiskSeen) → IsWhole old ps room a → has id ps ≡ true → Stands later (without id ps) b
    → later ≡ record { area = old.area; header = old.header; end = old.end + 22 } → left ≡ min room (length (without id ps)) → IsWhole later (without id ps) left b
settled_whole old later ps id room left a b whole known stands next less =
    let one_less : length (without id ps) + 1 ≡ length ps = length-without id ps known in
    record {
      stands = stands;
      version = ap (λ (l : Log). l.header.version) next ∙ whole.version;
      live = omega (arith, live-without id ps, whole.live);
      room_within = omega (arith, less);
      fits = omega (arith, ap (λ (l : Log). l.end) next, one_less, less, whole.fits);
    }

pub deferred_whole : (old later : Log) (ps : List Place) (id failures due room left : ℕ) (a b : DiskSeen) → IsWhole old ps room a → Stands later (with_delay id failures due ps) b
    → later ≡ record { area = old.area; header = old.header; end = old.end + 34 } → left + 1 ≡ room → IsWhole later (with_delay id failures due ps) left b
deferred_whole old later ps id failures due room left a b whole stands next less = record {
  stands = stands;
  version = ap (λ (l : Log). l.header.version) next ∙ whole.version;
  live = omega (arith, live-delay id failures due ps, whole.live);
  room_within = omega (arith, less, whole.room_within, length-delay id failures due ps);
  fits = omega (arith, ap (λ (l : Log). l.end) next, length-delay id failures due ps, less, whole.fits);
}

-- what holds where memory was wanted
pub at_memory : (Undone : Type 0) (f : RewriteFault) → f ≡ fault.Memory → IsUndone Undone f → Undone
at_memory Undone f is undone = subst (λ (g : RewriteFault). IsUndone Undone g) is undone

-- written anew at opening
pub anew_whole : (later : Log) (ps qs : List Place) (b : DiskSeen) → live_size ps ≤ AREA_LIMIT → Stands later qs b → later.header.version ≡ 2 → map unplaced qs ≡ map unplaced ps → later.end + 1 ≡ compacted_size ps → IsWhole later qs 0 b
anew_whole later ps qs b live stands version same anew = record {
  stands = stands;
  version = version;
  live = omega (arith, live_same qs ps same, live);
  room_within = omega arith;
  fits = omega (arith, anew, length_same qs ps same, compacted_room ps, live);
}

-- what is pending may need more than an area may have
pub too_large : (ps : List Place) (kept : List Kept) (count live : ℕ) (a : DiskSeen) → IfSome a.told (λ read. Recovers read kept) → map unplaced ps ≡ map waiting_of kept → count ≡ length ps → live ≡ live_size ps → AREA_LIMIT < live
    → IfSome a.told (λ read. (kept : List Kept) × Recovers read kept × (count ≡ length kept) × (AREA_LIMIT < live_size_of kept))
too_large ps kept count live a answer same count_is live_is large = if_some (λ read. (kept : List Kept) × Recovers read kept × (count ≡ length kept) × (AREA_LIMIT < live_size_of kept)) a.told (λ read told. (
  kept,
  at_some (λ read. Recovers read kept) a.told read told answer,
  omega (arith, count_is, length-map ps unplaced, length-map kept waiting_of, ap (λ (l : List Place). length l) same),
  omega (arith, live_is, large, live-unplaced ps, ap (λ (l : List Place). live_size l) same),
))
