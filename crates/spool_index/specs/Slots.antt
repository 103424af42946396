-- Slots in the order of holding, and an index that says in which slot each id stands.
use Rattle.std.specs.Prelude.{◌≡◌, ◌<◌, ◌+◌, ℕ, true, List, [], ◌∷◌, Option, Some, None, length, nat_eq, slice_index_or, is_some}
use Rattle.indexmap.specs.IndexMap.{IndexMap, get, index_map_len}
use Rattle.spool_index.specs.declared.place.Place.{Place}
use Rattle.spool_index.specs.Places.{has, are_distinct, live_size, compacted_size, after_place}

-- the messages in the slots that are not blank
abbrev pub kept : List (Option Place) → List Place
kept [] = []
kept (None ∷ slots) = kept slots
kept (Some p ∷ slots) = p ∷ kept slots

-- the slots, each message with its payload where a file that is written anew has it
abbrev pub slots_laid_out : ℕ → List (Option Place) → List (Option Place)
slots_laid_out at [] = []
slots_laid_out at (None ∷ slots) = None ∷ slots_laid_out at slots
slots_laid_out at (Some p ∷ slots) = Some (record p { at = at + 6 }) ∷ slots_laid_out (after_place at p) slots

module _ {S : Type 0} where
  -- the index knows the ids that stand in the slots, and no other
  abbrev pub Knows : IndexMap ℕ ℕ S → List (Option Place) → Type 0
  Knows index slots = (id : ℕ) → is_some (get nat_eq index id) ≡ has id (kept slots)

  -- of the first slots that are not blank, it knows the numbers
  abbrev pub Numbers : IndexMap ℕ ℕ S → List (Option Place) → ℕ → Type 0
  Numbers index slots n = (k : ℕ) (p : Place) → k < n → slice_index_or slots k None ≡ Some p → get nat_eq index p.id ≡ Some k

-- the index is right about the slots
pub record IsIndex {S : Type 0} (index : IndexMap ℕ ℕ S) (slots : List (Option Place)) : Type 0 where
  pub knows : Knows index slots
  pub numbers : Numbers index slots (length slots)
  pub count : index_map_len index ≡ length (kept slots)
  pub distinct : are_distinct (kept slots) ≡ true

-- the index and the two sizes are right about the slots
pub record IsKept {S : Type 0} (index : IndexMap ℕ ℕ S) (slots : List (Option Place)) (bytes fewest : ℕ) : Type 0 where
  pub right : IsIndex index slots
  pub live : bytes ≡ live_size (kept slots)
  pub compacted : fewest ≡ compacted_size (kept slots)
