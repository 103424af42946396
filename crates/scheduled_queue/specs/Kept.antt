-- How a schedule keeps its members: a tree that has them in order, and an index from number to moment.
use Rattle.std.specs.Prelude.{◌≡◌, ℕ, true, List, [], Option, Some, None, length, nat_eq}
use Rattle.std.specs.declared.boxed.Box.{Box}
use Rattle.indexmap.specs.IndexMap.{IndexMap, get, index_map_len}
use Rattle.scheduled_queue.specs.declared.due.Due.{Due}
use Rattle.scheduled_queue.specs.Dues.{are_in_order, are_distinct, due_of}

-- the members of a tree from left to right
abbrev pub in_order : {A : Type 0} → Option (Box (List Due) A) → List Due
in_order None = []
in_order (Some node) = node.value

-- the members are in order, each number once, and the index has the moment of each and of no other
pub record IsKept {S : Type 0} (dues : IndexMap ℕ ℕ S) (members : List Due) : Type 0 where
  pub sorted : are_in_order members ≡ true
  pub distinct : are_distinct members ≡ true
  pub knows : (number : ℕ) → get nat_eq dues number ≡ due_of number members
  pub count : index_map_len dues ≡ length members
