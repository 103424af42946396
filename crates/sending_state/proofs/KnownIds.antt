-- A message that is known came into the history.
use Rattle.std.proofs.Common.{◌≡◌, ℕ, List, true, false}
use Rattle.std.specs.List.{list_any}
use Rattle.history_core.specs.declared.entry.Entry.{Entry}
use Rattle.history_core.specs.Fate.{pending}
use Rattle.history_core.specs.History.{has_id, messages}
use Rattle.history_core.specs.Legal.{KnownRow}
use Rattle.history_core.proofs.Lists.{any_there, there_any}
use Rattle.history_core.proofs.Picked.{pending_there}

pub known_is_there : (h : List Entry) (id : ℕ) → KnownRow h id → list_any (has_id id) (messages h) ≡ true
known_is_there h id row =
    let (m, waits, same) = any_there (has_id id) (pending h) row.1 in
    there_any (has_id id) (messages h) m (pending_there h m waits).0 same

pub known_no_fresh : (h : List Entry) (id : ℕ) → KnownRow h id → list_any (has_id id) (messages h) ≡ false → ⊥
known_no_fresh h id row none = let there : list_any (has_id id) (messages h) ≡ true = known_is_there h id row in absurd cc
