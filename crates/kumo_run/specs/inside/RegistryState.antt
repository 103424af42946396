-- What the registry keeps: the history, and how many entries it can have at most without more memory.
use Rattle.std.specs.Prelude.{ℕ, List, length, ◌≤◌, ◌+◌}
use Rattle.history_core.specs.declared.entry.Entry.{Entry}

pub record RegistryState : Type 0 where
  pub history : List Entry
  pub capacity : ℕ

-- there is room for one entry more
abbrev pub HasRoom : RegistryState → Type 0
HasRoom r = length r.history + 1 ≤ r.capacity
