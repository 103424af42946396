-- The value that stands for a policy and a legal history.
use Rattle.std.specs.Prelude.{◌≡◌, ◌≤◌, ◌-◌, ℕ, List, [], ◌∷◌, ◌++◌, length, ⊤}
use Rattle.policy_core.specs.Policy.{Policy}
use Rattle.history_core.specs.declared.entry.Entry.{Entry}
use Rattle.history_core.specs.declared.entry.Event.{Event}
use Rattle.history_core.specs.declared.entry.Event.TheVariants.{Ended, Closed, Rested, Stopped}

pub record State : Type 0 where
  pub policy : Policy
  pub history : List Entry
  -- of how many entries, from the first on, the replies were searched
  pub examined : ℕ
  -- how many entries that are owed have their room
  pub owed : ℕ

abbrev pub started : Policy → State
started policy = record { policy = policy; history = []; examined = 0; owed = 0 }

-- the replies of all entries were searched, so what the rules come to is known
abbrev pub AllExamined : State → Type 0
AllExamined s = s.examined ≡ length s.history

-- one more entry
abbrev pub with_entry : State → Entry → State
with_entry s e = record { policy = s.policy; history = s.history ++ e ∷ []; examined = s.examined; owed = s.owed }

-- one more entry, in a room that was kept for it
abbrev pub with_owed : State → Entry → State
with_owed s e = record { policy = s.policy; history = s.history ++ e ∷ []; examined = s.examined; owed = s.owed - 1 }

abbrev pub with_room : State → ℕ → State
with_room s room = record { policy = s.policy; history = s.history; examined = s.examined; owed = room }

-- more entries were examined, and nothing else changed
pub record IsFurther (s t : State) : Type 0 where
  pub policy : t.policy ≡ s.policy
  pub history : t.history ≡ s.history
  pub owed : t.owed ≡ s.owed
  pub no_less : s.examined ≤ t.examined

-- an entry that ends what was begun: it must never fail for want of memory
abbrev pub IsOwed : Event → Type 0
IsOwed (Ended conn id outcome next) = ⊤
IsOwed (Closed conn cause) = ⊤
IsOwed (Rested until) = ⊤
IsOwed Stopped = ⊤
IsOwed _ = ⊥
