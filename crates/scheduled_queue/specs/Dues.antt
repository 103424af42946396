-- The messages that wait, in the order in which they come due: by moment, and at one moment by number.
use Rattle.std.specs.Prelude.{ℕ, ◌&&◌, ◌||◌, Bool, true, not, List, [], ◌∷◌, Option, if◌then◌else◌, nat_eq, nat_lt, nat_le, filter, find, option_map}
use Rattle.std.specs.List.{list_all, list_any}
use Rattle.kumo_base.specs.Moment.{clamped}
use Rattle.scheduled_queue.specs.declared.due.Due.{Due}

-- due earlier, or at the same moment with a smaller number
abbrev pub is_before : Due → Due → Bool
is_before a b = nat_lt a.due b.due || (nat_eq a.due b.due && nat_lt a.number b.number)

-- each stands before all that follow
abbrev pub are_in_order : List Due → Bool
are_in_order [] = true
are_in_order (d ∷ ds) = list_all (is_before d) ds && are_in_order ds

-- the message of this number waits
abbrev pub contains : ℕ → List Due → Bool
contains number members = list_any (λ d. nat_eq d.number number) members

-- no number stands twice
abbrev pub are_distinct : List Due → Bool
are_distinct [] = true
are_distinct (d ∷ ds) = not (contains d.number ds) && are_distinct ds

-- the moment that the message of this number is due at
abbrev pub due_of : ℕ → List Due → Option ℕ
due_of number members = option_map (λ d. d.due) (find (λ d. nat_eq d.number number) members)

-- with one more, in its place
abbrev pub inserted : Due → List Due → List Due
inserted d [] = d ∷ []
inserted d (e ∷ es) = if is_before d e then d ∷ e ∷ es else e ∷ inserted d es

-- without the message of this number
abbrev pub without : ℕ → List Due → List Due
without number members = filter (λ d. not (nat_eq d.number number)) members

-- the number of the first that is due at this moment or earlier
abbrev pub first_due : ℕ → List Due → Option ℕ
first_due t members = option_map (λ d. d.number) (find (λ d. nat_le d.due (clamped t)) members)

-- the first moment after this one that some message is due at
abbrev pub next_due : ℕ → List Due → Option ℕ
next_due t members = option_map (λ d. d.due) (find (λ d. nat_lt (clamped t) d.due) members)

-- the messages that wait, in order, and how many more can be put without memory
pub record Waiting : Type 0 where
  pub members : List Due
  pub spare : ℕ
