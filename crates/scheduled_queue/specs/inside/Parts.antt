-- What the functions of a tree do with a list that is in order.
use Rattle.std.specs.Prelude.{ℕ, ◌||◌, List, [], ◌∷◌, Option, if◌then◌else◌, nat_lt, filter, find, option_map}
use Rattle.scheduled_queue.specs.declared.due.Due.{Due}
use Rattle.scheduled_queue.specs.Dues.{is_before}

-- the members up to this one
abbrev pub until : Due → List Due → List Due
until d [] = []
until d (e ∷ es) = if is_before d e then [] else e ∷ until d es

-- the members behind this one
abbrev pub beyond : Due → List Due → List Due
beyond d [] = []
beyond d (e ∷ es) = if is_before d e then e ∷ es else beyond d es

-- the members before this one and behind it
abbrev pub without_due : Due → List Due → List Due
without_due d members = filter (λ e. is_before d e || is_before e d) members

-- the moment of the first that is due after this one
abbrev pub next_after : ℕ → List Due → Option ℕ
next_after t members = option_map (λ d. d.due) (find (λ d. nat_lt t d.due) members)
