-- What the links of each number come to, once two numbers are put next to each other.
use Rattle.std.specs.Prelude.{ℕ, ◌==◌, Option, Some, None, if◌then◌else◌, option_map}
use Rattle.ready_queue.specs.declared.links.Link.{Link}

-- what a number has before and behind it, with another behind
abbrev pub going_to : Option ℕ → Link → Link
going_to next l = record l { next = next }

-- and with another before
abbrev pub coming_from : Option ℕ → Link → Link
coming_from previous l = record l { previous = previous }

-- the link of n, once `next` stands behind `previous`
abbrev pub with_next : Option ℕ → Option ℕ → ℕ → Option Link → Option Link
with_next None next n link = link
with_next (Some previous) next n link = if previous == n then option_map (going_to next) link else link

-- and once `previous` stands before `next`
abbrev pub with_previous : Option ℕ → Option ℕ → ℕ → Option Link → Option Link
with_previous None previous n link = link
with_previous (Some next) previous n link = if next == n then option_map (coming_from previous) link else link
