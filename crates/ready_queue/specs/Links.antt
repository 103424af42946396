-- The numbers of a queue, each linked to the one before it and to the one behind it.
use Rattle.std.specs.Prelude.{◌≡◌, ℕ, zero, suc, true, List, [], ◌∷◌, Option, Some, None, length, is_some, ⊤}
use Rattle.std.specs.List.{last_or}
use Rattle.std.specs.Option.{option_and_then}
use Rattle.ready_queue.specs.declared.links.Link.{Link}
use Rattle.ready_queue.specs.Queue.{has, are_distinct, AllFit}

-- the first of these, or else what stands behind them
abbrev pub first_or : Option ℕ → List ℕ → Option ℕ
first_or behind [] = behind
first_or behind (n ∷ numbers) = Some n

-- each of these is linked to its neighbours, the first to what stands before them and the last to what stands behind
abbrev pub AreLinked : (ℕ → Option Link) → Option ℕ → List ℕ → Option ℕ → Type 0
AreLinked links before [] behind = ⊤
AreLinked links before (n ∷ numbers) behind =
    (links n ≡ Some (record { previous = before; next = first_or behind numbers })) × AreLinked links (Some n) numbers behind

-- the numbers from one on, so many at most
abbrev pub walked : (ℕ → Option Link) → ℕ → Option ℕ → List ℕ
walked links zero from = []
walked links (suc most) None = []
walked links (suc most) (Some n) = n ∷ walked links most (option_and_then (λ l. l.next) (links n))

-- the links, their count and the two ends are right about these numbers
pub record IsQueue (links : ℕ → Option Link) (count : ℕ) (first last : Option ℕ) (numbers : List ℕ) : Type 0 where
  pub linked : AreLinked links None numbers None
  pub begins : first ≡ first_or None numbers
  pub ends : last ≡ last_or None numbers
  pub knows : (n : ℕ) → is_some (links n) ≡ has n numbers
  pub counts : count ≡ length numbers
  pub distinct : are_distinct numbers ≡ true
  pub fits : AllFit numbers
