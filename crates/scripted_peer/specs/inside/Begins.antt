-- What a peer has said is not taken back.
use Rattle.std.specs.Prelude.{◌≡◌, ℕ, List, length, take}

-- the second text begins with the first
abbrev pub Begins : List ℕ → List ℕ → Type 0
Begins front text = take (length front) text ≡ front
