-- The messages of one path that were promoted and not yet begun, and the first of them that is free.
use Rattle.std.specs.Prelude.{◌≡◌, ◌<◌, ◌^◌, ℕ, ◌==◌, ◌&&◌, Bool, true, false, not, List, [], ◌∷◌, ◌++◌, Option, Some, None}
use Rattle.std.specs.List.{list_any, filter}
use Rattle.std.specs.List as list

-- the numbers of messages in the order of their promotion, and for how many more there is room
pub record Queue : Type 0 where
  pub numbers : List ℕ
  pub spare : ℕ

-- the number is among these
abbrev pub has : ℕ → List ℕ → Bool
has number numbers = list_any (λ other. other == number) numbers

-- no number stands twice
abbrev pub are_distinct : List ℕ → Bool
are_distinct [] = true
are_distinct (number ∷ numbers) = not (has number numbers) && are_distinct numbers

-- each fits 32 bits
abbrev pub AllFit : List ℕ → Type 0
AllFit numbers = (n : ℕ) → has n numbers ≡ true → n < 2 ^ 32

-- the others, in their order
abbrev pub without : ℕ → List ℕ → List ℕ
without number numbers = filter (λ other. not (other == number)) numbers

-- each was answered to be held
abbrev pub AllHeld : (ℕ → Bool → Type 0) → List ℕ → Type 0
AllHeld Answers numbers = (n : ℕ) → has n numbers ≡ true → Answers n true

-- each before this one was answered to be held, and it was answered not to be
abbrev pub IsFirstFree : (ℕ → Bool → Type 0) → List ℕ → Option ℕ → Type 0
IsFirstFree Answers numbers None = AllHeld Answers numbers
IsFirstFree Answers numbers (Some n) =
    (before : List ℕ) × (behind : List ℕ) × (numbers ≡ before ++ n ∷ behind) × AllHeld Answers before × Answers n false

-- each answer is what the test gives
abbrev pub AnswersAs : (ℕ → Bool → Type 0) → (ℕ → Bool) → List ℕ → Type 0
AnswersAs Answers test numbers = (n : ℕ) (answer : Bool) → n < 2 ^ 32 → has n numbers ≡ true → Answers n answer → answer ≡ test n

-- the first that the test does not hold back
abbrev pub first_free : (ℕ → Bool) → List ℕ → Option ℕ
first_free is_held numbers = list.find (λ n. not (is_held n)) numbers
