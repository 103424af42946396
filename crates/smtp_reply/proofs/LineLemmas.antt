-- The lines of bytes, and what a byte more makes of them.
use Rattle.std.proofs.Common.{◌≡◌, ℕ, List, [], ◌∷◌, ◌++◌, Bool, true, false, cond, refl, ap, sym, subst, ◌∙◌}
use Rattle.std.proofs.lemmas.List.{append-nil}
use Rattle.std.specs.List.{onto_first}
use Rattle.smtp_reply.specs.Grammar.{lines_of, is_line_feed}
use Rattle.smtp_reply.specs.Reading.{last_of, line_begun}

-- the lines of bytes and of more bytes: the first line of the latter goes on with the last of the former
abbrev pub join : List (List ℕ) → List (List ℕ) → List (List ℕ)
join [] more = more
join (line ∷ []) [] = line ∷ []
join (line ∷ []) (first ∷ more) = (line ++ first) ∷ more
join (line ∷ (next ∷ lines)) more = line ∷ join (next ∷ lines) more

some_line_of : (x : ℕ) (t : Bool) (xs : List (List ℕ)) → (y : List ℕ) × (ys : List (List ℕ)) × (cond t ([] ∷ xs) (onto_first x xs) ≡ y ∷ ys)
some_line_of x true xs = ([], xs, refl)
some_line_of x false [] = (x ∷ [], [], refl)
some_line_of x false (z ∷ zs) = (x ∷ z, zs, refl)

-- there is always a line
some_line : (bytes : List ℕ) → (y : List ℕ) × (ys : List (List ℕ)) × (lines_of bytes ≡ y ∷ ys)
some_line [] = ([], [], refl)
some_line (x ∷ xs) = some_line_of x (is_line_feed x) (lines_of xs)

join-cons : (x : ℕ) (t : Bool) (y z : List ℕ) (ys zs : List (List ℕ))
    → cond t ([] ∷ join (y ∷ ys) (z ∷ zs)) (onto_first x (join (y ∷ ys) (z ∷ zs))) ≡ join (cond t ([] ∷ (y ∷ ys)) (onto_first x (y ∷ ys))) (z ∷ zs)
join-cons x true y z ys zs = refl
join-cons x false y z [] zs = refl
join-cons x false y z (w ∷ ys) zs = refl

lines-join : (bytes more : List ℕ) (z : List ℕ) (zs : List (List ℕ)) → lines_of more ≡ z ∷ zs → lines_of (bytes ++ more) ≡ join (lines_of bytes) (z ∷ zs)
lines-join [] more z zs e = e
lines-join (x ∷ bytes) more z zs e =
    let some = some_line bytes in
    let P : List (List ℕ) → List (List ℕ) → Type 0 = λ all old. cond (is_line_feed x) ([] ∷ all) (onto_first x all) ≡ join (cond (is_line_feed x) ([] ∷ old) (onto_first x old)) (z ∷ zs) in
    subst (λ (all : List (List ℕ)). P all (lines_of bytes)) (sym (lines-join bytes more z zs e))
    (subst (λ (old : List (List ℕ)). P (join old (z ∷ zs)) old) (sym some.2) (join-cons x (is_line_feed x) some.0 z some.1 zs))

join-closed : (closed : List (List ℕ)) (line z : List ℕ) (zs : List (List ℕ)) → join (closed ++ line ∷ []) (z ∷ zs) ≡ closed ++ (line ++ z) ∷ zs
join-closed [] line z zs = refl
join-closed (c ∷ []) line z zs = refl
join-closed (c ∷ (d ∷ closed)) line z zs = ap (λ (m : List (List ℕ)). c ∷ m) (join-closed (d ∷ closed) line z zs)

-- a line feed closes the line that was begun
pub lines-feed : (bytes : List ℕ) (closed : List (List ℕ)) (line : List ℕ) → lines_of bytes ≡ closed ++ line ∷ [] → lines_of (bytes ++ 10 ∷ []) ≡ closed ++ line ∷ ([] ∷ [])
lines-feed bytes closed line e =
    lines-join bytes (10 ∷ []) [] ([] ∷ []) refl
    ∙ ap (λ (old : List (List ℕ)). join old ([] ∷ ([] ∷ []))) e
    ∙ join-closed closed line [] ([] ∷ [])
    ∙ ap (λ (l : List ℕ). closed ++ l ∷ ([] ∷ [])) (append-nil line)

one_byte : (b : ℕ) (t : Bool) → is_line_feed b ≡ t → t ≡ false → lines_of (b ∷ []) ≡ (b ∷ []) ∷ []
one_byte b true e f = absurd cc
one_byte b false e f = ap (λ (t : Bool). cond t ([] ∷ ([] ∷ [])) ((b ∷ []) ∷ [])) e

-- another byte joins it
pub lines-byte : (bytes : List ℕ) (b : ℕ) (closed : List (List ℕ)) (line : List ℕ) → is_line_feed b ≡ false → lines_of bytes ≡ closed ++ line ∷ [] → lines_of (bytes ++ b ∷ []) ≡ closed ++ (line ++ b ∷ []) ∷ []
lines-byte bytes b closed line other e =
    lines-join bytes (b ∷ []) (b ∷ []) [] (one_byte b (is_line_feed b) refl other)
    ∙ ap (λ (old : List (List ℕ)). join old ((b ∷ []) ∷ [])) e
    ∙ join-closed closed line (b ∷ []) []

pub record Cut (lines : List (List ℕ)) : Type 0 where
  pub closed : List (List ℕ)
  pub line : List ℕ
  pub lines_are : lines ≡ closed ++ line ∷ []

cut_some : (y : List ℕ) (ys : List (List ℕ)) → Cut (y ∷ ys)
cut_some y [] = record { closed = []; line = y; lines_are = refl }
cut_some y (z ∷ zs) =
    let rest = cut_some z zs in
    record { closed = y ∷ rest.closed; line = rest.line; lines_are = ap (λ (m : List (List ℕ)). y ∷ m) rest.lines_are }

-- the lines that are closed and the one that was begun
pub cut : (bytes : List ℕ) → Cut (lines_of bytes)
cut bytes = let some = some_line bytes in subst Cut (sym some.2) (cut_some some.0 some.1)

pub last_of-closed : (closed : List (List ℕ)) (line : List ℕ) → last_of (closed ++ line ∷ []) ≡ line
last_of-closed [] line = refl
last_of-closed (c ∷ []) line = refl
last_of-closed (c ∷ (d ∷ closed)) line = last_of-closed (d ∷ closed) line

pub line_begun-is : (bytes : List ℕ) (closed : List (List ℕ)) (line : List ℕ) → lines_of bytes ≡ closed ++ line ∷ [] → line_begun bytes ≡ line
line_begun-is bytes closed line e = ap last_of e ∙ last_of-closed closed line
