-- The lines of a body, taken from its front one by one.
use Rattle.std.proofs.Common.{◌≡◌, ℕ, ◌+◌, ◌<◌, ◌≤◌, ◌==◌, ◌||◌, suc, List, [], ◌∷◌, ◌++◌, length, take, drop, Bool, true, false, not, cond, refl, ap, sym, ◌∙◌, append_assoc, Option, Some, None, one-add, ltb, ltb-false, arith, eqb-true}
use Rattle.std.specs.Option.{MatchOption}
use Rattle.std.proofs.lemmas.List.{nil_from_length}
use Rattle.std.specs.List.{flat_map, position}
use Rattle.smtp_dialogue.specs.Body.{begins_with_line_feed, onto_first_line, body_lines, crlf, wire_line, wire}
use Rattle.smtp_dialogue.specs.inside.FirstLine.{is_line_end, line_length, behind_line_feed, behind_end}

-- the byte behind a carriage return, which is its line feed or begins the next line
behind_return : (t u : Bool) (c : ℕ) (more : List ℕ) → (c == 10) ≡ t → (c == 13) ≡ u
    → cond t (body_lines (c ∷ more)) ([] ∷ body_lines (c ∷ more)) ≡ [] ∷ body_lines (cond t more (c ∷ more))
behind_return true true c more e f = absurd (let m : c ≡ 10 = eqb-true c 10 e in let n : c ≡ 13 = eqb-true c 13 f in omega arith)
behind_return true false c more e f = rw (f, e) refl
behind_return false u c more e f = refl

after_return : (rest : List ℕ) → cond (begins_with_line_feed rest) (body_lines rest) ([] ∷ body_lines rest) ≡ [] ∷ body_lines (behind_line_feed rest)
after_return [] = refl
after_return (c ∷ more) = behind_return (c == 10) (c == 13) c more refl refl

-- the first line at each kind of byte
first_line_at : (t u : Bool) (b : ℕ) (rest : List ℕ) → (b == 13) ≡ t → (b == 10) ≡ u
    → (onto_first_line b (body_lines rest) ≡ (b ∷ take (line_length rest) rest) ∷ body_lines (behind_end (drop (line_length rest) rest)))
    → body_lines (b ∷ rest) ≡ take (cond (not (t || u)) (1 + line_length rest) 0) (b ∷ rest) ∷ body_lines (behind_end (drop (cond (not (t || u)) (1 + line_length rest) 0) (b ∷ rest)))
first_line_at true u b rest e f h = rw e (after_return rest)
first_line_at false true b rest e f h = rw (e, f) refl
first_line_at false false b rest e f h = rw (e, f, one-add) h

onto_first : (b : ℕ) (rest : List ℕ) → ((0 < length rest) → body_lines rest ≡ take (line_length rest) rest ∷ body_lines (behind_end (drop (line_length rest) rest)))
    → onto_first_line b (body_lines rest) ≡ (b ∷ take (line_length rest) rest) ∷ body_lines (behind_end (drop (line_length rest) rest))
onto_first b [] h = refl
onto_first b (c ∷ rest) h = rw (h (omega arith)) refl

-- a body that is not empty is its first line and the lines behind its end
pub first_line_is : (bytes : List ℕ) → 0 < length bytes → body_lines bytes ≡ take (line_length bytes) bytes ∷ body_lines (behind_end (drop (line_length bytes) bytes))
first_line_is [] l = absurd (omega arith)
first_line_is (b ∷ rest) l = first_line_at (b == 13) (b == 10) b rest refl refl (onto_first b rest (first_line_is rest))

within_by : (t : Bool) (q n : ℕ) → q ≤ n → cond t (1 + q) 0 ≤ suc n
within_by true q n l = omega arith
within_by false q n l = omega arith

-- the first line lies within the body
pub line_length_within : (bytes : List ℕ) → line_length bytes ≤ length bytes
line_length_within [] = omega arith
line_length_within (b ∷ bytes) = within_by (not (is_line_end b)) (line_length bytes) (length bytes) (line_length_within bytes)

found_by : (t : Bool) (q n : ℕ) (found : Option ℕ) → cond t (Some q) None ≡ found → ltb q n ≡ t → q ≤ n → MatchOption found (q ≡ n) (λ at. q ≡ at)
found_by true q n (Some at) e l w = cc
found_by true q n None e l w = cc
found_by false q n (Some at) e l w = cc
found_by false q n None e l w = let m : n ≤ q = ltb-false q n l in omega arith

-- the place of the first line end, or the length where there is none
pub line_length_found : (bytes : List ℕ) (found : Option ℕ) → found ≡ position is_line_end bytes → MatchOption found (line_length bytes ≡ length bytes) (λ at. line_length bytes ≡ at)
line_length_found bytes found e = found_by (ltb (line_length bytes) (length bytes)) (line_length bytes) (length bytes) found (sym e) refl (line_length_within bytes)

-- one more line was sent
pub wire_more : (body rest front line behind : List ℕ) → front ++ flat_map wire_line (body_lines rest) ≡ flat_map wire_line (body_lines body) → body_lines rest ≡ line ∷ body_lines behind
    → (front ++ wire_line line) ++ flat_map wire_line (body_lines behind) ≡ flat_map wire_line (body_lines body)
wire_more body rest front line behind e f =
    append_assoc front (wire_line line) (flat_map wire_line (body_lines behind)) ∙ ap (λ (lines : List (List ℕ)). front ++ flat_map wire_line lines) (sym f) ∙ e

-- what stands behind the lines that were sent
pub wire_split : (body rest front : List ℕ) → front ++ flat_map wire_line (body_lines rest) ≡ flat_map wire_line (body_lines body) → front ++ (flat_map wire_line (body_lines rest) ++ (46 ∷ crlf)) ≡ wire body
unfolding wire
wire_split body rest front e = sym (append_assoc front (flat_map wire_line (body_lines rest)) (46 ∷ crlf)) ∙ ap (λ (lines : List ℕ). lines ++ (46 ∷ crlf)) e

-- all lines were sent
pub wire_end : (body rest front : List ℕ) → front ++ flat_map wire_line (body_lines rest) ≡ flat_map wire_line (body_lines body) → length rest ≡ 0 → front ++ (46 ∷ crlf) ≡ wire body
wire_end body rest front e n = ap (λ (r : List ℕ). front ++ (flat_map wire_line (body_lines r) ++ (46 ∷ crlf))) (sym (nil_from_length rest n)) ∙ wire_split body rest front e
