-- Lists of what entries give, and what is asked of them.
use Rattle.std.proofs.Common.{◌≡◌, suc, List, [], ◌∷◌, Bool, true, false, cond, Option, Some, None, option_and_then, filter, filter_map, count_by, length, refl, sym, ap, ◌∙◌, if◌then◌else◌}
use Rattle.std.specs.List.{cons_option}
use Rattle.std.proofs.lemmas.List.Sums.{length-filter}
use Rattle.history_views.specs.Opened.{some_passes}

-- what there is, where it passes a test
abbrev pub kept : {B : Type 0} → (B → Bool) → Option B → Option B
kept test o = option_and_then (λ b. if test b then Some b else None) o

both_longer : {A B : Type 0} (x : A) (xs : List A) (y : B) (ys : List B) (b : Bool) → length xs ≡ length ys
    → length (cond b (x ∷ xs) xs) ≡ length (cond b (y ∷ ys) ys)
both_longer x xs y ys true is = ap suc is
both_longer x xs y ys false is = is

kept_by : {B : Type 0} (b : B) (passes : Bool) (rest later : List B) → rest ≡ later
    → cond passes (b ∷ rest) rest ≡ cons_option (if passes then Some b else None) later
kept_by b true rest later is = ap (λ more. b ∷ more) is
kept_by b false rest later is = is

kept_here : {B : Type 0} (test : B → Bool) (o : Option B) (given later : List B) → filter test given ≡ later
    → filter test (cons_option o given) ≡ cons_option (kept test o) later
kept_here test None given later is = is
kept_here test (Some b) given later is = kept_by b (test b) (filter test given) later is

-- those of what the items give that pass a test
pub filter-given : {A B : Type 0} (test : B → Bool) (f : A → Option B) (xs : List A)
    → filter test (filter_map f xs) ≡ filter_map (λ x. kept test (f x)) xs
filter-given test f [] = refl
filter-given test f (x ∷ xs) = kept_here test (f x) (filter_map f xs) _ (filter-given test f xs)

passing_longer : {A B : Type 0} (test : B → Bool) (x : A) (xs : List A) (o : Option B) (given : List B)
    → length xs ≡ length (filter test given) → length (cond (some_passes test o) (x ∷ xs) xs) ≡ length (filter test (cons_option o given))
passing_longer test x xs None given is = is
passing_longer test x xs (Some b) given is = both_longer x xs b (filter test given) (test b) is

many_passing : {A B : Type 0} (test : B → Bool) (f : A → Option B) (xs : List A)
    → length (filter (λ x. some_passes test (f x)) xs) ≡ length (filter test (filter_map f xs))
many_passing test f [] = refl
many_passing test f (x ∷ xs) =
    passing_longer test x (filter (λ y. some_passes test (f y)) xs) (f x) (filter_map f xs) (many_passing test f xs)

-- how many of them pass a test
pub counted-given : {A B : Type 0} (test : B → Bool) (f : A → Option B) (xs : List A)
    → count_by (λ x. some_passes test (f x)) xs ≡ length (filter test (filter_map f xs))
counted-given test f xs = sym (length-filter (λ x. some_passes test (f x)) xs) ∙ many_passing test f xs
