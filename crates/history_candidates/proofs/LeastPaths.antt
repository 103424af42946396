-- The least of several by a rank, found from the front; and known paths.
use Rattle.std.proofs.Common.{◌≡◌, ℕ, nat_le, List, [], ◌∷◌, Bool, true, false, cond, Option, Some, None, All, map, refl, sym, ap, subst, ◌∙◌, arith}
use Rattle.std.proofs.lemmas.List.Elements.{All-map}
use Rattle.policy_core.specs.Policy.{Policy}
use Rattle.history_core.specs.declared.entry.Entry.{Entry}
use Rattle.history_core.specs.declared.path.Path.{Path}
use Rattle.history_core.specs.History.{paths}
use Rattle.history_core.specs.Openable.{lesser}
use Rattle.history_automation.specs.declared.paths.KnownPath.{KnownPath}
use Rattle.history_automation.specs.Known.{known_path}

both : {A : Type 0} (r : A → ℕ) (b x y : A) (bx xy by : Bool) → nat_le (r b) (r x) ≡ bx → nat_le (r x) (r y) ≡ xy → nat_le (r b) (r y) ≡ by
    → lesser r b (lesser r x (Some y)) ≡ lesser r (cond (nat_le (r b) (r x)) b x) (Some y)
both r b x y true true true e f g = simp (e, f, g) refl
both r b x y true true false e f g = absurd (grind (arith, e, f, g))
both r b x y true false by e f g = simp (e, f) refl
both r b x y false true by e f g = simp (e, f) refl
both r b x y false false true e f g = absurd (grind (arith, e, f, g))
both r b x y false false false e f g = simp (e, f, g) refl

first_of : {A : Type 0} (b x : A) (le : Bool) → cond le (Some b) (Some x) ≡ Some (cond le b x)
first_of b x true = refl
first_of b x false = refl

-- what is less than the lesser of two
pub lesser_twice : {A : Type 0} (r : A → ℕ) (b x : A) (later : Option A) → lesser r b (lesser r x later) ≡ lesser r (cond (nat_le (r b) (r x)) b x) later
lesser_twice r b x None = first_of b x (nat_le (r b) (r x))
lesser_twice r b x (Some y) = both r b x y _ _ _ refl refl refl

-- what is known of each path
pub known_all : (policy : Policy) (h : List Entry) (ks : List KnownPath) → ks ≡ map (known_path policy) (paths policy h)
    → All (λ k. k ≡ known_path policy k.path) ks
known_all policy h ks is =
    subst (All (λ k. k ≡ known_path policy k.path)) (sym is)
    (All-map (λ (k : KnownPath). k ≡ known_path policy k.path) (known_path policy) (paths policy h) (λ i d within. refl))

back : (policy : Policy) (ps : List Path) → map (λ k. k.path) (map (known_path policy) ps) ≡ ps
back policy [] = refl
back policy (p ∷ ps) = ap (λ more. p ∷ more) (back policy ps)

-- the paths that are known
pub paths_of_known : (policy : Policy) (h : List Entry) (ks : List KnownPath) → ks ≡ map (known_path policy) (paths policy h)
    → map (λ k. k.path) ks ≡ paths policy h
paths_of_known policy h ks is = ap (map (λ k. k.path)) is ∙ back policy (paths policy h)
