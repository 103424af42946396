-- What is known of paths keeps up with the history.
use Rattle.std.proofs.Common.{◌≡◌, ℕ, ◌<◌, length, get_or, subst, List, [], ◌∷◌, ◌++◌, map, Bool, true, false, ◌||◌, if◌then◌else◌, fold, find, bytes_eq, option_map, Option, Some, None, append-nil, refl, ap, sym, ◌∙◌}
use Rattle.std.specs.List.{All, list_any}
use Rattle.std.proofs.lemmas.Bool.{or_left, or_right}
use Rattle.std.proofs.lemmas.List.Elements.{All-cons, All-get_or, All-nil}
use Rattle.std.proofs.lemmas.List.Folds.{list_any-append}
use Rattle.std.proofs.lemmas.List.{map-append}
use Rattle.policy_core.specs.Policy.{Policy}
use Rattle.history_core.specs.declared.entry.Entry.{Entry}
use Rattle.history_core.specs.declared.path.Path.{Path}
use Rattle.history_core.specs.declared.path.Promoted.{Promoted}
use Rattle.history_core.specs.History.{text_of, is_same_path, with_path, promoted_at, promotions, paths, path_named}
use Rattle.history_automation.specs.declared.paths.KnownPath.{KnownPath}
use Rattle.history_automation.specs.Known.{Known, known_path, known_of, with_known, IsKnown}
use Rattle.history_automation.proofs.Along.{promotions-more, paths-more}
use Rattle.history_automation.proofs.SamePaths.{same_path, same_path_self}

pub any_known : (policy : Policy) (p : Path) (seen : List Path)
    → list_any (λ k. is_same_path p k.path) (map (known_path policy) seen) ≡ list_any (is_same_path p) seen
any_known policy p [] = refl
any_known policy p (q ∷ seen) = ap (λ more. is_same_path p q || more) (any_known policy p seen)

with_if : (policy : Policy) (p : Path) (seen : List Path) (there : Bool)
    → (if there then map (known_path policy) seen else map (known_path policy) seen ++ known_path policy p ∷ [])
    ≡ map (known_path policy) (if there then seen else seen ++ p ∷ [])
with_if policy p seen true = refl
with_if policy p seen false = sym (map-append (known_path policy) seen (p ∷ []))

pub with_known_path : (policy : Policy) (p : Path) (seen : List Path)
    → with_known policy (map (known_path policy) seen) p ≡ map (known_path policy) (with_path seen p)
with_known_path policy p seen =
    ap (λ there. if there then map (known_path policy) seen else map (known_path policy) seen ++ known_path policy p ∷ []) (any_known policy p seen)
    ∙ with_if policy p seen (list_any (is_same_path p) seen)

pub known_same : (policy : Policy) (h : List Entry) (e : Entry) (k : Known) → IsKnown policy h k → [] ≡ promoted_at policy h e
    → IsKnown policy (h ++ e ∷ []) k
known_same policy h e k is none = record {
  promotions = is.promotions ∙ sym (append-nil (promotions policy h)) ∙ ap (λ more. promotions policy h ++ more) none
      ∙ sym (promotions-more policy h e);
  paths = is.paths ∙ ap (map (known_path policy)) (sym (paths-more policy h e ∙ ap (fold (λ seen (p : Promoted). with_path seen p.path) (paths policy h)) (sym none)));
}

pub known_more : (policy : Policy) (h : List Entry) (e : Entry) (old new : Known) (p : Promoted) → IsKnown policy h old
    → p ∷ [] ≡ promoted_at policy h e → new.promotions ≡ old.promotions ++ p ∷ []
    → new.paths ≡ with_known policy old.paths p.path → IsKnown policy (h ++ e ∷ []) new
known_more policy h e old new p is one promotions_new paths_new = record {
  promotions = promotions_new ∙ ap (λ so_far. so_far ++ p ∷ []) is.promotions ∙ ap (λ more. promotions policy h ++ more) one
      ∙ sym (promotions-more policy h e);
  paths = paths_new ∙ ap (λ known. with_known policy known p.path) is.paths ∙ with_known_path policy p.path (paths policy h)
      ∙ ap (map (known_path policy)) (sym (paths-more policy h e ∙ ap (fold (λ seen (q : Promoted). with_path seen q.path) (paths policy h)) (sym one)));
}

found_here : {A B : Type 0} (f : A → B) (b : Bool) (x : A) (rest : Option B) (later : Option A) → rest ≡ option_map f later
    → (if b then Some (f x) else rest) ≡ option_map f (if b then Some x else later)
found_here f true x rest later e = refl
found_here f false x rest later e = e

pub found_known : (policy : Policy) (text : List ℕ) (seen : List Path)
    → find (λ k. bytes_eq k.text text) (map (known_path policy) seen) ≡ option_map (known_path policy) (find (λ p. bytes_eq (text_of p) text) seen)
found_known policy text [] = refl
found_known policy text (p ∷ seen) = found_here (known_path policy) (bytes_eq (text_of p) text) p _ _ (found_known policy text seen)

pub named_known : (policy : Policy) (h : List Entry) (k : Known) (text : List ℕ) (all : List KnownPath) → all ≡ k.paths → IsKnown policy h k
    → find (λ k. bytes_eq k.text text) all ≡ option_map (known_path policy) (path_named policy h text)
named_known policy h k text all are is = ap (find (λ k. bytes_eq k.text text)) (are ∙ is.paths) ∙ found_known policy text (paths policy h)

same_here : (policy : Policy) (path p : Path) (b later : Bool) (rest : Option KnownPath) → is_same_path path p ≡ b
    → rest ≡ (if later then Some (known_path policy path) else None)
    → (if b then Some (known_path policy p) else rest) ≡ (if b || later then Some (known_path policy path) else None)
same_here policy path p true later rest same e = ap (λ q. Some (known_path policy q)) (sym (same_path path p same))
same_here policy path p false later rest other e = e

found_same : (policy : Policy) (path : Path) (seen : List Path)
    → find (λ k. is_same_path path k.path) (map (known_path policy) seen)
    ≡ (if list_any (is_same_path path) seen then Some (known_path policy path) else None)
found_same policy path [] = refl
found_same policy path (p ∷ seen) = same_here policy path p (is_same_path path p) _ _ refl (found_same policy path seen)

pub known_of_same : (policy : Policy) (h : List Entry) (k : Known) (path : Path) (all : List KnownPath) → all ≡ k.paths → IsKnown policy h k
    → find (λ k. is_same_path path k.path) all ≡ known_of policy h path
known_of_same policy h k path all are is = ap (find (λ k. is_same_path path k.path)) (are ∙ is.paths) ∙ found_same policy path (paths policy h)

any_kept : (test : Path → Bool) (seen : List Path) (p : Path) (there : Bool) → list_any test seen ≡ true
    → list_any test (if there then seen else seen ++ p ∷ []) ≡ true
any_kept test seen p true e = e
any_kept test seen p false e = list_any-append test seen (p ∷ []) ∙ or_left _ (list_any test (p ∷ [])) e

any_stays : (test : Path → Bool) (seen : List Path) (ps : List Promoted) → list_any test seen ≡ true
    → list_any test (fold (λ seen (p : Promoted). with_path seen p.path) seen ps) ≡ true
any_stays test seen [] e = e
any_stays test seen (p ∷ ps) e = any_stays test (with_path seen p.path) ps (any_kept test seen p.path _ e)

comes : (p : Path) (seen : List Path) (there : Bool) → list_any (is_same_path p) seen ≡ there
    → list_any (is_same_path p) (if there then seen else seen ++ p ∷ []) ≡ true
comes p seen true e = e
comes p seen false e =
    list_any-append (is_same_path p) seen (p ∷ [])
    ∙ or_right (list_any (is_same_path p) seen) _ (or_left (is_same_path p p) false (same_path_self p))

abbrev IsAmong : List Path → Promoted → Type 0
IsAmong seen p = list_any (is_same_path p.path) seen ≡ true

all_come : (seen : List Path) (ps : List Promoted) → All (IsAmong (fold (λ seen (p : Promoted). with_path seen p.path) seen ps)) ps
all_come seen [] = All-nil (IsAmong seen)
all_come seen (p ∷ ps) =
    All-cons (IsAmong (fold (λ seen (q : Promoted). with_path seen q.path) (with_path seen p.path) ps)) p ps
    (any_stays (is_same_path p.path) (with_path seen p.path) ps (comes p.path seen (list_any (is_same_path p.path) seen) refl))
    (all_come (with_path seen p.path) ps)

promoted_paths : (policy : Policy) (h : List Entry) → All (IsAmong (paths policy h)) (promotions policy h)
promoted_paths policy h = all_come [] (promotions policy h)

-- the path of each promotion is among the paths
pub path_of_promoted : (policy : Policy) (h : List Entry) (all : List Promoted) (i : ℕ) (p : Promoted) → all ≡ promotions policy h
    → i < length all → p ≡ get_or all i p → list_any (is_same_path p.path) (paths policy h) ≡ true
path_of_promoted policy h all i p are within here =
    subst (IsAmong (paths policy h)) (sym here) (All-get_or (IsAmong (paths policy h)) all i p within (subst (All (IsAmong (paths policy h))) (sym are) (promoted_paths policy h)))
