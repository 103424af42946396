-- Paths that are the same are equal.
use Rattle.std.proofs.Common.{◌≡◌, refl, ap, ◌∙◌, ℕ, List, [], ◌∷◌, Bool, true, false, ◌&&◌, bytes_eq}
use Rattle.std.proofs.lemmas.Slice.Eq.{bytes_eq-Decides}
use Rattle.policy_core.specs.Site.{are_same_texts, is_same_site}
use Rattle.history_core.specs.declared.path.Path.{Path}
use Rattle.history_core.specs.History.{is_same_path}

both_true : (a b : Bool) → (a && b) ≡ true → (a ≡ true) × (b ≡ true)
both_true true b e = (refl, e)
both_true false b e = absurd cc

and_both : (a b : Bool) → a ≡ true → b ≡ true → (a && b) ≡ true
and_both a b left right = rw (left, right) refl

same_texts : (xs ys : List (List ℕ)) → are_same_texts xs ys ≡ true → xs ≡ ys
same_texts [] [] e = refl
same_texts [] (y ∷ ys) e = absurd cc
same_texts (x ∷ xs) [] e = absurd cc
same_texts (x ∷ xs) (y ∷ ys) e =
    let both = both_true (bytes_eq x y) (are_same_texts xs ys) e in
    let head : x ≡ y = (bytes_eq-Decides x y).0 both.0 in
    let tail : xs ≡ ys = same_texts xs ys both.1 in
    cc

abbrev made_path : List ℕ → List ℕ → List (List ℕ) → Path
made_path source name hosts = record { source = source; site = record { name = name; hosts = hosts } }

pub same_path : (p q : Path) → is_same_path p q ≡ true → p ≡ q
same_path p q e =
    let outer = both_true (bytes_eq p.source q.source) (is_same_site p.site q.site) e in
    let inner = both_true (bytes_eq p.site.name q.site.name) (are_same_texts p.site.hosts q.site.hosts) outer.1 in
    ap (λ source. made_path source p.site.name p.site.hosts) ((bytes_eq-Decides p.source q.source).0 outer.0)
    ∙ ap (λ name. made_path q.source name p.site.hosts) ((bytes_eq-Decides p.site.name q.site.name).0 inner.0)
    ∙ ap (λ hosts. made_path q.source q.site.name hosts) (same_texts p.site.hosts q.site.hosts inner.1)

same_text_self : (x : List ℕ) → bytes_eq x x ≡ true
same_text_self x = (bytes_eq-Decides x x).1 refl

same_texts_self : (xs : List (List ℕ)) → are_same_texts xs xs ≡ true
same_texts_self [] = refl
same_texts_self (x ∷ xs) = and_both _ _ (same_text_self x) (same_texts_self xs)

pub same_path_self : (p : Path) → is_same_path p p ≡ true
same_path_self p =
    and_both _ _ (same_text_self p.source) (and_both _ _ (same_text_self p.site.name) (same_texts_self p.site.hosts))
