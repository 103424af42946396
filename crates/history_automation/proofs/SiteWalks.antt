-- Two sites are the same in either order.
use Rattle.std.proofs.Common.{◌≡◌, refl, sym, ℕ, List, [], ◌∷◌, Bool, true, false, bytes_eq}
use Rattle.std.proofs.lemmas.Slice.Eq.{bytes_eq-Decides}
use Rattle.policy_core.specs.declared.site.Site.{Site}
use Rattle.policy_core.specs.Site.{are_same_texts, is_same_site}

same_where : (a b : Bool) → (a ≡ true → b ≡ true) → (b ≡ true → a ≡ true) → a ≡ b
same_where true b there back = sym (there refl)
same_where false true there back = back refl
same_where false false there back = refl

same_text_back : (a b : List ℕ) → bytes_eq a b ≡ bytes_eq b a
same_text_back a b =
    same_where _ _ (λ e. (bytes_eq-Decides b a).1 (sym ((bytes_eq-Decides a b).0 e))) (λ e. (bytes_eq-Decides a b).1 (sym ((bytes_eq-Decides b a).0 e)))

same_texts_back : (a b : List (List ℕ)) → are_same_texts a b ≡ are_same_texts b a
same_texts_back [] [] = refl
same_texts_back [] (y ∷ ys) = refl
same_texts_back (x ∷ xs) [] = refl
same_texts_back (x ∷ xs) (y ∷ ys) = rw (same_text_back x y, same_texts_back xs ys) refl

pub same_site_back : (a b : Site) → is_same_site a b ≡ is_same_site b a
same_site_back a b = rw (same_text_back a.name b.name, same_texts_back a.hosts b.hosts) refl
