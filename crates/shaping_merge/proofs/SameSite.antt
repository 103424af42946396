-- Whether a domain is at a site.
use Rattle.std.proofs.Common.{◌≡◌, refl, sym, ℕ, List, [], ◌∷◌, Bool, true, false, ◌&&◌, Option, Some, None, option_map, unwrap_or, bytes_eq}
use Rattle.std.proofs.lemmas.Slice.Eq.{bytes_eq-Decides}
use Rattle.policy_core.specs.declared.shaping.DomainShape.{DomainShape}
use Rattle.policy_core.specs.declared.site.Site.{Site}
use Rattle.policy_core.specs.Policy.{Policy}
use Rattle.policy_core.specs.Site.{domain_shape, rollup_of, site_name, hosts_of, site_of, are_same_texts, is_at_site}

both_true : (a b : Bool) → (a && b) ≡ true → (a ≡ true) × (b ≡ true)
both_true true b e = (refl, e)
both_true false b e = absurd cc

and_true : (a b : Bool) → b ≡ true → (a && b) ≡ a
and_true true b e = e
and_true false b e = refl

and_false : (a b : Bool) → b ≡ false → (a && b) ≡ false
and_false true b e = e
and_false false b e = refl

pub same_texts : (xs ys : List (List ℕ)) → are_same_texts xs ys ≡ true → xs ≡ ys
same_texts [] [] e = refl
same_texts [] (y ∷ ys) e = absurd cc
same_texts (x ∷ xs) [] e = absurd cc
same_texts (x ∷ xs) (y ∷ ys) e =
    let both = both_true (bytes_eq x y) (are_same_texts xs ys) e in
    let head : x ≡ y = (bytes_eq-Decides x y).0 both.0 in
    let tail : xs ≡ ys = same_texts xs ys both.1 in
    cc

pub rollup_found : (found : Option DomainShape) → unwrap_or (option_map (λ d. d.rollup) found) true ≡ rollup_of found
rollup_found None = refl
rollup_found (Some d) = refl

-- other hosts are another site
pub other_hosts : (policy : Policy) (site : Site) (domain : List ℕ) → are_same_texts (hosts_of policy domain) site.hosts ≡ false
    → is_at_site policy site domain ≡ false
unfolding is_at_site site_of
other_hosts policy site domain e = and_false _ _ e

-- with the same hosts the names decide
pub same_hosts : (policy : Policy) (site : Site) (domain : List ℕ) (rollup : Bool)
    → rollup ≡ rollup_of (domain_shape policy.shaping domain) → are_same_texts (hosts_of policy domain) site.hosts ≡ true
    → bytes_eq (site_name rollup domain site.hosts) site.name ≡ is_at_site policy site domain
unfolding is_at_site site_of
same_hosts policy site domain rollup r e =
    let hosts : hosts_of policy domain ≡ site.hosts = same_texts (hosts_of policy domain) site.hosts e in
    rw (r, ← hosts) (sym (and_true _ _ (rw (← hosts) at e)))
