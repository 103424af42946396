-- The domains of a site.
use Rattle.std.proofs.Common.{◌≡◌, ◌∙◌, refl, sym, ap, subst, ℕ, List, [], ◌∷◌, ◌++◌, map, Bool, true, false, None, bytes_eq, append-nil}
use Rattle.std.specs.List.{list_any, filter}
use Rattle.std.proofs.Math.Bool.{or-true}
use Rattle.std.proofs.lemmas.Slice.Eq.{bytes_eq-Decides}
use Rattle.policy_core.specs.declared.site.Site.{Site}
use Rattle.policy_core.specs.Mx.{hosts_in}
use Rattle.policy_core.specs.Policy.{Policy}
use Rattle.policy_core.specs.Site.{domain_shape, rollup_of, site_of, are_same_texts, is_same_site, is_at_site, own_domain, domains_of}

same_text : (text : List ℕ) → bytes_eq text text ≡ true
same_text text = (bytes_eq-Decides text text).1 refl

same_texts : (texts : List (List ℕ)) → are_same_texts texts texts ≡ true
same_texts [] = refl
same_texts (text ∷ texts) = rw (same_text text, same_texts texts) refl

same_site : (site : Site) → is_same_site site site ≡ true
same_site site = rw (same_text site.name, same_texts site.hosts) refl

-- a domain is at its site
pub at_its_site : (policy : Policy) (domain : List ℕ) → is_at_site policy (site_of policy domain) domain ≡ true
unfolding is_at_site
at_its_site policy domain = same_site (site_of policy domain)

-- a text of a list that passes a test is among those that do
among_filtered : (p : List ℕ → Bool) (text : List ℕ) (xs : List (List ℕ)) → p text ≡ true → list_any (bytes_eq text) xs ≡ true
    → list_any (bytes_eq text) (filter p xs) ≡ true
among_filtered p text [] passes e = e
among_filtered p text (x ∷ xs) passes e = by (bytes_eq text x) (p x) refl refl (among_filtered p text xs passes)
  where
    by : (same ok : Bool) → bytes_eq text x ≡ same → p x ≡ ok
        → (list_any (bytes_eq text) xs ≡ true → list_any (bytes_eq text) (filter p xs) ≡ true)
        → list_any (bytes_eq text) (filter p (x ∷ xs)) ≡ true
    by true true f g rest = rw (g, f) refl
    by true false f g rest = let h : p x ≡ true = ap p (sym ((bytes_eq-Decides text x).0 f)) ∙ passes in cc
    by false true f g rest = rw (g, f) (rest (rw f at e))
    by false false f g rest = rw g (rest (rw f at e))

any_left : (p : List ℕ → Bool) (xs ys : List (List ℕ)) → list_any p xs ≡ true → list_any p (xs ++ ys) ≡ true
any_left p [] ys e = cc
any_left p (x ∷ xs) ys e = by (p x) refl (any_left p xs ys)
  where
    by : (b : Bool) → p x ≡ b → (list_any p xs ≡ true → list_any p (xs ++ ys) ≡ true) → list_any p ((x ∷ xs) ++ ys) ≡ true
    by true f rest = rw f refl
    by false f rest = rw f (rest (rw f at e))

any_right : (p : List ℕ → Bool) (xs ys : List (List ℕ)) → list_any p ys ≡ true → list_any p (xs ++ ys) ≡ true
any_right p [] ys e = e
any_right p (x ∷ xs) ys e = rw (any_right p xs ys e, or-true) refl

pub of_its_row : (policy : Policy) (domain : List ℕ) → list_any (bytes_eq domain) (map (λ row. row.domain) policy.mx) ≡ true
    → list_any (bytes_eq domain) (domains_of policy (site_of policy domain)) ≡ true
of_its_row policy domain e =
    let here = is_at_site policy (site_of policy domain) in
    any_left (bytes_eq domain) (filter here (map (λ row. row.domain) policy.mx)) _ (among_filtered here domain _ (at_its_site policy domain) e)

pub of_its_shape : (policy : Policy) (domain : List ℕ) → list_any (bytes_eq domain) (map (λ shape. shape.domain) policy.shaping.domains) ≡ true
    → list_any (bytes_eq domain) (domains_of policy (site_of policy domain)) ≡ true
of_its_shape policy domain e =
    let here = is_at_site policy (site_of policy domain) in
    any_right (bytes_eq domain) (filter here (map (λ row. row.domain) policy.mx)) _
    (any_left (bytes_eq domain) (filter here (map (λ shape. shape.domain) policy.shaping.domains)) _ (among_filtered here domain _ (at_its_site policy domain) e))

own_name : (policy : Policy) (domain : List ℕ) → hosts_in policy.mx domain ≡ None → rollup_of (domain_shape policy.shaping domain) ≡ true
    → (site_of policy domain).name ≡ domain
unfolding site_of
own_name policy domain none shared = rw (none, shared) (append-nil domain)

owned : (policy : Policy) (site : Site) (domain : List ℕ) → site.name ≡ domain → hosts_in policy.mx domain ≡ None → is_at_site policy site domain ≡ true
    → own_domain policy site ≡ domain ∷ []
owned policy site domain e none here =
    let no_row : hosts_in policy.mx site.name ≡ None = subst (λ name. hosts_in policy.mx name ≡ None) (sym e) none in
    let there : is_at_site policy site site.name ≡ true = subst (λ name. is_at_site policy site name ≡ true) (sym e) here in
    rw (no_row, there) (ap (λ name. name ∷ []) e)

pub of_itself : (policy : Policy) (domain : List ℕ) → hosts_in policy.mx domain ≡ None → rollup_of (domain_shape policy.shaping domain) ≡ true
    → list_any (bytes_eq domain) (domains_of policy (site_of policy domain)) ≡ true
of_itself policy domain none shared =
    let site = site_of policy domain in
    let here = is_at_site policy site in
    any_right (bytes_eq domain) (filter here (map (λ row. row.domain) policy.mx)) _
    (any_right (bytes_eq domain) (filter here (map (λ shape. shape.domain) policy.shaping.domains)) _
    (rw (owned policy site domain (own_name policy domain none shared) none (at_its_site policy domain), same_text domain) refl))
