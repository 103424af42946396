-- A pass over the tables of domains.
use Rattle.std.proofs.Common.{◌≡◌, ◌∙◌, refl, ap, ℕ, ◌+◌, ◌<◌, List, [], ◌∷◌, ◌++◌, append_assoc, append-nil, length, get_or, drop, Bool, true, false, ◌||◌, Option, Some, None, is_some, find, option_map, unwrap_or, bytes_eq, if◌then◌else◌}
use Rattle.std.specs.List.{filter}
use Rattle.std.specs.Option.{option_or}
use Rattle.std.proofs.lemmas.List.{drop_more}
use Rattle.std.proofs.lemmas.Slice.Eq.{bytes_eq-Decides}
use Rattle.policy_core.specs.declared.shaping.DomainShape.{DomainShape}
use Rattle.policy_core.specs.declared.site.Site.{Site}
use Rattle.policy_core.specs.Policy.{Policy}
use Rattle.policy_core.specs.Site.{is_at_site, rollup_of}
use Rattle.policy_core.specs.PathTables.{firsts_but}
use Rattle.shaping_merge.specs.inside.Rollups.{rollup_in, with_shape, kept_shape}
use Rattle.shaping_merge.proofs.FirstsLemmas.{new_passes, met_left}
use Rattle.shaping_merge.proofs.SameSite.{rollup_found}

-- the names that were met are those in the map, and that of the table that is added
met_with : (met : Option Bool) (shape : DomainShape) (name : List ℕ) → is_some (with_shape met shape name) ≡ (bytes_eq shape.domain name || is_some met)
met_with (Some rollup) shape name = by (bytes_eq shape.domain name)
  where
    by : (b : Bool) → true ≡ (b || true)
    by true = refl
    by false = refl
met_with None shape name = by (bytes_eq shape.domain name)
  where
    by : (b : Bool) → is_some (option_map (λ (d : DomainShape). d.rollup) (if b then Some shape else None)) ≡ (b || false)
    by true = refl
    by false = refl

-- what a step adds, and what is left
pub shape_step : (policy : Policy) (site : Site) (old new : List ℕ → Option Bool) (xs : List DomainShape) (i : ℕ) (x : DomainShape) (out : List DomainShape)
    → i < length xs → x ≡ get_or xs i x → ((name : List ℕ) → new name ≡ with_shape (old name) x name)
    → (out ++ kept_shape policy site (old x.domain) x) ++ filter (λ d. is_at_site policy site d.domain) (firsts_but (λ d. d.domain) (λ name. is_some (new name)) (drop (i + 1) xs))
    ≡ out ++ filter (λ d. is_at_site policy site d.domain) (firsts_but (λ d. d.domain) (λ name. is_some (old name)) (drop i xs))
shape_step policy site old new xs i x out within here add = by (old x.domain) refl
  where
    met : List ℕ → Bool
    met name = is_some (old name)

    next : List ℕ → Bool
    next name = is_some (new name)

    adds : (name : List ℕ) → next name ≡ (bytes_eq x.domain name || met name)
    adds name = ap is_some (add name) ∙ met_with (old name) x name

    passes : DomainShape → Bool
    passes d = is_at_site policy site d.domain

    by : (o : Option Bool) → old x.domain ≡ o
        → (out ++ kept_shape policy site o x) ++ filter passes (firsts_but (λ d. d.domain) next (drop (i + 1) xs)) ≡ out ++ filter passes (firsts_but (λ d. d.domain) met (drop i xs))
    by None e =
        append_assoc out (filter passes (x ∷ [])) _
        ∙ ap (λ rest. out ++ rest) (new_passes passes (λ d. d.domain) met next xs i x within here (ap is_some e) adds)
    by (Some r) e =
        rw (append-nil out) (ap (λ rest. out ++ filter passes rest) (met_left (λ d. d.domain) met next xs i x within here (ap is_some e) adds))

-- a table is the first of its domain where the map has none
pub first_said : (whole xs : List DomainShape) (i : ℕ) (x : DomainShape) (met : List ℕ → Option Bool)
    → i < length xs → x ≡ get_or xs i x
    → ((name : List ℕ) → option_or (met name) (rollup_in (drop i xs) name) ≡ rollup_in whole name) → met x.domain ≡ None
    → x.rollup ≡ rollup_of (find (λ d. bytes_eq d.domain x.domain) whole)
first_said whole xs i x met within here all none =
    ap (λ o. unwrap_or o true) (rw (none, drop_more xs i x within, ← here, (bytes_eq-Decides x.domain x.domain).1 refl) at (all x.domain))
    ∙ rollup_found (find (λ d. bytes_eq d.domain x.domain) whole)

-- what the map has, and what is left to add
pub rollups_step : (old new : List ℕ → Option Bool) (xs : List DomainShape) (i : ℕ) (x : DomainShape)
    → i < length xs → x ≡ get_or xs i x → ((name : List ℕ) → new name ≡ with_shape (old name) x name)
    → (name : List ℕ) → option_or (new name) (rollup_in (drop (i + 1) xs) name) ≡ option_or (old name) (rollup_in (drop i xs) name)
rollups_step old new xs i x within here add name =
    rw (add name, drop_more xs i x within, ← here) (by (old name) (bytes_eq x.domain name))
  where
    by : (o : Option Bool) (b : Bool)
        → option_or (option_or o (option_map (λ (d : DomainShape). d.rollup) (if b then Some x else None))) (rollup_in (drop (i + 1) xs) name)
        ≡ option_or o (option_map (λ (d : DomainShape). d.rollup) (if b then Some x else find (λ d. bytes_eq d.domain name) (drop (i + 1) xs)))
    by (Some r) b = refl
    by None true = refl
    by None false = refl
