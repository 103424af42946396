-- Lists that a history adds up to, with one more entry.
use Rattle.std.proofs.Common.{◌≡◌, ℕ, List, [], ◌∷◌, ◌++◌, Bool, ◌&&◌, ap, ◌∙◌, sym, append_assoc, append-nil, bytes_eq, map, filter}
use Rattle.std.specs.Prelude.{◌==◌}
use Rattle.std.proofs.lemmas.List.{map-append}
use Rattle.std.proofs.lemmas.List.Elements.{filter-append, filter_map-append}
use Rattle.kumo_base.specs.Moment.{clamped}
use Rattle.history_core.specs.declared.entry.Entry.{Entry}
use Rattle.history_core.specs.History.{along_from, along}
use Rattle.history_core.specs.Connection.{Connection, connection_in, connections}
use Rattle.history_core.specs.Limits.{opened_moments}

along_from-more : {E A : Type 0} (add : List E → E → List A) (before xs : List E) (x : E)
    → along_from add before (xs ++ x ∷ []) ≡ along_from add before xs ++ add (before ++ xs) x
along_from-more add before [] x = append-nil (add before x) ∙ ap (λ so_far. add so_far x) (sym (append-nil before))
along_from-more add before (e ∷ xs) x =
    ap (λ rest. add before e ++ rest) (along_from-more add (before ++ e ∷ []) xs x)
    ∙ sym (append_assoc (add before e) (along_from add (before ++ e ∷ []) xs) (add (before ++ e ∷ [] ++ xs) x))
    ∙ ap (λ so_far. (add before e ++ along_from add (before ++ e ∷ []) xs) ++ add so_far x) (append_assoc before (e ∷ []) xs)

pub along-more : {E A : Type 0} (add : List E → E → List A) (xs : List E) (x : E) → along add (xs ++ x ∷ []) ≡ along add xs ++ add xs x
along-more add xs x = along_from-more add [] xs x

-- where more than one comes
pub along_from-append : {E A : Type 0} (add : List E → E → List A) (before xs ys : List E)
    → along_from add before (xs ++ ys) ≡ along_from add before xs ++ along_from add (before ++ xs) ys
along_from-append add before [] ys = ap (λ so_far. along_from add so_far ys) (sym (append-nil before))
along_from-append add before (e ∷ xs) ys =
    ap (λ rest. add before e ++ rest) (along_from-append add (before ++ e ∷ []) xs ys)
    ∙ sym (append_assoc (add before e) (along_from add (before ++ e ∷ []) xs) (along_from add (before ++ e ∷ [] ++ xs) ys))
    ∙ ap (λ so_far. (add before e ++ along_from add (before ++ e ∷ []) xs) ++ along_from add so_far ys) (append_assoc before (e ∷ []) xs)

pub opened_moments-more : (h : List Entry) (e : Entry) (path : List ℕ) (key : ℕ)
    → opened_moments (h ++ e ∷ []) path key ≡ opened_moments h path key ++ opened_moments (e ∷ []) path key
opened_moments-more h e path key =
    let here : Connection → Bool = λ c. bytes_eq c.path path && c.key == key in
    ap (λ cs. map (λ (c : Connection). clamped c.at) (filter here cs)) (filter_map-append connection_in h (e ∷ []))
    ∙ ap (map (λ (c : Connection). clamped c.at)) (filter-append here (connections h) (connections (e ∷ [])))
    ∙ map-append (λ (c : Connection). clamped c.at) (filter here (connections h)) (filter here (connections (e ∷ [])))
