-- Texts one behind the other, and the patterns of a rule as data.
use Rattle.std.proofs.Common.{◌≡◌, ◌∙◌, ap, refl, ℕ, List, [], ◌∷◌, ◌++◌, false, map, append_assoc}
use Rattle.serde_json.specs.Data.{string, array, item}
use Rattle.serde_json.specs.View.{items_of}
use Rattle.serde_json.specs.Written.{has_float}
use Rattle.shaping_merge.specs.ExplainText.{pattern_items}

-- a text and what stands behind it
pub behind : (old mid new front back : List ℕ) → mid ≡ old ++ front → new ≡ mid ++ back → new ≡ old ++ (front ++ back)
behind old mid new front back e f = f ∙ ap (λ (text : List ℕ). text ++ back) e ∙ append_assoc old front back

-- patterns as strings are the items of their list
pub items_of_patterns : (patterns : List (List ℕ)) → items_of (map string patterns) ≡ pattern_items patterns
items_of_patterns [] = refl
items_of_patterns (pattern ∷ more) = ap (item (string pattern)) (items_of_patterns more)

-- a list of patterns has no float
pub no_float : (patterns : List (List ℕ)) → has_float (array (pattern_items patterns)) ≡ false
no_float [] = refl
no_float (pattern ∷ more) = no_float more
