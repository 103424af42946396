-- Words to a row.
use Rattle.std.proofs.Common.{◌≡◌, ◌∙◌, ap, refl, ℕ, ◌<◌, get_or, List, [], ◌∷◌, Bor, length, map, Some, Bool, false, arith}
use Rattle.std.specs.List.{list_all}
use Rattle.std.proofs.lemmas.List.Folds.{list_all-map, list_all_at}
use Rattle.policy_core.specs.Names.{is_host_name}
use Rattle.mx_table.specs.declared.fault.RowFault.{RowFault}
use Rattle.mx_table.specs.declared.fault.RowFault.TheVariants.{Refused, Memory}
use Rattle.mx_table.specs.MxText.{name_of, row_named, row_of_words}
use Rattle.mx_table.specs.inside.Causes.{IsBadName}

named : (words : List (Bor (List ℕ))) → map name_of (map (λ word. word.now) words) ≡ map (λ word. name_of word.now) words
named [] = refl
named (word ∷ words) = ap (λ names. name_of word.now ∷ names) (named words)

-- a domain with hosts
pub row_with_hosts : (words : List (Bor (List ℕ))) (domain : Bor (List ℕ)) (hosts : List (Bor (List ℕ))) → words ≡ domain ∷ hosts → 0 < length hosts
    → row_of_words (map (λ word. word.now) words) ≡ Some (row_named (name_of domain.now) (map (λ word. name_of word.now) hosts))
row_with_hosts words domain [] is some = absurd (omega arith)
row_with_hosts words domain (host ∷ hosts) is some =
    rw is (ap (λ names. Some (row_named (name_of domain.now) (name_of host.now ∷ names))) (named hosts))

-- a bad name among names
bad_for : (fault : RowFault) (one all : Bool) → IsBadName fault one → (one ≡ false → all ≡ false) → IsBadName fault all
bad_for (Refused why) one all bad more = (bad.0, more bad.1)
bad_for Memory one all bad more = tt

pub bad_among : (fault : RowFault) (words : List (Bor (List ℕ))) (i : ℕ) (d : Bor (List ℕ)) → i < length words → IsBadName fault (is_host_name (name_of (get_or words i d).now))
    → IsBadName fault (list_all is_host_name (map (λ word. name_of word.now) words))
bad_among fault words i d within bad =
    bad_for fault _ _ bad
    (λ e. list_all-map is_host_name (λ (word : Bor (List ℕ)). name_of word.now) words
    ∙ list_all_at (λ (word : Bor (List ℕ)). is_host_name (name_of word.now)) words i d within e)
