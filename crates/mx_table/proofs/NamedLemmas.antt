-- The hosts of a table have names: those of each row that a line gives do, and a table has no others.
use Rattle.std.proofs.Common.{◌≡◌, ◌∙◌, sym, ap, subst, refl, ℕ, List, [], ◌∷◌, ◌++◌, ◌&&◌, ◌||◌, Bool, true, false, Option, Some, None, Result, Ok, Err, bytes_eq, if◌then◌else◌, IsTrue, map}
use Rattle.std.specs.List.{list_any, list_all}
use Rattle.std.proofs.lemmas.List.Folds.{list_all-append}
use Rattle.std.proofs.lemmas.Slice.Eq.{bytes_eq-Decides}
use Rattle.policy_core.proofs.MxLemmas.{first_of_both, second_of_both}
use Rattle.policy_core.specs.declared.mx.MxRow.{MxRow}
use Rattle.policy_fault.specs.declared.fault.Why.{Why}
use Rattle.policy_fault.specs.declared.fault.Why.TheVariants.{BadName}
use Rattle.policy_core.specs.Names.{is_host_name}
use Rattle.policy_core.specs.Mx.{are_hosts_named}
use Rattle.mx_table.specs.MxText.{row, row_of, row_of_words, words_of, is_comment, name_of, after_line, rows_from, LineFault, gives, Joins}
use Rattle.mx_table.proofs.MergeLemmas.{given, both_true}
use Rattle.mx_table.proofs.LawLemmas.{first_true, itself}

abbrev is_named : MxRow → Bool
is_named r = list_all is_host_name r.hosts

abbrev are_named : List MxRow → Bool
are_named rows = list_all is_named rows

-- a row that is given, which may be none, has named hosts
abbrev NamedRow : Option (Result MxRow Why) → Type 0
NamedRow None = Unit {0}
NamedRow (Some (Ok r)) = is_named r ≡ true
NamedRow (Some (Err why)) = Unit {0}

row_named_by : (b : Bool) (domain : List ℕ) (hosts : List (List ℕ)) → (is_host_name domain && list_all is_host_name hosts) ≡ b
    → NamedRow (Some (if b then Ok (row domain hosts) else Err BadName))
row_named_by true domain hosts e = second_of_both (is_host_name domain) _ e
row_named_by false domain hosts e = tt

words_named : (words : List (List ℕ)) → NamedRow (row_of_words words)
words_named [] = tt
words_named (domain ∷ []) = tt
words_named (domain ∷ host ∷ hosts) = row_named_by _ (name_of domain) (map name_of (host ∷ hosts)) refl

line_named_by : (b : Bool) (words : List (List ℕ)) → NamedRow (if b then None else row_of_words words)
line_named_by true words = tt
line_named_by false words = words_named words

line_named : (line : List ℕ) → NamedRow (row_of line)
unfolding row_of
line_named line = line_named_by (is_comment line) (words_of line)

-- and so have all rows of lines
after_named : (go_on : List MxRow → Result (List MxRow) LineFault) (done : List MxRow) (n : ℕ) (line : Option (Result MxRow Why)) (rows : List MxRow)
    → are_named done ≡ true → NamedRow line → ((made : List MxRow) → are_named made ≡ true → go_on made ≡ Ok rows → are_named rows ≡ true)
    → after_line go_on done n line ≡ Ok rows → are_named rows ≡ true
after_named go_on done n None rows named here on e = on done named e
after_named go_on done n (Some (Ok r)) rows named here on e =
    on (done ++ r ∷ []) (list_all-append is_named done (r ∷ []) ∙ both_true _ _ named (both_true _ true here refl)) e
after_named go_on done n (Some (Err why)) rows named here on e = absurd cc

rows_named : (done : List MxRow) (lines : List (ℕ × List ℕ)) (rows : List MxRow) → are_named done ≡ true → rows_from done lines ≡ Ok rows → are_named rows ≡ true
rows_named done [] rows named e =
    let same : done ≡ rows = cc in
    subst (λ rs. are_named rs ≡ true) same named
rows_named done (line ∷ lines) rows named e =
    after_named (λ made. rows_from made lines) done line.0 (row_of line.1) rows named (line_named line.1) (λ made good f. rows_named made lines rows good f) e

-- a host that named rows give has a name
by_either : (a b : Bool) (P : Type 0) → (a || b) ≡ true → (a ≡ true → P) → (b ≡ true → P) → P
by_either true b P e f g = f refl
by_either false b P e f g = g e

second_true : (a b : Bool) → b ≡ true → (a || b) ≡ true
second_true true b e = refl
second_true false b e = e

one_of_named : (host : List ℕ) (hosts : List (List ℕ)) → list_all is_host_name hosts ≡ true → list_any (bytes_eq host) hosts ≡ true → is_host_name host ≡ true
one_of_named host [] named found = absurd cc
one_of_named host (h ∷ hosts) named found =
    by_either (bytes_eq host h) _ _ found
    (λ same. ap is_host_name ((bytes_eq-Decides host h).0 same) ∙ first_of_both (is_host_name h) (list_all is_host_name hosts) named)
    (λ behind. one_of_named host hosts (second_of_both (is_host_name h) _ named) behind)

given_named : (rows : List MxRow) (domain host : List ℕ) → are_named rows ≡ true → gives rows domain host ≡ true → is_host_name host ≡ true
given_named [] domain host named found = absurd cc
given_named (r ∷ rows) domain host named found =
    by_either (given domain host r) _ _ found
    (λ here. one_of_named host r.hosts (first_of_both (is_named r) (are_named rows) named) (second_of_both (bytes_eq r.domain domain) _ here))
    (λ behind. given_named rows domain host (second_of_both (is_named r) _ named) behind)

-- hosts of which each has a name
hosts_named : (hosts : List (List ℕ)) → ((host : List ℕ) → list_any (bytes_eq host) hosts ≡ true → is_host_name host ≡ true) → list_all is_host_name hosts ≡ true
hosts_named [] each = refl
hosts_named (h ∷ hosts) each =
    both_true _ _ (each h (first_true _ _ (itself h))) (hosts_named hosts (λ host found. each host (second_true (bytes_eq host h) _ found)))

table_named : (table : List MxRow) → ((domain host : List ℕ) → gives table domain host ≡ true → is_host_name host ≡ true) → are_named table ≡ true
table_named [] each = refl
table_named (r ∷ table) each =
    both_true _ _
    (hosts_named r.hosts (λ host found. each r.domain host (first_true _ _ (both_true _ _ (itself r.domain) found))))
    (table_named table (λ domain host found. each domain host (second_true (given domain host r) _ found)))

-- the table of the rows that lines give
pub named_table : (lines : List (ℕ × List ℕ)) (rows table : List MxRow) → rows_from [] lines ≡ Ok rows → Joins table rows → IsTrue (are_hosts_named table)
unfolding are_hosts_named Joins
named_table lines rows table read joins =
    table_named table (λ domain host found. given_named rows domain host (rows_named [] lines rows refl read) (sym (joins domain host) ∙ found))
