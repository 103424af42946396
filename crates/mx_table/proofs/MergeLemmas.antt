-- Rows in order, merged where they have one domain.
use Rattle.std.proofs.Common.{◌≡◌, ◌∙◌, sym, ap, subst, refl, suc, ℕ, ◌+◌, List, [], ◌∷◌, ◌++◌, ◌&&◌, ◌||◌, Bool, true, false, cond, bytes_eq, IsTrue, arith}
use Rattle.std.specs.declared.cmp.Ordering.{Ordering}
use Rattle.std.specs.declared.cmp.Ordering.TheVariants.{Less, Equal, Greater}
use Rattle.std.specs.Ordering.{nat_cmp, is_lt, is_eq, ordering_reverse}
use Rattle.std.specs.Cmp.Lexicographic.{slice_cmp}
use Rattle.std.specs.List.{list_any, list_all}
use Rattle.std.specs.List.Sorted.{IsSortedBy, IsPermutation}
use Rattle.std.proofs.lemmas.Cmp.{nat_list_cmp_total}
use Rattle.std.proofs.lemmas.List.Folds.{list_any-append}
use Rattle.std.proofs.lemmas.List.Sorted.{list_any-IsPermutation}
use Rattle.std.proofs.lemmas.Map.Text.{is_eq-slice_cmp}
use Rattle.std.proofs.lemmas.Slice.Eq.{bytes_eq-Decides}
use Rattle.policy_core.specs.declared.mx.MxRow.{MxRow}
use Rattle.policy_core.specs.Mx.{comes_before, ascend_behind, ascend, has_hosts, is_mx_table}
use Rattle.mx_table.specs.MxText.{row, gives, Joins}
use Rattle.mx_table.specs.inside.Merged.{by_domain, domains, merged_behind, merged_rows}

-- whether a row gives a domain a host
abbrev pub given : List ℕ → List ℕ → MxRow → Bool
given domain host r = bytes_eq r.domain domain && list_any (bytes_eq host) r.hosts

-- two rows of one domain give what the row of all their hosts gives
both_given : (d a b : Bool) → (d && (a || b)) ≡ ((d && a) || (d && b))
both_given true a b = refl
both_given false a b = refl

or_assoc : (a b c : Bool) → ((a || b) || c) ≡ (a || (b || c))
or_assoc true b c = refl
or_assoc false b c = refl

given_joined : (domain host : List ℕ) (r s : MxRow) → bytes_eq r.domain s.domain ≡ true
    → given domain host (row r.domain (r.hosts ++ s.hosts)) ≡ (given domain host r || given domain host s)
given_joined domain host r s same =
    let d = bytes_eq r.domain domain in
    ap (λ b. d && b) (list_any-append (bytes_eq host) r.hosts s.hosts)
    ∙ both_given d (list_any (bytes_eq host) r.hosts) (list_any (bytes_eq host) s.hosts)
    ∙ ap (λ (text : List ℕ). given domain host r || (bytes_eq text domain && list_any (bytes_eq host) s.hosts)) ((bytes_eq-Decides r.domain s.domain).0 same)

gives_behind : (domain host : List ℕ) (last : MxRow) (rows : List MxRow)
    → gives (merged_behind last rows) domain host ≡ (given domain host last || gives rows domain host)
gives_behind domain host last [] = refl
gives_behind domain host last (next ∷ rows) =
    by (bytes_eq last.domain next.domain) refl
    (gives_behind domain host (row last.domain (last.hosts ++ next.hosts)) rows) (gives_behind domain host next rows) where
      by : (b : Bool) → bytes_eq last.domain next.domain ≡ b
          → gives (merged_behind (row last.domain (last.hosts ++ next.hosts)) rows) domain host
          ≡ (given domain host (row last.domain (last.hosts ++ next.hosts)) || gives rows domain host)
          → gives (merged_behind next rows) domain host ≡ (given domain host next || gives rows domain host)
          → gives (cond b (merged_behind (row last.domain (last.hosts ++ next.hosts)) rows) (last ∷ merged_behind next rows)) domain host
          ≡ (given domain host last || (given domain host next || gives rows domain host))
      by true same here behind =
          here ∙ ap (λ b. b || gives rows domain host) (given_joined domain host last next same)
          ∙ or_assoc (given domain host last) (given domain host next) (gives rows domain host)
      by false other here behind = ap (λ b. given domain host last || b) behind

-- joining keeps what rows give
gives_merged : (rows : List MxRow) (domain host : List ℕ) → gives (merged_rows rows) domain host ≡ gives rows domain host
gives_merged [] domain host = refl
gives_merged (first ∷ rows) domain host = gives_behind domain host first rows

-- no domain comes before the one in front of it
abbrev pub NeverFalls : List ℕ → List MxRow → Type 0
NeverFalls domain [] = Unit {0}
NeverFalls domain (next ∷ rows) = (comes_before next.domain domain ≡ false) × NeverFalls next.domain rows

sorted_behind : (last : MxRow) (rows : List MxRow) → IsSortedBy by_domain (last ∷ rows) → IsSortedBy by_domain rows
sorted_behind last rows sorted = λ k d low high.
    let next : suc k + 1 ≡ suc (k + 1) = omega arith in
    let h = sorted (suc k) d (omega arith) (omega (arith, high)) in
    rw next at h

never_falls : (last : MxRow) (rows : List MxRow) → IsSortedBy by_domain (last ∷ rows) → NeverFalls last.domain rows
never_falls last [] sorted = tt
never_falls last (next ∷ rows) sorted =
    (sorted 0 last (omega arith) (omega arith), never_falls next rows (sorted_behind last (next ∷ rows) sorted))

forward : (o : Ordering) → is_eq o ≡ false → is_lt (ordering_reverse o) ≡ false → is_lt o ≡ true
forward Less other behind = refl
forward Equal other behind = cc
forward Greater other behind = cc

-- so another one comes behind it
comes_behind : (a b : List ℕ) → bytes_eq a b ≡ false → comes_before b a ≡ false → comes_before a b ≡ true
comes_behind a b other behind =
    forward (slice_cmp nat_cmp a b) (is_eq-slice_cmp a b ∙ other) (ap is_lt (sym (nat_list_cmp_total.antisymm b a)) ∙ behind)

pub both_true : (a b : Bool) → a ≡ true → b ≡ true → (a && b) ≡ true
both_true true b e f = f
both_true false b e f = e

ascend_merged_behind : (text : List ℕ) (last : MxRow) (rows : List MxRow) → comes_before text last.domain ≡ true → NeverFalls last.domain rows
    → ascend_behind text (domains (merged_behind last rows)) ≡ true
ascend_merged_behind text last [] before falls = both_true _ true before refl
ascend_merged_behind text last (next ∷ rows) before falls =
    by (bytes_eq last.domain next.domain) refl
    (λ same. ascend_merged_behind text (row last.domain (last.hosts ++ next.hosts)) rows before (subst (λ d. NeverFalls d rows) (sym ((bytes_eq-Decides last.domain next.domain).0 same)) falls.1))
    (λ after. ascend_merged_behind last.domain next rows after falls.1) where
      by : (b : Bool) → bytes_eq last.domain next.domain ≡ b
          → (bytes_eq last.domain next.domain ≡ true → ascend_behind text (domains (merged_behind (row last.domain (last.hosts ++ next.hosts)) rows)) ≡ true)
          → (comes_before last.domain next.domain ≡ true → ascend_behind last.domain (domains (merged_behind next rows)) ≡ true)
          → ascend_behind text (domains (cond b (merged_behind (row last.domain (last.hosts ++ next.hosts)) rows) (last ∷ merged_behind next rows))) ≡ true
      by true same here behind = here same
      by false other here behind = both_true _ _ before (behind (comes_behind last.domain next.domain other falls.0))

ascend_merged_first : (last : MxRow) (rows : List MxRow) → NeverFalls last.domain rows → ascend (domains (merged_behind last rows)) ≡ true
ascend_merged_first last [] falls = refl
ascend_merged_first last (next ∷ rows) falls =
    by (bytes_eq last.domain next.domain) refl
    (λ same. ascend_merged_first (row last.domain (last.hosts ++ next.hosts)) rows (subst (λ d. NeverFalls d rows) (sym ((bytes_eq-Decides last.domain next.domain).0 same)) falls.1))
    (λ after. ascend_merged_behind last.domain next rows after falls.1) where
      by : (b : Bool) → bytes_eq last.domain next.domain ≡ b
          → (bytes_eq last.domain next.domain ≡ true → ascend (domains (merged_behind (row last.domain (last.hosts ++ next.hosts)) rows)) ≡ true)
          → (comes_before last.domain next.domain ≡ true → ascend_behind last.domain (domains (merged_behind next rows)) ≡ true)
          → ascend (domains (cond b (merged_behind (row last.domain (last.hosts ++ next.hosts)) rows) (last ∷ merged_behind next rows))) ≡ true
      by true same here behind = here same
      by false other here behind = behind (comes_behind last.domain next.domain other falls.0)

-- merged rows ascend
ascend_merged : (rows : List MxRow) → IsSortedBy by_domain rows → ascend (domains (merged_rows rows)) ≡ true
ascend_merged [] sorted = refl
ascend_merged (first ∷ rows) sorted = ascend_merged_first first rows (never_falls first rows sorted)

-- a table made of rows in order
pub joins_rows : (rows ordered done : List MxRow) → IsPermutation rows ordered → Joins done (merged_rows ordered) → Joins done rows
unfolding Joins
joins_rows rows ordered done moved joins = λ domain host.
    joins domain host ∙ gives_merged ordered domain host ∙ sym (list_any-IsPermutation (given domain host) rows ordered moved)

pub is_table : (ordered done : List MxRow) → IsSortedBy by_domain ordered → domains done ≡ domains (merged_rows ordered)
    → IsTrue (list_all (λ r. has_hosts r.hosts) done) → IsTrue (is_mx_table done)
unfolding is_mx_table
is_table ordered done sorted same hosts = both_true _ _ (ap ascend same ∙ ascend_merged ordered sorted) hosts

-- no row, and one more row as a table has it
pub joins_none : (done : List MxRow) → done ≡ [] → Joins done []
unfolding Joins
joins_none done none = λ domain host. ap (λ rows. gives rows domain host) none

pub joins_more : (done rows : List MxRow) (r s : MxRow) → Joins done rows → r.domain ≡ s.domain
    → ((host : List ℕ) → list_any (bytes_eq host) r.hosts ≡ list_any (bytes_eq host) s.hosts) → Joins (done ++ r ∷ []) (rows ++ s ∷ [])
unfolding Joins
joins_more done rows r s joins same hosts = λ domain host.
    list_any-append (given domain host) done (r ∷ []) ∙ rw (joins domain host, same, hosts host) (sym (list_any-append (given domain host) rows (s ∷ [])))
