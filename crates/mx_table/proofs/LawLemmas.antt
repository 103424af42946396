-- What ascends is known by what is in it.
use Rattle.std.proofs.Common.{◌≡◌, ◌∙◌, sym, ap, subst, refl, ℕ, List, [], ◌∷◌, ◌&&◌, ◌||◌, Bool, true, false, bytes_eq, IsTrue}
use Rattle.std.specs.declared.cmp.Ordering.{Ordering}
use Rattle.std.specs.declared.cmp.Ordering.TheVariants.{Less, Equal, Greater}
use Rattle.std.specs.Ordering.{is_lt, is_eq, ordering_reverse}
use Rattle.std.specs.List.{list_any, list_all}
use Rattle.std.proofs.lemmas.Cmp.{nat_list_cmp_total}
use Rattle.std.proofs.lemmas.Map.Text.{is_eq-slice_cmp}
use Rattle.std.proofs.lemmas.Slice.Eq.{bytes_eq-Decides}
use Rattle.policy_core.proofs.MxLemmas.{text_cmp, first_of_both, second_of_both}
use Rattle.policy_core.specs.declared.mx.MxRow.{MxRow}
use Rattle.policy_core.specs.Mx.{comes_before, ascend_behind, ascend, has_hosts, is_mx_table}
use Rattle.mx_table.specs.MxText.{row, gives, Joins}
use Rattle.mx_table.specs.inside.Merged.{domains}
use Rattle.mx_table.proofs.MergeLemmas.{given}

less_by : (o : Ordering) → is_lt o ≡ true → o ≡ Less
less_by Less e = refl
less_by Equal e = cc
less_by Greater e = cc

less_from : (a b : List ℕ) → comes_before a b ≡ true → text_cmp a b ≡ Less
less_from a b e = less_by _ e

before_from : (a b : List ℕ) → text_cmp a b ≡ Less → comes_before a b ≡ true
before_from a b e = ap is_lt e

before_trans : (a b c : List ℕ) → comes_before a b ≡ true → comes_before b c ≡ true → comes_before a c ≡ true
before_trans a b c e f = before_from a c (nat_list_cmp_total.trans a b c (less_from a b e) (less_from b c f))

apart : (a b : List ℕ) → comes_before a b ≡ true → bytes_eq a b ≡ false
apart a b e = sym (is_eq-slice_cmp a b) ∙ ap is_eq (less_from a b e)

apart_back : (a b : List ℕ) → comes_before a b ≡ true → bytes_eq b a ≡ false
apart_back a b e = sym (is_eq-slice_cmp b a) ∙ ap is_eq (nat_list_cmp_total.antisymm b a ∙ ap ordering_reverse (less_from a b e))

pub itself : (a : List ℕ) → bytes_eq a a ≡ true
itself a = (bytes_eq-Decides a a).1 refl

-- how two texts compare
data Compared (a b : List ℕ) : Type 0 where
  before : comes_before a b ≡ true → Compared a b
  same : a ≡ b → Compared a b
  behind : comes_before b a ≡ true → Compared a b

compared_by : (a b : List ℕ) (o : Ordering) → text_cmp a b ≡ o → Compared a b
compared_by a b Less e = before (before_from a b e)
compared_by a b Equal e = same ((bytes_eq-Decides a b).0 (sym (is_eq-slice_cmp a b) ∙ ap is_eq e))
compared_by a b Greater e = behind (before_from b a (nat_list_cmp_total.antisymm b a ∙ ap ordering_reverse e))

compared : (a b : List ℕ) → Compared a b
compared a b = compared_by a b _ refl

both_false : (a b : Bool) → a ≡ false → b ≡ false → (a || b) ≡ false
both_false true b e f = cc
both_false false b e f = f

pub first_true : (a b : Bool) → a ≡ true → (a || b) ≡ true
first_true true b e = refl
first_true false b e = cc

second_alone : (a b : Bool) → a ≡ false → (a || b) ≡ b
second_alone true b e = cc
second_alone false b e = refl

first_alone : (a b : Bool) → b ≡ false → (a || b) ≡ a
first_alone true b e = refl
first_alone false b e = e

true_is_false : (a : Bool) → a ≡ true → a ≡ false → ⊥
true_is_false a e f = cc

ascend_tail : (text : List ℕ) (texts : List (List ℕ)) → ascend_behind text texts ≡ true → ascend texts ≡ true
ascend_tail text [] up = refl
ascend_tail text (next ∷ texts) up = second_of_both (comes_before text next) _ up

-- what stands before the first of them stands before the rest
further : (text next : List ℕ) (texts : List (List ℕ)) → comes_before text next ≡ true → ascend_behind next texts ≡ true → ascend_behind text texts ≡ true
further text next [] here up = refl
further text next (after ∷ texts) here up =
    let there = first_of_both (comes_before next after) (ascend_behind after texts) up in
    ap (λ b. b && ascend_behind after texts) (before_trans text next after here there) ∙ second_of_both (comes_before next after) _ up

beyond : (text next : List ℕ) (texts : List (List ℕ)) → comes_before text next ≡ true → ascend_behind next texts ≡ true → ascend_behind text (next ∷ texts) ≡ true
beyond text next texts here up = ap (λ b. b && ascend_behind next texts) here ∙ up

-- what stands before texts is not among them
not_among : (text : List ℕ) (texts : List (List ℕ)) → ascend_behind text texts ≡ true → list_any (bytes_eq text) texts ≡ false
not_among text [] up = refl
not_among text (next ∷ texts) up =
    let here = first_of_both (comes_before text next) (ascend_behind next texts) up in
    let rest = second_of_both (comes_before text next) (ascend_behind next texts) up in
    both_false _ _ (apart text next here) (not_among text texts (further text next texts here rest))

-- the texts behind the first are the same too
same_tail : (text : List ℕ) (xs ys : List (List ℕ)) → ascend_behind text xs ≡ true → ascend_behind text ys ≡ true
    → ((t : List ℕ) → list_any (bytes_eq t) (text ∷ xs) ≡ list_any (bytes_eq t) (text ∷ ys)) → (t : List ℕ) → list_any (bytes_eq t) xs ≡ list_any (bytes_eq t) ys
same_tail text xs ys up up' in_both t = by (bytes_eq t text) refl where
  by : (b : Bool) → bytes_eq t text ≡ b → list_any (bytes_eq t) xs ≡ list_any (bytes_eq t) ys
  by true e =
      let P : List ℕ → Type 0 = λ u. list_any (bytes_eq u) xs ≡ list_any (bytes_eq u) ys in
      subst P (sym ((bytes_eq-Decides t text).0 e)) (not_among text xs up ∙ sym (not_among text ys up'))
  by false e = sym (second_alone _ _ e) ∙ in_both t ∙ second_alone _ _ e

same_texts : (xs ys : List (List ℕ)) → ascend xs ≡ true → ascend ys ≡ true → ((t : List ℕ) → list_any (bytes_eq t) xs ≡ list_any (bytes_eq t) ys) → xs ≡ ys
same_texts [] [] up up' in_both = refl
same_texts [] (y ∷ ys) up up' in_both = absurd (true_is_false _ (first_true _ _ (itself y)) (sym (in_both y)))
same_texts (x ∷ xs) [] up up' in_both = absurd (true_is_false _ (first_true _ _ (itself x)) (in_both x))
same_texts (x ∷ xs) (y ∷ ys) up up' in_both = elim (compared x y) [
  | before e ↦ absurd (true_is_false _ (first_true _ _ (itself x)) (in_both x ∙ not_among x (y ∷ ys) (beyond x y ys e up')))
  | behind e ↦ absurd (true_is_false _ (first_true _ _ (itself y)) (sym (in_both y) ∙ not_among y (x ∷ xs) (beyond y x xs e up)))
  | same e ↦
      let P : List ℕ → Type 0 = λ u. ascend_behind u ys ≡ true in
      let Q : List ℕ → Type 0 = λ u. (t : List ℕ) → list_any (bytes_eq t) (x ∷ xs) ≡ list_any (bytes_eq t) (u ∷ ys) in
      let rest = same_texts xs ys (ascend_tail x xs up) (ascend_tail y ys up') (same_tail x xs ys up (subst P (sym e) up') (subst Q (sym e) in_both)) in
      ap (λ u. u ∷ xs) e ∙ ap (λ us. y ∷ us) rest
]

-- rows behind a domain give it nothing
none_given : (domain host : List ℕ) (rows : List MxRow) → ascend_behind domain (domains rows) ≡ true → gives rows domain host ≡ false
none_given domain host [] up = refl
none_given domain host (r ∷ rows) up =
    let here = first_of_both (comes_before domain r.domain) (ascend_behind r.domain (domains rows)) up in
    let rest = second_of_both (comes_before domain r.domain) (ascend_behind r.domain (domains rows)) up in
    both_false _ _ (ap (λ b. b && list_any (bytes_eq host) r.hosts) (apart_back domain r.domain here))
    (none_given domain host rows (further domain r.domain (domains rows) here rest))

given_own : (r : MxRow) (host : List ℕ) → given r.domain host r ≡ list_any (bytes_eq host) r.hosts
given_own r host = ap (λ b. b && list_any (bytes_eq host) r.hosts) (itself r.domain)

-- a row gives its domain a host
some_host : (hosts : List (List ℕ)) → has_hosts hosts ≡ true → (host : List ℕ) × (list_any (bytes_eq host) hosts ≡ true)
some_host [] some = absurd cc
some_host (host ∷ hosts) some = (host, first_true _ _ (itself host))

hosts_ascend : (hosts : List (List ℕ)) → has_hosts hosts ≡ true → ascend hosts ≡ true
hosts_ascend [] some = refl
hosts_ascend (host ∷ hosts) some = some

given_some : (r : MxRow) (rows : List MxRow) → has_hosts r.hosts ≡ true → (host : List ℕ) × (gives (r ∷ rows) r.domain host ≡ true)
given_some r rows some =
    let found = some_host r.hosts some in
    (found.0, first_true _ _ (given_own r found.0 ∙ found.1))

abbrev have_hosts : List MxRow → Bool
have_hosts rows = list_all (λ r. has_hosts r.hosts) rows

-- two rows of one domain in front give it the same hosts
same_hosts : (x y : MxRow) (xs ys : List MxRow) → x.domain ≡ y.domain → ascend_behind y.domain (domains xs) ≡ true → ascend_behind y.domain (domains ys) ≡ true
    → ((domain host : List ℕ) → gives (x ∷ xs) domain host ≡ gives (y ∷ ys) domain host) → (host : List ℕ) → list_any (bytes_eq host) x.hosts ≡ list_any (bytes_eq host) y.hosts
same_hosts x y xs ys e up up' in_both host =
    let one = first_alone (given y.domain host x) _ (none_given y.domain host xs up) ∙ ap (λ b. b && list_any (bytes_eq host) x.hosts) ((bytes_eq-Decides x.domain y.domain).1 e) in
    let two = first_alone (given y.domain host y) _ (none_given y.domain host ys up') ∙ given_own y host in
    sym one ∙ in_both y.domain host ∙ two

-- and the rows behind them give the same
same_behind : (x y : MxRow) (xs ys : List MxRow) → x.domain ≡ y.domain → ascend_behind y.domain (domains xs) ≡ true → ascend_behind y.domain (domains ys) ≡ true
    → ((domain host : List ℕ) → gives (x ∷ xs) domain host ≡ gives (y ∷ ys) domain host) → (domain host : List ℕ) → gives xs domain host ≡ gives ys domain host
same_behind x y xs ys e up up' in_both domain host = by (bytes_eq y.domain domain) refl where
  by : (b : Bool) → bytes_eq y.domain domain ≡ b → gives xs domain host ≡ gives ys domain host
  by true is =
      let P : List ℕ → Type 0 = λ d. gives xs d host ≡ gives ys d host in
      subst P ((bytes_eq-Decides y.domain domain).0 is) (none_given y.domain host xs up ∙ sym (none_given y.domain host ys up'))
  by false is =
      let not_x = ap (λ (d : List ℕ). bytes_eq d domain && list_any (bytes_eq host) x.hosts) e ∙ ap (λ b. b && list_any (bytes_eq host) x.hosts) is in
      let not_y = ap (λ b. b && list_any (bytes_eq host) y.hosts) is in
      sym (second_alone (given domain host x) _ not_x) ∙ in_both domain host ∙ second_alone (given domain host y) _ not_y

-- a row of a domain that the other rows do not have gives a host that they do not
not_before : (x : MxRow) (xs rows : List MxRow) → has_hosts x.hosts ≡ true → ascend_behind x.domain (domains rows) ≡ true
    → ((domain host : List ℕ) → gives (x ∷ xs) domain host ≡ gives rows domain host) → ⊥
not_before x xs rows some up in_both =
    let found = given_some x xs some in
    true_is_false _ found.1 (in_both x.domain found.0 ∙ none_given x.domain found.0 rows up)

same_rows : (xs ys : List MxRow) → ascend (domains xs) ≡ true → have_hosts xs ≡ true → ascend (domains ys) ≡ true → have_hosts ys ≡ true
    → ((domain host : List ℕ) → gives xs domain host ≡ gives ys domain host) → xs ≡ ys
same_rows [] [] up some up' some' in_both = refl
same_rows [] (y ∷ ys) up some up' some' in_both = absurd (not_before y ys [] (first_of_both _ (have_hosts ys) some') refl (λ d h. sym (in_both d h)))
same_rows (x ∷ xs) [] up some up' some' in_both = absurd (not_before x xs [] (first_of_both _ (have_hosts xs) some) refl in_both)
same_rows (x ∷ xs) (y ∷ ys) up some up' some' in_both =
    let x_some = first_of_both (has_hosts x.hosts) (have_hosts xs) some in
    let y_some = first_of_both (has_hosts y.hosts) (have_hosts ys) some' in
    elim (compared x.domain y.domain) [
      | before e ↦ absurd (not_before x xs (y ∷ ys) x_some (beyond x.domain y.domain (domains ys) e up') in_both)
      | behind e ↦ absurd (not_before y ys (x ∷ xs) y_some (beyond y.domain x.domain (domains xs) e up) (λ d h. sym (in_both d h)))
      | same e ↦
          let P : List ℕ → Type 0 = λ d. ascend_behind d (domains xs) ≡ true in
          let up_y = subst P e up in
          let hosts = same_texts x.hosts y.hosts (hosts_ascend x.hosts x_some) (hosts_ascend y.hosts y_some) (same_hosts x y xs ys e up_y up' in_both) in
          let rest = same_rows xs ys (ascend_tail x.domain _ up) (second_of_both (has_hosts x.hosts) _ some) (ascend_tail y.domain _ up') (second_of_both (has_hosts y.hosts) _ some') (same_behind x y xs ys e up_y up' in_both) in
          ap (λ d. row d x.hosts ∷ xs) e ∙ ap (λ hs. row y.domain hs ∷ xs) hosts ∙ ap (λ rs. y ∷ rs) rest
    ]

pub one_table : (rows table other : List MxRow) → IsTrue (is_mx_table table) → IsTrue (is_mx_table other) → Joins table rows → Joins other rows → table ≡ other
unfolding is_mx_table Joins
one_table rows table other is is' joins joins' =
    same_rows table other (first_of_both _ (have_hosts table) is) (second_of_both (ascend (domains table)) _ is) (first_of_both _ (have_hosts other) is')
    (second_of_both (ascend (domains other)) _ is') (λ d h. joins d h ∙ sym (joins' d h))
