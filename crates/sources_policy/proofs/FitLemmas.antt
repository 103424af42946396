-- The parts of a sources file without faults fit: the pool `unspecified` is there, entrants are sources, and sources have names.
use Rattle.std.proofs.Common.{◌≡◌, ◌∙◌, sym, ap, refl, ℕ, List, [], ◌∷◌, ◌++◌, take, drop, ◌&&◌, ◌||◌, Bool, true, false, Option, Some, None, is_some, option_and_then, bytes_eq, codes, if◌then◌else◌, IsTrue}
use Rattle.std.specs.declared.cmp.Ordering.{Ordering}
use Rattle.std.specs.declared.cmp.Ordering.TheVariants.{Less, Equal, Greater}
use Rattle.std.specs.Ordering.{nat_cmp, is_eq, match_ordering}
use Rattle.std.specs.Cmp.Lexicographic.{slice_cmp}
use Rattle.std.specs.List.{list_all, list_any, insert}
use Rattle.std.proofs.lemmas.List.{take-append-drop}
use Rattle.std.proofs.lemmas.List.Folds.{list_all-append, list_any-append}
use Rattle.std.proofs.lemmas.List.Sorted.{list_any-IsPermutation, IsPermutation-insert}
use Rattle.std.proofs.lemmas.Map.Text.{is_eq-slice_cmp}
use Rattle.std.proofs.lemmas.Slice.Eq.{bytes_eq-Decides}
use Rattle.toml.specs.Data.{Data, Members, no_members, member, as_table, get_member}
use Rattle.policy_core.proofs.MxLemmas.{first_of_both, second_of_both}
use Rattle.policy_core.specs.Limits.{unspecified}
use Rattle.policy_core.specs.declared.sources.Source.{Source}
use Rattle.policy_core.specs.declared.sources.Entrant.{Entrant}
use Rattle.policy_core.specs.declared.sources.Pool.{Pool}
use Rattle.policy_core.specs.Names.{is_source_name}
use Rattle.policy_core.specs.Policy.{has_pool, are_entrants_sources, are_sources_named}
use Rattle.policy_toml.specs.declared.fault.Fault.{Fault}
use Rattle.policy_fault.specs.TableNames.{joined}
use Rattle.policy_toml.specs.Places.{earlier, first_of}
use Rattle.policy_toml.specs.Walks.{over_members, on_table, table_at, members_at, faults_unless_table}
use Rattle.sources_policy.specs.SourcesFile.{faults_of_name, faults_in_source, faults_of_source, is_known_source, faults_if_unknown, faults_in_entrant, faults_of_entrant, entrant_of, entrant_at, faults_if_many, faults_in_pool, faults_of_pool, faults_in, count_before, has_name, put_if_new, source_of, unspecified_source, source_at, sources_of, pool_of, unspecified_pool, pool_at, pools_of, sources_in}

-- two tests
both_true : (a b : Bool) → a ≡ true → b ≡ true → (a && b) ≡ true
both_true true b e f = f
both_true false b e f = e

by_either : (a b : Bool) (P : Type 0) → (a || b) ≡ true → (a ≡ true → P) → (b ≡ true → P) → P
by_either true b P e f g = f refl
by_either false b P e f g = g e

first_true : (a b : Bool) → a ≡ true → (a || b) ≡ true
first_true true b e = refl
first_true false b e = cc

second_true : (a b : Bool) → b ≡ true → (a || b) ≡ true
second_true true b e = refl
second_true false b e = e

-- two lists that are empty together
first_none : {A : Type 0} (xs ys : List A) → xs ++ ys ≡ [] → xs ≡ []
first_none [] ys e = refl
first_none (x ∷ xs) ys e = absurd cc

second_none : {A : Type 0} (xs ys : List A) → xs ++ ys ≡ [] → ys ≡ []
second_none [] ys e = e
second_none (x ∷ xs) ys e = absurd cc

-- where no fault is the first there is none
some_first : (best : Fault) (faults : List Fault) → first_of (Some best) faults ≡ None → ⊥
some_first best [] e = cc
some_first best (f ∷ faults) e = some_first (earlier (Some best) f) faults e

none_first : (faults : List Fault) → first_of None faults ≡ None → faults ≡ []
none_first [] e = refl
none_first (f ∷ faults) e = absurd (some_first f faults e)

-- what a test without a fault says
passed : (b : Bool) (f : Fault) → (if b then [] else f ∷ []) ≡ [] → b ≡ true
passed true f e = refl
passed false f e = absurd cc

-- what members without faults give
all_over : {A : Type 0} (faults : List ℕ → Data → List Fault) (give : List ℕ → Data → List A) (p : A → Bool)
    → ((key : List ℕ) (d : Data) → faults key d ≡ [] → list_all p (give key d) ≡ true) → (ms : Members) → over_members faults ms ≡ []
    → list_all p (over_members give ms) ≡ true
all_over faults give p each no_members e = refl
all_over faults give p each (member key d ms) e =
    list_all-append p (give key d) (over_members give ms)
    ∙ both_true _ _ (each key d (first_none (faults key d) (over_members faults ms) e))
    (all_over faults give p each ms (second_none (faults key d) (over_members faults ms) e))

all_on_table : {A : Type 0} (faults : Members → List Fault) (other : List Fault) (give : Members → A) (p : A → Bool)
    → ((t : Members) → faults t ≡ [] → p (give t) ≡ true) → (t : Option Members) → on_table faults other t ≡ []
    → list_all p (on_table (λ t. give t ∷ []) [] t) ≡ true
all_on_table faults other give p each None e = refl
all_on_table faults other give p each (Some t) e = both_true _ true (each t e) refl

-- what is put among others by name
all_insert : {T : Type 0} (p : T → Bool) (xs : List T) (i : ℕ) (x : T) → p x ≡ true → list_all p xs ≡ true → list_all p (insert xs i x) ≡ true
all_insert p xs i x e f =
    let cut = sym (list_all-append p (take i xs) (drop i xs)) ∙ ap (list_all p) (take-append-drop i xs) ∙ f in
    list_all-append p (take i xs) (x ∷ drop i xs)
    ∙ both_true _ _ (first_of_both (list_all p (take i xs)) (list_all p (drop i xs)) cut)
    (both_true _ _ e (second_of_both (list_all p (take i xs)) (list_all p (drop i xs)) cut))

any_insert : {T : Type 0} (p : T → Bool) (xs : List T) (i : ℕ) (x : T) → list_any p (insert xs i x) ≡ (p x || list_any p xs)
any_insert p xs i x = sym (list_any-IsPermutation p (x ∷ xs) (insert xs i x) (IsPermutation-insert xs i x))

all_put : {T : Type 0} (name_of : T → List ℕ) (p : T → Bool) (item : T) (items : List T) → p item ≡ true → list_all p items ≡ true
    → list_all p (put_if_new name_of item items) ≡ true
all_put {T} name_of p item items e f = by (has_name name_of (name_of item) items) where
  by : (b : Bool) → list_all p (if b then items else insert items (count_before name_of (name_of item) items) item) ≡ true
  by true = f
  by false = all_insert p items _ item e f

any_put : {T : Type 0} (name_of : T → List ℕ) (p : T → Bool) (item : T) (items : List T) → list_any p items ≡ true
    → list_any p (put_if_new name_of item items) ≡ true
any_put {T} name_of p item items f = by (has_name name_of (name_of item) items) where
  by : (b : Bool) → list_any p (if b then items else insert items (count_before name_of (name_of item) items) item) ≡ true
  by true = f
  by false = any_insert p items _ item ∙ second_true _ _ f

itself_put : {T : Type 0} (name_of : T → List ℕ) (item : T) (items : List T) → has_name name_of (name_of item) (put_if_new name_of item items) ≡ true
itself_put {T} name_of item items = by (has_name name_of (name_of item) items) refl where
  by : (b : Bool) → has_name name_of (name_of item) items ≡ b
      → has_name name_of (name_of item) (if b then items else insert items (count_before name_of (name_of item) items) item) ≡ true
  by true e = e
  by false e = any_insert (λ x. bytes_eq (name_of x) (name_of item)) items _ item ∙ first_true _ _ ((bytes_eq-Decides (name_of item) (name_of item)).1 refl)

-- a source has a name
abbrev is_named : Source → Bool
is_named s = is_source_name s.name

source_named : (key : List ℕ) (d : Data) → faults_of_source key d ≡ [] → list_all is_named (source_at key d) ≡ true
unfolding faults_of_source
source_named key d e =
    all_on_table (faults_in_source (joined (codes "source") key) key) _ (source_of key) is_named
    (λ t none. passed (is_source_name key) _ (first_none (faults_of_name (joined (codes "source") key) key) _ none)) (as_table d) e

sources_named : (ms : Members) → over_members faults_of_source ms ≡ [] → list_all is_named (sources_of ms) ≡ true
sources_named ms e =
    all_put (λ (s : Source). s.name) is_named unspecified_source (over_members source_at ms) refl (all_over faults_of_source source_at is_named source_named ms e)

-- a table of that name is a source
abbrev is_of : List ℕ → Source → Bool
is_of name s = bytes_eq s.name name

of_table : (t : Option Members) (key name : List ℕ) → key ≡ name → is_some t ≡ true → list_any (is_of name) (on_table (λ t. source_of key t ∷ []) [] t) ≡ true
of_table None key name same e = absurd cc
of_table (Some t) key name same e = first_true _ _ ((bytes_eq-Decides key name).1 same)

of_member : (ms : Members) (name : List ℕ) → is_some (table_at name ms) ≡ true → list_any (is_of name) (over_members source_at ms) ≡ true
of_member no_members name e = absurd cc
of_member (member key d ms) name e =
    list_any-append (is_of name) (source_at key d) (over_members source_at ms) ∙ by (slice_cmp nat_cmp name key) refl e (of_member ms name) where
      by : (o : Ordering) → slice_cmp nat_cmp name key ≡ o
          → is_some (option_and_then as_table (match_ordering o (get_member name ms) (Some d) (get_member name ms))) ≡ true
          → (is_some (table_at name ms) ≡ true → list_any (is_of name) (over_members source_at ms) ≡ true)
          → (list_any (is_of name) (source_at key d) || list_any (is_of name) (over_members source_at ms)) ≡ true
      by Less is some behind = second_true _ _ (behind some)
      by Equal is some behind =
          first_true _ _ (of_table (as_table d) key name (sym ((bytes_eq-Decides name key).0 (sym (is_eq-slice_cmp name key) ∙ ap is_eq is))) some)
      by Greater is some behind = second_true _ _ (behind some)

-- and so is each source that is known
known_source : (ms : Members) (name : List ℕ) → is_known_source ms name ≡ true → list_any (is_of name) (sources_of ms) ≡ true
known_source ms name e =
    by_either (bytes_eq name unspecified) _ _ e
    (λ is.
    ap (λ (n : List ℕ). list_any (is_of n) (sources_of ms)) ((bytes_eq-Decides name unspecified).0 is)
    ∙ itself_put (λ (s : Source). s.name) unspecified_source (over_members source_at ms))
    (λ there. any_put (λ (s : Source). s.name) (is_of name) unspecified_source (over_members source_at ms) (of_member ms name there))

-- so that each entrant of a pool is one
abbrev enters : Members → Entrant → Bool
enters sources e = list_any (is_of e.source) (sources_of sources)

abbrev all_enter : Members → Pool → Bool
all_enter sources p = list_all (enters sources) p.entrants

entrant_enters : (sources : Members) (place key : List ℕ) (d : Data) → faults_of_entrant sources place key d ≡ [] → list_all (enters sources) (entrant_at key d) ≡ true
unfolding faults_of_entrant
entrant_enters sources place key d e =
    all_on_table (faults_in_entrant sources (joined place key) key) _ (entrant_of key) (enters sources)
    (λ t none.
    let others = second_none (faults_of_name (joined place key) key) _ none in
    known_source sources key (passed (is_known_source sources key) _ (first_none (faults_if_unknown sources (joined place key) key) _ others)))
    (as_table d) e

pool_enters : (sources : Members) (key : List ℕ) (d : Data) → faults_of_pool sources key d ≡ [] → list_all (all_enter sources) (pool_at key d) ≡ true
unfolding faults_of_pool
pool_enters sources key d e =
    let place = joined (codes "pool") key in
    all_on_table (faults_in_pool sources place key) _ (pool_of key) (all_enter sources)
    (λ t none.
    let others = second_none (faults_if_many place t) _ (second_none (faults_of_name place key) _ none) in
    all_over (faults_of_entrant sources place) entrant_at (enters sources) (entrant_enters sources place) t others)
    (as_table d) e

pools_enter : (sources pools : Members) → over_members (faults_of_pool sources) pools ≡ [] → list_all (all_enter sources) (pools_of pools) ≡ true
pools_enter sources pools e =
    let base = known_source sources unspecified refl in
    all_put (λ (p : Pool). p.name) (all_enter sources) unspecified_pool (over_members pool_at pools) (both_true _ true base refl)
    (all_over (faults_of_pool sources) pool_at (all_enter sources) (pool_enters sources) pools e)

-- the data of a document without faults
clean_tables : (ms : Members) → first_of None (faults_in ms) ≡ None
    → over_members faults_of_source (members_at (codes "source") ms) ++ over_members (faults_of_pool (members_at (codes "source") ms)) (members_at (codes "pool") ms) ≡ []
unfolding faults_in
clean_tables ms e =
    second_none (faults_unless_table [] (codes "pool") (get_member (codes "pool") ms)) _
    (second_none (faults_unless_table [] (codes "source") (get_member (codes "source") ms)) _ (none_first (faults_in ms) e))

pub base_in : (ms : Members) → IsTrue (has_pool (sources_in ms) unspecified)
unfolding sources_in
base_in ms = itself_put (λ (p : Pool). p.name) unspecified_pool (over_members pool_at (members_at (codes "pool") ms))

pub entrants_in : (ms : Members) → first_of None (faults_in ms) ≡ None → IsTrue (are_entrants_sources (sources_in ms))
unfolding sources_in are_entrants_sources
entrants_in ms e =
    let sources = members_at (codes "source") ms in
    pools_enter sources (members_at (codes "pool") ms) (second_none (over_members faults_of_source sources) _ (clean_tables ms e))

pub names_in : (ms : Members) → first_of None (faults_in ms) ≡ None → IsTrue (are_sources_named (sources_in ms))
unfolding sources_in are_sources_named
names_in ms e =
    let sources = members_at (codes "source") ms in
    sources_named sources (first_none (over_members faults_of_source sources) _ (clean_tables ms e))

pub ruleset fits = (base_in, entrants_in, names_in)
