-- Options read from the front of words.
use Rattle.std.proofs.Common.{◌≡◌, ◌<◌, ◌&&◌, ◌==◌, ℕ, List, [], ◌∷◌, true, false, Bool, not, length, Option, Some, None, is_some, option_map, ne_eqb, refl, sym, ap, ◌∙◌, arith, cond, bytes_eq}
use Rattle.std.proofs.lemmas.Bool.{and_right}
use Rattle.std.specs.List.{list_any, list_all, before_first, after_first}
use Rattle.command_words.specs.Options.{GivenOption, is_equals, has_equals, is_value, with_option, options_in, is_named, value_of, is_among, are_allowed}
use denote.Ref.{Bor}
use Rattle.command_words.specs.inside.Walk.{Front, front, front_of, front_behind, given_before, given_in}

-- what an option in front of words, or none, tells of them
pub record IsBefore (words : List (List ℕ)) (f : Front) : Type 0 where
  pub given : given_in words ≡ f.option ∷ given_in f.rest
  pub read : is_some (options_in words) ≡ is_some (options_in f.rest)
  pub shorter : length f.rest < length words

pub record IsEnd (words : List (List ℕ)) : Type 0 where
  pub given : given_in words ≡ []
  pub read : is_some (options_in words) ≡ (length words == 0)

abbrev pub Tells : List (List ℕ) → Option Front → Type 0
Tells words None = IsEnd words
Tells words (Some f) = IsBefore words f

some_map : (o : Option (List GivenOption)) (g : GivenOption) → is_some (option_map (λ os. g ∷ os) o) ≡ is_some o
some_map None g = refl
some_map (Some os) g = refl

not_empty : (word : List ℕ) (more : List (List ℕ)) → false ≡ (length (word ∷ more) == 0)
not_empty word more = sym (ne_eqb _ 0 (λ none. omega arith))

-- `word` is the first word, by whether it has an equals sign
at_equals : (word name value : List ℕ) (more : List (List ℕ)) → given_in (word ∷ more) ≡ given_before name value (given_in more)
    → options_in (word ∷ more) ≡ with_option name value (options_in more) → Tells (word ∷ more) (front_of name value more)
unfolding given_in options_in
at_equals word name [] more given read = record { given = given; read = ap is_some read ∙ not_empty word more }
at_equals word name (b ∷ value) more given read =
    record { given = given; read = ap is_some read ∙ some_map (options_in more) _; shorter = omega arith }

at_value : (word value : List ℕ) (more : List (List ℕ)) (t : Bool) → has_equals word ≡ false → is_value value ≡ t
    → Tells (word ∷ value ∷ more) (cond t (front_of word value more) None)
unfolding given_in options_in
at_value word value more false none test =
    record { given = rw (none, test) refl; read = rw (none, test) (not_empty word (value ∷ more)) }
at_value word [] more true none test = absurd cc
at_value word (b ∷ value) more true none test =
    record { given = rw (none, test) refl; read = rw (none, test) (some_map (options_in more) _); shorter = omega arith }

at_next : (word : List ℕ) (more : List (List ℕ)) → has_equals word ≡ false → Tells (word ∷ more) (front_behind word more)
unfolding given_in options_in
at_next word [] none = record { given = rw none refl; read = rw none (not_empty word []) }
at_next word (value ∷ more) none = at_value word value more _ none refl

at_word : (word : List ℕ) (more : List (List ℕ)) (t : Bool) → has_equals word ≡ t
    → Tells (word ∷ more)
    (cond t (front_of (before_first is_equals word) (after_first is_equals word) more) (front_behind word more))
unfolding given_in options_in
at_word word more true test =
    at_equals word (before_first is_equals word) (after_first is_equals word) more (rw test refl) (rw test refl)
at_word word more false test = at_next word more test

pub tells : (words : List (List ℕ)) → Tells words (front words)
unfolding given_in options_in
tells [] = record { given = refl; read = refl }
tells (word ∷ more) = at_word word more _ refl

pub before : (words : List (List ℕ)) (f : Front) → Some f ≡ front words → IsBefore words f
before words f is = let h : Tells words (front words) = tells words in rw (← is) at h

pub ended : (words : List (List ℕ)) → None ≡ front words → IsEnd words
ended words is = let h : Tells words (front words) = tells words in rw (← is) at h

value_by : (name : List ℕ) (o : GivenOption) (os : List GivenOption) (t : Bool) → bytes_eq o.name name ≡ t
    → value_of name (o ∷ os) ≡ cond t (Some o.value) (value_of name os)
unfolding value_of
value_by name o os true test = rw test refl
value_by name o os false test = rw test refl

-- an option in front that has the name, and one that has not
pub value_here : (name : List ℕ) (words : List (List ℕ)) (f : Front) → Some f ≡ front words → bytes_eq f.option.name name ≡ true
    → value_of name (given_in words) ≡ Some f.option.value
value_here name words f is test =
    ap (value_of name) (before words f is).given ∙ value_by name f.option (given_in f.rest) true test

pub value_later : (name : List ℕ) (words : List (List ℕ)) (f : Front) → Some f ≡ front words → bytes_eq f.option.name name ≡ false
    → value_of name (given_in words) ≡ value_of name (given_in f.rest)
value_later name words f is test =
    ap (value_of name) (before words f is).given ∙ value_by name f.option (given_in f.rest) false test

pub value_none : (name : List ℕ) (words : List (List ℕ)) → None ≡ front words → value_of name (given_in words) ≡ None
unfolding value_of
value_none name words is = rw (ended words is).given refl

named_by : (name : List ℕ) (o : GivenOption) (os : List GivenOption) (t : Bool) → bytes_eq o.name name ≡ t
    → list_any (is_named name) os ≡ is_some (value_of name os)
    → list_any (is_named name) (o ∷ os) ≡ is_some (value_of name (o ∷ os))
unfolding value_of
named_by name o os true test more = rw test refl
named_by name o os false test more = rw test more

-- an option is given where it has a value
is_given : (name : List ℕ) (os : List GivenOption) → list_any (is_named name) os ≡ is_some (value_of name os)
unfolding value_of
is_given name [] = refl
is_given name (o ∷ os) = named_by name o os _ refl (is_given name os)

no_more : (t more : Bool) → cond (t && false) more false ≡ false
no_more true more = refl
no_more false more = refl

allowed_by : (names : List (List ℕ)) (o : GivenOption) (os : List GivenOption) (t u : Bool) → is_among names o ≡ t
    → is_some (value_of o.name os) ≡ u
    → are_allowed names (o ∷ os) ≡ cond (t && not u) (are_allowed names os) false
unfolding are_allowed
allowed_by names o os false u among given = rw among refl
allowed_by names o os true true among given =
    rw (among, is_given o.name os, given) (and_right (list_all (is_among names) os) _ refl)
allowed_by names o os true false among given = rw (among, is_given o.name os, given) refl

pub allowed_more : (names : List (List ℕ)) (words : List (List ℕ)) (f : Front) → Some f ≡ front words
    → is_among names f.option ≡ true
    → is_some (value_of f.option.name (given_in f.rest)) ≡ false
    → are_allowed names (given_in words) ≡ are_allowed names (given_in f.rest)
allowed_more names words f is among given =
    ap (are_allowed names) (before words f is).given ∙ allowed_by names f.option (given_in f.rest) true false among given

pub allowed_other : (names : List (List ℕ)) (words : List (List ℕ)) (f : Front) → Some f ≡ front words
    → is_among names f.option ≡ false → are_allowed names (given_in words) ≡ false
allowed_other names words f is among =
    ap (are_allowed names) (before words f is).given ∙ allowed_by names f.option (given_in f.rest) false _ among refl

pub allowed_again : (names : List (List ℕ)) (words : List (List ℕ)) (f : Front) → Some f ≡ front words
    → is_some (value_of f.option.name (given_in f.rest)) ≡ true → are_allowed names (given_in words) ≡ false
allowed_again names words f is given =
    ap (are_allowed names) (before words f is).given ∙ allowed_by names f.option (given_in f.rest) _ true refl given
    ∙ no_more (is_among names f.option) _

pub allowed_none : (names : List (List ℕ)) (words : List (List ℕ)) → None ≡ front words
    → are_allowed names (given_in words) ≡ true
unfolding are_allowed
allowed_none names words is = rw (ended words is).given refl

-- takes the clauses of a value and of the test that there is one
pub is_given_as : (r : Option (Bor (List ℕ))) (found : Option (List ℕ)) (t : Bool) → option_map (λ s. s.now) r ≡ found
    → t ≡ is_some r → is_some found ≡ t
is_given_as None found t same test = ap is_some (sym same) ∙ sym test
is_given_as (Some s) found t same test = ap is_some (sym same) ∙ sym test
