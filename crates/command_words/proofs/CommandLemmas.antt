-- Commands by their first words and their options.
use Rattle.std.proofs.Common.{◌≡◌, ℕ, List, [], ◌∷◌, true, false, Bool, Option, Some, None, is_some, option_and_then, refl, sym, ap, ◌∙◌, cond, bytes_eq, codes}
use Rattle.std.specs.List.{before_first, after_first}
use Rattle.command_words.specs.Options.{GivenOption, is_equals, has_equals, is_value, with_option, options_behind, options_in}
use Rattle.command_words.specs.inside.Walk.{given_before, given_behind, given_in}
use Rattle.command_words.specs.Commands.{Command, if_allowed, command_with, command_of}
use Rattle.command_words.specs.inside.Verbs.{verb_of, names_of, command_by}
use Rattle.command_words.specs.declared.verb.Verb.{Verb}
use Rattle.command_words.specs.declared.verb.Verb.TheVariants as verb

-- options that were read, beside those up to the first word that is none
abbrev Same : Option (List GivenOption) → List GivenOption → Type 0
Same None given = Unit {0}
Same (Some options) given = options ≡ given

same_before : (name value : List ℕ) (o : Option (List GivenOption)) (given : List GivenOption) → Same o given
    → Same (with_option name value o) (given_before name value given)
same_before name [] o given same = tt
same_before name (b ∷ value) None given same = tt
same_before name (b ∷ value) (Some options) given same = ap (λ more. record { name = name; value = b ∷ value } ∷ more) same

same_by : (t : Bool) (o p : Option (List GivenOption)) (given others : List GivenOption) → Same o given → Same p others
    → Same (cond t o p) (cond t given others)
same_by true o p given others same other = same
same_by false o p given others same other = other

same_behind : (name : Option (List ℕ)) (words : List (List ℕ)) → Same (options_behind name words) (given_behind name words)
same_behind None [] = refl
same_behind (Some name) [] = tt
same_behind None (word ∷ more) =
    same_by (has_equals word) _ _ _ _
    (same_before (before_first is_equals word) (after_first is_equals word) _ _ (same_behind None more))
    (same_behind (Some word) more)
same_behind (Some name) (word ∷ more) = same_by (is_value word) _ None _ [] (same_before name word _ _ (same_behind None more)) tt

then_same : (f : List GivenOption → Option Command) (o : Option (List GivenOption)) (given : List GivenOption) → Same o given
    → option_and_then f o ≡ cond (is_some o) (f given) None
then_same f None given same = refl
then_same f (Some options) given same = ap f same

-- what follows from options that were read
pub then_read : (f : List GivenOption → Option Command) (words : List (List ℕ))
    → option_and_then f (options_in words) ≡ cond (is_some (options_in words)) (f (given_in words)) None
unfolding options_in given_in
then_read f words = then_same f (options_behind None words) (given_behind None words) (same_behind None words)

-- the command of a verb and options, where it takes them
abbrev pub by_verb : Verb → List GivenOption → Option Command
by_verb v os = if_allowed (names_of v) os (command_by v os)

by_tests : (os : List GivenOption) (a b c d e f : Bool)
    → cond a (by_verb verb.Check os)
    (cond b (by_verb verb.Explain os)
    (cond c (by_verb verb.Spool os)
    (cond d (by_verb verb.Send os) (cond e (by_verb verb.Crew os) (cond f (by_verb verb.Load os) None)))))
    ≡ option_and_then (λ v. by_verb v os)
    (cond a (Some verb.Check)
    (cond b (Some verb.Explain)
    (cond c (Some verb.Spool) (cond d (Some verb.Send) (cond e (Some verb.Crew) (cond f (Some verb.Load) None))))))
by_tests os true b c d e f = refl
by_tests os false true c d e f = refl
by_tests os false false true d e f = refl
by_tests os false false false true e f = refl
by_tests os false false false false true f = refl
by_tests os false false false false false true = refl
by_tests os false false false false false false = refl

with_word : (word : List ℕ) (os : List GivenOption) → command_with word os ≡ option_and_then (λ v. by_verb v os) (verb_of word)
unfolding command_with
with_word word os =
    by_tests os (bytes_eq word (codes "check")) (bytes_eq word (codes "explain")) (bytes_eq word (codes "spool"))
    (bytes_eq word (codes "send")) (bytes_eq word (codes "crew")) (bytes_eq word (codes "load"))

then_verb : (word : List ℕ) (v : Verb) (o : Option (List GivenOption)) → Some v ≡ verb_of word
    → option_and_then (command_with word) o ≡ option_and_then (by_verb v) o
then_verb word v None is = refl
then_verb word v (Some os) is = with_word word os ∙ ap (option_and_then (λ u. by_verb u os)) (sym is)

then_none : (word : List ℕ) (o : Option (List GivenOption)) → None ≡ verb_of word → option_and_then (command_with word) o ≡ None
then_none word None is = refl
then_none word (Some os) is = with_word word os ∙ ap (option_and_then (λ u. by_verb u os)) (sym is)

-- by the first word
pub command_is : (word : List ℕ) (more : List (List ℕ)) (v : Verb) → Some v ≡ verb_of word
    → command_of (word ∷ more) ≡ option_and_then (by_verb v) (options_in more)
unfolding command_of
command_is word more v is = then_verb word v (options_in more) is

pub command_none : (word : List ℕ) (more : List (List ℕ)) → None ≡ verb_of word → command_of (word ∷ more) ≡ None
unfolding command_of
command_none word more is = then_none word (options_in more) is
