-- What bytes give within the limit, and what the text of a name gives that is read up to one piece past it.
use Rattle.std.proofs.Common.{◌≡◌, ℕ, ◌<◌, ◌≤◌, nat_lt, List, length, Option, Some, None, Result, Ok, Err, IfSome, true, false, refl, sym, ap, ◌∙◌, arith, inl, inr}
use Rattle.std.proofs.lemmas.Bool.Decides.{nat_tests}
use Rattle.policy_fault.specs.declared.fault.PolicyFile.{PolicyFile}
use Rattle.policy_fault.specs.declared.fault.PolicyFile.TheVariants as file
use Rattle.policy_fault.specs.declared.fault.PolicyFault.{PolicyFault}
use Rattle.policy_fault.specs.declared.fault.PolicyFault.TheVariants as fault
use Rattle.policy_fault.specs.declared.fault.PolicyPlace.{PolicyPlace}
use Rattle.policy_core.specs.declared.mx.MxRow.{MxRow}
use Rattle.policy_toml.specs.declared.fault.Fault.{Fault}
use Rattle.policy_toml.specs.Reports.{reported, IsRefusal}
use Rattle.shaping_policy.specs.Refusals.{IsShapingRefusal}
use Rattle.mx_table.specs.MxText.{LineFault, Joins, IsMxOf, IsMxRefusal, reported as reported_line}
use Rattle.kumo_base.specs.Causes.{Rose}
use Rattle.kumo_outside.specs.Reading.{IsReadUpTo}
use Rattle.kumo_outside.specs.declared.text_reader.TheConstants.{TEXT_LIMIT}
use Rattle.policy_texts.specs.Texts.{Stop, too_long, refused, read_by}
use Rattle.policy_texts.specs.Policies.{HasCauseIn, load_fault_of}
use Rattle.policy_texts.specs.inside.Stages.{Comes, no_counts, search_counts}

-- bytes that are too many
pub too_many : {A F : Type 0} (report : F → PolicyPlace) (read : List ℕ → Result A F) (text : List ℕ) → TEXT_LIMIT < length text → read_by report read text ≡ Err too_long
unfolding read_by
too_many report read text l = let test : nat_lt TEXT_LIMIT (length text) ≡ true = grind (arith, nat_tests) in rw test refl

-- bytes within the limit that are read
pub given_ok : {A F : Type 0} (report : F → PolicyPlace) (read : List ℕ → Result A F) (text : List ℕ) (a : A) → length text ≤ TEXT_LIMIT → read text ≡ Ok a → read_by report read text ≡ Ok a
unfolding read_by
given_ok report read text a l e = let test : nat_lt TEXT_LIMIT (length text) ≡ false = grind (arith, nat_tests) in rw (test, e) refl

-- bytes within the limit that are refused
given_err : {A F : Type 0} (report : F → PolicyPlace) (read : List ℕ → Result A F) (text : List ℕ) (f : F) → length text ≤ TEXT_LIMIT → read text ≡ Err f → read_by report read text ≡ Err (refused (report f))
unfolding read_by
given_err report read text f l e = let test : nat_lt TEXT_LIMIT (length text) ≡ false = grind (arith, nat_tests) in rw (test, e) refl

refused_as : {A F : Type 0} (report : F → PolicyPlace) (read : List ℕ → Result A F) (text : List ℕ) (place : PolicyPlace)
    → length text ≤ TEXT_LIMIT → (found : F) × (read text ≡ Err found) × (place ≡ report found) → read_by report read text ≡ Err (refused place)
refused_as report read text place l h = given_err report read text h.0 l h.1 ∙ ap (λ f. Err (refused f)) (sym h.2)

-- the causes of the refusals of readers
pub file_cause : {A : Type 0} (f : PolicyFile) (read : List ℕ → Result A Fault) (text : List ℕ) (said : PolicyFault)
    → length text ≤ TEXT_LIMIT → IsRefusal f said (read text) → HasCauseIn (λ stop. read_by (reported f) read text ≡ Err stop) no_counts (load_fault_of said)
file_cause f read text (fault.At place) l h = refused_as (reported f) read text place l h
file_cause f read text fault.Search l h = absurd h
file_cause f read text fault.Memory l h = tt

pub mx_cause : (read : List ℕ → Result (List MxRow) LineFault) (text : List ℕ) (said : PolicyFault)
    → length text ≤ TEXT_LIMIT → IsMxRefusal said (read text) → HasCauseIn (λ stop. read_by reported_line read text ≡ Err stop) no_counts (load_fault_of said)
mx_cause read text (fault.At place) l h = refused_as reported_line read text place l h
mx_cause read text fault.Search l h = absurd h
mx_cause read text fault.Memory l h = tt

pub shaping_cause : {A : Type 0} (read : List ℕ → Result A Fault) (text : List ℕ) (said : PolicyFault) (before now : ℕ)
    → length text ≤ TEXT_LIMIT → IsShapingRefusal said (read text) → (said ≡ fault.Search → Rose before now)
    → HasCauseIn (λ stop. read_by (reported file.Shaping) read text ≡ Err stop) (search_counts before now) (load_fault_of said)
shaping_cause read text (fault.At place) before now l h rose = refused_as (reported file.Shaping) read text place l h
shaping_cause read text fault.Search before now l h rose = rose refl
shaping_cause read text fault.Memory before now l h rose = tt

-- the rows that a table joins
pub mx_rows : (read : List ℕ → Result (List MxRow) LineFault) (text : List ℕ) (table : List MxRow) (r : Result (List MxRow) LineFault)
    → length text ≤ TEXT_LIMIT → read text ≡ r → IsMxOf table r → (rows : List MxRow) × (read_by reported_line read text ≡ Ok rows) × Joins table rows
mx_rows read text table (Ok rows) l e h = (rows, given_ok reported_line read text rows l e, h)
mx_rows read text table (Err f) l e h = absurd h

-- bytes that are read up to one piece past the limit come to the same as the whole text
same_given : {A F : Type 0} (report : F → PolicyPlace) (read : List ℕ → Result A F) (text bytes : List ℕ) → IsReadUpTo TEXT_LIMIT text bytes → read_by report read text ≡ read_by report read bytes
same_given report read text bytes h =
    elim h [ inl e ↦ ap (read_by report read) (sym e) | inr more ↦ too_many report read text more.has_more ∙ sym (too_many report read bytes more.read_more) ]

pub told_as : {A F : Type 0} (report : F → PolicyPlace) (read : List ℕ → Result A F) (told : Option (List ℕ)) (bytes : List ℕ) (what : Result A Stop)
    → IfSome told (λ text. IsReadUpTo TEXT_LIMIT text bytes) → read_by report read bytes ≡ what → Comes (read_by report read) told what
told_as report read None bytes what up e = (bytes, tt, e)
told_as report read (Some text) bytes what up e = (text, refl, same_given report read text bytes up ∙ e)
