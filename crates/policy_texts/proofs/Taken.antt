-- What the text of a name gives, where its bytes are read up to one piece past the limit.
use Rattle.std.proofs.Common.{◌≡◌, ℕ, List, Option, Result, Ok, Err, IfOk, IfErr, IfSome}
use Rattle.kumo_base.specs.Causes.{Rose}
use Rattle.policy_fault.specs.declared.fault.PolicyPlace.{PolicyPlace}
use Rattle.policy_core.specs.declared.mx.MxRow.{MxRow}
use Rattle.mx_table.specs.MxText.{Joins}
use Rattle.kumo_outside.specs.Reading.{IsReadUpTo}
use Rattle.kumo_outside.specs.declared.text_reader.TheConstants.{TEXT_LIMIT}
use Rattle.policy_texts.specs.declared.load.LoadFault.{LoadFault}
use Rattle.policy_texts.specs.Texts.{read_by}
use Rattle.policy_texts.specs.Policies.{Counts, HasCauseIn}
use Rattle.policy_texts.specs.inside.Stages.{Comes}
use Rattle.policy_texts.proofs.Given.{told_as}
use Rattle.policy_texts.proofs.Causes.{cause_as}

pub as_read : (told : Option (List ℕ)) (bytes same : List ℕ) → same ≡ bytes → IfSome told (λ text. IsReadUpTo TEXT_LIMIT text bytes) → IfSome told (λ text. IsReadUpTo TEXT_LIMIT text same)
as_read told bytes same e h = rw e h

pub taken_ok : {A F X : Type 0} (report : F → PolicyPlace) (read : List ℕ → Result A F) (told : Option (List ℕ)) (bytes : List ℕ) (r : Result X LoadFault) (value : X → A)
    → IfSome told (λ text. IsReadUpTo TEXT_LIMIT text bytes) → IfOk r (λ x. read_by report read bytes ≡ Ok (value x)) → IfOk r (λ x. Comes (read_by report read) told (Ok (value x)))
taken_ok report read told bytes (Ok x) value up h = told_as report read told bytes (Ok (value x)) up h
taken_ok report read told bytes (Err f) value up h = tt

pub taken_err : {A F X : Type 0} (report : F → PolicyPlace) (read : List ℕ → Result A F) (told : Option (List ℕ)) (bytes : List ℕ)
    (a b : Counts) (r : Result X LoadFault) → IfSome told (λ text. IsReadUpTo TEXT_LIMIT text bytes)
    → IfErr r (λ fault. HasCauseIn (λ stop. read_by report read bytes ≡ Err stop) a fault)
    → (Rose a.texts_before a.texts_after → Rose b.texts_before b.texts_after)
    → (Rose a.search_before a.search_after → Rose b.search_before b.search_after)
    → IfErr r (λ fault. HasCauseIn (λ stop. Comes (read_by report read) told (Err stop)) b fault)
taken_err report read told bytes a b (Ok x) up h by_texts by_search = tt
taken_err report read told bytes a b (Err f) up h by_texts by_search =
    cause_as _ _ a b f (λ stop e. told_as report read told bytes (Err stop) up e) h by_texts by_search

pub taken_rows : {F : Type 0} (report : F → PolicyPlace) (read : List ℕ → Result (List MxRow) F) (told : Option (List ℕ)) (bytes : List ℕ) (r : Result (List MxRow) LoadFault)
    → IfSome told (λ text. IsReadUpTo TEXT_LIMIT text bytes)
    → IfOk r (λ table. (rows : List MxRow) × (read_by report read bytes ≡ Ok rows) × Joins table rows) → IfOk r (λ table. (rows : List MxRow) × Comes (read_by report read) told (Ok rows) × Joins table rows)
taken_rows report read told bytes (Ok table) up h = (h.0, told_as report read told bytes (Ok h.0) up h.1, h.2)
taken_rows report read told bytes (Err f) up h = tt
