-- Settled and deferred payloads: what was written is read, and what is read was written so.
use Rattle.std.proofs.Common.{◌≡◌, ℕ, ◌^◌, ◌<◌, Bool, true, if◌then◌else◌, List, [], ◌++◌, length, Some, None, nat_le, nat_lt, ◌&&◌, refl, sym, ap, subst, ◌∙◌, arith}
use Rattle.std.specs.Int.{w32, w64, w128, to_be_bytes}
use Rattle.std.proofs.lemmas.Bool.{and_parts, leb-true, le-leb, ltb-true, lt-ltb}
use Rattle.std.proofs.lemmas.List.{append-nil}
use Rattle.std.proofs.lemmas.Option.{cond_some}
use Rattle.kumo_base.specs.Limits.{latest_moment}
use Rattle.spool_format.specs.Fields.{number_at, alone}
use Rattle.spool_format.specs.Settled.{settled_payload, settled_in}
use Rattle.spool_format.specs.Deferred.{IsProperDeferral, deferred_payload, deferred_in, is_proper_deferral}
use Rattle.spool_format.specs.declared.deferred.Deferral.{Deferral}
use Rattle.spool_format.proofs.NumberLemmas.{exact_32, exact_64, exact_128}
use Rattle.spool_format.proofs.FieldLemmas.{bind_some, Splits, splits_then, number_splits, number_again, alone_is}

-- ---- settled

pub settled_parts : (p : List ℕ) (id : ℕ) → settled_in p ≡ Some id → Splits p (settled_payload id) [] × (id < 2 ^ 128)
unfolding settled_in settled_payload
settled_parts p id e =
    let n = bind_some (number_at w128 p) _ id e in
    let a = bind_some (alone n.0.0 n.0.1) _ id n.2 in
    let c = cond_some (nat_lt a.0 (2 ^ 128)) a.0 id a.2 in
    let only = alone_is n.0.0 a.0 n.0.1 a.1 in
    let first = number_splits w128 (2 ^ 128) exact_128 p n.0 n.1 in
    let is : n.0.0 ≡ id = only.0 ∙ c.1 in (
      subst (λ (k : ℕ). Splits p (to_be_bytes w128 k) []) is (subst (λ (r : List ℕ). Splits p (to_be_bytes w128 n.0.0) r) only.1 first),
      subst (λ (k : ℕ). k < 2 ^ 128) c.1 (ltb-true _ _ c.0),
    )

settled_chain : (p : List ℕ) (id : ℕ) → number_at w128 p ≡ Some (id, []) → nat_lt id (2 ^ 128) ≡ true → settled_in p ≡ Some id
unfolding settled_in
settled_chain p id e below = rw (e, below) refl

pub settled_again : (id : ℕ) → id < 2 ^ 128 → settled_in (settled_payload id) ≡ Some id
unfolding settled_payload
settled_again id below =
    let read = ap (number_at w128) (sym (append-nil (to_be_bytes w128 id))) ∙ number_again w128 (2 ^ 128) exact_128 id [] below in
    settled_chain (to_be_bytes w128 id) id read (lt-ltb _ _ below)

-- ---- deferred

proper_deferral : (d : Deferral) → is_proper_deferral d ≡ true → IsProperDeferral d
proper_deferral d h =
    let dues = and_parts _ (nat_le d.due latest_moment) h in
    let counts = and_parts _ (nat_lt d.failures (2 ^ 32)) dues.0 in
    let firsts = and_parts (nat_lt d.id (2 ^ 128)) (nat_le 1 d.failures) counts.0 in
    record {
      id = ltb-true _ _ firsts.0;
      failed = leb-true _ _ firsts.1;
      failures = ltb-true _ _ counts.1;
      due = leb-true _ _ dues.1;
    }

all_four : (x y z u : Bool) → x ≡ true → y ≡ true → z ≡ true → u ≡ true → (x && y && z && u) ≡ true
all_four x y z u p q r s = rw (p, q, r, s) refl

proper_deferral_is : (d : Deferral) → IsProperDeferral d → is_proper_deferral d ≡ true
proper_deferral_is d p = all_four _ _ _ _ (lt-ltb _ _ p.id) (le-leb _ _ p.failed) (lt-ltb _ _ p.failures) (le-leb _ _ p.due)

pub deferred_parts : (p : List ℕ) (d : Deferral) → deferred_in p ≡ Some d
    → Splits p (deferred_payload d) [] × IsProperDeferral d
unfolding deferred_in deferred_payload
deferred_parts p d e =
    let id = bind_some (number_at w128 p) _ d e in
    let failures = bind_some (number_at w32 id.0.1) _ d id.2 in
    let due = bind_some (number_at w64 failures.0.1) _ d failures.2 in
    let made : Deferral = record { id = id.0.0; failures = failures.0.0; due = due.0.0 } in
    let a = bind_some (alone made due.0.1) _ d due.2 in
    let c = cond_some (is_proper_deferral a.0) a.0 d a.2 in
    let only = alone_is made a.0 due.0.1 a.1 in
    let is : made ≡ d = only.0 ∙ c.1 in
    let first = number_splits w128 (2 ^ 128) exact_128 p id.0 id.1 in
    let second = number_splits w32 (2 ^ 32) exact_32 id.0.1 failures.0 failures.1 in
    let third = number_splits w64 (2 ^ 64) exact_64 failures.0.1 due.0 due.1 in
    let last = splits_then id.0.1 (to_be_bytes w32 failures.0.0) failures.0.1 (to_be_bytes w64 due.0.0) due.0.1 second third in
    let all =
    splits_then p (to_be_bytes w128 id.0.0) id.0.1 (to_be_bytes w32 failures.0.0 ++ to_be_bytes w64 due.0.0) due.0.1 first last in (
      subst (λ (x : Deferral). Splits p (deferred_payload x) []) is
          (subst (λ (r : List ℕ). Splits p (deferred_payload made) r) only.1 all),
      subst IsProperDeferral c.1 (proper_deferral a.0 c.0),
    )

deferred_chain : (p behind more : List ℕ) (d : Deferral) → number_at w128 p ≡ Some (d.id, behind)
    → number_at w32 behind ≡ Some (d.failures, more) → number_at w64 more ≡ Some (d.due, []) → is_proper_deferral d ≡ true
    → deferred_in p ≡ Some d
unfolding deferred_in
deferred_chain p behind more d e0 e1 e2 proper = rw (e0, e1, e2) (ap (λ b. if b then Some d else None) proper)

pub deferred_again : (d : Deferral) → IsProperDeferral d → deferred_in (deferred_payload d) ≡ Some d
unfolding deferred_payload
deferred_again d proper =
    let more = to_be_bytes w64 d.due in
    let behind = to_be_bytes w32 d.failures ++ more in
    let last = ap (number_at w64) (sym (append-nil more)) ∙ number_again w64 (2 ^ 64) exact_64 d.due [] (omega (arith, proper.due)) in
    deferred_chain (to_be_bytes w128 d.id ++ behind) behind more d (number_again w128 (2 ^ 128) exact_128 d.id behind proper.id)
    (number_again w32 (2 ^ 32) exact_32 d.failures more proper.failures) last (proper_deferral_is d proper)

-- ---- lengths

pub settled_length : (id : ℕ) → length (settled_payload id) ≡ 16
unfolding settled_payload
settled_length id = refl

pub deferred_length : (d : Deferral) → length (deferred_payload d) ≡ 28
unfolding deferred_payload
deferred_length d = refl
