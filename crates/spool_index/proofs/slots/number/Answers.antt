use Rattle.std.proofs.Common.{◌≡◌, ◌+◌, ℕ, true, cond, Option, None, is_some, nat_eq, Result, Ok, Err, OnOk, OnErr, IfOk, sym, ap, ◌∙◌, add-zero}
use Rattle.indexmap.specs.IndexMap.{get, index_map_len}
use Rattle.spool_index.proofs.KeptLemmas.{has_at}
use Rattle.spool_index.proofs.IndexLemmas.{knows_more, numbers_more, numbers_blank}
use Rattle.spool_index.proofs.slots.number.Goals as goal
use Rattle.spool_index.proofs.slots.number.Goals.{in-Some, in_default}

-- a key that is there is never refused
ok_since : {T E P : Type 0} (r : Result T E) (o : Option ℕ) → OnErr r (o ≡ None) → is_some o ≡ true → OnOk r P → P
ok_since (Ok x) o absent there h = h
ok_since (Err e) o absent there h = let none : is_some {T = ℕ} None ≡ true = ap is_some (sym absent) ∙ there in absurd cc

len_since : {E : Type 0} (r : Result (Option ℕ) E) (o : Option ℕ) (a b : ℕ) → OnErr r (o ≡ None) → is_some o ≡ true
    → IfOk r (λ old. old ≡ o) → IfOk r (λ old. b ≡ a + cond (is_some old) 0 1) → b ≡ a
len_since (Ok x) o a b absent there old len =
    let known : is_some x ≡ true = ap is_some old ∙ there in len ∙ ap (λ t. a + cond t 0 1) known ∙ add-zero a
len_since (Err e) o a b absent there old len = let none : is_some {T = ℕ} None ≡ true = ap is_some (sym absent) ∙ there in absurd cc

pub loop-number-preserved : goal.loop-number-preserved
loop-number-preserved c = elim c.match-slot.branch [
  | in-Some w ↦
      let slots = c.args.slots.now in
      let m = c.loop-number.index in
      let p = w.in-Some.place in
      let i = c.loop-number.number in
      let e = w.insert-noted.ensures in
      let there : is_some (get nat_eq m p.id) ≡ true = c.loop-number.invariant.0 p.id ∙ has_at slots i p w.in-Some.is in
      let updates = ok_since w.insert-noted.result (get nat_eq m p.id) e.absent there e.updates in
      rw w.index-is (
        knows_more m w.insert-noted.new.self slots i p c.loop-number.invariant.0 w.in-Some.is updates.0,
        numbers_more m w.insert-noted.new.self slots i p c.requires.distinct c.loop-number.invariant.1 w.in-Some.is updates.0,
        len_since w.insert-noted.result (get nat_eq m p.id) (index_map_len m) (index_map_len w.insert-noted.new.self) e.absent there e.old e.len ∙ c.loop-number.invariant.2,
      )
  | in_default w ↦
      rw w.index-is (
        c.loop-number.invariant.0,
        numbers_blank c.loop-number.index c.args.slots.now c.loop-number.number c.loop-number.invariant.1 w.in_default.is,
        c.loop-number.invariant.2,
      )
]
