-- The payload of each pending message stands where its item says.
use Rattle.std.proofs.Common.{◌≡◌, ℕ, ◌+◌, List, [], ◌∷◌, ◌++◌, length, take, drop, Bool, true, false, ◌&&◌, cond, eqb, Option, Some, None, refl, sym, ◌∙◌, subst, ap, arith}
use Rattle.std.proofs.lemmas.List.{take_at, drop_at, drop-drop, length-drop, length-append, append_assoc}
use Rattle.queue_name.specs.declared.message.Message.{Message}
use Rattle.spool_log.specs.Area.{LogRecord, bytes_of, bytes_of_all, header_of, Form}
use Rattle.spool_log.specs.declared.head.Header.{Header}
use Rattle.spool_format.specs.Held.{held_payload, held_in}
use Rattle.spool_format.specs.Settled.{settled_in}
use Rattle.spool_format.specs.Deferred.{deferred_in}
use Rattle.spool_format.specs.declared.deferred.Deferral.{Deferral}
use Rattle.spool_format.proofs.ReadLemmas.{held_long}
use Rattle.spool_store.specs.Content.{Item, fresh, has_item, without_item, with_deferral, deferred, hold_in, settle_in, defer_in, after, played}
use Rattle.spool_store.specs.inside.Replay.{PayloadStands, AllStand}
use Rattle.spool_store.proofs.Unique.{then_some}

clash : {T : Type 0} (x : T) → None ≡ Some x → ⊥
clash x is = cc

stand_push : (b : List ℕ) (items : List Item) (i : Item) → AllStand b items → PayloadStands b i → AllStand b (items ++ i ∷ [])
stand_push b [] i all one = (one, tt)
stand_push b (j ∷ items) i all one = (all.0, stand_push b items i all.1 one)

stand_without : (b : List ℕ) (id : ℕ) (items : List Item) → AllStand b items → AllStand b (without_item id items)
stand_without b id [] all = tt
stand_without b id (i ∷ items) all = by (eqb i.kept.message.id id) (stand_without b id items all.1)
  where
    by : (t : Bool) → AllStand b (without_item id items) → AllStand b (cond t items (i ∷ without_item id items))
    by true rest = all.1
    by false rest = (all.0, rest)

stand_deferral : (b : List ℕ) (d : Deferral) (items : List Item) → AllStand b items → AllStand b (with_deferral d items)
stand_deferral b d [] all = tt
stand_deferral b d (i ∷ items) all = by (eqb i.kept.message.id d.id) (stand_deferral b d items all.1)
  where
    by : (t : Bool) → AllStand b (with_deferral d items) → AllStand b (cond t (deferred d i ∷ items) (i ∷ with_deferral d items))
    by true rest = (record { held = all.0.held; within = all.0.within }, all.1)
    by false rest = (all.0, rest)

-- what was held, settled or deferred
hold_stands : (b : List ℕ) (at : ℕ) (items later : List Item) (o : Option Message) → AllStand b items → ((m : Message) → o ≡ Some m → PayloadStands b (record { at = at; kept = fresh m }))
    → hold_in at items o ≡ Some later → AllStand b later
hold_stands b at items later None all one is = absurd (clash later is)
hold_stands b at items later (Some m) all one is = by (has_item m.id items) is
  where
    by : (t : Bool) → cond t None (Some (items ++ (record { at = at; kept = fresh m }) ∷ [])) ≡ Some later → AllStand b later
    by true is = absurd (clash later is)
    by false is = let same : items ++ (record { at = at; kept = fresh m }) ∷ [] ≡ later = cc in
        subst (λ (l : List Item). AllStand b l) same (stand_push b items (record { at = at; kept = fresh m }) all (one m refl))

settle_stands : (b : List ℕ) (items later : List Item) (o : Option ℕ) → AllStand b items → settle_in items o ≡ Some later → AllStand b later
settle_stands b items later None all is = absurd (clash later is)
settle_stands b items later (Some id) all is = by (has_item id items) is
  where
    by : (t : Bool) → cond t (Some (without_item id items)) None ≡ Some later → AllStand b later
    by true is = let same : without_item id items ≡ later = cc in subst (λ (l : List Item). AllStand b l) same (stand_without b id items all)
    by false is = absurd (clash later is)

defer_stands : (b : List ℕ) (items later : List Item) (o : Option Deferral) → AllStand b items → defer_in items o ≡ Some later → AllStand b later
defer_stands b items later None all is = absurd (clash later is)
defer_stands b items later (Some d) all is = by (has_item d.id items) is
  where
    by : (t : Bool) → cond t (Some (with_deferral d items)) None ≡ Some later → AllStand b later
    by true is = let same : with_deferral d items ≡ later = cc in subst (λ (l : List Item). AllStand b l) same (stand_deferral b d items all)
    by false is = absurd (clash later is)

-- a payload that stands behind a gate and six bytes
payload_stands : (b : List ℕ) (at : ℕ) (r : LogRecord) (rest : List ℕ) (m : Message) → drop at b ≡ bytes_of r ++ rest → held_in r.payload ≡ Some m → PayloadStands b (record { at = at + 6; kept = fresh m })
payload_stands b at r rest m split held =
    let long : length r.payload ≡ length (held_payload m) = held_long r.payload m held in
    let behind : drop (at + 6) b ≡ r.payload ++ rest = sym (drop-drop 6 at b) ∙ ap (λ (l : List ℕ). drop 6 l) split in
    record {
      held = ap (λ (l : List ℕ). held_in (take (length (held_payload m)) l)) behind ∙ ap (λ (l : List ℕ). held_in l) (take_at r.payload rest (length (held_payload m)) long) ∙ held;
      within = omega (arith, long, length-drop at b, ap length split, length-append (bytes_of r) rest);
    }

after_stands : (b : List ℕ) (v at : ℕ) (items later : List Item) (r : LogRecord) (rest : List ℕ) → drop at b ≡ bytes_of r ++ rest → AllStand b items → after v at items r ≡ Some later → AllStand b later
after_stands b v at items later r rest split all is = by (eqb r.kind 1) (eqb r.kind 2) (eqb r.kind 3 && eqb v 2) is
  where
    by : (t u w : Bool) → cond t (hold_in (at + 6) items (held_in r.payload)) (cond u (settle_in items (settled_in r.payload)) (cond w (defer_in items (deferred_in r.payload)) None)) ≡ Some later → AllStand b later
    by true u w is = hold_stands b (at + 6) items later (held_in r.payload) all (λ m held. payload_stands b at r rest m split held) is
    by false true w is = settle_stands b items later (settled_in r.payload) all is
    by false false true is = defer_stands b items later (deferred_in r.payload) all is
    by false false false is = absurd (clash later is)

played_stands : (b : List ℕ) (v at : ℕ) (items later : List Item) (rs : List LogRecord) (rest : List ℕ) → drop at b ≡ bytes_of_all rs ++ rest → AllStand b items → played v at items rs ≡ Some later → AllStand b later
played_stands b v at items later [] rest split all is = let same : items ≡ later = cc in subst (λ (l : List Item). AllStand b l) same all
played_stands b v at items later (r ∷ rs) rest split all is =
    let then = then_some (after v at items r) (λ ns. played v (at + length (bytes_of r)) ns rs) later is in
    let here : drop at b ≡ bytes_of r ++ (bytes_of_all rs ++ rest) = split ∙ append_assoc (bytes_of r) (bytes_of_all rs) rest in
    let behind : drop (at + length (bytes_of r)) b ≡ bytes_of_all rs ++ rest =
    sym (drop-drop (length (bytes_of r)) at b) ∙ ap (λ (l : List ℕ). drop (length (bytes_of r)) l) here ∙ drop_at (bytes_of r) (bytes_of_all rs ++ rest) (length (bytes_of r)) refl in
    played_stands b v (at + length (bytes_of r)) then.0 later rs rest behind (after_stands b v at items then.0 r (bytes_of_all rs ++ rest) here all then.1) then.2

pub payloads_stand : (h : Header) (rs : List LogRecord) (end : ℕ) (b : List ℕ) (items : List Item) → Form h rs end b → played h.version 16 [] rs ≡ Some items → AllStand b items
payloads_stand h rs end b items form plays =
    played_stands b h.version 16 [] items rs (form.gate ∷ form.rest)
    (ap (λ (l : List ℕ). drop 16 l) (form.split ∙ append_assoc (header_of h) (bytes_of_all rs) (form.gate ∷ form.rest))) tt plays
