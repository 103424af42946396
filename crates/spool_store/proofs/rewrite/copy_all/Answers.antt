use Rattle.std.proofs.Common.{◌≡◌, ◌≤◌, ◌∷◌, All, List, ℕ, arith, ap, sym, ◌∙◌, subst, length, sum_by}
use Rattle.std.proofs.lemmas.List.Elements.{All-tail}
use Rattle.std.proofs.lemmas.List.Sums.{sum_by-cons}
use Rattle.kumo_disk.specs.Calls.{Ran}
use Rattle.spool_log.specs.Log.{StaysShut}
use Rattle.spool_log.specs.declared.draft.Draft.{Draft}
use Rattle.spool_index.specs.declared.place.Place.{Place}
use Rattle.spool_index.specs.Places.{compacted_cost}
use Rattle.spool_store.proofs.Copying.{shut_then, copied_next, CopiedSoFar}
use Rattle.spool_store.proofs.rewrite.copy_all.Goals as goal

pub loop-place-preserved : goal.loop-place-preserved
loop-place-preserved g c =
    let first : Draft = c.args.draft.now in
    let a = g.D.Disk.seen c.args.disk.now in
    let b = g.D.Disk.seen c.loop-place.disk in
    let e = g.D.Disk.seen c.copy_one.new.disk in
    let so_far = c.loop-place.invariant in
    let next = c.in_ok-copy_one.ensures.next in
    let place : Place = c.in-Some.place in
    let left : List Place = c.next.new.self in
    let cut : c.loop-place.walk ≡ place ∷ left = c.in-Some.ensures.all in
    record {
      has = c.in_ok-copy_one.ensures.has;
      of_area = ap (λ (d : Draft). d.area) next ∙ so_far.of_area;
      of_header = ap (λ (d : Draft). d.header) next ∙ so_far.of_header;
      ends = omega (arith, ap (λ (d : Draft). d.end) next, so_far.ends, ap (λ (l : List Place). sum_by compacted_cost l) cut, sum_by-cons compacted_cost place left);
      ran = shut_then first.area a b e so_far.ran (subst (λ (k : ℕ). Ran k StaysShut b e) so_far.of_area c.copy_one.ensures.ran);
      room = subst (λ (k : ℕ). All (λ p. p.size ≤ k) left) (sym c.copy_one.ensures.room)
          (All-tail (λ p. p.size ≤ length c.loop-place.payload) place left (subst (λ (l : List Place). All (λ p. p.size ≤ length c.loop-place.payload) l) cut so_far.room));
      told = copied_next c.args.area first.area c.loop-place.draft c.copy_one.new.draft place left c.args.pending.now a b e (λ is. c.requires.apart (sym is)) so_far.ran
          c.in_ok-copy_one.ensures.draft (subst (λ (l : List Place). CopiedSoFar c.args.area c.loop-place.draft l c.args.pending.now a b) cut so_far.told);
      later = omega (arith, so_far.later, c.copy_one.ensures.cause.later);
    }

pub returns-in_err-copy_one-clause-ran : goal.returns-in_err-copy_one-clause-ran
returns-in_err-copy_one-clause-ran g c =
    let first : Draft = c.args.draft.now in
    shut_then first.area (g.D.Disk.seen c.args.disk.now) (g.D.Disk.seen c.loop-place.disk) (g.D.Disk.seen c.copy_one.new.disk) c.loop-place.invariant.ran
    (subst (λ (k : ℕ). Ran k StaysShut (g.D.Disk.seen c.loop-place.disk) (g.D.Disk.seen c.copy_one.new.disk)) c.loop-place.invariant.of_area c.copy_one.ensures.ran)
