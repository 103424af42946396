use Rattle.std.proofs.Common.{◌≡◌, ◌≤◌, ◌<◌, ◌∷◌, List, All, arith, sym, subst}
use Rattle.std.proofs.lemmas.List.Elements.{All-head, All-tail, All-cons}
use Rattle.spool_index.specs.declared.place.Place.{Place}
use Rattle.spool_store.proofs.rewrite.largest.Goals as goal

pub loop-place-preserved-then-most-place : goal.loop-place-preserved-then-most-place
loop-place-preserved-then-most-place c =
    let place : Place = c.in-Some.place in
    let left : List Place = c.next.new.self in
    let cut : c.loop-place.walk ≡ place ∷ left = c.in-Some.ensures.all in
    let more : c.loop-place.most < place.size = c.if-most-place.true in
    record {
      bound = λ n le all. c.loop-place.invariant.bound n (omega (arith, le, more)) (subst (λ (l : List Place). All (λ p. p.size ≤ n) l) (sym cut) (All-cons (λ p. p.size ≤ n) place left le all));
      least = λ n all.
          let here : All (λ p. p.size ≤ n) (place ∷ left) = subst (λ (l : List Place). All (λ p. p.size ≤ n) l) cut (c.loop-place.invariant.least n all).1 in
          (All-head (λ p. p.size ≤ n) place left here, All-tail (λ p. p.size ≤ n) place left here);
    }

pub loop-place-preserved : goal.loop-place-preserved
loop-place-preserved c =
    let place : Place = c.in-Some.place in
    let left : List Place = c.next.new.self in
    let cut : c.loop-place.walk ≡ place ∷ left = c.in-Some.ensures.all in
    record {
      bound = λ n le all. c.loop-place.invariant.bound n le
          (subst (λ (l : List Place). All (λ p. p.size ≤ n) l) (sym cut) (All-cons (λ p. p.size ≤ n) place left (omega (arith, le, c.if-most-place.false)) all));
      least = λ n all.
          let so_far = c.loop-place.invariant.least n all in
          (so_far.0, All-tail (λ p. p.size ≤ n) place left (subst (λ (l : List Place). All (λ p. p.size ≤ n) l) cut so_far.1));
    }
