-- Links that are right about a queue stay right by each step.
use Rattle.std.proofs.Common.{◌≡◌, ◌<◌, ◌+◌, ◌^◌, ℕ, List, [], ◌∷◌, ◌++◌, Bool, true, false, cond, ◌||◌, nat_eq, Option, Some, None, length-append, is_some, refl, sym, ap, ◌∙◌, subst, arith}
use Rattle.std.proofs.lemmas.Bool.{eq-eqb, ne_eqb, cond-true, cond-false, true≢false}
use Rattle.std.specs.List.{last_or}
use Rattle.ready_queue.specs.declared.links.Link.{Link}
use Rattle.ready_queue.specs.Queue.{has, without}
use Rattle.ready_queue.specs.Links.{first_or, walked, IsQueue}
use Rattle.ready_queue.specs.inside.Joins.{with_next, with_previous}
use Rattle.ready_queue.proofs.QueueLemmas.{has-append, cut_at, distinct_parts, distinct_halves, distinct_push, without_between, has_without, stood, fits_push}
use Rattle.ready_queue.proofs.LinkLemmas.{last_or-append, first_stands, last_stands, walked_all, linked_parts, linked_join, linked_same, linked_next, linked_previous, next_other, previous_other, known_next, known_previous}

-- a walk from the first gives the numbers
pub walk_of : (links : ℕ → Option Link) (count : ℕ) (first last : Option ℕ) (ns : List ℕ) → IsQueue links count first last ns
    → walked links count first ≡ ns
walk_of links count first last ns is =
    ap (walked links count) is.begins ∙ walked_all links count None ns is.linked (omega (arith, is.counts))

pub by_walk : (links : ℕ → Option Link) (count : ℕ) (first last : Option ℕ) (ns : List ℕ) → IsQueue links count first last ns
    → IsQueue links count first last (walked links count first)
by_walk links count first last ns is = subst (IsQueue links count first last) (sym (walk_of links count first last ns is)) is

-- no number is linked
pub none_linked : (links : ℕ → Option Link) → ((n : ℕ) → links n ≡ None) → IsQueue links 0 None None []
none_linked links none = record {
  linked = tt;
  begins = refl;
  ends = refl;
  knows = λ n. ap is_some (none n);
  counts = refl;
  distinct = refl;
  fits = λ n is. absurd (true≢false (sym is));
}

-- the same links
pub same_queue : (links after : ℕ → Option Link) (count now : ℕ) (first last : Option ℕ) (ns : List ℕ) → ((n : ℕ) → after n ≡ links n) → now ≡ count
    → IsQueue links count first last ns → IsQueue after now first last ns
same_queue links after count now first last ns same counts is = record {
  linked = linked_same links after None ns None (λ n there. same n) is.linked;
  begins = is.begins;
  ends = is.ends;
  knows = λ n. ap is_some (same n) ∙ is.knows n;
  counts = counts ∙ is.counts;
  distinct = is.distinct;
  fits = is.fits;
}

some_last : (x : ℕ) (ns : List ℕ) → is_some (last_or (Some x) ns) ≡ true
some_last x [] = refl
some_last x (y ∷ ns) = some_last y ns

-- two numbers of which one stands among these and one does not
apart : (n k : ℕ) (ns : List ℕ) → has n ns ≡ false → has k ns ≡ true → n ≡ k → ⊥
apart n k ns none there same = true≢false (sym there ∙ ap (λ i. has i ns) (sym same) ∙ none)

pushed_first : (ns : List ℕ) (n : ℕ) → cond (is_some (last_or None ns)) (first_or None ns) (Some n) ≡ first_or None (ns ++ n ∷ [])
pushed_first [] n = refl
pushed_first (x ∷ ns) n = cond-true (is_some (last_or (Some x) ns)) (Some x) (Some n) (some_last x ns)

pushed_knows : (t : Bool) (l : Link) (o : Option Link) (b : Bool) → is_some o ≡ b → is_some (cond t (Some l) o) ≡ (b || (t || false))
pushed_knows true l o true e = refl
pushed_knows true l o false e = refl
pushed_knows false l o true e = e
pushed_knows false l o false e = e

-- a number is put behind the last, and is linked
pub pushed : (links joined after : ℕ → Option Link) (count now : ℕ) (first last start : Option ℕ) (ns : List ℕ) (n : ℕ) → IsQueue links count first last ns
    → has n ns ≡ false → n < 2 ^ 32 → ((k : ℕ) → joined k ≡ with_next last (Some n) k (links k))
    → ((k : ℕ) → after k ≡ cond (nat_eq n k) (Some (record { previous = last; next = None })) (joined k))
    → start ≡ cond (is_some last) first (Some n) → now ≡ count + 1 → IsQueue after now start (Some n) (ns ++ n ∷ [])
pushed links joined after count now first last start ns n is none fits joins updates starts counts =
    let own : Link = record { previous = last; next = None } in
    let among : (k : ℕ) → has k ns ≡ true → after k ≡ with_next (last_or None ns) (Some n) k (links k) =
    λ k there. updates k ∙ cond-false (nat_eq n k) (Some own) (joined k) (ne_eqb n k (apart n k ns none there)) ∙ joins k
    ∙ ap (λ l. with_next l (Some n) k (links k)) is.ends in
    let here : after n ≡ Some (record { previous = last_or None ns; next = None }) =
    updates n ∙ cond-true (nat_eq n n) (Some own) (joined n) (eq-eqb n n refl) ∙ ap (λ l. Some (record { previous = l; next = None })) is.ends in
    record {
      linked = linked_join after None ns (n ∷ []) None (linked_next links after None ns None (Some n) is.distinct among is.linked) (here, tt);
      begins = starts ∙ ap (λ l. cond (is_some l) first (Some n)) is.ends ∙ ap (λ f. cond (is_some (last_or None ns)) f (Some n)) is.begins
          ∙ pushed_first ns n;
      ends = sym (last_or-append None ns (n ∷ []));
      knows = λ k. ap is_some (updates k)
          ∙ pushed_knows (nat_eq n k) own (joined k) (has k ns) (ap is_some (joins k) ∙ known_next last (Some n) k (links k) ∙ is.knows k)
          ∙ sym (has-append k ns (n ∷ []));
      counts = omega (arith, counts, is.counts, length-append ns (n ∷ []));
      distinct = distinct_push ns n is.distinct none;
      fits = fits_push ns n is.fits fits;
    }

removed_first : (xs : List ℕ) (n : ℕ) (ys : List ℕ)
    → cond (is_some (last_or None xs)) (first_or None (xs ++ n ∷ ys)) (first_or None ys) ≡ first_or None (xs ++ ys)
removed_first [] n ys = refl
removed_first (x ∷ xs) n ys = cond-true (is_some (last_or (Some x) xs)) (Some x) (first_or None ys) (some_last x xs)

removed_last : (xs : List ℕ) (n : ℕ) (ys : List ℕ)
    → cond (is_some (first_or None ys)) (last_or None (xs ++ n ∷ ys)) (last_or None xs) ≡ last_or None (xs ++ ys)
removed_last xs n [] = sym (last_or-append None xs [])
removed_last xs n (y ∷ ys) = last_or-append None xs (n ∷ y ∷ ys) ∙ sym (last_or-append None xs (y ∷ ys))

removed_knows : (t : Bool) (o : Option Link) (b : Bool) → is_some o ≡ b → is_some (cond t None o) ≡ cond t false b
removed_knows true o b e = refl
removed_knows false o b e = e

module _ (links gone joined after : ℕ → Option Link) (count now : ℕ) (first last start end : Option ℕ) (n : ℕ) (link : Link)
    (goes : (k : ℕ) → gone k ≡ cond (nat_eq n k) None (links k))
    (joins : (k : ℕ) → joined k ≡ with_next link.previous link.next k (gone k))
    (updates : (k : ℕ) → after k ≡ with_previous link.next link.previous k (joined k))
    (starts : start ≡ cond (is_some link.previous) first link.next)
    (ends : end ≡ cond (is_some link.next) last link.previous)
    (counts : now + 1 ≡ count) (linked : links n ≡ Some link) where
  removed_between : (xs ys : List ℕ) → IsQueue links count first last (xs ++ n ∷ ys) → IsQueue after now start end (xs ++ ys)
  removed_between xs ys is =
      let parts = linked_parts links None xs (n ∷ ys) None is.linked in
      let own : links n ≡ Some (record { previous = last_or None xs; next = first_or None ys }) = parts.1.0 in
      let same : link ≡ record { previous = last_or None xs; next = first_or None ys } = cc in
      let previous : link.previous ≡ last_or None xs = ap (λ l. l.previous) same in
      let next : link.next ≡ first_or None ys = ap (λ l. l.next) same in
      let about = distinct_parts xs n ys is.distinct in
      let halves = distinct_halves xs ys about.2 in
      let left : (k : ℕ) → has k xs ≡ true → gone k ≡ links k =
      λ k there. goes k ∙ cond-false (nat_eq n k) None (links k) (ne_eqb n k (apart n k xs about.0 there)) in
      let right : (k : ℕ) → has k ys ≡ true → gone k ≡ links k =
      λ k there. goes k ∙ cond-false (nat_eq n k) None (links k) (ne_eqb n k (apart n k ys about.1 there)) in
      let before : (k : ℕ) → has k xs ≡ true → joined k ≡ with_next (last_or None xs) (first_or None ys) k (links k) =
      λ k there. joins k ∙ ap (λ l. with_next l link.next k (gone k)) previous ∙ ap (λ l. with_next (last_or None xs) l k (gone k)) next
      ∙ ap (with_next (last_or None xs) (first_or None ys) k) (left k there) in
      let stays : (k : ℕ) → has k xs ≡ true → after k ≡ joined k =
      λ k there. updates k ∙ previous_other link.next link.previous k (joined k)
      (λ is_next. true≢false (sym (first_stands ys k (sym next ∙ is_next)) ∙ halves.2 k there)) in
      let kept : (k : ℕ) → has k ys ≡ true → joined k ≡ links k =
      λ k there. joins k ∙ next_other link.previous link.next k (gone k)
      (λ is_previous. true≢false (sym there ∙ halves.2 k (last_among xs k (sym previous ∙ is_previous)))) ∙ right k there in
      let behind : (k : ℕ) → has k ys ≡ true → after k ≡ with_previous (first_or None ys) (last_or None xs) k (links k) =
      λ k there. updates k ∙ ap (λ l. with_previous l link.previous k (joined k)) next ∙ ap (λ l. with_previous (first_or None ys) l k (joined k)) previous
      ∙ ap (with_previous (first_or None ys) (last_or None xs) k) (kept k there) in
      record {
        linked = linked_join after None xs ys None
            (linked_same joined after None xs (first_or None ys) stays (linked_next links joined None xs (Some n) (first_or None ys) halves.0 before parts.0))
            (linked_previous links after (Some n) (last_or None xs) ys None halves.1 behind parts.1.1);
        begins = starts ∙ ap (λ l. cond (is_some l) first link.next) previous ∙ ap (λ l. cond (is_some (last_or None xs)) first l) next
            ∙ ap (λ f. cond (is_some (last_or None xs)) f (first_or None ys)) is.begins ∙ removed_first xs n ys;
        ends = ends ∙ ap (λ l. cond (is_some l) last link.previous) next ∙ ap (λ l. cond (is_some (first_or None ys)) last l) previous
            ∙ ap (λ l. cond (is_some (first_or None ys)) l (last_or None xs)) is.ends ∙ removed_last xs n ys;
        knows = λ k. ap is_some (updates k) ∙ known_previous link.next link.previous k (joined k)
            ∙ ap is_some (joins k) ∙ known_next link.previous link.next k (gone k)
            ∙ ap is_some (goes k) ∙ removed_knows (nat_eq n k) (links k) _ (is.knows k) ∙ sym (has_without k xs n ys about.0 about.1);
        counts = omega (arith, counts, is.counts, length-append xs (n ∷ ys), length-append xs ys);
        distinct = about.2;
        fits = λ k there. is.fits k (stood k xs n ys there);
      }
    where
      last_among : (ns : List ℕ) (k : ℕ) → last_or None ns ≡ Some k → has k ns ≡ true
      last_among [] k is = absurd cc
      last_among (x ∷ ns) k is = last_stands x ns k is

  -- a number is taken out, and those before and behind it are linked
  pub removed : (ns : List ℕ) → IsQueue links count first last ns → IsQueue after now start end (without n ns)
  removed ns is =
      let cut = cut_at n ns (sym (is.knows n) ∙ ap is_some linked) in
      let xs = cut.0 in
      let ys = cut.1 in
      let there = subst (IsQueue links count first last) cut.2 is in
      let about = distinct_parts xs n ys there.distinct in
      let left : xs ++ ys ≡ without n ns = sym (without_between n xs ys about.0 about.1) ∙ ap (without n) (sym cut.2) in
      subst (IsQueue after now start end) left (removed_between xs ys there)
