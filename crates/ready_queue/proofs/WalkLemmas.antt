-- A walk along the links of a queue that asks of each number whether it is held.
use Rattle.std.proofs.Common.{◌≡◌, ◌<◌, ℕ, List, [], ◌∷◌, ◌++◌, Bool, true, false, eqb, Option, Some, None, length, length-append, is_some, append_assoc, refl, sym, ap, ◌∙◌, subst, arith}
use Rattle.std.proofs.lemmas.Bool.{eq-eqb, or_left}
use Rattle.std.specs.List.{last_or}
use Rattle.ready_queue.specs.declared.links.Link.{Link}
use Rattle.ready_queue.specs.Queue.{has, AllHeld, IsFirstFree}
use Rattle.ready_queue.specs.Links.{first_or, AreLinked, walked, IsQueue}
use Rattle.ready_queue.proofs.QueueLemmas.{has_behind, held_more}
use Rattle.ready_queue.proofs.LinkLemmas.{last_or-append, walked_all}
use Rattle.ready_queue.proofs.StepLemmas.{walk_of}

module _ (Answers : ℕ → Bool → Type 0) (links : ℕ → Option Link) (count : ℕ) (ns : List ℕ) where
  -- the numbers that were passed over are held, and those from the next one on are left
  pub record Reached (next : Option ℕ) : Type 0 where
    pub passed : List ℕ
    pub whole : ns ≡ passed ++ walked links count next
    pub held : AllHeld Answers passed
    pub begins : next ≡ first_or None (walked links count next)
    pub linked : AreLinked links (last_or None passed) (walked links count next) None

  pub at_first : (first last : Option ℕ) → IsQueue links count first last ns → Reached first
  at_first first last is =
      let all = walk_of links count first last ns is in record {
        passed = [];
        whole = sym all;
        held = λ n there. absurd (let no : false ≡ true = there in cc);
        begins = is.begins ∙ ap (first_or None) (sym all);
        linked = subst (λ l. AreLinked links None l None) (sym all) is.linked;
      }

  -- at a number, it and those behind it are left
  pub record AtNumber (n : ℕ) (passed : List ℕ) : Type 0 where
    pub tail : List ℕ
    pub left : walked links count (Some n) ≡ n ∷ tail
    pub whole : ns ≡ passed ++ n ∷ tail
    pub own : links n ≡ Some (record { previous = last_or None passed; next = first_or None tail })
    pub linked : AreLinked links (Some n) tail None

  pub at_number : (n : ℕ) (is : Reached (Some n)) → AtNumber n is.passed
  at_number n is = by (walked links count (Some n)) refl is.whole is.begins is.linked
    where
      by : (rest : List ℕ) → walked links count (Some n) ≡ rest → ns ≡ is.passed ++ rest → Some n ≡ first_or None rest
          → AreLinked links (last_or None is.passed) rest None → AtNumber n is.passed
      by [] left whole begins linked = absurd cc
      by (m ∷ tail) left whole begins linked =
          let same : m ≡ n = cc in record {
            tail = tail;
            left = left ∙ ap (λ k. k ∷ tail) same;
            whole = whole ∙ ap (λ k. is.passed ++ k ∷ tail) same;
            own = ap links (sym same) ∙ linked.0;
            linked = subst (λ k. AreLinked links (Some k) tail None) same linked.1;
          }

  pub stands : (n : ℕ) → Reached (Some n) → has n ns ≡ true
  stands n is =
      let at = at_number n is in
      ap (has n) at.whole ∙ has_behind n is.passed (n ∷ at.tail) (or_left (eqb n n) (has n at.tail) (eq-eqb n n refl))

  pub is_linked : (n : ℕ) → Reached (Some n) → is_some (links n) ≡ true
  is_linked n is = ap is_some (at_number n is).own

  module _ (counts : count ≡ length ns) (n : ℕ) (link : Link) (here : links n ≡ Some link) (is : Reached (Some n)) where
    pub left_behind : walked links count link.next ≡ (at_number n is).tail
    left_behind =
        let at = at_number n is in
        let own = at.own in
        let same : link ≡ record { previous = last_or None is.passed; next = first_or None at.tail } = cc in
        ap (walked links count) (ap (λ l. l.next) same)
        ∙ walked_all links count (Some n) at.tail at.linked (omega (arith, counts, ap length at.whole, length-append is.passed (n ∷ at.tail)))

    -- a number that is held is passed over
    pub next_reached : Answers n true → Reached link.next
    next_reached held =
        let at = at_number n is in
        let own = at.own in
        let same : link ≡ record { previous = last_or None is.passed; next = first_or None at.tail } = cc in
        let left = left_behind in record {
          passed = is.passed ++ n ∷ [];
          whole = at.whole ∙ sym (append_assoc is.passed (n ∷ []) at.tail) ∙ ap (λ l. (is.passed ++ n ∷ []) ++ l) (sym left);
          held = held_more Answers is.passed n is.held held;
          begins = ap (λ l. l.next) same ∙ ap (first_or None) (sym left);
          linked = subst (λ l. AreLinked links l (walked links count link.next) None) (sym (last_or-append None is.passed (n ∷ [])))
              (subst (λ l. AreLinked links (Some n) l None) (sym left) at.linked);
        }

    pub fewer_left : length (walked links count link.next) < length (walked links count (Some n))
    fewer_left = omega (arith, ap length left_behind, ap length (at_number n is).left)

  pub found_free : (n : ℕ) → Reached (Some n) → Answers n false → IsFirstFree Answers ns (Some n)
  found_free n is free = let at = at_number n is in (is.passed, at.tail, at.whole, is.held, free)

  pub none_free : Reached None → IsFirstFree Answers ns None
  none_free is = by (walked links count None) is.whole is.begins
    where
      append_none : (xs : List ℕ) → xs ++ [] ≡ xs
      append_none [] = refl
      append_none (x ∷ xs) = ap (λ l. x ∷ l) (append_none xs)

      by : (rest : List ℕ) → ns ≡ is.passed ++ rest → None ≡ first_or None rest → AllHeld Answers ns
      by [] whole begins = subst (AllHeld Answers) (sym (whole ∙ append_none is.passed)) is.held
      by (m ∷ tail) whole begins = absurd cc
