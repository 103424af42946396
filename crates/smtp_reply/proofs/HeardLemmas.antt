-- What is heard when more bytes come.
use Rattle.std.proofs.Common.{◌≡◌, ℕ, ◌+◌, ◌<◌, List, [], ◌∷◌, ◌++◌, length, Bool, true, false, cond, not, nat_lt, ltb-true, refl, ap, sym, subst, ◌∙◌, arith}
use Rattle.std.proofs.lemmas.List.{append-nil, append_assoc, length_push}
use Rattle.smtp_reply.specs.declared.reader.TheConstants.{REPLY_LIMIT}
use Rattle.smtp_reply.specs.declared.reader.Heard.TheVariants.{Whole, More, Bad, TooLong}
use Rattle.smtp_reply.specs.declared.reader.Fed.{Fed}
use Rattle.smtp_reply.specs.Grammar.{is_reply, is_front}
use Rattle.smtp_reply.specs.Replies.{heard, heard_from, fed}

-- the answer at a longer front: a reply, no front, a front that is not too long, or too long
abbrev pub answer_by : Bool → Bool → Bool → ℕ → Fed → Fed
answer_by reply front short n rest =
    cond reply (fed (n + 1) Whole) (cond (not front) (fed (n + 1) (Bad n)) (cond short rest (fed (n + 1) TooLong)))

stays_by : (reply front short : Bool) (n : ℕ) (rest rest' : Fed) → ((rest.what ≡ More → ⊥) → rest' ≡ rest)
    → ((answer_by reply front short n rest).what ≡ More → ⊥) → answer_by reply front short n rest' ≡ answer_by reply front short n rest
stays_by true front short n rest rest' f h = refl
stays_by false false short n rest rest' f h = refl
stays_by false true false n rest rest' f h = refl
stays_by false true true n rest rest' f h = f h

heard_from_stays : (front bytes more : List ℕ) → ((heard_from front bytes).what ≡ More → ⊥) → heard_from front (bytes ++ more) ≡ heard_from front bytes
heard_from_stays front [] more h = absurd (h refl)
heard_from_stays front (b ∷ bytes) more h =
    stays_by (is_reply (front ++ b ∷ [])) (is_front (front ++ b ∷ [])) (nat_lt (length front + 1) REPLY_LIMIT) (length front)
    (heard_from (front ++ b ∷ []) bytes) (heard_from (front ++ b ∷ []) (bytes ++ more)) (heard_from_stays (front ++ b ∷ []) bytes more) h

pub heard_stays : (bytes more : List ℕ) → ((heard bytes).what ≡ More → ⊥) → heard (bytes ++ more) ≡ heard bytes
unfolding heard
heard_stays bytes more h = heard_from_stays [] bytes more h

more_by : (reply front short : Bool) (n : ℕ) (rest : Fed) → (answer_by reply front short n rest).what ≡ More
    → (reply ≡ false) × (front ≡ true) × (short ≡ true) × (rest.what ≡ More) × ((rest' : Fed) → answer_by reply front short n rest' ≡ rest')
more_by true front short n rest e = absurd cc
more_by false false short n rest e = absurd cc
more_by false true false n rest e = absurd cc
more_by false true true n rest e = (refl, refl, refl, e, λ rest'. refl)

pub record IsShortFront (front : List ℕ) : Type 0 where
  pub is_front : is_front front ≡ true
  pub short : length front < REPLY_LIMIT

pub record GoesOn (before bytes : List ℕ) : Type 0 where
  pub front : IsShortFront (before ++ bytes)
  pub used : (heard_from before bytes).used ≡ length (before ++ bytes)
  pub more : (more : List ℕ) → heard_from before (bytes ++ more) ≡ heard_from (before ++ bytes) more

goes_on_from : (front bytes : List ℕ) → IsShortFront front → (heard_from front bytes).what ≡ More → GoesOn front bytes
goes_on_from front [] short e = record {
  front = subst IsShortFront (sym (append-nil front)) short;
  used = ap length (sym (append-nil front));
  more = λ more. ap (λ (f : List ℕ). heard_from f more) (sym (append-nil front));
}
goes_on_from front (b ∷ bytes) short e =
    let next = more_by (is_reply (front ++ b ∷ [])) (is_front (front ++ b ∷ [])) (nat_lt (length front + 1) REPLY_LIMIT) (length front) (heard_from (front ++ b ∷ []) bytes) e in
    let lt : length front + 1 < REPLY_LIMIT = ltb-true (length front + 1) REPLY_LIMIT next.2 in
    let rest = goes_on_from (front ++ b ∷ []) bytes (record { is_front = next.1; short = omega (arith, length_push front b) }) next.3 in
    let same : front ++ b ∷ [] ++ bytes ≡ front ++ b ∷ bytes = append_assoc front (b ∷ []) bytes in
    record {
      front = subst IsShortFront same rest.front;
      used = ap (λ (f : Fed). f.used) (next.4 (heard_from (front ++ b ∷ []) bytes)) ∙ rest.used ∙ ap length same;
      more = λ more. next.4 (heard_from (front ++ b ∷ []) (bytes ++ more)) ∙ rest.more more ∙ ap (λ (f : List ℕ). heard_from f more) same;
    }

nothing_is_front : IsShortFront []
nothing_is_front = record { is_front = refl; short = omega arith }

pub goes_on : (bytes : List ℕ) → (heard bytes).what ≡ More → GoesOn [] bytes
unfolding heard
goes_on bytes e = goes_on_from [] bytes nothing_is_front e

pub more_is_front : (bytes : List ℕ) → (heard bytes).what ≡ More → is_front bytes ≡ true
more_is_front bytes e = (goes_on bytes e).front.is_front

pub more_is_short : (bytes : List ℕ) → (heard bytes).what ≡ More → length bytes < REPLY_LIMIT
more_is_short bytes e = (goes_on bytes e).front.short

pub more_uses_all : (bytes : List ℕ) → (heard bytes).what ≡ More → (heard bytes).used ≡ length bytes
unfolding heard
more_uses_all bytes e = (goes_on bytes e).used

-- what one byte more makes of a front
pub heard_byte : (bytes : List ℕ) (b : ℕ) → (heard bytes).what ≡ More
    → heard (bytes ++ b ∷ []) ≡ answer_by (is_reply (bytes ++ b ∷ [])) (is_front (bytes ++ b ∷ [])) (nat_lt (length bytes + 1) REPLY_LIMIT) (length bytes) (fed (length (bytes ++ b ∷ [])) More)
unfolding heard
heard_byte bytes b e = (goes_on bytes e).more (b ∷ [])
