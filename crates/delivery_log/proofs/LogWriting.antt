-- Bytes on their way into a sink, and the log text of a front of a history.
use Rattle.std.proofs.Common.{◌≡◌, ℕ, ◌+◌, ◌<◌, ◌≤◌, List, [], ◌∷◌, ◌++◌, Option, Result, Ok, Err, OnErr, length, take, drop, get_or, sym, ap, subst, ◌∙◌, append_assoc, append-nil}
use Rattle.std.proofs.lemmas.List.{take_all, take_more, take-append-drop}
use Rattle.std.proofs.lemmas.List.Concat.{flat_map-append}
use Rattle.kumo_outside.specs.Content.{told_with, TakesPrefix, TakesProperPrefix}
use Rattle.kumo_outside.proofs.ContentLemmas.{told_with-nil, told_with-next, TakesPrefix-more, TakesPrefix-after, TakesPrefix-proper}
use Rattle.history_core.specs.declared.entry.Entry.{Entry}
use Rattle.delivery_log.specs.LogText.{line_of, log_text}
use Rattle.delivery_log.specs.inside.LogGathered.{Gathers}

-- what holds anyway holds where the answer is an error
pub OnErr-from : {T E P : Type 0} (r : Result T E) → P → OnErr r P
OnErr-from (Ok x) p = tt
OnErr-from (Err e) p = p

-- nothing was put, and all is gathered
pub gathers_all : (told : Option (List ℕ)) (gathered bytes : List ℕ) → gathered ≡ bytes → Gathers told told gathered bytes
gathers_all told gathered bytes e = ([], record { whole = e; added = sym (told_with-nil told) })

-- what was gathered was put, and the next bytes are gathered
pub gathers_next : (old new : Option (List ℕ)) (front gathered bytes : List ℕ) → new ≡ told_with old front → gathered ≡ bytes → Gathers old new gathered (front ++ bytes)
gathers_next old new front gathered bytes e f = (front, record { whole = ap (λ xs. front ++ xs) f; added = e })

-- all was put, and nothing is gathered
pub gathers_none :
    (old mid new : Option (List ℕ)) (front gathered bytes : List ℕ) →
    mid ≡ told_with old front →
    new ≡ told_with mid bytes →
    gathered ≡ [] →
    Gathers old new gathered (front ++ bytes)
gathers_none old mid new front gathered bytes e f none =
    (front ++ bytes, record { whole = ap (λ xs. (front ++ bytes) ++ xs) none ∙ append-nil (front ++ bytes); added = told_with-next old mid new front bytes e f })

-- bytes behind those that are gathered
pub gathers_more :
    (old mid new : Option (List ℕ)) (was gathered bytes more : List ℕ) →
    Gathers old mid was bytes →
    Gathers mid new gathered (was ++ more) →
    Gathers old new gathered (bytes ++ more)
gathers_more old mid new was gathered bytes more (front, h) (next, k) = (
  front ++ next,
  record {
    whole = append_assoc front next gathered ∙ ap (λ xs. front ++ xs) k.whole ∙ sym (append_assoc front was more) ∙ ap (λ xs. xs ++ more) h.whole;
    added = told_with-next old mid new front next h.added k.added;
  },
)

-- what was gathered is put, and so all is
pub gathers_put : (old mid new : Option (List ℕ)) (gathered bytes : List ℕ) → Gathers old mid gathered bytes → new ≡ told_with mid gathered → new ≡ told_with old bytes
gathers_put old mid new gathered bytes (front, h) e = told_with-next old mid new front gathered h.added e ∙ ap (told_with old) h.whole

-- what was put is a front of the bytes
pub front_put : (old new : Option (List ℕ)) (gathered bytes : List ℕ) → Gathers old new gathered bytes → TakesPrefix old new bytes
front_put old new gathered bytes (front, h) = (front, gathered, h)

-- a front of what is gathered and of more bytes is put
pub front_next :
    (old mid new : Option (List ℕ)) (gathered bytes more : List ℕ) →
    Gathers old mid gathered bytes →
    TakesPrefix mid new (gathered ++ more) →
    TakesPrefix old new (bytes ++ more)
front_next old mid new gathered bytes more (front, h) (next, rest, k) = (
  front ++ next,
  rest,
  record {
    whole = append_assoc front next rest ∙ ap (λ xs. front ++ xs) k.whole ∙ sym (append_assoc front gathered more) ∙ ap (λ xs. xs ++ more) h.whole;
    added = told_with-next old mid new front next h.added k.added;
  },
)

-- a front of what is gathered is put
pub front_last : (old mid new : Option (List ℕ)) (gathered bytes : List ℕ) → Gathers old mid gathered bytes → TakesProperPrefix mid new gathered → TakesPrefix old new bytes
front_last old mid new gathered bytes (front, h) part =
    subst (TakesPrefix old new) h.whole (TakesPrefix-after old mid new front gathered h.added (TakesPrefix-proper mid new gathered part))

-- of what was gathered and a line a front is put
pub front_first : (old new : Option (List ℕ)) (put gathered line : List ℕ) → put ≡ gathered → TakesProperPrefix old new put → TakesPrefix old new (gathered ++ line)
front_first old new put gathered line e part =
    TakesPrefix-more old new gathered line (TakesPrefix-proper old new gathered (subst (TakesProperPrefix old new) e part))

-- of a line behind what was put a front is put
pub front_second :
    (old mid new : Option (List ℕ)) (put gathered line : List ℕ) →
    put ≡ gathered →
    mid ≡ told_with old put →
    TakesProperPrefix mid new line →
    TakesPrefix old new (gathered ++ line)
front_second old mid new put gathered line e f part =
    TakesPrefix-after old mid new gathered line (f ∙ ap (told_with old) e) (TakesPrefix-proper mid new line part)

-- the log text up to an entry, and the rest
log_text-split : (h : List Entry) (i : ℕ) → log_text (take i h) ++ log_text (drop i h) ≡ log_text h
log_text-split h i = sym (flat_map-append line_of (take i h) (drop i h)) ∙ ap log_text (take-append-drop i h)

-- a front of the text of the first entries is a front of the whole
pub front_of_log : (old new : Option (List ℕ)) (h : List Entry) (i : ℕ) → TakesPrefix old new (log_text (take i h)) → TakesPrefix old new (log_text h)
front_of_log old new h i front =
    subst (TakesPrefix old new) (log_text-split h i) (TakesPrefix-more old new (log_text (take i h)) (log_text (drop i h)) front)

-- one entry more
log_text_more : (h : List Entry) (i : ℕ) (e : Entry) (line : List ℕ) → i < length h → e ≡ get_or h i e → line ≡ line_of e → log_text (take i h) ++ line ≡ log_text (take (i + 1) h)
log_text_more h i e line within is line_is =
    let step : take (i + 1) h ≡ take i h ++ e ∷ [] = take_more h i e within ∙ ap (λ x. take i h ++ x ∷ []) (sym is) in
    let one : log_text (e ∷ []) ≡ line_of e = append-nil (line_of e) in
    ap (λ xs. log_text (take i h) ++ xs) (line_is ∙ sym one) ∙ sym (flat_map-append line_of (take i h) (e ∷ [])) ∙ ap log_text (sym step)

-- the same over the entries as they are passed
pub log_text_of_next :
    (entries h : List Entry) (i : ℕ) (e : Entry) (line : List ℕ) →
    entries ≡ h →
    i < length entries →
    e ≡ get_or entries i e →
    line ≡ line_of e →
    log_text (take i h) ++ line ≡ log_text (take (i + 1) h)
log_text_of_next entries h i e line same within is line_is =
    log_text_more h i e line (subst (λ xs. i < length xs) same within) (subst (λ xs. e ≡ get_or xs i e) same is) line_is

-- past the last entry it is the whole
pub log_text_of_all : (entries h : List Entry) (i : ℕ) → entries ≡ h → length entries ≤ i → log_text (take i h) ≡ log_text h
log_text_of_all entries h i same past = ap log_text (take_all i h (subst (λ xs. length xs ≤ i) same past))
