-- A list that is cut as it grows.
use Rattle.std.proofs.Common.{◌≡◌, ℕ, ◌<◌, ◌≤◌, ◌==◌, cond, List, [], ◌∷◌, ◌++◌, length, take, zero, suc, Bool, true, false, refl, ap, sym, ◌∙◌, arith}
use Rattle.std.proofs.lemmas.List.{take_all, take-append-le, length_push, append_assoc, append-nil}
use Rattle.smtp_reply.specs.Replies.{printable_of, shown_more, waiting, bytes_added}

-- a list that was cut before is cut as if it was not
pub take_again : (n : ℕ) (xs ys : List ℕ) → take n (take n xs ++ ys) ≡ take n (xs ++ ys)
take_again zero xs ys = refl
take_again (suc n) [] ys = refl
take_again (suc n) (x ∷ xs) ys = ap (λ (m : List ℕ). x ∷ m) (take_again n xs ys)

-- a byte for which there is room stays
pub take_push : (n : ℕ) (xs : List ℕ) (b : ℕ) → length xs < n → xs ++ b ∷ [] ≡ take n (xs ++ b ∷ [])
take_push n xs b short = sym (take_all n (xs ++ b ∷ []) (omega (arith, length_push xs b)))

-- a byte for which there is none does not
pub take_full : (n : ℕ) (xs : List ℕ) (b : ℕ) → length xs ≡ n → xs ≡ take n (xs ++ b ∷ [])
take_full n xs b full = sym (take-append-le n xs (b ∷ []) (omega arith) ∙ take_all n xs (omega arith))

-- a byte of a text where the text begins with it, and where it goes on
pub put_text_begins : (n : ℕ) (old first new : List ℕ) (b c : ℕ) → first ≡ take n (old ++ 32 ∷ []) → c ≡ printable_of b → new ≡ take n (first ++ c ∷ []) → new ≡ take n (old ++ shown_more false (b ∷ []))
put_text_begins n old first new b c e is f =
    f ∙ ap (λ (m : List ℕ). take n (m ++ c ∷ [])) e ∙ take_again n (old ++ 32 ∷ []) (c ∷ []) ∙ ap (λ (k : ℕ). take n (old ++ 32 ∷ [] ++ k ∷ [])) is ∙ ap (take n) (append_assoc old (32 ∷ []) (printable_of b ∷ []))

pub put_text_more : (n : ℕ) (old first new : List ℕ) (b c : ℕ) → first ≡ old → c ≡ printable_of b → new ≡ take n (first ++ c ∷ []) → new ≡ take n (old ++ shown_more true (b ∷ []))
put_text_more n old first new b c e is f = f ∙ ap (λ (m : List ℕ). take n (m ++ c ∷ [])) e ∙ ap (λ (k : ℕ). take n (old ++ k ∷ [])) is

waited : (waits : Bool) (b : ℕ) (t u : Bool) → waits ≡ t → (b == 13) ≡ u → bytes_added waits b ≡ waiting t ++ cond u [] (b ∷ [])
waited waits b t u e f = ap (λ (w : Bool). bytes_added w b) e ∙ ap (λ (v : Bool). waiting t ++ cond v [] (b ∷ [])) f

no_more : (began : Bool) → shown_more began [] ≡ []
no_more true = refl
no_more false = refl

-- a carriage return behind one that waited
pub return_behind_return : (n : ℕ) (old new : List ℕ) (began waits : Bool) (b : ℕ) → waits ≡ true → b ≡ 13 → new ≡ take n (old ++ shown_more began (13 ∷ [])) → new ≡ take n (old ++ shown_more began (bytes_added waits b))
return_behind_return n old new began waits b e f is =
    is ∙ ap (λ (m : List ℕ). take n (old ++ shown_more began m)) (sym (waited waits b true true e (ap (λ (k : ℕ). k == 13) f)))

-- a carriage return
pub return_waits : (n : ℕ) (old new : List ℕ) (began waits : Bool) (b : ℕ) → length old ≤ n → waits ≡ false → b ≡ 13 → new ≡ old → new ≡ take n (old ++ shown_more began (bytes_added waits b))
return_waits n old new began waits b fits e f is =
    is ∙ sym (ap (λ (m : List ℕ). take n (old ++ shown_more began m)) (waited waits b false true e (ap (λ (k : ℕ). k == 13) f)) ∙ ap (λ (m : List ℕ). take n (old ++ m)) (no_more began) ∙ ap (take n) (append-nil old) ∙ take_all n old fits)

shown_behind : (began : Bool) (a b : ℕ) → shown_more began (a ∷ []) ++ shown_more true (b ∷ []) ≡ shown_more began (a ∷ (b ∷ []))
shown_behind true a b = refl
shown_behind false a b = refl

-- another byte behind a carriage return that waited
pub byte_behind_return : (n : ℕ) (old first new : List ℕ) (began then_began waits : Bool) (b : ℕ) → waits ≡ true → (b == 13) ≡ false → then_began ≡ true
    → first ≡ take n (old ++ shown_more began (13 ∷ [])) → new ≡ take n (first ++ shown_more then_began (b ∷ [])) → new ≡ take n (old ++ shown_more began (bytes_added waits b))
byte_behind_return n old first new began then_began waits b e f t is then_is =
    then_is
    ∙ ap (λ (m : List ℕ). take n (m ++ shown_more then_began (b ∷ []))) is
    ∙ take_again n (old ++ shown_more began (13 ∷ [])) (shown_more then_began (b ∷ []))
    ∙ ap (λ (u : Bool). take n (old ++ shown_more began (13 ∷ []) ++ shown_more u (b ∷ []))) t
    ∙ ap (take n) (append_assoc old (shown_more began (13 ∷ [])) (shown_more true (b ∷ [])))
    ∙ ap (λ (m : List ℕ). take n (old ++ m)) (shown_behind began 13 b)
    ∙ ap (λ (m : List ℕ). take n (old ++ shown_more began m)) (sym (waited waits b true false e f))

-- another byte
pub byte_comes : (n : ℕ) (old first new : List ℕ) (began then_began waits : Bool) (b : ℕ) → waits ≡ false → (b == 13) ≡ false → then_began ≡ began
    → first ≡ old → new ≡ take n (first ++ shown_more then_began (b ∷ [])) → new ≡ take n (old ++ shown_more began (bytes_added waits b))
byte_comes n old first new began then_began waits b e f t is then_is =
    then_is
    ∙ ap (λ (m : List ℕ). take n (m ++ shown_more then_began (b ∷ []))) is
    ∙ ap (λ (u : Bool). take n (old ++ shown_more u (b ∷ []))) t
    ∙ ap (λ (m : List ℕ). take n (old ++ shown_more began m)) (sym (waited waits b false false e f))
