-- Legal histories grow at their end, and their fronts are legal.
use Rattle.std.proofs.Common.{List, [], ◌∷◌, ◌++◌, sym, subst, append_assoc, append-nil}
use Rattle.policy_core.specs.Policy.{Policy}
use Rattle.history_core.specs.declared.entry.Entry.{Entry}
use Rattle.history_core.specs.Legal.{MayFollow, LegalAfter, IsLegal}

-- more entries behind those before
LegalAfter-append : (p : Policy) (before h later : List Entry) → LegalAfter p before h → LegalAfter p (before ++ h) later → LegalAfter p before (h ++ later)
LegalAfter-append p before [] later legal next = subst (λ xs. LegalAfter p xs later) (append-nil before) next
LegalAfter-append p before (e ∷ h) later legal next = (
  legal.0,
  LegalAfter-append p (before ++ e ∷ []) h later legal.1 (subst (λ xs. LegalAfter p xs later) (sym (append_assoc before (e ∷ []) h)) next),
)

LegalAfter-front : (p : Policy) (before h later : List Entry) → LegalAfter p before (h ++ later) → LegalAfter p before h
LegalAfter-front p before [] later legal = tt
LegalAfter-front p before (e ∷ h) later legal = (legal.0, LegalAfter-front p (before ++ e ∷ []) h later legal.1)

-- one more entry that may follow
pub IsLegal-push : (p : Policy) (h : List Entry) (e : Entry) → IsLegal p h → MayFollow p h e → IsLegal p (h ++ e ∷ [])
IsLegal-push p h e legal follows = LegalAfter-append p [] h (e ∷ []) legal (follows, tt)

-- the first entries of a legal history
pub IsLegal-front : (p : Policy) (h later : List Entry) → IsLegal p (h ++ later) → IsLegal p h
IsLegal-front p h later legal = LegalAfter-front p [] h later legal

step_by_step : (p : Policy) (P : List Entry → Type 0) (before later : List Entry)
    → ((h : List Entry) (e : Entry) → P h → MayFollow p h e → P (h ++ e ∷ [])) → P before → LegalAfter p before later → P (before ++ later)
step_by_step p P before [] step first legal = subst P (sym (append-nil before)) first
step_by_step p P before (e ∷ later) step first legal =
    subst P (append_assoc before (e ∷ []) later) (step_by_step p P (before ++ e ∷ []) later step (step before e first legal.0) legal.1)

-- what holds before the first entry, and after each entry that may follow if it held before
pub IsLegal-induction : (p : Policy) (P : List Entry → Type 0) → P []
    → ((h : List Entry) (e : Entry) → P h → MayFollow p h e → P (h ++ e ∷ [])) → (h : List Entry) → IsLegal p h → P h
IsLegal-induction p P first step h legal = step_by_step p P [] h step first legal

LegalAfter-at : (p : Policy) (before h : List Entry) (e : Entry) (later : List Entry) → LegalAfter p before (h ++ e ∷ later) → MayFollow p (before ++ h) e
LegalAfter-at p before [] e later legal = subst (λ xs. MayFollow p xs e) (sym (append-nil before)) legal.0
LegalAfter-at p before (x ∷ h) e later legal =
    subst (λ xs. MayFollow p xs e) (append_assoc before (x ∷ []) h) (LegalAfter-at p (before ++ x ∷ []) h e later legal.1)

-- each entry may follow those before it
pub IsLegal-at : (p : Policy) (h : List Entry) (e : Entry) (later : List Entry) → IsLegal p (h ++ e ∷ later) → MayFollow p h e
IsLegal-at p h e later legal = LegalAfter-at p [] h e later legal

record LegalWith (p : Policy) (P : List Entry → Type 0) (h : List Entry) : Type 0 where
  legal : IsLegal p h
  holds : P h

-- the same, where what was before is known to be legal
pub IsLegal-along : (p : Policy) (P : List Entry → Type 0) → P []
    → ((h : List Entry) (e : Entry) → IsLegal p h → P h → MayFollow p h e → P (h ++ e ∷ [])) → (h : List Entry) → IsLegal p h → P h
IsLegal-along p P first step h legal =
    (IsLegal-induction p (LegalWith p P) (record { legal = tt; holds = first })
    (λ h e k follows. record { legal = IsLegal-push p h e k.legal follows; holds = step h e k.legal k.holds follows })
    h legal).holds
