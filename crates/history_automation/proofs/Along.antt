-- What one more entry changes: promotions, paths, the sources taken, and the openings and closings of a path.
use Rattle.std.proofs.Common.{◌≡◌, ℕ, ◌+◌, ◌<◌, List, [], ◌∷◌, ◌++◌, fold, take, get_or, length, None, ap, ◌∙◌, sym}
use Rattle.std.proofs.lemmas.List.{take_more}
use Rattle.std.proofs.lemmas.List.Sums.{fold-append}
use Rattle.policy_core.specs.Policy.{Policy}
use Rattle.policy_core.specs.declared.sources.Pool.{Pool}
use Rattle.history_core.specs.declared.entry.Entry.{Entry}
use Rattle.history_core.specs.declared.path.Promoted.{Promoted}
use Rattle.history_core.specs.Events.{promotion_in}
use Rattle.history_core.specs.History.{along, promoted_at, promotions, with_path, paths}
use Rattle.history_core.specs.Candidates.{turned, source_taken, place_of, passage_at, Passage, refused_at, last_refusal, run_after, refusals}
use Rattle.history_automation.proofs.OneMore.{along-more}

-- a fold over what items add up to goes on by what one more adds
pub fold_along-more : {E A B : Type 0} (f : B → A → B) (start : B) (add : List E → E → List A) (xs : List E) (x : E)
    → fold f start (along add (xs ++ x ∷ [])) ≡ fold f (fold f start (along add xs)) (add xs x)
fold_along-more f start add xs x = ap (fold f start) (along-more add xs x) ∙ fold-append f start (along add xs) (add xs x)

pub promotions-more : (policy : Policy) (h : List Entry) (e : Entry) → promotions policy (h ++ e ∷ []) ≡ promotions policy h ++ promoted_at policy h e
promotions-more policy h e = along-more (promoted_at policy) h e

pub paths-more : (policy : Policy) (h : List Entry) (e : Entry)
    → paths policy (h ++ e ∷ []) ≡ fold (λ seen p. with_path seen p.path) (paths policy h) (promoted_at policy h e)
paths-more policy h e = fold_along-more (λ seen (p : Promoted). with_path seen p.path) [] (promoted_at policy) h e

pub place_of-more : (policy : Policy) (pool : Pool) (h : List Entry) (e : Entry)
    → place_of policy pool (h ++ e ∷ []) ≡ fold (turned pool) (place_of policy pool h) (source_taken policy pool h (promotion_in e.what))
place_of-more policy pool h e = fold_along-more (turned pool) None (λ before x. source_taken policy pool before (promotion_in x.what)) h e

pub last_refusal-more : (h : List Entry) (e : Entry) (path : List ℕ)
    → last_refusal (h ++ e ∷ []) path ≡ fold (λ was p. refused_at p.place p.cause) (last_refusal h path) (passage_at path h e)
last_refusal-more h e path = fold_along-more (λ was (p : Passage). refused_at p.place p.cause) None (passage_at path) h e

pub refusals-more : (h : List Entry) (e : Entry) (path : List ℕ)
    → refusals (h ++ e ∷ []) path ≡ fold (λ was p. run_after was p.cause) (refusals h path) (passage_at path h e)
refusals-more h e path = fold_along-more (λ was (p : Passage). run_after was p.cause) 0 (passage_at path) h e

-- the same of a walk that has come to a place
one_more : (entries : List Entry) (place : ℕ) (e : Entry) → place < length entries → e ≡ get_or entries place e
    → take (place + 1) entries ≡ take place entries ++ e ∷ []
one_more entries place e within here = take_more entries place e within ∙ ap (λ x. take place entries ++ x ∷ []) (sym here)

pub place_of_next : (policy : Policy) (pool : Pool) (entries : List Entry) (place : ℕ) (e : Entry)
    → place < length entries → e ≡ get_or entries place e
    → place_of policy pool (take (place + 1) entries)
    ≡ fold (turned pool) (place_of policy pool (take place entries)) (source_taken policy pool (take place entries) (promotion_in e.what))
place_of_next policy pool entries place e within here =
    ap (place_of policy pool) (one_more entries place e within here) ∙ place_of-more policy pool (take place entries) e

pub last_refusal_next : (entries : List Entry) (place : ℕ) (e : Entry) (path : List ℕ)
    → place < length entries → e ≡ get_or entries place e
    → last_refusal (take (place + 1) entries) path
    ≡ fold (λ was p. refused_at p.place p.cause) (last_refusal (take place entries) path) (passage_at path (take place entries) e)
last_refusal_next entries place e path within here =
    ap (λ h. last_refusal h path) (one_more entries place e within here) ∙ last_refusal-more (take place entries) e path

pub refusals_next : (entries : List Entry) (place : ℕ) (e : Entry) (path : List ℕ)
    → place < length entries → e ≡ get_or entries place e
    → refusals (take (place + 1) entries) path
    ≡ fold (λ was p. run_after was p.cause) (refusals (take place entries) path) (passage_at path (take place entries) e)
refusals_next entries place e path within here =
    ap (λ h. refusals h path) (one_more entries place e within here) ∙ refusals-more (take place entries) e path
