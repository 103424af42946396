use Rattle.std.proofs.Common.{◌≡◌, ◌<◌, ◌≤◌, ◌*◌, ◌^◌, ◌-◌, ℕ, Option, Some, None, min, arith, ap, ◌∙◌, zero, suc, inl, inr}
use Rattle.std.proofs.lemmas.Bool.{cases_lt}
use Rattle.std.specs.Option.{unwrap_or}
use Rattle.policy_core.specs.Delays.{delay_after, at_most}
use Rattle.scheduled_queue.proofs.delay.delay_after.Goals as goal

above : (a p m : ℕ) → 0 < a → m ≤ p → m ≤ a * p
above a p m some h = grind arith

within : (a p : ℕ) → p ≤ 2 ^ 64 - 1 → min (min (a * min p (2 ^ 64 - 1)) (2 ^ 64 - 1)) 9007199254740991 ≡ min (a * p) 9007199254740991
within a p small =
    let same : min p (2 ^ 64 - 1) ≡ p = omega (arith, small) in
    rw same (omega arith)

beyond : (a p : ℕ) → 2 ^ 64 - 1 < p → min (min (a * min p (2 ^ 64 - 1)) (2 ^ 64 - 1)) 9007199254740991 ≡ min (a * p) 9007199254740991
beyond zero p big = omega arith
beyond (suc a) p big =
    let same : min p (2 ^ 64 - 1) ≡ 2 ^ 64 - 1 = omega (arith, big) in
    let first = above (suc a) p (2 ^ 64 - 1) (omega arith) (omega (arith, big)) in
    let second = above (suc a) (2 ^ 64 - 1) (2 ^ 64 - 1) (omega arith) (omega arith) in
    rw same (omega (arith, first, second))

-- what is cut off at the end of 64 bits is above the last moment anyway
cut : (a p : ℕ) → min (min (a * min p (2 ^ 64 - 1)) (2 ^ 64 - 1)) 9007199254740991 ≡ min (a * p) 9007199254740991
cut a p = elim (cases_lt (2 ^ 64 - 1) p) [ inl big ↦ beyond a p big | inr small ↦ within a p small ]

delayed : (bound : Option ℕ) (x y : ℕ) → min x 9007199254740991 ≡ min y 9007199254740991
    → min (min x (unwrap_or bound 9007199254740991)) 9007199254740991 ≡ min (at_most bound y) 9007199254740991
delayed None x y e = omega (arith, e)
delayed (Some b) x y e = omega (arith, e)

pub returns : goal.returns
unfolding delay_after
returns c =
    let settings = c.args.settings.now in
    let wait = c.saturating_mul-wait in
    let factor =
    c.saturating_pow-factor.ensures ∙ ap (λ k. min (2 ^ k) (2 ^ 64 - 1)) c.saturating_sub.ensures in
    let waits : min wait.result 9007199254740991 ≡ min (settings.retry_interval * 2 ^ (c.args.n - 1)) 9007199254740991 =
    ap (λ x. min x 9007199254740991) (wait.ensures ∙ ap (λ f. min (settings.retry_interval * f) (2 ^ 64 - 1)) factor)
    ∙ cut settings.retry_interval (2 ^ (c.args.n - 1)) in
    c.min-2.ensures ∙ ap (λ x. min x 9007199254740991) (c.min.ensures ∙ ap (λ b. min wait.result b) c.unwrap_or-bound.ensures)
    ∙ delayed settings.max_retry_interval wait.result (settings.retry_interval * 2 ^ (c.args.n - 1)) waits
