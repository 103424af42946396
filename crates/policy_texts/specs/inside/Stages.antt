-- What each stage of loading says: what the text of a name comes to, and the counts of the devices that it asks.
use Rattle.std.specs.Prelude.{◌≡◌, ℕ, List, Option, Result, Err, option_map}
use Rattle.std.specs.Borrow.{Bor}
use Rattle.kumo_outside.specs.Content.{TextsSeen}
use Rattle.policy_core.specs.Policy.{unknown_pool}
use Rattle.policy_core.specs.declared.sources.Sources.{Sources}
use Rattle.policy_core.specs.declared.queues.Queues.{Queues}
use Rattle.policy_texts.specs.Texts.{Stop, told_by, MayBe}
use Rattle.policy_texts.specs.Policies.{Counts, Parts, unless_unknown}

-- the text that is told under a name of the command's words
abbrev pub told_under : TextsSeen → Option (Bor (List ℕ)) → Option (List ℕ)
told_under seen name = told_by seen.told (option_map (λ s. s.now) name)

-- some text that may be the told one comes to this
abbrev pub Comes : {A : Type 0} → (List ℕ → Result A Stop) → Option (List ℕ) → Result A Stop → Type 0
Comes read told what = (text : List ℕ) × MayBe told text × (read text ≡ what)

-- whatever else the texts give, a pool that a layer of queues may not name is the reason
abbrev pub StopsAtPools : Sources → Queues → Stop → Type 0
StopsAtPools sources queues stop = (parts : Parts) → unless_unknown (unknown_pool sources queues) parts ≡ Err stop

-- no count rose
abbrev pub no_counts : Counts
no_counts = record { texts_before = 0; texts_after = 0; search_before = 0; search_after = 0 }

-- the texts alone are asked
abbrev pub texts_counts : ℕ → ℕ → Counts
texts_counts before after = record { texts_before = before; texts_after = after; search_before = 0; search_after = 0 }

-- the search engine alone is asked
abbrev pub search_counts : ℕ → ℕ → Counts
search_counts before after = record { texts_before = 0; texts_after = 0; search_before = before; search_after = after }
