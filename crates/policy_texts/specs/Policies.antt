-- What policy texts come to together: a policy and the keys without effect, or the first reason why they give none. The texts
-- are read one after another, and each is read whole before the next: sources, queues, shaping, mail exchangers.
use Rattle.std.specs.Prelude.{◌≡◌, ℕ, List, [], ◌∷◌, ◌++◌, Option, Some, None, Result, Ok, Err, ⊤}
use Rattle.kumo_base.specs.Causes.{Rose}
use Rattle.kumo_base.specs.Limits.{latest_moment}
use Rattle.kumo_outside.specs.Content.{TextsSeen}
use Rattle.kumo_outside.specs.Search.{SearchSeen}
use Rattle.policy_core.specs.Policy.{Policy, unknown_pool, unknown_pool_at}
use Rattle.policy_fault.specs.declared.fault.Ignored.{Ignored}
use Rattle.policy_fault.specs.declared.fault.PolicyFault.{PolicyFault}
use Rattle.policy_fault.specs.declared.fault.PolicyFault.TheVariants as fault
use Rattle.policy_core.specs.declared.mx.MxRow.{MxRow}
use Rattle.policy_core.specs.declared.queues.Queues.{Queues}
use Rattle.policy_core.specs.declared.shaping.Shaping.{Shaping}
use Rattle.policy_core.specs.declared.sources.Sources.{Sources}
use Rattle.sources_policy.specs.SourcesFile.{SourcesFile}
use Rattle.queues_policy.specs.QueuesFile.{QueuesFile}
use Rattle.shaping_policy.specs.ShapingFile.{ShapingFile}
use Rattle.mx_table.specs.MxText.{Joins}
use Rattle.command_words.specs.Commands.{PolicyNames}
use Rattle.policy_texts.specs.declared.load.LoadFault.{LoadFault}
use Rattle.policy_texts.specs.declared.load.LoadFault.TheVariants as load_fault
use Rattle.policy_texts.specs.Texts.{Stop, too_long, refused, sources_given, queues_given, shaping_given, mx_given, told_by, MayBe}

-- a text for each of the four files
pub record Contents : Type 0 where
  pub sources : List ℕ
  pub queues : List ℕ
  pub shaping : List ℕ
  pub mx : List ℕ

-- each is the text that is told under its name, where one is told; a file without a name has the empty text
pub record Agrees (told : List ℕ → Option (List ℕ)) (names : PolicyNames) (texts : Contents) : Type 0 where
  pub sources : MayBe (told_by told names.sources) texts.sources
  pub queues : MayBe (told_by told names.queues) texts.queues
  pub shaping : MayBe (told_by told names.shaping) texts.shaping
  pub mx : MayBe (told_by told names.mx) texts.mx

-- what four texts give: the parts of a policy, and the keys without effect
pub record Parts : Type 0 where
  pub sources : Sources
  pub queues : Queues
  pub shaping : Shaping
  pub rows : List MxRow
  pub ignored : List Ignored

abbrev pub together : SourcesFile → QueuesFile → ShapingFile → List MxRow → Parts
together s q h rows = record {
  sources = s.sources;
  queues = q.queues;
  shaping = h.shaping;
  rows = rows;
  ignored = s.ignored ++ q.ignored ++ h.ignored;
}

-- a pool that a layer of queues may not name is a reason behind all texts
abbrev pub unless_unknown : Option (List ℕ) → Parts → Result Parts Stop
unless_unknown None parts = Ok parts
unless_unknown (Some table) parts = Err (refused (unknown_pool_at table))

-- the first reason stops
infixl 10 ◌>>=◌
abbrev pub ◌>>=◌ : {A B : Type 0} → Result A Stop → (A → Result B Stop) → Result B Stop
(Ok a) >>= next = next a
(Err stop) >>= next = Err stop

-- the parts that four texts give, or the first reason why they give none
unfoldable pub parts_of : Contents → Result Parts Stop
parts_of texts = do
  s ← sources_given texts.sources
  q ← queues_given texts.queues
  h ← shaping_given texts.shaping
  rows ← mx_given texts.mx
  unless_unknown (unknown_pool s.sources q.queues) (together s q h rows)

-- the policy of parts; it stops at the last moment alone
pub record IsPolicyOf (parts : Parts) (policy : Policy) : Type 0 where
  pub sources_are : policy.sources ≡ parts.sources
  pub queues_are : policy.queues ≡ parts.queues
  pub shaping_is : policy.shaping ≡ parts.shaping
  pub mx_joins : Joins policy.mx parts.rows
  pub stops_are : policy.stops ≡ latest_moment ∷ []

-- texts that tell give a policy and keys without effect
abbrev pub Loads : (List ℕ → Option (List ℕ)) → PolicyNames → Policy → List Ignored → Type 0
Loads told names policy ignored =
    (texts : Contents) × Agrees told names texts × (parts : Parts) × (parts_of texts ≡ Ok parts) × IsPolicyOf parts policy
    × (ignored ≡ parts.ignored)

-- the first reason why texts give no policy
abbrev pub Stops : (List ℕ → Option (List ℕ)) → PolicyNames → Stop → Type 0
Stops told names stop = (texts : Contents) × Agrees told names texts × (parts_of texts ≡ Err stop)

-- the counts of faults of the texts and of the search engine, before a call and after
pub record Counts : Type 0 where
  pub texts_before : ℕ
  pub texts_after : ℕ
  pub search_before : ℕ
  pub search_after : ℕ

abbrev pub counts_of : TextsSeen → TextsSeen → SearchSeen → SearchSeen → Counts
counts_of texts_before texts_after search_before search_after = record {
  texts_before = texts_before.faults;
  texts_after = texts_after.faults;
  search_before = search_before.faults;
  search_after = search_after.faults;
}

-- the cause of each fault: a reason for the texts, or a count that rose
abbrev pub HasCauseIn : (Stop → Type 0) → Counts → LoadFault → Type 0
HasCauseIn P counts (load_fault.Refused place) = P (refused place)
HasCauseIn P counts load_fault.Limit = P too_long
HasCauseIn P counts load_fault.ReadFault = Rose counts.texts_before counts.texts_after
HasCauseIn P counts load_fault.SearchFault = Rose counts.search_before counts.search_after
HasCauseIn P counts load_fault.Memory = ⊤

-- the fault of loading that a fault of a policy text comes to
abbrev pub load_fault_of : PolicyFault → LoadFault
load_fault_of (fault.At place) = load_fault.Refused place
load_fault_of fault.Search = load_fault.SearchFault
load_fault_of fault.Memory = load_fault.Memory
