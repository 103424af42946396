-- What four texts give together, and the first reason why they give nothing.
use Rattle.std.proofs.Common.{◌≡◌, List, [], ◌∷◌, ◌++◌, ℕ, Option, Some, None, option_map, Result, Ok, Err, IsTrue, refl, sym, ap, subst, arith, rules}
use Rattle.std.proofs.lemmas.Grind.{common_steps}
use Rattle.std.proofs.lemmas.Option.{same_Some}
use Rattle.kumo_base.specs.Limits.{latest_moment}
use Rattle.policy_core.specs.Limits.{unspecified}
use Rattle.policy_core.specs.Policy.{Policy, are_stops, has_pool, has_base_pool, unknown_pool, unknown_pool_at, IsUnknownPool}
use Rattle.policy_fault.specs.declared.fault.Ignored.{Ignored}
use Rattle.policy_fault.specs.declared.fault.PolicyFault.{PolicyFault}
use Rattle.policy_fault.specs.declared.fault.PolicyFault.TheVariants as fault
use Rattle.policy_fault.specs.declared.fault.PolicyPlace.{PolicyPlace}
use Rattle.policy_core.specs.declared.mx.MxRow.{MxRow}
use Rattle.policy_core.specs.declared.queues.Queues.{Queues}
use Rattle.policy_core.specs.declared.sources.Sources.{Sources}
use Rattle.mx_table.specs.MxText.{Joins}
use Rattle.sources_policy.specs.SourcesFile.{SourcesFile}
use Rattle.queues_policy.specs.QueuesFile.{QueuesFile}
use Rattle.shaping_policy.specs.ShapingFile.{ShapingFile}
use Rattle.command_words.specs.Commands.{PolicyNames}
use Rattle.policy_texts.specs.Texts.{Stop, refused, sources_given, queues_given, shaping_given, mx_given, told_by, MayBe}
use Rattle.policy_texts.specs.Policies.{Parts, IsPolicyOf, Loads, Stops, HasCauseIn, load_fault_of, parts_of, together, unless_unknown}
use Rattle.policy_texts.specs.inside.Stages.{Comes, StopsAtPools, no_counts}

-- the parts fit, where the base pool is there
pub base_pool : (sources : Sources) (queues : Queues) → IsTrue (has_pool sources unspecified)
    → IsTrue (has_base_pool sources queues)
unfolding has_base_pool
base_pool sources queues h = grind (arith, common_steps)

pub one_stop : IsTrue (are_stops (latest_moment ∷ []))
unfolding are_stops
one_stop = search rules

-- parts whose queues name a pool that is not there stop at its place
stops_there : (unknown : Option (List ℕ)) (place : PolicyPlace) (parts : Parts) → option_map unknown_pool_at unknown ≡ Some place
    → unless_unknown unknown parts ≡ Err (refused place)
stops_there None place parts e = cc
stops_there (Some table) place parts e = ap (λ p. Err (refused p)) (same_Some (unknown_pool_at table) place e)

-- the cause of a refusal of parts that are put together
pub pools_cause : (sources : Sources) (queues : Queues) (said : PolicyFault) → IsUnknownPool said (unknown_pool sources queues)
    → HasCauseIn (StopsAtPools sources queues) no_counts (load_fault_of said)
pools_cause sources queues (fault.At place) h = λ parts. stops_there (unknown_pool sources queues) place parts h
pools_cause sources queues fault.Search h = absurd h
pools_cause sources queues fault.Memory h = tt

-- the policy of parts that were put together
pub is_policy : (s : SourcesFile) (q : QueuesFile) (h : ShapingFile) (mx rows : List MxRow) (policy : Policy)
    → policy ≡ record { sources = s.sources; queues = q.queues; shaping = h.shaping; mx = mx; stops = latest_moment ∷ [] }
    → Joins mx rows → IsPolicyOf (together s q h rows) policy
is_policy s q h mx rows policy e joins = record {
  sources_are = ap (λ (p : Policy). p.sources) e;
  queues_are = ap (λ (p : Policy). p.queues) e;
  shaping_is = ap (λ (p : Policy). p.shaping) e;
  mx_joins = rw e joins;
  stops_are = ap (λ (p : Policy). p.stops) e;
}

-- what a text comes to, where the texts tell the same as before
pub comes_as : {A : Type 0} {read : List ℕ → Result A Stop} {told later : List ℕ → Option (List ℕ)} {what : Result A Stop}
    (name : Option (List ℕ)) → later ≡ told → Comes read (told_by later name) what → Comes read (told_by told name) what
comes_as {A} {read} {told} {later} {what} name e h =
    subst (λ (t : List ℕ → Option (List ℕ)). Comes read (told_by t name) what) e h

-- a text that was not read: the told one, or any
unread : (told : Option (List ℕ)) → (text : List ℕ) × MayBe told text
unread None = ([], tt)
unread (Some text) = (text, refl)

-- the texts that the stages found, and for those that were not read the told ones or any
module _ (told : List ℕ → Option (List ℕ)) (names : PolicyNames) where
  pub stops_at_sources : (stop : Stop) → Comes sources_given (told_by told names.sources) (Err stop) → Stops told names stop
  unfolding parts_of
  stops_at_sources stop s =
      let q = unread (told_by told names.queues) in
      let h = unread (told_by told names.shaping) in
      let m = unread (told_by told names.mx) in (
        record { sources = s.0; queues = q.0; shaping = h.0; mx = m.0 },
        record { sources = s.1; queues = q.1; shaping = h.1; mx = m.1 },
        rw s.2 refl,
      )

  module _ (s : SourcesFile) (from_s : Comes sources_given (told_by told names.sources) (Ok s)) where
    pub stops_at_queues : (stop : Stop) → Comes queues_given (told_by told names.queues) (Err stop) → Stops told names stop
    unfolding parts_of
    stops_at_queues stop q =
        let h = unread (told_by told names.shaping) in
        let m = unread (told_by told names.mx) in (
          record { sources = from_s.0; queues = q.0; shaping = h.0; mx = m.0 },
          record { sources = from_s.1; queues = q.1; shaping = h.1; mx = m.1 },
          rw (from_s.2, q.2) refl,
        )

    module _ (q : QueuesFile) (from_q : Comes queues_given (told_by told names.queues) (Ok q)) where
      pub stops_at_shaping : (stop : Stop) → Comes shaping_given (told_by told names.shaping) (Err stop) → Stops told names stop
      unfolding parts_of
      stops_at_shaping stop h =
          let m = unread (told_by told names.mx) in (
            record { sources = from_s.0; queues = from_q.0; shaping = h.0; mx = m.0 },
            record { sources = from_s.1; queues = from_q.1; shaping = h.1; mx = m.1 },
            rw (from_s.2, from_q.2, h.2) refl,
          )

      module _ (h : ShapingFile) (from_h : Comes shaping_given (told_by told names.shaping) (Ok h)) where
        pub stops_at_mx : (stop : Stop) → Comes mx_given (told_by told names.mx) (Err stop) → Stops told names stop
        unfolding parts_of
        stops_at_mx stop m = (
          record { sources = from_s.0; queues = from_q.0; shaping = from_h.0; mx = m.0 },
          record { sources = from_s.1; queues = from_q.1; shaping = from_h.1; mx = m.1 },
          rw (from_s.2, from_q.2, from_h.2, m.2) refl,
        )

        module _ (rows : List MxRow) (from_m : Comes mx_given (told_by told names.mx) (Ok rows)) where
          pub stops_at_pools : (stop : Stop) → StopsAtPools s.sources q.queues stop → Stops told names stop
          unfolding parts_of
          stops_at_pools stop unknown = (
            record { sources = from_s.0; queues = from_q.0; shaping = from_h.0; mx = from_m.0 },
            record { sources = from_s.1; queues = from_q.1; shaping = from_h.1; mx = from_m.1 },
            rw (from_s.2, from_q.2, from_h.2, from_m.2) (unknown (together s q h rows)),
          )

          pub loads : (policy : Policy) (ignored : List Ignored) → unknown_pool s.sources q.queues ≡ None
              → IsPolicyOf (together s q h rows) policy → ignored ≡ s.ignored ++ q.ignored ++ h.ignored
              → Loads told names policy ignored
          unfolding parts_of
          loads policy ignored known is_of keys = (
            record { sources = from_s.0; queues = from_q.0; shaping = from_h.0; mx = from_m.0 },
            record { sources = from_s.1; queues = from_q.1; shaping = from_h.1; mx = from_m.1 },
            together s q h rows,
            rw (from_s.2, from_q.2, from_h.2, from_m.2, known) refl,
            is_of,
            keys,
          )
