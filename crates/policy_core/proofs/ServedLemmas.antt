-- Where no layer names a pool that is not there, every queue's pool is there.
use Rattle.std.proofs.Common.{◌≡◌, ◌∙◌, refl, sym, ap, ℕ, List, [], ◌∷◌, ◌++◌, map, find, Bool, true, false, not, ◌&&◌, ◌||◌, Option, Some, None, is_some, unwrap_or, option_map, option_and_then, option_to_list, bytes_eq, IsTrue, codes}
use Rattle.std.specs.List.{list_all, flat_map}
use Rattle.std.specs.Option.{option_or}
use Rattle.queue_name.specs.QueueName.{Name}
use Rattle.policy_core.specs.declared.settings.TheConstants.{UNSPECIFIED}
use Rattle.policy_core.specs.declared.settings.Layer.{Layer}
use Rattle.policy_core.specs.declared.queues.NamedLayer.{NamedLayer}
use Rattle.policy_core.specs.declared.queues.TenantQueues.{TenantQueues}
use Rattle.policy_core.specs.declared.queues.DomainQueues.{DomainQueues}
use Rattle.policy_core.specs.declared.queues.Queues.{Queues}
use Rattle.policy_core.specs.declared.sources.Sources.{Sources}
use Rattle.policy_core.specs.Layers.{last_set, layer_named, queues_of_domain, queues_of_tenant, tenant_layer, domain_layer, domain_tenant_layer, campaign_layer, layers_of, settings_of}
use Rattle.policy_fault.specs.TableNames.{joined}
use Rattle.policy_core.specs.Policy.{PlacedLayer, layer_in_place, layers_of_tenant, layers_of_domain, all_layers, has_pool, lacks_pool, has_base_pool, least_text, earlier_text, places_of_unknown, unknown_pool, IsServed}
use Rattle.policy_core.proofs.MxLemmas.{first_of_both, second_of_both}

-- a fact of what is there
abbrev pub where_some : {A : Type 0} → (A → Bool) → Option A → Bool
where_some p None = true
where_some p (Some x) = p x

both : {a b : Bool} → a ≡ true → b ≡ true → (a && b) ≡ true
both e f = rw (e, f) refl

all_append : {A : Type 0} (p : A → Bool) (xs ys : List A) → list_all p (xs ++ ys) ≡ (list_all p xs && list_all p ys)
all_append p [] ys = refl
all_append p (x ∷ xs) ys = ap (λ b. p x && b) (all_append p xs ys) ∙ and_assoc (p x) (list_all p xs) (list_all p ys)
  where
    and_assoc : (a b c : Bool) → (a && (b && c)) ≡ ((a && b) && c)
    and_assoc true b c = refl
    and_assoc false b c = refl

all_map : {A B : Type 0} (p : B → Bool) (f : A → B) (xs : List A) → list_all p (map f xs) ≡ list_all (λ x. p (f x)) xs
all_map p f [] = refl
all_map p f (x ∷ xs) = ap (λ b. p (f x) && b) (all_map p f xs)

all_flat_map : {A B : Type 0} (p : B → Bool) (f : A → List B) (xs : List A) → list_all p (flat_map f xs) ≡ list_all (λ x. list_all p (f x)) xs
all_flat_map p f [] = refl
all_flat_map p f (x ∷ xs) = all_append p (f x) (flat_map f xs) ∙ ap (λ b. list_all p (f x) && b) (all_flat_map p f xs)

-- what is found is among those that were searched
found_among : {A : Type 0} (p test : A → Bool) (xs : List A) → list_all p xs ≡ true → where_some p (find test xs) ≡ true
found_among p test [] all = refl
found_among p test (x ∷ xs) all = by (test x) refl (found_among p test xs (second_of_both (p x) (list_all p xs) all))
  where
    by : (b : Bool) → test x ≡ b → where_some p (find test xs) ≡ true → where_some p (find test (x ∷ xs)) ≡ true
    by true e rest = rw e (first_of_both (p x) (list_all p xs) all)
    by false e rest = rw e rest

module _ (sources : Sources) where
  -- its pool is there, where it names one
  abbrev is_served : Layer → Bool
  is_served layer = not (lacks_pool sources layer.pool)

  abbrev is_placed_served : PlacedLayer → Bool
  is_placed_served l = is_served l.layer

  some_is_first : (best : List ℕ) (xs : List (List ℕ)) → ¬ (least_text (Some best) xs ≡ None)
  some_is_first best [] e = cc
  some_is_first best (x ∷ xs) e = some_is_first (earlier_text (Some best) x) xs e

  all_served : (xs : List PlacedLayer) → least_text None (places_of_unknown sources xs) ≡ None → list_all is_placed_served xs ≡ true
  all_served [] e = refl
  all_served (x ∷ xs) e = by (lacks_pool sources x.layer.pool) refl (all_served xs)
    where
      by : (b : Bool) → lacks_pool sources x.layer.pool ≡ b → (least_text None (places_of_unknown sources xs) ≡ None → list_all is_placed_served xs ≡ true) → list_all is_placed_served (x ∷ xs) ≡ true
      by true f rest = absurd (some_is_first x.place (places_of_unknown sources xs) (rw f at e))
      by false f rest = rw f (rest (rw f at e))

  -- the layers of a tenant within a domain, and of a domain
  abbrev are_named_served : List NamedLayer → Bool
  are_named_served layers = list_all (λ l. is_served l.layer) layers

  abbrev is_tenant_served : TenantQueues → Bool
  is_tenant_served t = is_served t.base && are_named_served t.campaigns

  abbrev is_domain_served : DomainQueues → Bool
  is_domain_served d = is_served d.base && list_all is_tenant_served d.tenants

  of_tenant : (place : List ℕ) (t : TenantQueues) → list_all is_placed_served (layers_of_tenant place t) ≡ is_tenant_served t
  of_tenant place t = ap (λ b. is_served t.base && b) (all_map is_placed_served (layer_in_place (joined place t.tenant)) t.campaigns)

  of_tenants : (place : List ℕ) (ts : List TenantQueues) → list_all is_placed_served (flat_map (layers_of_tenant place) ts) ≡ list_all is_tenant_served ts
  of_tenants place [] = refl
  of_tenants place (t ∷ ts) =
      all_append is_placed_served (layers_of_tenant place t) (flat_map (layers_of_tenant place) ts)
      ∙ rw (of_tenant place t, of_tenants place ts) refl

  of_domain : (d : DomainQueues) → list_all is_placed_served (layers_of_domain d) ≡ is_domain_served d
  of_domain d = ap (λ b. is_served d.base && b) (of_tenants (joined (codes "queue") d.domain) d.tenants)

  of_domains : (ds : List DomainQueues) → list_all is_placed_served (flat_map layers_of_domain ds) ≡ list_all is_domain_served ds
  of_domains [] = refl
  of_domains (d ∷ ds) =
      all_append is_placed_served (layers_of_domain d) (flat_map layers_of_domain ds) ∙ rw (of_domain d, of_domains ds) refl

  -- what of all layers is served
  record AllServed (queues : Queues) : Type 0 where
    base : is_served queues.base ≡ true
    tenants : are_named_served queues.tenants ≡ true
    domains : list_all is_domain_served queues.domains ≡ true

  parts_served : (queues : Queues) → list_all is_placed_served (all_layers queues) ≡ true → AllServed queues
  parts_served queues all =
      let rest = second_of_both (is_served queues.base) _ all in
      let split = sym (all_append is_placed_served (map (layer_in_place (codes "tenant")) queues.tenants) (flat_map layers_of_domain queues.domains)) ∙ rest in
      record {
        base = first_of_both (is_served queues.base) _ all;
        tenants = sym (all_map is_placed_served (layer_in_place (codes "tenant")) queues.tenants) ∙ first_of_both _ _ split;
        domains = sym (of_domains queues.domains) ∙ second_of_both _ _ split;
      }

  -- the layers of a name are among them
  named_served : (layers : List NamedLayer) (name : List ℕ) → are_named_served layers ≡ true → where_some is_served (layer_named layers name) ≡ true
  named_served layers name all = by (find (λ l. bytes_eq l.name name) layers) (found_among (λ l. is_served l.layer) (λ l. bytes_eq l.name name) layers all)
    where
      by : (o : Option NamedLayer) → where_some (λ l. is_served l.layer) o ≡ true → where_some is_served (option_map (λ l. l.layer) o) ≡ true
      by None e = refl
      by (Some l) e = e

  optional_served : (layers : List NamedLayer) (name : Option (List ℕ)) → are_named_served layers ≡ true → where_some is_served (option_and_then (layer_named layers) name) ≡ true
  optional_served layers None all = refl
  optional_served layers (Some name) all = named_served layers name all

  module _ (queues : Queues) (all : AllServed queues) (name : Name) where
    its_domain : where_some is_domain_served (queues_of_domain queues name) ≡ true
    its_domain = found_among is_domain_served (λ d. bytes_eq d.domain name.domain) queues.domains all.domains

    its_tenant : where_some is_tenant_served (queues_of_tenant queues name) ≡ true
    its_tenant = by (queues_of_domain queues name) its_domain name.tenant
      where
        by : (o : Option DomainQueues) → where_some is_domain_served o ≡ true → (tenant : Option (List ℕ))
            → where_some is_tenant_served (option_and_then (λ d. option_and_then (λ wanted. find (λ t. bytes_eq t.tenant wanted) d.tenants) tenant) o) ≡ true
        by None e tenant = refl
        by (Some d) e None = refl
        by (Some d) e (Some tenant) = found_among is_tenant_served (λ t. bytes_eq t.tenant tenant) d.tenants (second_of_both (is_served d.base) _ e)

    its_domain_layer : where_some is_served (domain_layer queues name) ≡ true
    its_domain_layer = by (queues_of_domain queues name) its_domain
      where
        by : (o : Option DomainQueues) → where_some is_domain_served o ≡ true → where_some is_served (option_map (λ d. d.base) o) ≡ true
        by None e = refl
        by (Some d) e = first_of_both (is_served d.base) _ e

    its_tenant_layer : where_some is_served (domain_tenant_layer queues name) ≡ true
    its_tenant_layer = by (queues_of_tenant queues name) its_tenant
      where
        by : (o : Option TenantQueues) → where_some is_tenant_served o ≡ true → where_some is_served (option_map (λ t. t.base) o) ≡ true
        by None e = refl
        by (Some t) e = first_of_both (is_served t.base) _ e

    its_campaign_layer : where_some is_served (campaign_layer queues name) ≡ true
    its_campaign_layer = by (queues_of_tenant queues name) its_tenant
      where
        by : (o : Option TenantQueues) → where_some is_tenant_served o ≡ true → where_some is_served (option_and_then (λ t. option_and_then (layer_named t.campaigns) name.campaign) o) ≡ true
        by None e = refl
        by (Some t) e = optional_served t.campaigns name.campaign (second_of_both (is_served t.base) _ e)

    listed : (o : Option Layer) (more : List Layer) → where_some is_served o ≡ true → list_all is_served more ≡ true → list_all is_served (option_to_list o ++ more) ≡ true
    listed None more e f = f
    listed (Some l) more e f = both e f

    listed_last : (o : Option Layer) → where_some is_served o ≡ true → list_all is_served (option_to_list o) ≡ true
    listed_last None e = refl
    listed_last (Some l) e = both e refl

    layers_served : list_all is_served (layers_of queues name) ≡ true
    layers_served =
        both all.base
        (listed (tenant_layer queues name) _ (optional_served queues.tenants name.tenant all.tenants)
        (listed (domain_layer queues name) _ its_domain_layer
        (listed (domain_tenant_layer queues name) _ its_tenant_layer
        (listed_last (campaign_layer queues name) its_campaign_layer))))

  -- the pool that layers come to
  pool_is_there : (pool : Option (List ℕ)) → not (lacks_pool sources pool) ≡ true → where_some (has_pool sources) pool ≡ true
  pool_is_there None e = refl
  pool_is_there (Some name) e = by (has_pool sources name) e
    where
      by : (b : Bool) → not (not b) ≡ true → b ≡ true
      by true e = refl
      by false e = cc

  over_another : {A : Type 0} (p : A → Bool) (a b : Option A) → where_some p a ≡ true → where_some p b ≡ true → where_some p (option_or a b) ≡ true
  over_another p None b e f = f
  over_another p (Some x) b e f = e

  last_is_there : (layers : List Layer) → list_all is_served layers ≡ true → where_some (has_pool sources) (last_set layers (λ l. l.pool)) ≡ true
  last_is_there [] all = refl
  last_is_there (l ∷ later) all =
      over_another (has_pool sources) (last_set later (λ l. l.pool)) l.pool
      (last_is_there later (second_of_both (is_served l) _ all)) (pool_is_there l.pool (first_of_both (is_served l) _ all))

  -- where none sets one it is that of queues whose layers name none
  with_default : (default : List ℕ) (base : Option (List ℕ)) (later : Option (List ℕ)) → (is_some base || has_pool sources default) ≡ true
      → where_some (has_pool sources) (option_or later base) ≡ true → has_pool sources (unwrap_or (option_or later base) default) ≡ true
  with_default default None None has e = has
  with_default default (Some pool) None has e = e
  with_default default base (Some pool) has e = e

  pub served : (queues : Queues) → unknown_pool sources queues ≡ None → IsTrue (has_base_pool sources queues) → IsServed sources queues
  unfolding unknown_pool has_base_pool IsServed settings_of
  served queues none has name =
      let all = parts_served queues (all_served (all_layers queues) none) in
      with_default UNSPECIFIED.now queues.base.pool _ has (last_is_there (layers_of queues name) (layers_served queues all name))
