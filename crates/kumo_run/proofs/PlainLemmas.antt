-- What the plain policy comes to: nothing is set of queues and paths, and no rule fires.
use Rattle.std.proofs.Common.{◌≡◌, ℕ, List, [], ◌∷◌, ◌++◌, Bool, true, false, Option, Some, None, refl, ap, append-nil, flat_map}
use Rattle.queue_name.specs.QueueName.{Name}
use Rattle.queue_name.specs.declared.message.Message.{Message}
use Rattle.policy_core.specs.Automation.{limits_of}
use Rattle.policy_core.specs.Layers.{settings_in, settings_of}
use Rattle.policy_core.specs.PathOptions.{no_options, in_force_of}
use Rattle.policy_core.specs.PathTables.{base_of, tables_for}
use Rattle.policy_core.specs.Site.{site_of}
use Rattle.policy_core.specs.declared.options.InForce.{InForce}
use Rattle.policy_core.specs.declared.settings.Settings.{Settings}
use Rattle.policy_core.specs.declared.site.PathBase.{PathBase}
use Rattle.policy_core.specs.declared.site.Site.{Site}
use Rattle.history_core.specs.declared.entry.Entry.{Entry}
use Rattle.history_core.specs.declared.path.Path.{Path}
use Rattle.history_core.specs.History.{along_from}
use Rattle.history_core.specs.Retry.{settings_for}
use Rattle.history_core.specs.LiveOrders.{orders, live_orders}
use Rattle.history_core.specs.Firing.{Refusal, matches_of, matches_at, matches, firings_in_force, is_halted, is_free}
use Rattle.history_core.specs.Limits.{limits}
use Rattle.kumo_run.specs.PlainPolicy.{plain_policy, no_layer}

-- ---- of each name

abbrev pub plain_settings : Settings
plain_settings = settings_in (no_layer ∷ [])

settings_by : (domain : List ℕ) (campaign tenant : Option (List ℕ)) (name : Name) → name.tenant ≡ tenant → settings_of plain_policy.queues name ≡ plain_settings
unfolding settings_of
settings_by domain campaign None name e = rw e refl
settings_by domain campaign (Some tenant) name e = rw e refl

pub settings_are : (m : Message) → settings_for plain_policy m ≡ plain_settings
settings_are m = settings_by m.name.domain m.name.campaign m.name.tenant m.name refl

-- a domain is its own site
abbrev pub own_site : List ℕ → Site
own_site domain = record { name = domain; hosts = domain ∷ [] }

pub site_is : (domain : List ℕ) → site_of plain_policy domain ≡ own_site domain
unfolding site_of
site_is domain = ap (λ (name : List ℕ). let site : Site = record { name = name; hosts = domain ∷ [] } in site) (append-nil domain)

-- ---- of each path

abbrev pub no_base : PathBase
no_base = record { options = no_options; rules = [] }

pub base_is : (site : Site) (source : List ℕ) → base_of plain_policy site source ≡ no_base
unfolding base_of tables_for
base_is site source = refl

no_match : (r : Refusal) → matches_of plain_policy r ≡ []
no_match r = rw (base_is r.path.site r.path.source) refl

none_along : {E A : Type 0} (add : List E → E → List A) → ((before : List E) (e : E) → add before e ≡ []) → (before h : List E) → along_from add before h ≡ []
none_along add none before [] = refl
none_along add none before (e ∷ h) = rw (none before e) (none_along add none (before ++ e ∷ []) h)

none_flat : {A B : Type 0} (f : A → List B) → ((x : A) → f x ≡ []) → (xs : List A) → flat_map f xs ≡ []
none_flat f none [] = refl
none_flat f none (x ∷ xs) = rw (none x) (none_flat f none xs)

pub no_matches : (h : List Entry) → matches plain_policy h ≡ []
no_matches h = none_along (matches_at plain_policy) (λ before e. none_flat (matches_of plain_policy) no_match _) [] h

pub no_firings : (h : List Entry) (t : ℕ) → firings_in_force plain_policy h t ≡ []
no_firings h t = rw (no_matches h) refl

abbrev pub plain_limits : InForce
plain_limits = in_force_of no_options

limits_from : (base : PathBase) (is_in_force : ℕ → Bool) → base ≡ no_base → limits_of base is_in_force ≡ plain_limits
unfolding limits_of
limits_from base is_in_force e = rw e refl

pub limits_are : (h : List Entry) (t : ℕ) (p : Path) → limits plain_policy h t p ≡ plain_limits
limits_are h t p = limits_from _ _ (base_is p.site p.source)

-- ---- where no order was given

module _ (h : List Entry) (t : ℕ) (none : orders h ≡ []) where
  no_live : live_orders h t ≡ []
  no_live = rw none refl

  pub not_halted : (p : Path) → is_halted plain_policy h t p ≡ false
  not_halted p = rw (no_live, no_firings h t) refl

  pub free : (m : Message) → is_free plain_policy h t m ≡ true
  free m = rw (no_live, no_firings h t) refl
