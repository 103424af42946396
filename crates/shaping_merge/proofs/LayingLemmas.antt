-- Layers laid over what there is: none, some and then others, all over nothing.
use Rattle.std.proofs.Common.{◌≡◌, ◌∙◌, refl, sym, ap, ℕ, ◌+◌, ◌<◌, ◌≤◌, List, [], ◌∷◌, ◌++◌, append_assoc, append-nil, length, get_or, drop, map, Option, Some, None}
use Rattle.std.specs.List.{flat_map}
use Rattle.std.specs.Option.{option_or}
use Rattle.std.proofs.lemmas.List.{drop_more, drop_all, map-append}
use Rattle.std.proofs.lemmas.Grind.{flat_map-append}
use Rattle.policy_core.specs.declared.options.Options.{Options}
use Rattle.policy_core.specs.declared.shaping.ShapeTable.{ShapeTable}
use Rattle.policy_core.specs.declared.site.PathBase.{PathBase}
use Rattle.policy_core.specs.Layers.{last_set}
use Rattle.policy_core.specs.PathOptions.{no_options, options_over, options_in}
use Rattle.policy_core.specs.PathTables.{table_layer, source_layers, layers_for, merged}
use Rattle.shaping_merge.specs.inside.Laying.{laid_over}

or_none : {V : Type 0} (a : Option V) → option_or a None ≡ a
or_none None = refl
or_none (Some x) = refl

or_assoc : {V : Type 0} (a b c : Option V) → option_or (option_or a b) c ≡ option_or a (option_or b c)
or_assoc None b c = refl
or_assoc (Some x) b c = refl

last_set-append : {L V : Type 0} (option : L → Option V) (layers others : List L)
    → last_set (layers ++ others) option ≡ option_or (last_set others option) (last_set layers option)
last_set-append option [] others = sym (or_none (last_set others option))
last_set-append option (layer ∷ layers) others =
    ap (λ o. option_or o (option layer)) (last_set-append option layers others)
    ∙ or_assoc (last_set others option) (last_set layers option) (option layer)

options_in-append : (layers others : List Options) → options_in (layers ++ others) ≡ options_over (options_in layers) (options_in others)
options_in-append layers others =
    rw (
      last_set-append (λ o. o.connection_limit) layers others,
      last_set-append (λ o. o.max_message_rate) layers others,
      last_set-append (λ o. o.max_connection_rate) layers others,
      last_set-append (λ o. o.max_deliveries_per_connection) layers others,
      last_set-append (λ o. o.max_ready) layers others,
      last_set-append (λ o. o.failures_before_delay) layers others,
      last_set-append (λ o. o.idle_timeout) layers others,
    )
    refl

over_assoc : (a b c : Options) → options_over (options_over a b) c ≡ options_over a (options_over b c)
over_assoc a b c =
    rw (
      or_assoc c.connection_limit b.connection_limit a.connection_limit,
      or_assoc c.max_message_rate b.max_message_rate a.max_message_rate,
      or_assoc c.max_connection_rate b.max_connection_rate a.max_connection_rate,
      or_assoc c.max_deliveries_per_connection b.max_deliveries_per_connection a.max_deliveries_per_connection,
      or_assoc c.max_ready b.max_ready a.max_ready,
      or_assoc c.failures_before_delay b.failures_before_delay a.failures_before_delay,
      or_assoc c.idle_timeout b.idle_timeout a.idle_timeout,
    )
    refl

over_none : (o : Options) → options_over no_options o ≡ o
over_none o =
    rw (
      or_none o.connection_limit,
      or_none o.max_message_rate,
      or_none o.max_connection_rate,
      or_none o.max_deliveries_per_connection,
      or_none o.max_ready,
      or_none o.failures_before_delay,
      or_none o.idle_timeout,
    )
    refl

pub laid_none : (base : PathBase) → laid_over base [] ≡ base
unfolding laid_over
laid_none base = rw (append-nil base.rules) refl

laid_append : (base : PathBase) (layers others : List PathBase) → laid_over base (layers ++ others) ≡ laid_over (laid_over base layers) others
unfolding laid_over
laid_append base layers others =
    let set = λ (l : PathBase). l.options in
    let options = ap (λ ls. options_over base.options (options_in ls)) (map-append set layers others)
    ∙ ap (options_over base.options) (options_in-append (map set layers) (map set others))
    ∙ sym (over_assoc base.options (options_in (map set layers)) (options_in (map set others))) in
    let rules = ap (λ rs. base.rules ++ rs) (flat_map-append (λ (l : PathBase). l.rules) layers others)
    ∙ sym (append_assoc base.rules (flat_map (λ l. l.rules) layers) (flat_map (λ l. l.rules) others)) in
    λ i. record { options = options i; rules = rules i }

-- all layers over nothing
laid_all : (layers : List PathBase) → laid_over (record { options = no_options; rules = [] }) layers ≡ merged layers
unfolding laid_over
laid_all layers = rw (over_none (options_in (map (λ l. l.options) layers))) refl

-- some, and what is left of all
laid_more : (base next : PathBase) (first rest : List PathBase) → next ≡ laid_over base first → laid_over next rest ≡ laid_over base (first ++ rest)
laid_more base next first rest e = ap (λ b. laid_over b rest) e ∙ sym (laid_append base first rest)

-- a step of a walk over items that give a layer each
pub step_of_layers : {A B : Type 0} (see : A → B) (f : B → PathBase) (xs : List A) (i : ℕ) (x : A) (base next : PathBase)
    → i < length xs → x ≡ get_or xs i x → next ≡ laid_over base (f (see x) ∷ [])
    → laid_over next (map f (map see (drop (i + 1) xs))) ≡ laid_over base (map f (map see (drop i xs)))
step_of_layers see f xs i x base next within here e =
    rw (drop_more xs i x within, ← here) (laid_more base next (f (see x) ∷ []) (map f (map see (drop (i + 1) xs))) e)

-- a step of a walk over items that give some layers each
pub step_of_lists : {A B : Type 0} (see : A → B) (f : B → List PathBase) (xs : List A) (i : ℕ) (x : A) (base next : PathBase)
    → i < length xs → x ≡ get_or xs i x → next ≡ laid_over base (f (see x))
    → laid_over next (flat_map f (map see (drop (i + 1) xs))) ≡ laid_over base (flat_map f (map see (drop i xs)))
step_of_lists see f xs i x base next within here e =
    rw (drop_more xs i x within, ← here) (laid_more base next (f (see x)) (flat_map f (map see (drop (i + 1) xs))) e)

-- the end of a walk, where nothing is left
pub all_laid : {A : Type 0} (f : List A → List PathBase) → f [] ≡ [] → (xs : List A) (i : ℕ) (base whole : PathBase)
    → length xs ≤ i → laid_over base (f (drop i xs)) ≡ whole → base ≡ whole
all_laid f none xs i base whole past left =
    sym (laid_none base) ∙ ap (laid_over base) (sym none ∙ ap f (sym (drop_all i xs past))) ∙ left

-- tables, and then what they say for a source
pub laid_both : (start first last : PathBase) (tables : List ShapeTable) (source : List ℕ) → start ≡ record { options = no_options; rules = [] }
    → first ≡ laid_over start (map table_layer tables) → last ≡ laid_over first (flat_map (source_layers source) tables)
    → last ≡ merged (layers_for tables source)
laid_both start first last tables source s f l =
    l ∙ ap (λ b. laid_over b (flat_map (source_layers source) tables)) f
    ∙ sym (laid_append start (map table_layer tables) (flat_map (source_layers source) tables))
    ∙ ap (λ b. laid_over b (layers_for tables source)) s ∙ laid_all (layers_for tables source)
