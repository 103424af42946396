-- Layers laid over what there is, one by one.
use Rattle.std.specs.Prelude.{List, ◌++◌, map}
use Rattle.std.specs.List.{flat_map}
use Rattle.policy_core.specs.declared.site.PathBase.{PathBase}
use Rattle.policy_core.specs.PathOptions.{options_over, options_in}

-- what there is, with layers over it
unfoldable pub laid_over : PathBase → List PathBase → PathBase
laid_over base layers = record {
  options = options_over base.options (options_in (map (λ layer. layer.options) layers));
  rules = base.rules ++ flat_map (λ layer. layer.rules) layers;
}
