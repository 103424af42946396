use Rattle.std.proofs.Common.{◌∙◌, map}
use Rattle.std.specs.BTreeMap.{get_by_text}
use Rattle.shaping_merge.proofs.ShapeSteps.{first_said, rollups_step, shape_step}
use Rattle.shaping_merge.proofs.shapes.shapes_of.Goals as goal

pub add_shape-requires : goal.add_shape-requires
add_shape-requires c =
    first_said c.args.policy.now.shaping.domains c.as_slice-shape-items.result.now c.loop-shape.shape-index c.shape-item.result (get_by_text c.loop-shape.rollups)
    c.loop-shape-test.true c.shape-item.is c.loop-shape.invariant.0

pub loop-shape-preserved : goal.loop-shape-preserved
loop-shape-preserved c =
    let adds = c.in_ok-add_shape.ensures.rollups in
    let items = c.as_slice-shape-items.result.now in (
      λ name.
          rollups_step (get_by_text c.loop-shape.rollups) (get_by_text c.add_shape.new.rollups) items c.loop-shape.shape-index c.shape-item.result
          c.loop-shape-test.true c.shape-item.is adds name
          ∙ c.loop-shape.invariant.0 name,
      rw c.in_ok-add_shape.ensures.at_site
          (shape_step c.args.policy.now c.args.site.now (get_by_text c.loop-shape.rollups) (get_by_text c.add_shape.new.rollups) items c.loop-shape.shape-index c.shape-item.result
          (map (λ shape. shape.now) c.loop-shape.at_site.items) c.loop-shape-test.true c.shape-item.is adds)
          ∙ c.loop-shape.invariant.1,
    )
