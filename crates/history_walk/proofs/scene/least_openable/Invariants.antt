use Rattle.std.proofs.Common.{◌≡◌, drop, map, option_map, IfSome}
use Rattle.history_automation.specs.Known.{known_path}
use Rattle.history_walk.specs.Scene.{least_openable, least_so_far}
use Rattle.history_walk.proofs.scene.least_openable.Given as goal

abbrev pub invariant-loop-path : goal.invariant-loop-path
invariant-loop-path l = record {
  least : least_openable l.scene (map (λ k. k.path) l.paths)
      ≡ least_so_far l.scene (option_map (λ k. k.now.path) l.best) (least_openable l.scene (map (λ k. k.path) (drop l.path-index l.paths)));
  known : IfSome l.best (λ k. k.now ≡ known_path l.scene.policy k.now.path);
}
