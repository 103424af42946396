use Rattle.std.proofs.Common.{◌≡◌, ◌∙◌, ◌-◌, ◌<◌, sym, true, false, get_or, arith}
use Rattle.policy_toml.specs.Order.{comes_after}
use Rattle.policy_toml.proofs.PlaceLemmas.{place_step, place_end}
use Rattle.policy_toml.proofs.order.place_by_name.Goals as goal

pub loop-place-preserved : goal.loop-place-preserved
loop-place-preserved g c =
    let after : comes_after g.T.Named.name_of c.args.name.now (get_or c.args.items.now (c.loop-place.place - 1) c.index-items-place.result) ≡ true =
    rw (← c.index-items-place.is, ← c.name.ensures, ← c.lt.ensures) c.if-lt.true in
    let positive : 0 < c.loop-place.place = omega arith in
    record {
      within = omega arith;
      same = place_step g.T.Named.name_of c.args.name.now _ _ c.index-items-place.result positive c.loop-place.invariant.within after ∙ c.loop-place.invariant.same;
    }

pub returns-else-lt-clause-place : goal.returns-else-lt-clause-place
returns-else-lt-clause-place g c =
    let before : comes_after g.T.Named.name_of c.args.name.now (get_or c.args.items.now (c.loop-place.place - 1) c.index-items-place.result) ≡ false =
    rw (← c.index-items-place.is, ← c.name.ensures, ← c.lt.ensures) c.if-lt.false in
    let positive : 0 < c.loop-place.place = omega arith in
    sym (place_end g.T.Named.name_of c.args.name.now _ _ c.index-items-place.result positive c.loop-place.invariant.within before) ∙ c.loop-place.invariant.same
