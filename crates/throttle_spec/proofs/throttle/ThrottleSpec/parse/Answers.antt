use Rattle.std.proofs.Common.{refl}
use Rattle.throttle_spec.specs.ThrottleText.{throttle_of}
use Rattle.throttle_spec.proofs.throttle.ThrottleSpec.parse.Goals as goal

pub returns-in-Some : goal.returns-in-Some
unfolding throttle_of
returns-in-Some c =
    let parts = c.in-Some.ensures in
    record { value = rw (c.throttle_around.ensures, ← c.without_local-limit.ensures, parts.0, parts.1, parts.2) refl }
