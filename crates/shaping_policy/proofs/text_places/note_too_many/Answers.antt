use Rattle.std.proofs.Common.{◌≡◌, ◌<◌, ◌≤◌, ◌∙◌, ap, sym, [], ◌∷◌, length, get_or, refl}
use Rattle.policy_toml.specs.Places.{first_of}
use Rattle.shaping_policy.specs.declared.patterns.TheConstants.{PATTERN_COUNT_LIMIT}
use Rattle.shaping_policy.specs.declared.text_places.TextPlace.{TextPlace}
use Rattle.shaping_policy.specs.inside.TextPlaces.{seen_place}
use Rattle.shaping_policy.proofs.TooMany.{past_limit, within_limit}
use Rattle.shaping_policy.proofs.text_places.note_too_many.Goals as goal

pub returns-in_default : goal.returns-in_default
returns-in_default c =
    let short : length c.sort_unstable.new.self.items ≤ PATTERN_COUNT_LIMIT = rw (← c.as_slice.ensures.value) c.in_default.ensures.lookup.3 in
    rw (← c.in_ok-places.ensures, within_limit _ _ c.sort_unstable.ensures.permutation short) refl

pub returns : goal.returns
returns c =
    let (long, is) = c.in-Some.ensures.lookup.3 in
    let within : PATTERN_COUNT_LIMIT < length c.sort_unstable.new.self.items = rw (← c.as_slice.ensures.value) long in
    let at : c.in-Some.place.now ≡ get_or c.sort_unstable.new.self.items PATTERN_COUNT_LIMIT c.in-Some.place.now =
    rw (← c.as_slice.ensures.value) (is c.in-Some.place.now) in
    rw (c.in_ok-note_in.ensures.ok, ← c.in_ok-places.ensures) (
    ap (λ (p : TextPlace). first_of c.args.faults.now (seen_place p ∷ [])) at
    ∙ sym (past_limit c.args.faults.now _ _ c.sort_unstable.ensures.permutation c.sort_unstable.ensures.sorted c.in-Some.place.now within))
