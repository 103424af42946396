use Rattle.std.proofs.Common.{◌≡◌, max, ap, ◌∙◌, subst}
use Rattle.throttle_spec.specs.Throttle.{least_admitted}
use Rattle.throttle_spec.specs.Bucket.{BucketState, StandsFor}
use Rattle.throttle_spec.proofs.BucketLemmas.{first_room_is}
use Rattle.throttle_spec.proofs.bucket.Bucket.next.Goals as goal

pub returns : goal.returns
returns c =
    let found = c.first_with_room-least in
    record {
      exact = λ moments. subst (λ (b : BucketState). StandsFor b moments → c.max.result ≡ least_admitted b.throttle moments c.args.t) c.self.view_is (λ stands.
          c.max.ensures ∙ ap (λ u. max found.result u) c.min.ensures
          ∙ first_room_is c.self.inside.spec moments c.self.inside.arrival c.args.t found.result stands
          (record { within = found.ensures.within; before = found.ensures.before; room = found.ensures.room }));
    }
