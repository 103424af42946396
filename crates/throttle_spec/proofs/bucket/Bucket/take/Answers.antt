use Rattle.std.proofs.Common.{◌++◌, ◌∷◌, [], sym, subst}
use Rattle.kumo_base.specs.Moment.{clamped}
use Rattle.throttle_spec.specs.Bucket.{BucketState, StandsFor, IsAdmitted}
use Rattle.throttle_spec.proofs.BucketLemmas.{stands_more}
use Rattle.throttle_spec.proofs.bucket.Bucket.take.Goals as goal

pub returns-clause-stands : goal.returns-clause-stands
unfolding IsAdmitted
returns-clause-stands c =
    let spec = c.self.inside.spec in
    let t = clamped c.args.t in
    λ moments standing. subst (λ (b : BucketState). StandsFor b moments → IsAdmitted b c.args.t → StandsFor (record { throttle = spec; arrival = c.reach_with-self-inside.result }) (moments ++ t ∷ [])) c.self.view_is
    (λ stands room. subst (λ n. StandsFor (record { throttle = spec; arrival = n }) (moments ++ t ∷ [])) (sym c.reach_with-self-inside.ensures.value) (stands_more spec moments t c.self.inside.arrival stands room))
    standing c.requires
