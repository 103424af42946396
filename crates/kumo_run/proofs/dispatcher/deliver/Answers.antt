use Rattle.std.proofs.Common.{◌≡◌, ◌≤◌, ap, ◌∙◌, arith}
use Rattle.queue_name.specs.declared.message.Message.{Message}
use Rattle.kumo_run.proofs.StepLemmas.{may_open}
use Rattle.kumo_run.proofs.dispatcher.deliver.Goals as goal

pub open-requires : goal.open-requires
open-requires g c =
    let domain : c.as_str.result.now ≡ c.args.message.now.name.domain = c.as_str.ensures ∙ ap (λ (m : Message). m.name.domain) c.message.view_is in
    let enough : 7 ≤ c.in_ok-registry.registry.capacity = c.in_ok-registry.ensures.room in
    record {
      follows = rw (c.in_ok-registry.ensures.history, c.in_ok-path.ensures, domain) (may_open c.args.message.now c.requires.due);
      room = rw c.in_ok-registry.ensures.history (omega (arith, enough));
    }
