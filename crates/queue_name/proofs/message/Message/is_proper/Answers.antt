use Rattle.std.proofs.Common.{◌≡◌, ◌^◌, ◌<◌, IsTrue, rules, refl, subst}
use Rattle.queue_name.specs.QueueName.{is_name}
use Rattle.queue_name.specs.declared.message.Message.{Message}
use Rattle.queue_name.proofs.ProperLemmas.{proper_is, keeps_rules}
use Rattle.queue_name.proofs.message.Message.is_proper.Goals as goal

pub returns : goal.returns
returns c =
    let m = c.args.self.now in
    let test : c.keeps_rules.result ≡ keeps_rules m =
    rw (c.keeps_rules.ensures, c.as_str.ensures, c.as_str-2.ensures, c.as_str-3.ensures, c.as_str-4.ensures, ← c.self.view_is) refl in
    let id : m.id < 2 ^ 128 = search rules in
    let name : IsTrue (is_name m.name) = subst (λ (x : Message). IsTrue (is_name x.name)) c.self.view_is c.self.invariant in
    rw test (proper_is m id name)
