-- When a message keeps the rules of a mail line.
use Rattle.std.specs.Prelude.{◌≡◌, ◌<◌, ◌≤◌, ◌^◌, ◌⊎◌, [], length, IsTrue}
use Rattle.queue_name.specs.QueueName.{is_name}
use Rattle.queue_name.specs.Address.{is_address, domain_of}
use Rattle.queue_name.specs.declared.message.Message.{Message}
use Rattle.kumo_base.specs.Limits.{latest_moment}
use Rattle.queue_name.specs.Limits.{body_limit}

pub record IsProperMessage (m : Message) : Type 0 where
  pub id : m.id < 2 ^ 128
  pub created : m.created ≤ latest_moment
  pub sender : (m.sender ≡ []) ⊎ IsTrue (is_address m.sender)
  pub recipient : IsTrue (is_address m.recipient)
  pub name : IsTrue (is_name m.name)
  pub domain : m.name.domain ≡ domain_of m.recipient
  pub body : length m.body ≤ body_limit
