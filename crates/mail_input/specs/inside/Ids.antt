-- A set that has the ids of messages.
use Rattle.std.specs.Prelude.{◌≡◌, ℕ, List}
use Rattle.std.specs.Ordering.{nat_cmp}
use Rattle.std.specs.BTreeSet.{BTreeSet, contains}
use Rattle.queue_name.specs.declared.message.Message.{Message}
use Rattle.mail_input.specs.Inputs.{has_id}

abbrev pub HasIds : BTreeSet ℕ → List Message → Type 0
HasIds ids ms = (id : ℕ) → contains nat_cmp ids id ≡ has_id id ms
