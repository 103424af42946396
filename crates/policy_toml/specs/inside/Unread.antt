-- Why a text gives no document.
use Rattle.std.specs.Prelude.{◌≡◌, Option, None, ⊤}
use Rattle.toml.specs.Data.{Members}
use Rattle.policy_toml.specs.declared.document.Unread.{Unread}
use Rattle.policy_toml.specs.declared.document.Unread.TheVariants.{NotToml, Memory}

abbrev pub IsUnread : Unread → Option Members → Type 0
IsUnread NotToml document = document ≡ None
IsUnread Memory document = ⊤
