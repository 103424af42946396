use Rattle.std.proofs.Common.{◌≡◌, ap, ◌∙◌, map}
use Rattle.std.specs.Char.{to_ascii_lowercase}
use Rattle.queue_name.specs.Address.{domain_of}
use Rattle.queue_name.proofs.AddressLemmas.{is_name-domain_of}
use Rattle.queue_name.proofs.address.domain_of.Goals as goal

pub returns-clause-names : goal.returns-clause-names
returns-clause-names c h =
    let value : c.of_string.result ≡ domain_of c.args.address.now =
    c.of_string.ensures ∙ c.in_ok-to_ascii_lowercase.ensures.ok ∙ ap (map to_ascii_lowercase) c.behind_at.ensures in
    rw value (is_name-domain_of c.args.address.now h)
