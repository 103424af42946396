-- The name that parts make as they stand.
use Rattle.std.specs.Prelude.{option_map}
use Rattle.queue_name.specs.QueueName.{Name}
use Rattle.queue_name.specs.declared.parts.NameParts.{NameParts}

abbrev pub name_of : NameParts → Name
name_of p = record {
  campaign = option_map (λ s. s.now) p.campaign;
  tenant = option_map (λ s. s.now) p.tenant;
  domain = p.domain.now;
}
