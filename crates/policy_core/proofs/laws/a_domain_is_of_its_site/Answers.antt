use Rattle.policy_core.proofs.SiteLemmas.{of_its_row, of_its_shape, of_itself}
use Rattle.policy_core.proofs.laws.a_domain_is_of_its_site.Goals as goal

pub returns : goal.returns
returns c = record { row = of_its_row; shape = of_its_shape; host = of_itself }
