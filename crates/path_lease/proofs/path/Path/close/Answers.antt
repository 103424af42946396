use Rattle.std.proofs.Common.{◌≡◌, ◌+◌, Option, Some, is_some, cond, refl, sym, ap, subst, ◌∙◌, nat_eq, ℕ}
use Rattle.indexmap.specs.IndexMap.{get, index_map_len}
use Rattle.path_lease.specs.Standing.{kept_at, StandsFor}
use Rattle.path_lease.specs.Allowed.{IsIdle}
use Rattle.path_lease.proofs.AllowedLemmas.{at_rest_kept}
use Rattle.path_lease.proofs.StandingLemmas.{closed_one, open_by}
use Rattle.path_lease.proofs.path.Path.close.Goals as goal

-- one entry less, where what was taken out was there
less_one : {T : Type 0} (o p : Option T) (w : T) (a b : ℕ) → o ≡ p → p ≡ Some w → a + cond (is_some o) 1 0 ≡ b → a + 1 ≡ b
less_one o p w a b same there len = ap (λ t. a + cond t 1 0) (sym (ap is_some (same ∙ there))) ∙ len

pub returns-clause-stands : goal.returns-clause-stands
returns-clause-stands c = λ rates calls is.
    let stands = subst (λ p. StandsFor p rates calls) (sym c.self.view_is) is in
    let there = at_rest_kept (kept_at c.self.inside.connections.entries c.args.conn) (subst (λ p. IsIdle p c.args.conn) (sym c.self.view_is) c.requires) in
    let e = c.swap_remove-closed.ensures in
    closed_one _ _ rates calls c.args.conn c.args.refused stands (open_by _ rates calls c.args.conn there.0 stands there.1)
    e.updates.0
    (less_one c.swap_remove-closed.result (get nat_eq c.self.inside.connections c.args.conn) there.0 (index_map_len c.swap_remove-closed.new.self) (index_map_len c.self.inside.connections) e.value there.1 e.len)
    refl refl c.refusals_after-self-inside.ensures
