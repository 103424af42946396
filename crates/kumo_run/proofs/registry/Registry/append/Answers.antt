use Rattle.std.proofs.Common.{◌≡◌, List, [], ◌∷◌, ◌++◌, ap, subst, sym}
use Rattle.history_core.specs.declared.entry.Entry.{Entry}
use Rattle.history_core.specs.Legal.{IsLegal, MayFollow}
use Rattle.history_core.proofs.LegalLemmas.{IsLegal-push}
use Rattle.kumo_run.specs.PlainPolicy.{plain_policy}
use Rattle.kumo_run.specs.inside.RegistryState.{RegistryState}
use Rattle.kumo_run.proofs.registry.Registry.append.Goals as goal

legal_with : (old new : List Entry) (e : Entry) → IsLegal plain_policy old → MayFollow plain_policy old e → new ≡ old ++ e ∷ []
    → IsLegal plain_policy new
legal_with old new e legal follows is = subst (IsLegal plain_policy) (sym is) (IsLegal-push plain_policy old e legal follows)

pub invariant_of-self : goal.invariant_of-self
invariant_of-self c =
    let same : c.self.inside.entries.items ≡ c.args.self.now.history = ap (λ (r : RegistryState). r.history) c.self.view_is in
    let follows : MayFollow plain_policy c.self.inside.entries.items _ = rw same c.requires.follows in
    legal_with c.self.inside.entries.items _ _ c.self.invariant follows c.push_reserved.ensures.items
