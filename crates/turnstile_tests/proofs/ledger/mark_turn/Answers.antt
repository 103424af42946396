use Rattle.std.proofs.Common.{◌≡◌, arith, refl, ap, ◌∙◌, subst, MatchBool, ◌++◌, ◌∷◌, []}
use Rattle.turnstile.specs.Entries.{own_entries, Follows}
use Rattle.turnstile_tests.specs.inside.Ledgers.{shown_marks}
use Rattle.turnstile.specs.Passes.{view}
use Rattle.turnstile_tests.proofs.Marks.{one_marked}
use Rattle.turnstile_tests.proofs.ledger.mark_turn.Goals as goal

pub leave-requires-clause-follows : goal.leave-requires-clause-follows
leave-requires-clause-follows g c =
    let before = shown_marks c.enter-ledger.result.marks.items in
    (before, c.enter-ledger.ensures.took, subst (λ n. Follows n before (shown_marks c.add-done.new.self.marks.items)) c.number.ensures c.add-done.ensures.follows)

pub returns-clause-own : goal.returns-clause-own
returns-clause-own g c =
    let v = view c.args.pass.now in
    let by : c.number.result ≡ v.number = c.number.ensures ∙ c.enter-ledger.ensures.same.0 in
    let before = c.enter-ledger.result.marks.items in
    let after = c.add-done.new.self.marks.items in
    let added = subst (λ n. MatchBool c.add-done.result (after ≡ before ++ record { by = n; number = c.args.number } ∷ []) (after ≡ before)) by c.add-done.ensures.added in
    ap (λ w. own_entries v.number w.seen.entries) c.leave.ensures.left
    ∙ one_marked c.add-done.result v.number c.args.number before after v.seen.entries added (c.enter-ledger.ensures.own v.number (0, omega arith, refl))
