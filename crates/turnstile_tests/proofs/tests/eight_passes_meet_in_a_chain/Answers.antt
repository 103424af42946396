use Rattle.std.proofs.Common.{sym, subst, ◌∙◌}
use Rattle.turnstile.specs.Views.{joined, AllMet}
use Rattle.turnstile_tests.proofs.Chain.{eight_met}
use Rattle.turnstile_tests.proofs.tests.eight_passes_meet_in_a_chain.Goals as goal

pub close-ledger-requires-clause-met : goal.close-ledger-requires-clause-met
close-ledger-requires-clause-met g c =
    let low = c.eight_turns.ensures.one in
    let high = c.eight_turns.ensures.two in
    let first = c.next_pair-sixes.ensures.first in
    let second = c.next_pass-pass1.ensures.alone in
    let twos = c.next_pair-twos.ensures.alone in
    let fours = c.next_pair-fours.ensures.alone in
    let sixes = c.next_pair-sixes.ensures.alone in
    subst (λ v. AllMet v) (sym (c.meet_pair-first.ensures.joined ∙ λ i. joined (c.meet_four-low.ensures.joined i) (c.meet_four-high.ensures.joined i)))
    (eight_met c.eight_turns.new.one c.eight_turns.new.two
    record {
      numbers = (low.0.0.2 ∙ first.1, low.0.1.2 ∙ second.1, low.1.0.2 ∙ twos.0.1, low.1.1.2 ∙ twos.1.1);
      met = (low.0.0.3 ∙ first.2, low.0.1.3 ∙ second.2, low.1.0.3 ∙ twos.0.2, low.1.1.3 ∙ twos.1.2);
    }
    record {
      numbers = (high.0.0.2 ∙ fours.0.1, high.0.1.2 ∙ fours.1.1, high.1.0.2 ∙ sixes.0.1, high.1.1.2 ∙ sixes.1.1);
      met = (high.0.0.3 ∙ fours.0.2, high.0.1.3 ∙ fours.1.2, high.1.0.3 ∙ sixes.0.2, high.1.1.3 ∙ sixes.1.2);
    }
    (low.0.0.4 ∙ c.next_pair-sixes.ensures.given))
