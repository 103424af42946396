use Rattle.std.proofs.Common.{◌≡◌, length, arith, ◌+◌, ◌^◌, ◌<◌, sym, ap, ◌∙◌, subst}
use Rattle.turnstile.specs.Views.{known, with_number_given, fresh, is_there}
use Rattle.turnstile.specs.Entries.{own_entries}
use Rattle.turnstile.proofs.OneView.{has_words}
use Rattle.turnstile.proofs.TurnMoves.{recalls}
use Rattle.turnstile.proofs.Seats.{splits}
use Rattle.turnstile.proofs.stile.Turnstile.split.Goals as goal

pub look-requires-clause-allowed : goal.look-requires-clause-allowed
look-requires-clause-allowed g c = recalls g.T.Chronicle.shown _ _ _

pub split_seat-other-requires : goal.split_seat-other-requires
split_seat-other-requires g c = let p = c.args.pass.now in let is = c.look.ensures.told.0 ∙ c.take_seat-seat.ensures.view in (
  c.look.ensures.seat.0 ∙ c.take_seat-seat.ensures.table ∙ c.requires.table,
  (has_words c.args.self.now.sized.0).0,
  splits g.T.Chronicle.shown _ _ (ap (λ m. m.0.number) is ∙ c.requires.first) (ap (λ m. m.0.spent) is ∙ p.resting.0) (subst (λ m. m.0.given + 1 < 2 ^ 32) (sym is) (omega (arith, p.counted, c.if-pass-self.false))),
)

pub invariant_of-pass : goal.invariant_of-pass
invariant_of-pass g c = let p = c.args.pass.now in
    let is : known c.into_badge.result.views ≡ with_number_given (known p.badge.views) = ap known c.into_badge.ensures.2 ∙ ap (λ m. m.0) c.split_seat-other.ensures.2
    ∙ ap (λ m. with_number_given m.0) (c.look.ensures.told.0 ∙ c.take_seat-seat.ensures.view) in record {
      one = ap length c.into_badge.ensures.2;
      numbered = ap (λ v. v.number) is ∙ p.numbered;
      counted = ap (λ v. v.given) is ∙ ap (λ n. n + 1) p.counted;
      resting = (ap (λ v. v.spent) is ∙ p.resting.0, ap (λ v. v.away) is ∙ p.resting.1);
      ticketed = ap (λ v. is_there v.ticket) is ∙ p.ticketed ∙ sym (ap (λ v. is_there v.took) is);
    }

pub invariant_of-result : goal.invariant_of-result
invariant_of-result g c = let v = known c.args.pass.now.badge.views in
    let is : known c.into_badge-2.result.views ≡ fresh v = ap known c.into_badge-2.ensures.2 ∙ ap (λ m. m.0) c.split_seat-other.ensures.4 ∙ ap (λ m. fresh m.0) (c.look.ensures.told.0 ∙ c.take_seat-seat.ensures.view) in record {
      one = ap length c.into_badge-2.ensures.2;
      numbered = ap (λ v. v.number) is ∙ c.args.pass.now.counted;
      counted = ap (λ v. v.given) is;
      resting = (ap (λ v. v.spent) is, ap (λ v. v.away) is);
      ticketed = ap (λ v. is_there v.ticket) is ∙ sym (ap (λ v. is_there v.took) is);
    }

pub returns : goal.returns
returns g c = let p = c.args.pass.now in let was = c.take_seat-seat.ensures.view in
    let now = c.look.ensures.told.0 ∙ was in
    let is : known c.into_badge-2.result.views ≡ fresh (known p.badge.views) = ap known c.into_badge-2.ensures.2 ∙ ap (λ m. m.0) c.split_seat-other.ensures.4 ∙ ap (λ m. fresh m.0) now in
    let table = c.look.ensures.seat.0 ∙ c.take_seat-seat.ensures.table in record {
      table = c.into_badge.ensures.0 ∙ c.split_seat-other.ensures.0 ∙ table;
      seat = omega (arith, p.counted, c.if-pass-self.false);
      no_seat = tt;
      gave = ap known c.into_badge.ensures.2 ∙ ap (λ m. m.0) c.split_seat-other.ensures.2 ∙ ap (λ m. with_number_given m.0) now;
      fresh = (c.into_badge-2.ensures.0 ∙ c.split_seat-other.ensures.3 ∙ table, is);
      no_own = ap (λ v. own_entries v.number v.seen.entries) is ∙ sym (ap (λ m. own_entries m.0.given m.0.seen.entries) was)
          ∙ (c.look.ensures.told.1 (ap (λ m. m.0.spent) was ∙ p.resting.0)).2 (ap (λ m. m.0.number) was ∙ c.requires.first);
      same = tt;
    }
