use Rattle.std.proofs.Common.{sym, ap, ◌∙◌, subst}
use Rattle.turnstile.specs.Views.{known, joined, IsTold, View}
use Rattle.turnstile.proofs.OneView.{has_words}
use Rattle.turnstile.proofs.TurnMoves.{recalls}
use Rattle.turnstile.proofs.Seats.{joins, no_ticket}
use Rattle.turnstile.proofs.stile.Turnstile.meet.Goals as goal

pub join_seat-requires : goal.join_seat-requires
join_seat-requires g c = let mine = c.take_seat-seat.ensures.view in let theirs = c.take_seat.ensures.view in let o = c.args.other in let free = c.requires.idle.1 in (
  c.take_seat-seat.ensures.table ∙ c.requires.table,
  c.take_seat.ensures.table ∙ c.requires.other_table,
  ap (λ m. m.1) theirs,
  (has_words c.args.self.now.sized.0).0,
  joins g.T.Chronicle.shown _ _ _ _ (ap (λ m. m.0.spent) mine ∙ c.args.pass.now.resting.0) (ap (λ m. m.0.spent) theirs ∙ o.resting.0)
      (ap (λ m. m.0.ticket) theirs ∙ no_ticket _ _ o.ticketed free) (ap (λ m. m.0.took) theirs ∙ free) (λ e. c.requires.second (sym (ap (λ m. m.0.number) theirs) ∙ e)),
)

pub look-requires-clause-allowed : goal.look-requires-clause-allowed
look-requires-clause-allowed g c = recalls g.T.Chronicle.shown _ _ _

pub returns : goal.returns
returns g c = let mine = c.take_seat-seat.ensures.view in let theirs = c.take_seat.ensures.view in let told = c.look.ensures.told in
    let is = ap (λ m. m.0) c.join_seat.ensures.2 ∙ λ i. joined (mine i).0 (theirs i).0 in
    let same = ap known c.into_badge.ensures.2 ∙ ap (λ m. m.0) told.0 in
    let knew = told.1 (ap (λ v. v.spent) is ∙ c.args.pass.now.resting.0) in
    let knows = subst (λ (p : View × View). IsTold p.0.left p.1.seen × IsTold p.0.right p.1.seen) (λ i. (is i, sym same i)) (knew.0, knew.1) in record {
      table = c.into_badge.ensures.0 ∙ c.look.ensures.seat.0 ∙ c.join_seat.ensures.0 ∙ c.take_seat-seat.ensures.table;
      joined = same ∙ is;
      prefix = knows.0.0;
      others_prefix = knows.1.0;
      own = knows.0.1;
      others_own = knows.1.1;
    }
