use Rattle.std.proofs.Common.{◌∙◌, sym, subst, ap, arith}
use Rattle.std.proofs.lemmas.Bool.{lt-leb, le-ltb}
use Rattle.path_lease.specs.declared.leave.Leave.TheVariants.{Throttled}
use Rattle.path_lease.specs.Calls.{beginnings_under, open_count, used}
use Rattle.path_lease.specs.Leaves.{is_past}
use Rattle.path_lease.specs.Standing.{StandsFor}
use Rattle.path_lease.proofs.LeaveLemmas.{throttled_by, yes_by}
use Rattle.path_lease.proofs.StandingLemmas.{beginning_at, as_called}
use Rattle.path_lease.proofs.path.Path.may_begin.Goals as goal

pub returns-then-not-admits-clause-exact : goal.returns-then-not-admits-clause-exact
returns-then-not-admits-clause-exact c = λ rates calls is agrees.
    let now = c.args.now.now in
    let stands = subst (λ p. StandsFor p rates calls) (sym c.self.view_is) is in
    let same = as_called _ rates calls c.args.conn c.index-connection.result.now stands c.index-connection.ensures in
    let begun = beginning_at _ rates calls now stands agrees in
    let u = c.next.ensures (beginnings_under calls now.message_key) begun in
    ap Throttled u
    ∙ sym (throttled_by calls c.args.t c.args.conn now
    (sym (ap (λ w. is_past now.idle_timeout w.idle c.args.t) same) ∙ sym c.is_past.ensures ∙ c.if-is_past.false)
    (lt-leb now.deliveries (used calls c.args.conn) (omega (arith, c.if-now-connection.false, ap (λ w. w.beginnings) same)))
    (le-ltb now.connection_limit (open_count calls) (omega (arith, c.if-len-now.false, c.len.ensures.len, stands.count)))
    (sym (c.admits.ensures.exact (beginnings_under calls now.message_key) begun) ∙ c.if-not-admits.true))

pub returns-else-not-admits-clause-exact : goal.returns-else-not-admits-clause-exact
returns-else-not-admits-clause-exact c = λ rates calls is agrees.
    let now = c.args.now.now in
    let stands = subst (λ p. StandsFor p rates calls) (sym c.self.view_is) is in
    let same = as_called _ rates calls c.args.conn c.index-connection.result.now stands c.index-connection.ensures in
    let begun = beginning_at _ rates calls now stands agrees in
    sym (yes_by calls c.args.t c.args.conn now
    (sym (ap (λ w. is_past now.idle_timeout w.idle c.args.t) same) ∙ sym c.is_past.ensures ∙ c.if-is_past.false)
    (lt-leb now.deliveries (used calls c.args.conn) (omega (arith, c.if-now-connection.false, ap (λ w. w.beginnings) same)))
    (le-ltb now.connection_limit (open_count calls) (omega (arith, c.if-len-now.false, c.len.ensures.len, stands.count)))
    (sym (c.admits.ensures.exact (beginnings_under calls now.message_key) begun) ∙ c.if-not-admits.false))
