use Rattle.std.proofs.Common.{◌≡◌, ◌<◌, ◌∙◌, sym, subst, refl, Bool, true, false, ◌&&◌, nat_lt, arith}
use Rattle.std.proofs.lemmas.Bool.{lt-ltb, le-ltb, true≢false}
use Rattle.path_lease.specs.Calls.{openings_under, beginnings_under, open_count}
use Rattle.path_lease.specs.Leaves.{admits_opening, admits_beginning}
use Rattle.path_lease.specs.Standing.{StandsFor}
use Rattle.path_lease.proofs.StandingLemmas.{opening_at, beginning_at}
use Rattle.path_lease.proofs.path.Path.may_open.Goals as goal
use Rattle.path_lease.proofs.path.Path.may_open.Goals.{then-len-now, else-len-now}

last_decides : (a b x : Bool) → a ≡ true → b ≡ true → x ≡ (a && b && x)
last_decides true true x p q = refl
last_decides true false x p q = absurd cc
last_decides false b x p q = absurd cc

second_fails : (a b x : Bool) → b ≡ false → false ≡ (a && b && x)
second_fails true true x q = absurd cc
second_fails true false x q = refl
second_fails false b x q = refl

first_fails : (a b x : Bool) → a ≡ false → false ≡ (a && b && x)
first_fails true b x q = absurd cc
first_fails false b x q = refl

pub returns-then-admits-clause-exact : goal.returns-then-admits-clause-exact
returns-then-admits-clause-exact c = λ rates calls is agrees.
    let now = c.args.now.now in
    let stands = subst (λ p. StandsFor p rates calls) (sym c.self.view_is) is in
    elim c.if-len-now.branch [
      | then-len-now w ↦
          let below : open_count calls < now.connection_limit = omega (arith, w.if-len-now.true, c.len.ensures.len, stands.count) in
          let first = w.admits.ensures.exact (openings_under calls now.connection_key) (opening_at _ rates calls now stands agrees) in
          c.admits-then-admits.ensures.exact (beginnings_under calls now.message_key) (beginning_at _ rates calls now stands agrees)
          ∙ last_decides (nat_lt (open_count calls) now.connection_limit) (admits_opening calls c.args.t now) (admits_beginning calls c.args.t now)
          (lt-ltb (open_count calls) now.connection_limit below) (sym first ∙ sym w.value-is ∙ c.if-admits.true)
      | else-len-now w ↦ absurd (true≢false (sym c.if-admits.true ∙ w.value-is ∙ le-ltb c.len.result now.connection_limit w.if-len-now.false))
    ]

pub returns-else-admits-clause-exact : goal.returns-else-admits-clause-exact
returns-else-admits-clause-exact c = λ rates calls is agrees.
    let now = c.args.now.now in
    let stands = subst (λ p. StandsFor p rates calls) (sym c.self.view_is) is in
    c.if-admits.false ∙ elim c.if-len-now.branch [
      | then-len-now w ↦
          let first = w.admits.ensures.exact (openings_under calls now.connection_key) (opening_at _ rates calls now stands agrees) in
          second_fails (nat_lt (open_count calls) now.connection_limit) (admits_opening calls c.args.t now) (admits_beginning calls c.args.t now)
          (sym first ∙ sym w.value-is ∙ c.if-admits.false)
      | else-len-now w ↦
          first_fails (nat_lt (open_count calls) now.connection_limit) (admits_opening calls c.args.t now) (admits_beginning calls c.args.t now)
          (le-ltb (open_count calls) now.connection_limit (omega (arith, w.if-len-now.false, c.len.ensures.len, stands.count)))
    ]
