use Rattle.std.proofs.Common.{◌≡◌, ◌<◌, ℕ, Bool, Some, None, length, nat_eq, ap, sym, ◌∙◌, subst}
use Rattle.indexmap.specs.IndexMap.{get, index_map_len}
use Rattle.ready_queue.specs.Queue.{AllFit}
use Rattle.ready_queue.specs.Links.{walked}
use Rattle.ready_queue.proofs.QueueLemmas.{free_by_test}
use Rattle.ready_queue.proofs.WalkLemmas.{Reached, next_reached, fewer_left, found_free, none_free}
use Rattle.ready_queue.proofs.queue.Ready.first_free.Goals as goal

pub returns-then-not-held-clause-first : goal.returns-then-not-held-clause-first
returns-then-not-held-clause-first g c test answered =
    let Answers = λ (n : ℕ) (answer : Bool). g.F.Fn.post c.args.held.now (n, tt) answer in
    let links = c.self.inside.links in
    let ns = c.args.self.now.numbers in
    let n = c.in-Some.number in
    let fits = subst AllFit (ap (λ v. v.numbers) c.self.view_is) c.self.invariant.fits in
    let here = subst (Reached Answers (get nat_eq links) (index_map_len links) ns) c.in-Some.is c.loop-next.invariant in
    let free = subst (λ answer. Answers n answer) c.if-not-held.true c.held.ensures in
    free_by_test Answers test ns (Some n) fits answered (found_free Answers (get nat_eq links) (index_map_len links) ns n here free)

pub returns-clause-first : goal.returns-clause-first
returns-clause-first g c test answered =
    let Answers = λ (n : ℕ) (answer : Bool). g.F.Fn.post c.args.held.now (n, tt) answer in
    let links = c.self.inside.links in
    let ns = c.args.self.now.numbers in
    let fits = subst AllFit (ap (λ v. v.numbers) c.self.view_is) c.self.invariant.fits in
    let here = subst (Reached Answers (get nat_eq links) (index_map_len links) ns) c.in_default.is c.loop-next.invariant in
    free_by_test Answers test ns None fits answered (none_free Answers (get nat_eq links) (index_map_len links) ns here)

pub loop-next-smaller : goal.loop-next-smaller
loop-next-smaller g c =
    let Answers = λ (n : ℕ) (answer : Bool). g.F.Fn.post c.args.held.now (n, tt) answer in
    let links = c.self.inside.links in
    let ns = c.args.self.now.numbers in
    let link = c.in_ok-next.field-0.now in
    let counts = c.self.invariant.counts ∙ ap length (ap (λ v. v.numbers) c.self.view_is) in
    let own : get nat_eq links c.in-Some.number ≡ Some link = sym {a = Some link} c.in_ok-next.ensures.value in
    let here = subst (Reached Answers (get nat_eq links) (index_map_len links) ns) c.in-Some.is c.loop-next.invariant in
    subst (λ next. length (walked (get nat_eq links) (index_map_len links) link.next) < length (walked (get nat_eq links) (index_map_len links) next))
    (sym c.in-Some.is)
    (fewer_left Answers (get nat_eq links) (index_map_len links) ns counts c.in-Some.number link own here)

pub loop-next-preserved : goal.loop-next-preserved
loop-next-preserved g c =
    let Answers = λ (n : ℕ) (answer : Bool). g.F.Fn.post c.args.held.now (n, tt) answer in
    let links = c.self.inside.links in
    let ns = c.args.self.now.numbers in
    let link = c.in_ok-next.field-0.now in
    let counts = c.self.invariant.counts ∙ ap length (ap (λ v. v.numbers) c.self.view_is) in
    let own : get nat_eq links c.in-Some.number ≡ Some link = sym {a = Some link} c.in_ok-next.ensures.value in
    let here = subst (Reached Answers (get nat_eq links) (index_map_len links) ns) c.in-Some.is c.loop-next.invariant in
    let held = subst (λ answer. Answers c.in-Some.number answer) c.if-not-held.false c.held.ensures in
    next_reached Answers (get nat_eq links) (index_map_len links) ns counts c.in-Some.number link own here held
