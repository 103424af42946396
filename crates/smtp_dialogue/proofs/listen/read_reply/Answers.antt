use Rattle.std.proofs.Common.{◌≡◌, ℕ, List, [], ◌++◌, length, take, refl, subst, ◌∙◌, arith}
use Rattle.std.proofs.lemmas.Result.{err_from_is_err_and}
use Rattle.smtp_reply.specs.Reading.{Feeds}
use Rattle.smtp_dialogue.proofs.Listening.{reading_begins, reading_on, reading_gets, more_left, heard_whole, heard_cut_off, none_left}
use Rattle.smtp_dialogue.proofs.listen.read_reply.Goals as goal

pub loop-left-init : goal.loop-left-init
loop-left-init g c = record { opening = refl; reading = reading_begins _ _ c.restart.ensures }

pub returns-in-Whole-clause-hears : goal.returns-in-Whole-clause-hears
returns-in-Whole-clause-hears g c =
    let i = c.loop-left.invariant.reading in
    let f = subst (λ (piece : List ℕ). Feeds i.so_far piece c.feed-fed.result c.feed-fed.new.self) c.as_slice.ensures (c.feed-fed.ensures.fed i.so_far i.reads) in
    (i.so_far ++ take c.feed-fed.result.used c.loop-left.unread, heard_whole _ i f c.in-Whole.is c.drop_front.ensures, record { reads = f.reads; whole = c.feed-fed.ensures.whole.0 c.in-Whole.is })

pub overflow_sub-left : goal.overflow_sub-left
overflow_sub-left g c =
    let i = c.loop-left.invariant.reading in
    let f = subst (λ (piece : List ℕ). Feeds i.so_far piece c.feed-fed.result c.feed-fed.new.self) c.as_slice.ensures (c.feed-fed.ensures.fed i.so_far i.reads) in
    let m = more_left i f c.in-More.is in omega (arith, m.0, m.1)

pub receive-requires-clause-some : goal.receive-requires-clause-some
receive-requires-clause-some g c =
    let i = c.loop-left.invariant.reading in
    let f = subst (λ (piece : List ℕ). Feeds i.so_far piece c.feed-fed.result c.feed-fed.new.self) c.as_slice.ensures (c.feed-fed.ensures.fed i.so_far i.reads) in
    let m = more_left i f c.in-More.is in omega (arith, m.0, m.1)

pub receive-requires-clause-room : goal.receive-requires-clause-room
receive-requires-clause-room g c =
    let i = c.loop-left.invariant.reading in
    let f = subst (λ (piece : List ℕ). Feeds i.so_far piece c.feed-fed.result c.feed-fed.new.self) c.as_slice.ensures (c.feed-fed.ensures.fed i.so_far i.reads) in
    let m = more_left i f c.in-More.is in
    let n : length c.drop_front.new.self ≡ 0 = none_left _ _ _ c.drop_front.ensures m.0 in
    let total = i.left_is in
    omega (arith, n, total)

pub loop-left-smaller : goal.loop-left-smaller
loop-left-smaller g c =
    let i = c.loop-left.invariant.reading in
    let f = subst (λ (piece : List ℕ). Feeds i.so_far piece c.feed-fed.result c.feed-fed.new.self) c.as_slice.ensures (c.feed-fed.ensures.fed i.so_far i.reads) in
    let m = more_left i f c.in-More.is in
    let came = c.in_ok-receive-in-More.ensures.came in
    omega (arith, m.0, m.1, came)

pub loop-left-preserved : goal.loop-left-preserved
loop-left-preserved g c =
    let i = c.loop-left.invariant.reading in
    let f = subst (λ (piece : List ℕ). Feeds i.so_far piece c.feed-fed.result c.feed-fed.new.self) c.as_slice.ensures (c.feed-fed.ensures.fed i.so_far i.reads) in
    record {
      opening = c.receive.ensures.opening ∙ c.loop-left.invariant.opening;
      reading = reading_gets (reading_on i f c.in-More.is c.drop_front.ensures) c.receive.ensures.gets;
    }

pub returns-in_err-receive-in-More-clause-hears : goal.returns-in_err-receive-in-More-clause-hears
returns-in_err-receive-in-More-clause-hears g c =
    let i = c.loop-left.invariant.reading in
    let f = subst (λ (piece : List ℕ). Feeds i.so_far piece c.feed-fed.result c.feed-fed.new.self) c.as_slice.ensures (c.feed-fed.ensures.fed i.so_far i.reads) in
    let p = err_from_is_err_and c.from_residual.result c.from_residual.ensures.1 in
    let came = c.in_err-receive-in-More.ensures.came in
    rw (p.1, p.2) ([], heard_cut_off c.in_err-receive-in-More.field-0.0 i f c.in-More.is c.receive.ensures.gets came.0 came.1, tt)
