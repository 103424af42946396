use Rattle.std.proofs.Common.{◌≡◌, ◌∷◌, ◌++◌, [], List, ℕ, arith, subst, ap, take, drop, length, IfSome}
use Rattle.kumo_disk.specs.Disk.{area_of}
use Rattle.kumo_disk.specs.Calls.{Ran}
use Rattle.kumo_disk.proofs.Runs.{at_some, if_some}
use Rattle.spool_log.specs.Area.{LogRecord}
use Rattle.spool_log.specs.Log.{IsDraft, HasDraft, StaysShut}
use Rattle.spool_log.specs.declared.draft.Draft.{Draft}
use Rattle.spool_store.specs.inside.Rewriting.{deferral_of, copy_of}
use Rattle.spool_store.proofs.Copying.{on_ok, ran_other, same_shut, shut_then, draft_stays, one_copied}
use Rattle.spool_store.proofs.rewrite.copy_one.Goals as goal

pub returns-in_err-read_piece-clause-ran : goal.returns-in_err-read_piece-clause-ran
returns-in_err-read_piece-clause-ran g c =
    let draft : Draft = c.args.draft.now in
    let a = g.D.Disk.seen c.args.disk.now in
    let b = g.D.Disk.seen c.read_piece.new.disk in
    same_shut draft.area a b (ran_other c.args.area draft.area a b c.read_piece.ensures.same c.read_piece.ensures.ran)

pub push-requires-clause-draft : goal.push-requires-clause-draft
push-requires-clause-draft g c =
    let draft : Draft = c.args.draft.now in
    let a = g.D.Disk.seen c.args.disk.now in
    let b = g.D.Disk.seen c.read_piece.new.disk in
    (c.requires.draft.0, draft_stays draft c.requires.draft.0 a b c.read_piece.ensures.same (ran_other c.args.area draft.area a b c.read_piece.ensures.same c.read_piece.ensures.ran) c.requires.draft.1)

pub returns-in_err-push-clause-ran : goal.returns-in_err-push-clause-ran
returns-in_err-push-clause-ran g c =
    let draft : Draft = c.args.draft.now in
    let a = g.D.Disk.seen c.args.disk.now in
    let b = g.D.Disk.seen c.read_piece.new.disk in
    shut_then draft.area a b (g.D.Disk.seen c.push.new.disk) (same_shut draft.area a b (ran_other c.args.area draft.area a b c.read_piece.ensures.same c.read_piece.ensures.ran)) c.push.ensures.ran

pub push_deferral-requires : goal.push_deferral-requires
push_deferral-requires g c =
    let draft : Draft = c.args.draft.now in
    let a = g.D.Disk.seen c.args.disk.now in
    let b = g.D.Disk.seen c.read_piece.new.disk in
    (_, c.in_ok-push.ensures.draft c.requires.draft.0 (draft_stays draft c.requires.draft.0 a b c.read_piece.ensures.same (ran_other c.args.area draft.area a b c.read_piece.ensures.same c.read_piece.ensures.ran) c.requires.draft.1))

pub returns-clause-ran : goal.returns-clause-ran
returns-clause-ran g c =
    let draft : Draft = c.args.draft.now in
    let a = g.D.Disk.seen c.args.disk.now in
    let b = g.D.Disk.seen c.read_piece.new.disk in
    let m = g.D.Disk.seen c.push.new.disk in
    let e = g.D.Disk.seen c.push_deferral.new.disk in
    let same : c.push.new.self.area ≡ draft.area = ap (λ (d : Draft). d.area) c.in_ok-push.ensures.next in
    shut_then draft.area a b e (same_shut draft.area a b (ran_other c.args.area draft.area a b c.read_piece.ensures.same c.read_piece.ensures.ran))
    (shut_then draft.area b m e c.push.ensures.ran (subst (λ (k : ℕ). Ran k StaysShut m e) same c.push_deferral.ensures.ran))

pub returns-clause-draft : goal.returns-clause-draft
returns-clause-draft g c = λ rs is.
    let draft : Draft = c.args.draft.now in
    let piece : List ℕ = c.read_piece.new.piece in
    let a = g.D.Disk.seen c.args.disk.now in
    let b = g.D.Disk.seen c.read_piece.new.disk in
    let e = g.D.Disk.seen c.push_deferral.new.disk in
    let pushed = c.in_ok-push.ensures.draft rs (draft_stays draft rs a b c.read_piece.ensures.same (ran_other c.args.area draft.area a b c.read_piece.ensures.same c.read_piece.ensures.ran) is) in
    let all : List LogRecord = (rs ++ (record { kind = 1; payload = piece }) ∷ []) ++ deferral_of c.args.place in
    on_ok (IsDraft c.push_deferral.new.draft all e) (IfSome a.told (λ read. IsDraft c.push_deferral.new.draft (rs ++ copy_of (area_of c.args.area read) c.args.place) e)) c.push_deferral.result
    (λ made. if_some (λ read. IsDraft c.push_deferral.new.draft (rs ++ copy_of (area_of c.args.area read) c.args.place) e) a.told (λ read told.
    subst (λ (l : List LogRecord). IsDraft c.push_deferral.new.draft l e)
    (one_copied (area_of c.args.area read) c.args.place piece rs
    (at_some (λ read. piece ≡ take (length piece) (drop c.args.place.at (area_of c.args.area read))) a.told read told c.in_ok-read_piece.ensures.bytes) (omega arith))
    made))
    (c.push_deferral.ensures.draft (rs ++ (record { kind = 1; payload = piece }) ∷ []) pushed)

pub returns-clause-has : goal.returns-clause-has
returns-clause-has g c =
    let draft : Draft = c.args.draft.now in
    let piece : List ℕ = c.read_piece.new.piece in
    let a = g.D.Disk.seen c.args.disk.now in
    let b = g.D.Disk.seen c.read_piece.new.disk in
    let e = g.D.Disk.seen c.push_deferral.new.disk in
    let rs : List LogRecord = c.requires.draft.0 in
    let pushed = c.in_ok-push.ensures.draft rs (draft_stays draft rs a b c.read_piece.ensures.same (ran_other c.args.area draft.area a b c.read_piece.ensures.same c.read_piece.ensures.ran) c.requires.draft.1) in
    let all : List LogRecord = (rs ++ (record { kind = 1; payload = piece }) ∷ []) ++ deferral_of c.args.place in
    on_ok (IsDraft c.push_deferral.new.draft all e) (HasDraft c.push_deferral.new.draft e) c.push_deferral.result (λ made. (all, made))
    (c.push_deferral.ensures.draft (rs ++ (record { kind = 1; payload = piece }) ∷ []) pushed)
