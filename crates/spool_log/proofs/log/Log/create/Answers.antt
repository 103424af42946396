use Rattle.std.proofs.Common.{[], inl, inr, ⊎_elim, subst}
use Rattle.std.specs.Bool.{⊤}
use Rattle.kumo_disk.specs.Calls.{Ran}
use Rattle.kumo_disk.proofs.Runs.{ran_as}
use Rattle.kumo_disk.proofs.Known.{AllLeft, ran_by, left_any}
use Rattle.spool_log.specs.declared.head.Header.{Header}
use Rattle.spool_log.specs.declared.draft.Draft.{Draft}
use Rattle.spool_log.specs.Head.{StartsShut}
use Rattle.spool_log.specs.Log.{BeginsBlank, Opens, Creates}
use Rattle.spool_log.proofs.Forms.{blank_shut}
use Rattle.spool_log.proofs.log.Log.create.Goals as goal

pub returns-in_err-draft-clause-ran : goal.returns-in_err-draft-clause-ran
returns-in_err-draft-clause-ran g c = ran_as c.args.area BeginsBlank (Creates (record { version = 2; generation = c.args.generation })) (g.D.Disk.seen c.args.disk.now) (g.D.Disk.seen c.begin.new.disk)
    (λ x y begins. λ short. inl (begins short)) c.begin.ensures.ran

pub returns-clause-ran : goal.returns-clause-ran
returns-clause-ran g c =
    let h : Header = record { version = 2; generation = c.args.generation } in
    let draft : Draft = c.in_ok-draft.draft in
    ran_by c.args.area (λ bytes. ⊤) StartsShut BeginsBlank (Opens h [] 16) (Creates h) (g.D.Disk.seen c.args.disk.now) (g.D.Disk.seen c.begin.new.disk) (g.D.Disk.seen c.open.new.disk)
    (left_any c.args.area (g.D.Disk.seen c.args.disk.now))
    (subst (λ (d : Draft). AllLeft d.area StartsShut (g.D.Disk.seen c.begin.new.disk)) c.in_ok-draft.ensures.made c.in_ok-draft.ensures.draft.shut)
    (λ x y was begins. λ short. inl (begins short))
    (λ x y z was shut begins opens. λ short. ⊎_elim (λ s. inl (blank_shut z s)) (λ f. inr f) (opens shut))
    c.begin.ensures.ran
    (subst (λ (d : Draft). Ran d.area (Opens d.header [] d.end) (g.D.Disk.seen c.begin.new.disk) (g.D.Disk.seen c.open.new.disk)) c.in_ok-draft.ensures.made (c.open.ensures.ran [] c.in_ok-draft.ensures.draft))
