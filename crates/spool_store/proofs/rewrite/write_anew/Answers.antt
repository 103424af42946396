use Rattle.std.proofs.Common.{◌≡◌, ◌-◌, ◌<◌, ◌∙◌, ℕ, ap, sym, subst, IfSome}
use Rattle.kumo_disk.specs.Disk.{area_of}
use Rattle.kumo_disk.proofs.Known.{told_after}
use Rattle.spool_log.specs.Area.{Form}
use Rattle.spool_log.specs.Log.{IsReady}
use Rattle.spool_log.specs.declared.draft.Draft.{Draft}
use Rattle.spool_log.specs.declared.log.Log.{Log}
use Rattle.spool_index.specs.Places.{laid_out}
use Rattle.spool_store.specs.Standing.{Stands}
use Rattle.spool_store.proofs.Turning.{other_below, other_apart, other_durable, opened_ran, pieces_within, since_clears, since_anew, stands_turned}
use Rattle.spool_store.proofs.rewrite.write_anew.Goals as goal

pub draft_anew-requires-clause-durable : goal.draft_anew-requires-clause-durable
draft_anew-requires-clause-durable g c =
    let log : Log = c.args.log.now in
    let lt : log.area < 2 = c.requires.stands.ready.area in
    other_durable log c.args.pending.now (g.D.Disk.seen c.args.disk.now) c.requires.stands (1 - log.area) (other_below log.area lt) (other_apart log.area lt)

pub draft_anew-requires-clause-within : goal.draft_anew-requires-clause-within
draft_anew-requires-clause-within g c =
    let log : Log = c.args.log.now in
    let lt : log.area < 2 = c.requires.stands.ready.area in
    pieces_within log c.args.pending.now (g.D.Disk.seen c.args.disk.now) c.requires.stands (1 - log.area) (other_below log.area lt) (other_apart log.area lt)

pub returns-in_err-draft-clause-since : goal.returns-in_err-draft-clause-since
returns-in_err-draft-clause-since g c =
    let log : Log = c.args.log.now in
    let lt : log.area < 2 = c.requires.stands.ready.area in
    since_clears log c.args.pending.now (g.D.Disk.seen c.args.disk.now) c.requires.stands (1 - log.area) (other_below log.area lt) (other_apart log.area lt) (g.D.Disk.seen c.draft_anew.new.disk) c.draft_anew.ensures.ran

pub returns-in_err-log-clause-since : goal.returns-in_err-log-clause-since
returns-in_err-log-clause-since g c = since_anew c.args.log.now c.args.pending.now (g.D.Disk.seen c.args.disk.now) (g.D.Disk.seen c.draft_anew.new.disk) (g.D.Disk.seen c.open.new.disk) c.in_ok-draft.draft _
    c.requires.stands c.in_ok-draft.ensures.made c.in_ok-draft.ensures.has c.in_ok-draft.ensures.draft c.draft_anew.ensures.ran c.open.ensures.ran

pub returns-clause-since : goal.returns-clause-since
returns-clause-since g c = since_anew c.args.log.now c.args.pending.now (g.D.Disk.seen c.args.disk.now) (g.D.Disk.seen c.draft_anew.new.disk) (g.D.Disk.seen c.open.new.disk) c.in_ok-draft.draft _
    c.requires.stands c.in_ok-draft.ensures.made c.in_ok-draft.ensures.has c.in_ok-draft.ensures.draft c.draft_anew.ensures.ran c.open.ensures.ran

pub returns-clause-stands : goal.returns-clause-stands
returns-clause-stands g c =
    let log : Log = c.args.log.now in
    let lt : log.area < 2 = c.requires.stands.ready.area in
    let draft : Draft = c.in_ok-draft.draft in
    let made = c.in_ok-draft.ensures.made in
    let a = g.D.Disk.seen c.args.disk.now in
    let d = g.D.Disk.seen c.draft_anew.new.disk in
    let e = g.D.Disk.seen c.open.new.disk in
    let here : draft.area ≡ 1 - log.area = ap (λ (d : Draft). d.area) made in
    let is : c.in_ok-log.field-0 ≡ record { area = 1 - log.area; header = draft.header; end = draft.end } =
    c.in_ok-log.ensures.log ∙ ap (λ (k : ℕ). record { area = k; header = draft.header; end = draft.end }) here in
    subst (λ (l : Log). Stands l (laid_out 16 c.args.pending.now) e) (sym is)
    (stands_turned log c.args.pending.now a c.requires.stands (1 - log.area) (other_below log.area lt) (other_apart log.area lt) draft d e
    (ap (λ (d : Draft). d.header.version) made) (ap (λ (d : Draft). d.header.generation) made) c.in_ok-draft.ensures.has c.in_ok-draft.ensures.draft
    (opened_ran (1 - log.area) draft a d e here c.draft_anew.ensures.ran c.open.ensures.ran)
    (subst (λ (l : Log). IsReady l e) is c.in_ok-log.ensures.ready)
    (λ rs drafted. subst (λ (k : ℕ). IfSome e.told (λ now. Form draft.header rs draft.end (area_of k now))) here
    (told_after draft.area (λ old new. Form draft.header rs draft.end new) (λ bytes. Form draft.header rs draft.end bytes) d e (λ read told l form. form) (c.in_ok-log.ensures.form rs drafted))))
