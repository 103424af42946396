use Rattle.std.proofs.Common.{◌≡◌, ◌<◌, ◌+◌, ◌^◌, ℕ, IfSome, arith, sym, ◌∙◌, subst, ap}
use Rattle.kumo_disk.specs.Disk.{area_of}
use Rattle.spool_log.specs.declared.log.Log.{Log}
use Rattle.spool_store.specs.inside.Replay.{Seen, IsReplayed, BreaksAt}
use Rattle.spool_store.proofs.StillLemmas.{still_then, cause_later}
use Rattle.spool_store.proofs.ReplayLemmas.{seen_told, told_same, replaying_begins, replaying_next, at_next, at_end, match_some, match_none}
use Rattle.spool_store.proofs.replay.replay.Goals as goal

pub records-init : goal.records-init
records-init g c = replaying_begins c.args.log c.new-pending.result (g.D.Disk.seen c.args.disk.now) c.new-pending.ensures c.requires.version (omega arith) c.requires.begins

pub step-requires-clause-area : goal.step-requires-clause-area
step-requires-clause-area g c = omega (arith, c.requires.area, ap (λ (k : Log). k.area) c.records.invariant.same)

pub step-requires-clause-low : goal.step-requires-clause-low
step-requires-clause-low g c = c.records.invariant.low

pub step-requires-clause-seen : goal.step-requires-clause-seen
step-requires-clause-seen g c = seen_told c.args.log c.records.here c.records.at c.records.pending (g.D.Disk.seen c.args.disk.now) (g.D.Disk.seen c.records.disk) c.records.invariant

pub returns-in-Err-clause-fault : goal.returns-in-Err-clause-fault
returns-in-Err-clause-fault g c = told_same (λ log read. BreaksAt log.area (area_of log.area read) c.in-Err.fault) c.args.log c.records.here c.records.at c.records.pending
    (g.D.Disk.seen c.args.disk.now) (g.D.Disk.seen c.records.disk) c.records.invariant c.in-Err.ensures.fault

pub returns-in-Err-clause-still : goal.returns-in-Err-clause-still
returns-in-Err-clause-still g c = still_then (g.D.Disk.seen c.args.disk.now) (g.D.Disk.seen c.records.disk) (g.D.Disk.seen c.step.new.disk) c.records.invariant.still c.step.ensures.still

pub returns-in-Err-clause-cause : goal.returns-in-Err-clause-cause
returns-in-Err-clause-cause g c = record { later = omega (arith, c.records.invariant.later, c.step.ensures.cause.later); failed = cause_later (g.D.Disk.seen c.args.disk.now).faults (g.D.Disk.seen c.records.disk).faults (g.D.Disk.seen c.step.new.disk).faults c.in-Err.fault c.records.invariant.later c.step.ensures.cause.later c.in-Err.ensures.cause.failed }

pub records-smaller : goal.records-smaller
records-smaller g c =
    let on = match_some _ (λ next. (c.step.new.log ≡ c.records.here) × (c.records.at < next) × (next + 1 < 2 ^ 63)) c.in-Ok-Some.field-0 c.in-Ok-Some.next c.in-Ok-Some.field-0-is c.in-Ok-Some.ensures.log in
    omega (arith, on.1, on.2)

pub records-preserved : goal.records-preserved
records-preserved g c =
    let on = match_some _ (λ next. (c.step.new.log ≡ c.records.here) × (c.records.at < next) × (next + 1 < 2 ^ 63)) c.in-Ok-Some.field-0 c.in-Ok-Some.next c.in-Ok-Some.field-0-is c.in-Ok-Some.ensures.log in
    replaying_next c.args.log c.records.here c.step.new.log c.records.at c.in-Ok-Some.next c.records.pending c.step.new.pending (g.D.Disk.seen c.args.disk.now) (g.D.Disk.seen c.records.disk) (g.D.Disk.seen c.step.new.disk)
    c.records.invariant on.0 on.2 c.step.ensures.cause.later c.step.ensures.still
    (at_next (λ next read. Seen c.records.here.header next c.step.new.pending (area_of c.records.here.area read)) (g.D.Disk.seen c.records.disk).told c.in-Ok-Some.field-0 c.in-Ok-Some.next c.in-Ok-Some.field-0-is c.in-Ok-Some.ensures.next)

pub returns-in-Ok-None-clause-replayed : goal.returns-in-Ok-None-clause-replayed
returns-in-Ok-None-clause-replayed g c =
    let is = match_none (c.step.new.log ≡ record { area = c.records.here.area; header = c.records.here.header; end = c.records.at }) _ c.in-Ok-None.field-0 c.in-Ok-None.field-0-is c.in-Ok-None.ensures.log in
    subst (λ (k : ℕ). IfSome (g.D.Disk.seen c.args.disk.now).told (λ read. IsReplayed c.args.log.header k c.step.new.pending (area_of c.args.log.area read))) (sym (ap (λ (k : Log). k.end) is))
    (told_same (λ log read. IsReplayed log.header c.records.at c.step.new.pending (area_of log.area read)) c.args.log c.records.here c.records.at c.records.pending
    (g.D.Disk.seen c.args.disk.now) (g.D.Disk.seen c.records.disk) c.records.invariant
    (at_end (λ read. IsReplayed c.records.here.header c.records.at c.step.new.pending (area_of c.records.here.area read)) (g.D.Disk.seen c.records.disk).told c.in-Ok-None.field-0 c.in-Ok-None.field-0-is c.in-Ok-None.ensures.end))

pub returns-in-Ok-None-clause-log : goal.returns-in-Ok-None-clause-log
returns-in-Ok-None-clause-log g c =
    let is = match_none (c.step.new.log ≡ record { area = c.records.here.area; header = c.records.here.header; end = c.records.at }) _ c.in-Ok-None.field-0 c.in-Ok-None.field-0-is c.in-Ok-None.ensures.log in (
      ap (λ (k : Log). k.area) is ∙ ap (λ (k : Log). k.area) c.records.invariant.same,
      ap (λ (k : Log). k.header) is ∙ ap (λ (k : Log). k.header) c.records.invariant.same,
      omega (arith, ap (λ (k : Log). k.end) is, c.records.invariant.low),
    )

pub returns-in-Ok-None-clause-still : goal.returns-in-Ok-None-clause-still
returns-in-Ok-None-clause-still g c = still_then (g.D.Disk.seen c.args.disk.now) (g.D.Disk.seen c.records.disk) (g.D.Disk.seen c.step.new.disk) c.records.invariant.still c.step.ensures.still

pub returns-in-Ok-None-clause-cause : goal.returns-in-Ok-None-clause-cause
returns-in-Ok-None-clause-cause g c = record { later = omega (arith, c.records.invariant.later, c.step.ensures.cause.later); failed = tt }
