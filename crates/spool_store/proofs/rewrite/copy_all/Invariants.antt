use Rattle.std.proofs.Common.{◌≡◌, ◌≤◌, ◌+◌, ◌++◌, List, All, length, sum_by, IfSome}
use Rattle.kumo_disk.specs.Disk.{area_of}
use Rattle.kumo_disk.specs.Calls.{Ran}
use Rattle.spool_log.specs.Area.{LogRecord}
use Rattle.spool_log.specs.Log.{IsDraft, HasDraft, StaysShut}
use Rattle.spool_index.specs.Places.{compacted_cost}
use Rattle.spool_store.specs.inside.Rewriting.{copies_of, AreWithin}
use Rattle.spool_store.proofs.rewrite.copy_all.Given as goal

-- the records of the messages so far, with those of the messages that are left, are those of all
abbrev pub invariant-loop-place : goal.invariant-loop-place
invariant-loop-place g l = record {
  has : HasDraft l.draft (g.D.Disk.seen l.disk);
  of_area : l.draft.area ≡ l.fn.draft.area;
  of_header : l.draft.header ≡ l.fn.draft.header;
  ends : l.draft.end + sum_by compacted_cost l.walk ≡ l.fn.draft.end + sum_by compacted_cost l.pending;
  ran : Ran l.fn.draft.area StaysShut (g.D.Disk.seen l.fn.disk) (g.D.Disk.seen l.disk);
  room : All (λ p. p.size ≤ length l.payload) l.walk;
  told : IfSome (g.D.Disk.seen l.fn.disk).told (λ read.
      AreWithin (area_of l.area read) l.walk
      × ((rs : List LogRecord) × IsDraft l.draft rs (g.D.Disk.seen l.disk)
      × (rs ++ copies_of (area_of l.area read) l.walk ≡ copies_of (area_of l.area read) l.pending)));
  later : (g.D.Disk.seen l.fn.disk).faults ≤ (g.D.Disk.seen l.disk).faults;
}

abbrev pub decreases-loop-place : goal.decreases-loop-place
decreases-loop-place g l = length l.walk
