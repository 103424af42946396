use Rattle.std.proofs.Common.{List, ℕ, arith, refl, inr, subst}
use Rattle.kumo_disk.specs.Disk.{ReadMoves, Written}
use Rattle.spool_log.specs.declared.head.Header.{Header}
use Rattle.spool_log.proofs.Drafts.{begin_ran, begin_shut, begin_bytes, begin_only}
use Rattle.spool_log.proofs.draft.Draft.begin.Goals as goal

pub returns-in_err-empty-clause-ran : goal.returns-in_err-empty-clause-ran
returns-in_err-empty-clause-ran g c = begin_only c.args.area (g.D.Disk.seen c.args.disk.now) (g.D.Disk.seen c.empty.new.disk) c.empty.ensures.ran

pub returns-in_err-put-clause-ran : goal.returns-in_err-put-clause-ran
returns-in_err-put-clause-ran g c = begin_ran c.args.area (g.D.Disk.seen c.args.disk.now) (g.D.Disk.seen c.empty.new.disk) (g.D.Disk.seen c.put.new.disk)
    c.requires.durable c.requires.short c.in_ok-empty.ensures.written c.in_ok-empty.ensures.durable c.put.ensures.ran c.empty.ensures.ran

pub returns-clause-ran : goal.returns-clause-ran
returns-clause-ran g c = begin_ran c.args.area (g.D.Disk.seen c.args.disk.now) (g.D.Disk.seen c.empty.new.disk) (g.D.Disk.seen c.put.new.disk)
    c.requires.durable c.requires.short c.in_ok-empty.ensures.written c.in_ok-empty.ensures.durable c.put.ensures.ran c.empty.ensures.ran

pub returns-clause-draft : goal.returns-clause-draft
returns-clause-draft g c =
    let h : Header = record { version = 2; generation = c.args.generation } in
    record {
      area = c.requires.area;
      version = inr refl;
      fits = omega arith;
      low = omega arith;
      small = tt;
      ends = refl;
      bytes = begin_bytes c.args.area (g.D.Disk.seen c.args.disk.now) (g.D.Disk.seen c.empty.new.disk) (g.D.Disk.seen c.put.new.disk)
          c.requires.durable c.requires.short c.in_ok-empty.ensures.written c.in_ok-empty.ensures.durable c.put.ensures.ran h
          (subst (λ (l : List ℕ). ReadMoves c.args.area (Written 1 l) (g.D.Disk.seen c.empty.new.disk) (g.D.Disk.seen c.put.new.disk)) c.rest_of_header-rest.ensures c.in_ok-put.ensures.written);
      shut = begin_shut c.args.area (g.D.Disk.seen c.args.disk.now) (g.D.Disk.seen c.empty.new.disk) (g.D.Disk.seen c.put.new.disk)
          c.requires.durable c.requires.short c.in_ok-empty.ensures.written c.in_ok-empty.ensures.durable c.put.ensures.ran;
    }
