use Rattle.std.proofs.Common.{sym, ◌∙◌, subst, ap}
use Rattle.spool_store.specs.Reading.{Nothing, InForce, Faulty, Recovers}
use Rattle.spool_store.specs.Crash.{StandsForRead}
use Rattle.spool_store.specs.Store.{IsOpenFault}
use Rattle.spool_store.specs.declared.open.Choice.{Choice}
use Rattle.spool_store.specs.inside.Opening.{IsEither, force_chosen}
use Rattle.spool_store.proofs.StillLemmas.{still_then, since_reading, since_still, on_disk_still}
use Rattle.spool_store.proofs.OpenLemmas.{wrong_first, wrong_second, stands_for_itself, force_told, told_as, of_disk_open, chosen_of, chosen_found, apart_open}
use Rattle.spool_store.proofs.open.reopen.Goals as goal

pub returns-in-Err-clause-fault : goal.returns-in-Err-clause-fault
returns-in-Err-clause-fault g c = wrong_first c.in-Err.fault (g.D.Disk.seen c.args.disk.now) c.in-Err.ensures.fault

pub returns-in-Err-clause-since : goal.returns-in-Err-clause-since
returns-in-Err-clause-since g c = since_reading StandsForRead (g.D.Disk.seen c.args.disk.now) (g.D.Disk.seen c.header_of.new.disk) stands_for_itself c.requires c.header_of.ensures.still

pub returns-in-Err-header_of-clause-fault : goal.returns-in-Err-header_of-clause-fault
returns-in-Err-header_of-clause-fault g c = wrong_second c.in-Ok.first c.in-Err-header_of.fault (g.D.Disk.seen c.args.disk.now) (g.D.Disk.seen c.header_of.new.disk) c.header_of.ensures.still.same c.in-Ok.ensures.found c.in-Err-header_of.ensures.fault

pub returns-in-Err-header_of-clause-since : goal.returns-in-Err-header_of-clause-since
returns-in-Err-header_of-clause-since g c = since_reading StandsForRead (g.D.Disk.seen c.args.disk.now) (g.D.Disk.seen c.header_of-2.new.disk) stands_for_itself c.requires (still_then (g.D.Disk.seen c.args.disk.now) (g.D.Disk.seen c.header_of.new.disk) (g.D.Disk.seen c.header_of-2.new.disk) c.header_of.ensures.still c.header_of-2.ensures.still)

pub fresh-requires-clause-on_disk : goal.fresh-requires-clause-on_disk
fresh-requires-clause-on_disk g c = on_disk_still (g.D.Disk.seen c.args.disk.now) (g.D.Disk.seen c.header_of-2.new.disk) c.requires (still_then (g.D.Disk.seen c.args.disk.now) (g.D.Disk.seen c.header_of.new.disk) (g.D.Disk.seen c.header_of-2.new.disk) c.header_of.ensures.still c.header_of-2.ensures.still)

pub fresh-requires-clause-blank : goal.fresh-requires-clause-blank
fresh-requires-clause-blank g c = force_told c.in-Ok.first c.in-Ok-header_of.second Nothing (g.D.Disk.seen c.args.disk.now) (g.D.Disk.seen c.header_of.new.disk) (g.D.Disk.seen c.header_of-2.new.disk) c.header_of.ensures.still.same c.header_of-2.ensures.still.same c.in-Ok.ensures.found c.in-Ok-header_of.ensures.found (c.choose.ensures.force ∙ ap (λ (k : Choice). force_chosen k) c.in-Nothing.is)

pub returns-in-Ok-fresh-clause-answer : goal.returns-in-Ok-fresh-clause-answer
returns-in-Ok-fresh-clause-answer g c = told_as (λ read. Recovers read c.in-Ok-fresh.opened.kept.items) (g.D.Disk.seen c.args.disk.now) (g.D.Disk.seen c.header_of-2.new.disk) (c.header_of-2.ensures.still.same ∙ c.header_of.ensures.still.same) c.in-Ok-fresh.ensures.answer

pub returns-in-Ok-fresh-clause-since : goal.returns-in-Ok-fresh-clause-since
returns-in-Ok-fresh-clause-since g c = since_still StandsForRead (g.D.Disk.seen c.args.disk.now) (g.D.Disk.seen c.header_of-2.new.disk) (g.D.Disk.seen c.fresh.new.disk) stands_for_itself c.requires (still_then (g.D.Disk.seen c.args.disk.now) (g.D.Disk.seen c.header_of.new.disk) (g.D.Disk.seen c.header_of-2.new.disk) c.header_of.ensures.still c.header_of-2.ensures.still) c.fresh.ensures.since

pub returns-in-Err-fresh-clause-fault : goal.returns-in-Err-fresh-clause-fault
returns-in-Err-fresh-clause-fault g c = of_disk_open c.in-Err-fresh.fault (g.D.Disk.seen c.args.disk.now) c.in-Err-fresh.ensures.fault

pub returns-in-Err-fresh-clause-since : goal.returns-in-Err-fresh-clause-since
returns-in-Err-fresh-clause-since g c = since_still StandsForRead (g.D.Disk.seen c.args.disk.now) (g.D.Disk.seen c.header_of-2.new.disk) (g.D.Disk.seen c.fresh.new.disk) stands_for_itself c.requires (still_then (g.D.Disk.seen c.args.disk.now) (g.D.Disk.seen c.header_of.new.disk) (g.D.Disk.seen c.header_of-2.new.disk) c.header_of.ensures.still c.header_of-2.ensures.still) c.fresh.ensures.since

pub resume-requires-clause-area : goal.resume-requires-clause-area
resume-requires-clause-area g c = (chosen_of c.in-Ok.first c.in-Ok-header_of.second c.in-Chosen.log c.in-Ok.ensures.area c.in-Ok-header_of.ensures.area (subst (λ (k : Choice). IsEither c.in-Ok.first c.in-Ok-header_of.second k) c.in-Chosen.is c.choose.ensures.either)).0

pub resume-requires-clause-version : goal.resume-requires-clause-version
resume-requires-clause-version g c = (chosen_of c.in-Ok.first c.in-Ok-header_of.second c.in-Chosen.log c.in-Ok.ensures.area c.in-Ok-header_of.ensures.area (subst (λ (k : Choice). IsEither c.in-Ok.first c.in-Ok-header_of.second k) c.in-Chosen.is c.choose.ensures.either)).1

pub resume-requires-clause-on_disk : goal.resume-requires-clause-on_disk
resume-requires-clause-on_disk g c = on_disk_still (g.D.Disk.seen c.args.disk.now) (g.D.Disk.seen c.header_of-2.new.disk) c.requires (still_then (g.D.Disk.seen c.args.disk.now) (g.D.Disk.seen c.header_of.new.disk) (g.D.Disk.seen c.header_of-2.new.disk) c.header_of.ensures.still c.header_of-2.ensures.still)

pub resume-requires-clause-begins : goal.resume-requires-clause-begins
resume-requires-clause-begins g c = chosen_found c.in-Ok.first c.in-Ok-header_of.second c.in-Chosen.log c.in-Ok.ensures.area c.in-Ok-header_of.ensures.area (subst (λ (k : Choice). IsEither c.in-Ok.first c.in-Ok-header_of.second k) c.in-Chosen.is c.choose.ensures.either) (g.D.Disk.seen c.args.disk.now) (g.D.Disk.seen c.header_of.new.disk) (g.D.Disk.seen c.header_of-2.new.disk) c.header_of.ensures.still.same c.header_of-2.ensures.still.same c.in-Ok.ensures.found c.in-Ok-header_of.ensures.found

pub resume-requires-clause-in_force : goal.resume-requires-clause-in_force
resume-requires-clause-in_force g c = force_told c.in-Ok.first c.in-Ok-header_of.second (InForce c.in-Chosen.log.area) (g.D.Disk.seen c.args.disk.now) (g.D.Disk.seen c.header_of.new.disk) (g.D.Disk.seen c.header_of-2.new.disk) c.header_of.ensures.still.same c.header_of-2.ensures.still.same c.in-Ok.ensures.found c.in-Ok-header_of.ensures.found (c.choose.ensures.force ∙ ap (λ (k : Choice). force_chosen k) c.in-Chosen.is)

pub returns-in-Ok-resume-clause-answer : goal.returns-in-Ok-resume-clause-answer
returns-in-Ok-resume-clause-answer g c = told_as (λ read. Recovers read c.in-Ok-resume.opened.kept.items) (g.D.Disk.seen c.args.disk.now) (g.D.Disk.seen c.header_of-2.new.disk) (c.header_of-2.ensures.still.same ∙ c.header_of.ensures.still.same) c.in-Ok-resume.ensures.answer

pub returns-in-Ok-resume-clause-since : goal.returns-in-Ok-resume-clause-since
returns-in-Ok-resume-clause-since g c = since_reading StandsForRead (g.D.Disk.seen c.args.disk.now) (g.D.Disk.seen c.resume.new.disk) stands_for_itself c.requires (still_then (g.D.Disk.seen c.args.disk.now) (g.D.Disk.seen c.header_of-2.new.disk) (g.D.Disk.seen c.resume.new.disk) (still_then (g.D.Disk.seen c.args.disk.now) (g.D.Disk.seen c.header_of.new.disk) (g.D.Disk.seen c.header_of-2.new.disk) c.header_of.ensures.still c.header_of-2.ensures.still) c.resume.ensures.still)

pub returns-in-Ok-resume-clause-content : goal.returns-in-Ok-resume-clause-content
returns-in-Ok-resume-clause-content g c = told_as (λ read. Recovers read c.in-Ok-resume.opened.kept.items) (g.D.Disk.seen c.resume.new.disk) (g.D.Disk.seen c.header_of-2.new.disk) (sym c.resume.ensures.still.same) c.in-Ok-resume.ensures.answer

pub returns-in-Err-resume-clause-fault : goal.returns-in-Err-resume-clause-fault
returns-in-Err-resume-clause-fault g c = told_as (λ read. IsOpenFault read c.in-Err-resume.fault) (g.D.Disk.seen c.args.disk.now) (g.D.Disk.seen c.header_of-2.new.disk) (c.header_of-2.ensures.still.same ∙ c.header_of.ensures.still.same) c.in-Err-resume.ensures.fault

pub returns-in-Err-resume-clause-since : goal.returns-in-Err-resume-clause-since
returns-in-Err-resume-clause-since g c = since_reading StandsForRead (g.D.Disk.seen c.args.disk.now) (g.D.Disk.seen c.resume.new.disk) stands_for_itself c.requires (still_then (g.D.Disk.seen c.args.disk.now) (g.D.Disk.seen c.header_of-2.new.disk) (g.D.Disk.seen c.resume.new.disk) (still_then (g.D.Disk.seen c.args.disk.now) (g.D.Disk.seen c.header_of.new.disk) (g.D.Disk.seen c.header_of-2.new.disk) c.header_of.ensures.still c.header_of-2.ensures.still) c.resume.ensures.still)

pub returns-in-Apart-clause-fault : goal.returns-in-Apart-clause-fault
returns-in-Apart-clause-fault g c = apart_open (g.D.Disk.seen c.args.disk.now) (g.D.Disk.seen c.header_of-2.new.disk) (c.header_of-2.ensures.still.same ∙ c.header_of.ensures.still.same) (force_told c.in-Ok.first c.in-Ok-header_of.second (Faulty 1 8) (g.D.Disk.seen c.args.disk.now) (g.D.Disk.seen c.header_of.new.disk) (g.D.Disk.seen c.header_of-2.new.disk) c.header_of.ensures.still.same c.header_of-2.ensures.still.same c.in-Ok.ensures.found c.in-Ok-header_of.ensures.found (c.choose.ensures.force ∙ ap (λ (k : Choice). force_chosen k) c.in-Apart.is))

pub returns-in-Apart-clause-since : goal.returns-in-Apart-clause-since
returns-in-Apart-clause-since g c = since_reading StandsForRead (g.D.Disk.seen c.args.disk.now) (g.D.Disk.seen c.header_of-2.new.disk) stands_for_itself c.requires (still_then (g.D.Disk.seen c.args.disk.now) (g.D.Disk.seen c.header_of.new.disk) (g.D.Disk.seen c.header_of-2.new.disk) c.header_of.ensures.still c.header_of-2.ensures.still)
