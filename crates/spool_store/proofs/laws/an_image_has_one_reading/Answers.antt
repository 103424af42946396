use Rattle.spool_store.proofs.Unique.{reads_same, items_same, broken_same, never_both, recovered_same}
use Rattle.spool_store.proofs.laws.an_image_has_one_reading.Goals as goal

pub returns-clause-one : goal.returns-clause-one
returns-clause-one c = λ image a b one two. reads_same image a b one two

pub returns-clause-sound : goal.returns-clause-sound
returns-clause-sound c = λ image a b one two. items_same image a b one two

pub returns-clause-area : goal.returns-clause-area
returns-clause-area c = λ image m n at to one two. (broken_same image m n at to one two).0

pub returns-clause-offset : goal.returns-clause-offset
returns-clause-offset c = λ image m n at to one two. (broken_same image m n at to one two).1

pub returns-clause-apart : goal.returns-clause-apart
returns-clause-apart c = λ image items n at one two. never_both image items n at one two

pub returns-clause-recovered : goal.returns-clause-recovered
returns-clause-recovered c = λ image a b one two. recovered_same image a b one two
