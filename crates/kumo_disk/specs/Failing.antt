-- Which calls of a disk in memory are made to fail: some by kind and number, and, once a fuse has burnt down, all.
use Rattle.std.specs.Prelude.{◌⊎◌, ℕ, ◌+◌, ◌-◌, ◌≤◌, ◌^◌, min, List, [], ◌∷◌, ◌++◌, Option, Some, None, MatchOption, option_map, Contains}
use Rattle.kumo_disk.specs.declared.schedule.DiskCall.{DiskCall}
use Rattle.kumo_disk.specs.declared.schedule.DiskCall.TheVariants.{Length, Read, WriteAt, Cut, Sync}
use Rattle.kumo_disk.specs.declared.schedule.Made.{Made}
use Rattle.kumo_disk.specs.declared.schedule.Schedule.{Schedule}
use Rattle.kumo_disk.specs.declared.mem_disk.MemDisk.{MemDisk}

-- How many calls of each kind were made so far; the calls that are to fail, by kind and number among those of its kind, from 1;
-- and, where there is a fuse, which call from now on is the first that it makes fail.
pub record Plan : Type 0 where
  pub made : Made
  pub chosen : List (DiskCall × ℕ)
  pub fuse : Option ℕ

abbrev pub plan_by : Schedule → Plan
plan_by schedule = record { made = schedule.made; chosen = schedule.failing.items; fuse = schedule.fuse }

abbrev pub plan_of : MemDisk → Plan
plan_of disk = plan_by disk.schedule

-- no call was made, and none is to fail
abbrev pub no_plan : Plan
no_plan = record { made = record { length = 0; read = 0; write_at = 0; cut = 0; sync = 0 }; chosen = []; fuse = None }

abbrev pub made_of : DiskCall → Made → ℕ
made_of Length made = made.length
made_of Read made = made.read
made_of WriteAt made = made.write_at
made_of Cut made = made.cut
made_of Sync made = made.sync

-- a count that stands still at its type's end
abbrev pub one_more : ℕ → ℕ
one_more n = min (n + 1) (2 ^ 64 - 1)

abbrev pub counted : DiskCall → Made → Made
counted Length made = record made { length = one_more made.length }
counted Read made = record made { read = one_more made.read }
counted WriteAt made = record made { write_at = one_more made.write_at }
counted Cut made = record made { cut = one_more made.cut }
counted Sync made = record made { sync = one_more made.sync }

-- The next call of this kind fails: it is chosen, or the fuse has burnt down.
abbrev pub WillFail : Plan → DiskCall → Type 0
WillFail plan kind = Contains plan.chosen (kind, one_more (made_of kind plan.made)) ⊎ MatchOption plan.fuse ⊥ (λ left. left ≤ 1)

-- the plan after a call of this kind
abbrev pub after_call : DiskCall → Plan → Plan
after_call kind plan = record { made = counted kind plan.made; chosen = plan.chosen; fuse = option_map (λ left. left - 1) plan.fuse }

-- one call more to fail
abbrev pub with_chosen : DiskCall → ℕ → Plan → Plan
with_chosen kind k plan = record plan { chosen = plan.chosen ++ (kind, k) ∷ [] }

abbrev pub sooner : Option ℕ → ℕ → ℕ
sooner None k = k
sooner (Some left) k = min left k

-- with this fuse, or the one that was there where it is sooner
abbrev pub with_fuse : ℕ → Plan → Plan
with_fuse k plan = record plan { fuse = Some (sooner plan.fuse k) }

-- nothing is to fail any more, and the calls made so far count
abbrev pub mended : Plan → Plan
mended plan = record plan { chosen = []; fuse = None }
