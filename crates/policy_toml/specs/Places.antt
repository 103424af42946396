-- The places of faults in a TOML file. Where a file has several faults, the first by place is reported: by the keys of its
-- table joined by `.`, then, for tables in a list, by their place there, then by its key, then, in a value that is a list,
-- by the place there, then by the order of the refusals.
use Rattle.std.specs.Prelude.{ℕ, ◌==◌, List, [], ◌∷◌, ◌++◌, length, decimal, codes, Option, Some, None, if◌then◌else◌}
use Rattle.std.specs.declared.cmp.Ordering.{Ordering}
use Rattle.std.specs.Ordering.{nat_cmp, ordering_then, is_lt}
use Rattle.std.specs.Cmp.Lexicographic.{slice_cmp}
use Rattle.policy_fault.specs.declared.fault.PolicyFile.{PolicyFile}
use Rattle.policy_fault.specs.declared.fault.Ignored.{Ignored}
use Rattle.policy_fault.specs.declared.fault.Why.{Why}
use Rattle.policy_fault.specs.contracts.fault.WhyOrd.TheImpl.{cmp-value}
use Rattle.policy_toml.specs.declared.fault.Fault.{Fault}

-- a fault in a table of a list, and at an item of a value that is a list. Both are counted from 1; 0 says that there is none
abbrev pub fault_in : List ℕ → ℕ → List ℕ → ℕ → Why → Fault
fault_in table number key item why = record { table = table; number = number; key = key; item = item; why = why }

abbrev pub fault : List ℕ → List ℕ → Why → Fault
fault table key why = fault_in table 0 key 0 why

-- the key of a fault of a table as a whole, and the name of the top level
abbrev pub whole_table : List ℕ
whole_table = codes "-"

-- the order of the refusals that one place may meet is that of the variants of Why
abbrev pub why_cmp : Why → Why → Ordering
why_cmp = cmp-value.it

abbrev pub fault_cmp : Fault → Fault → Ordering
fault_cmp a b =
    ordering_then (slice_cmp nat_cmp a.table b.table)
    (ordering_then (nat_cmp a.number b.number)
    (ordering_then (slice_cmp nat_cmp a.key b.key)
    (ordering_then (nat_cmp a.item b.item) (why_cmp a.why b.why))))

-- the fault that comes first, of one that may be there and another
abbrev pub earlier : Option Fault → Fault → Fault
earlier None f = f
earlier (Some best) f = if is_lt (fault_cmp f best) then f else best

-- the first by place of the faults met before and of these
abbrev pub first_of : Option Fault → List Fault → Option Fault
first_of best [] = best
first_of best (f ∷ faults) = first_of (Some (earlier best f)) faults

-- the name of a table where it is reported, which is `-` for the top level
abbrev pub name_of_table : List ℕ → List ℕ
name_of_table table = if length table == 0 then whole_table else table

-- the name of a table in a list, with its number there
abbrev pub numbered : List ℕ → ℕ → List ℕ
numbered table number = table ++ 46 ∷ decimal number

abbrev pub name_in_report : List ℕ → ℕ → List ℕ
name_in_report table number = if number == 0 then name_of_table table else numbered table number

-- where a key without effect stands
abbrev pub ignored_at : PolicyFile → List ℕ → List ℕ → Ignored
ignored_at file table key = record { file = file; table = name_of_table table; key = key }
