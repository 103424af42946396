-- The line that is printed of a refusal.
use Rattle.std.specs.Prelude.{ℕ, List, ◌++◌, codes, decimal}
use Rattle.mail_input.specs.declared.MailWhy.{MailWhy}
use Rattle.mail_input.specs.declared.MailWhy.TheVariants as why
use Rattle.policy_fault.specs.Words.{name_of_file, name_of_why}
use Rattle.policy_fault.specs.declared.fault.PolicyFile.{PolicyFile}
use Rattle.policy_fault.specs.declared.fault.Why.{Why}
use Rattle.kumo_run.specs.declared.refusal.Refusal.{Refusal}
use Rattle.kumo_run.specs.declared.refusal.Refusal.TheVariants as refusal
use Rattle.kumo_run.specs.declared.status.Status.{Status}
use Rattle.kumo_run.specs.declared.status.Status.TheVariants as status

-- what stands behind the number of a refused line: its word
abbrev pub end_of_line : MailWhy → List ℕ
end_of_line why.TooMany = codes ": TooMany\n"
end_of_line why.NotJson = codes ": NotJson\n"
end_of_line why.Missing = codes ": Missing\n"
end_of_line why.BadId = codes ": BadId\n"
end_of_line why.BadMoment = codes ": BadMoment\n"
end_of_line why.BadAddress = codes ": BadAddress\n"
end_of_line why.BadName = codes ": BadName\n"
end_of_line why.TooLong = codes ": TooLong\n"
end_of_line why.Duplicate = codes ": Duplicate\n"

-- the parts of the line of a refused policy text: its file, its table and key, its word
abbrev pub policy_start : PolicyFile → List ℕ
policy_start file = codes "error: policy " ++ (name_of_file file ++ codes " ")

abbrev pub policy_place : List ℕ → List ℕ → List ℕ
policy_place table key = table ++ (codes " " ++ key)

abbrev pub policy_end : Why → List ℕ
policy_end why = codes ": " ++ (name_of_why why ++ codes "\n")

-- the front of the line of a damaged spool
abbrev pub damaged_start : ℕ → List ℕ
damaged_start area = codes "error: spool damaged: area " ++ (decimal area ++ codes " at ")

abbrev pub refusal_line : Refusal → List ℕ
refusal_line refusal.Usage = codes "error: usage\n"
refusal_line (refusal.Policy place) = policy_start place.file ++ (policy_place place.table place.key ++ policy_end place.why)
refusal_line (refusal.Mail line why) = codes "error: mail line " ++ (decimal line ++ end_of_line why)
refusal_line refusal.ReadFault = codes "error: read fault\n"
refusal_line refusal.SearchFault = codes "error: search fault\n"
refusal_line refusal.TextLimit = codes "error: limit text\n"
refusal_line refusal.SpoolFault = codes "error: spool fault\n"
refusal_line (refusal.SpoolDamaged area at) = damaged_start area ++ (decimal at ++ codes "\n")
refusal_line refusal.SpoolLimit = codes "error: limit spool\n"
refusal_line refusal.Memory = codes "error: memory\n"
refusal_line refusal.NotYetWords = codes "error: not yet words\n"
refusal_line refusal.NotYetMail = codes "error: not yet mail\n"
refusal_line refusal.NotYetReply = codes "error: not yet reply\n"

abbrev pub status_of : Refusal → Status
status_of refusal.Usage = status.Usage
status_of (refusal.Policy place) = status.Policy
status_of (refusal.Mail line why) = status.Mail
status_of refusal.ReadFault = status.ReadFault
status_of refusal.SearchFault = status.SearchFault
status_of refusal.TextLimit = status.Limit
status_of refusal.SpoolFault = status.SpoolFault
status_of (refusal.SpoolDamaged area at) = status.SpoolDamaged
status_of refusal.SpoolLimit = status.Limit
status_of refusal.Memory = status.Memory
status_of refusal.NotYetWords = status.NotYet
status_of refusal.NotYetMail = status.NotYet
status_of refusal.NotYetReply = status.NotYet
