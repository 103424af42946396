-- The words of printed lines on policy texts.
use Rattle.std.specs.Prelude.{ℕ, List, codes}
use Rattle.policy_fault.specs.declared.fault.PolicyFile.{PolicyFile}
use Rattle.policy_fault.specs.declared.fault.PolicyFile.TheVariants as file
use Rattle.policy_fault.specs.declared.fault.Why.{Why}
use Rattle.policy_fault.specs.declared.fault.Why.TheVariants as why

abbrev pub name_of_file : PolicyFile → List ℕ
name_of_file file.Sources = codes "sources"
name_of_file file.Queues = codes "queues"
name_of_file file.Shaping = codes "shaping"
name_of_file file.Mx = codes "mx"
name_of_file file.Peers = codes "peers"
name_of_file file.Orders = codes "orders"

abbrev pub name_of_why : Why → List ℕ
name_of_why why.NotToml = codes "NotToml"
name_of_why why.NotText = codes "NotText"
name_of_why why.NotJson = codes "NotJson"
name_of_why why.BadType = codes "BadType"
name_of_why why.BadName = codes "BadName"
name_of_why why.BadWeight = codes "BadWeight"
name_of_why why.UnknownSource = codes "UnknownSource"
name_of_why why.UnknownPool = codes "UnknownPool"
name_of_why why.BadDuration = codes "BadDuration"
name_of_why why.Zero = codes "Zero"
name_of_why why.Twice = codes "Twice"
name_of_why why.BadOption = codes "BadOption"
name_of_why why.BadThrottle = codes "BadThrottle"
name_of_why why.BadPattern = codes "BadPattern"
name_of_why why.BadTrigger = codes "BadTrigger"
name_of_why why.BadAction = codes "BadAction"
name_of_why why.BadMatch = codes "BadMatch"
name_of_why why.NoHost = codes "NoHost"
name_of_why why.Missing = codes "Missing"
name_of_why why.BadKind = codes "BadKind"
name_of_why why.BadValue = codes "BadValue"
name_of_why why.Unsorted = codes "Unsorted"
name_of_why why.TooMany = codes "TooMany"
