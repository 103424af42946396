-- The fields of a payload as the code borrows them, and the answer about their name.
use Rattle.std.specs.Prelude.{◌≡◌, Bool, false, ⊤}
use Rattle.spool_format.specs.Held.{HeldFields}
use Rattle.spool_format.specs.declared.fault.FormatFault.{FormatFault}
use Rattle.spool_format.specs.declared.fault.FormatFault.TheVariants as fault
use Rattle.spool_format.specs.declared.held.BorrowedFields.{BorrowedFields}

abbrev pub fields_of : BorrowedFields → HeldFields
fields_of f = record {
  id = f.id;
  created = f.created;
  sender = f.sender.now;
  recipient = f.recipient.now;
  campaign = f.campaign.now;
  tenant = f.tenant.now;
  body = f.body.now;
}

-- a refusal other than for memory comes where the fields make no name
abbrev pub IsNoName : FormatFault → Bool → Type 0
IsNoName fault.Malformed named = named ≡ false
IsNoName fault.Memory named = ⊤
