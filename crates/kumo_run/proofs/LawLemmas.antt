-- What follows of how a command ends.
use Rattle.std.proofs.Common.{◌≡◌, ℕ, ◌≤◌, ◌<◌, List, [], ◌∷◌, length, All, Option, Some, IfSome, false, refl, sym, ◌∙◌, subst, inl, inr, arith}
use Rattle.std.proofs.lemmas.Bool.{false≢true}
use Rattle.kumo_outside.specs.declared.session.Session.{Session}
use Rattle.queue_name.specs.declared.message.Message.{Message}
use Rattle.history_core.specs.declared.entry.Entry.{Entry}
use Rattle.mail_input.specs.Inputs.{Mail, messages, refused as refused_mail}
use Rattle.command_words.specs.Commands.{Command}
use Rattle.policy_texts.specs.Texts.{too_long}
use Rattle.kumo_run.specs.declared.refusal.Refusal.{Refusal}
use Rattle.kumo_run.specs.declared.refusal.Refusal.TheVariants as refusal
use Rattle.kumo_run.specs.RefusalLine.{status_of}
use Rattle.kumo_run.specs.StatusCode.{status_number}
use Rattle.kumo_run.specs.Outside.{Outside}
use Rattle.kumo_run.specs.MailRead.{MailRead, too_long as too_long_mail, mail_gives, mail_read, has_later, IsTooMuch, IsNotYetSent}
use Rattle.kumo_run.specs.Ending.{Ending, done, unwritten, unfinished, refused, status_code_of, Printed}
use Rattle.kumo_run.specs.Deeds.{Deed, MailSays}
use Rattle.kumo_run.specs.Causes.{Inputs, no_command, unbuilt, policy, mail, areas, inputs_of, Cause}
use Rattle.kumo_run.specs.Ends.{Did, EndsCommand}
use Rattle.kumo_disk.specs.Disk.{Image}
use Rattle.spool_format.specs.declared.kept.Kept.{Kept}
use Rattle.spool_store.specs.Reading.{Reads, Sound, Broken, Recovers}
use Rattle.spool_store.specs.Store.{live_size_of}
use Rattle.spool_store.specs.declared.limits.TheConstants.{AREA_LIMIT}
use Rattle.spool_store.proofs.Unique.{reads_same, kept_same}
use Rattle.kumo_run.specs.Spool.{IsDamagedAt, NeedsTooMuch, IsGoodSpool}
use Rattle.kumo_run.specs.Good.{IsGood, IsCalm, EndsWell}

-- what is said of a told text
said_of : (told : Option (List ℕ)) (text : List ℕ) (P : MailRead → Type 0) → told ≡ Some text → MailSays told P → P (mail_read text)
said_of told text P e h = subst (λ (t : Option (List ℕ)). MailSays t P) e h

other_mail : (found : MailRead) (x y : Mail) → found ≡ mail_gives x → found ≡ mail_gives y → x ≡ y
other_mail found x y e h = cc

same_messages : (x y : List Message) → messages x ≡ messages y → x ≡ y
same_messages x y e = cc

none_later : (list : List Message) → length list ≤ 1 → All (λ m. m.created ≡ 0) list → has_later list ≡ false
none_later [] few due = refl
none_later (m ∷ []) few due = let at_0 : m.created ≡ 0 = due 0 m (omega arith) in rw at_0 refl
none_later (m ∷ n ∷ more) few due = absurd (omega (arith, few))

not_too_much : (list : List Message) → length list ≤ 1 → All (λ m. m.created ≡ 0) list → IsTooMuch list → ⊥
not_too_much list few due too_much =
    elim too_much [ inl many ↦ omega (arith, many, few) | inr later ↦ false≢true (sym (none_later list few due) ∙ later) ]

sent_so_far : (list : List Message) (found : MailRead) → found ≡ mail_gives (messages list) → length list ≤ 1 → All (λ m. m.created ≡ 0) list
    → IsNotYetSent found → ⊥
sent_so_far list found gives few due unsent =
    let same : unsent.mail ≡ list = same_messages unsent.mail list (other_mail found _ _ unsent.read gives) in
    not_too_much list few due (subst IsTooMuch same unsent.too_much)

-- what is said of what a disk tells
read_of : (told : Option Image) (read : Image) (P : Image → Type 0) → told ≡ Some read → IfSome told P → P read
read_of told read P e h = subst (λ (t : Option Image). IfSome t P) e h

sound_is_undamaged : (told : Option Image) → IsGoodSpool told → (area at : ℕ) → IsDamagedAt told area at → ⊥
sound_is_undamaged told good area at damaged =
    let broken = read_of told good.read (λ read. Reads read (Broken area at)) good.told_is damaged in
    let clash = reads_same good.read (Sound good.pending.items) (Broken area at) good.pending.reads broken in
    absurd cc

good_fits : (told : Option Image) → IsGoodSpool told → NeedsTooMuch told → ⊥
good_fits told good more =
    let found = read_of told good.read (λ read. (kept : List Kept) × Recovers read kept × (AREA_LIMIT < live_size_of kept)) good.told_is more in
    let one : found.0 ≡ good.kept = kept_same good.read good.pending.items found.0 good.pending.reads found.1 ∙ sym good.pending.same in
    let over : AREA_LIMIT < live_size_of good.kept = subst (λ (kept : List Kept). AREA_LIMIT < live_size_of kept) one found.2 in
    omega (arith, over, good.fits)

module _ (b a : Outside) (calm : IsCalm b a) where
  refused_well : (i : Inputs) (d : Deed) (why : Refusal) → IsGood i b → Cause i b a d why → EndsWell i b (status_number (status_of why)) d.sessions
  refused_well no_command d why good cause = absurd good
  refused_well unbuilt d why good cause = absurd good
  refused_well (policy names) d refusal.Usage good cause = absurd cc
  refused_well (policy names) d (refusal.Policy place) good cause = absurd (good _ cause)
  refused_well (policy names) d (refusal.Mail line why) good cause = absurd cause
  refused_well (policy names) d refusal.ReadFault good cause = absurd (calm.texts cause.1)
  refused_well (policy names) d refusal.SearchFault good cause = absurd (calm.search cause.1)
  refused_well (policy names) d refusal.TextLimit good cause = absurd (good too_long cause)
  refused_well (policy names) d refusal.SpoolFault good cause = absurd cause.0
  refused_well (policy names) d (refusal.SpoolDamaged area at) good cause = absurd cause
  refused_well (policy names) d refusal.SpoolLimit good cause = absurd cause
  refused_well (policy names) d refusal.Memory good cause = inr (inl refl)
  refused_well (policy names) d refusal.NotYetWords good cause = absurd cc
  refused_well (policy names) d refusal.NotYetMail good cause = absurd cause
  refused_well (policy names) d refusal.NotYetReply good cause = absurd cause
  refused_well (mail name) d refusal.Usage good cause = absurd cc
  refused_well (mail name) d (refusal.Policy place) good cause = absurd cause
  refused_well (mail name) d (refusal.Mail line why) good cause =
      let says : mail_read good.text ≡ mail_gives (refused_mail line why)
      = said_of (b.texts.told name) good.text (λ found. found ≡ mail_gives (refused_mail line why)) good.told_is cause in
      let gives = good.gives in
      absurd cc
  refused_well (mail name) d refusal.ReadFault good cause = absurd (calm.texts cause.1)
  refused_well (mail name) d refusal.SearchFault good cause = absurd cause.0
  refused_well (mail name) d refusal.TextLimit good cause =
      let says : mail_read good.text ≡ too_long_mail
      = said_of (b.texts.told name) good.text (λ found. found ≡ too_long_mail) good.told_is cause in
      let gives = good.gives in
      absurd cc
  refused_well (mail name) d refusal.SpoolFault good cause = absurd cause.0
  refused_well (mail name) d (refusal.SpoolDamaged area at) good cause = absurd cause
  refused_well (mail name) d refusal.SpoolLimit good cause = absurd cause
  refused_well (mail name) d refusal.Memory good cause = inr (inl refl)
  refused_well (mail name) d refusal.NotYetWords good cause = absurd cc
  refused_well (mail name) d refusal.NotYetMail good cause =
      absurd (sent_so_far good.list (mail_read good.text) good.gives good.few good.due
      (said_of (b.texts.told name) good.text IsNotYetSent good.told_is cause))
  refused_well (mail name) d refusal.NotYetReply good cause = inr (inr cause)
  refused_well areas d refusal.Usage good cause = absurd cc
  refused_well areas d (refusal.Policy place) good cause = absurd cause
  refused_well areas d (refusal.Mail line why) good cause = absurd cause
  refused_well areas d refusal.ReadFault good cause = absurd cause.0
  refused_well areas d refusal.SearchFault good cause = absurd cause.0
  refused_well areas d refusal.TextLimit good cause = absurd cause
  refused_well areas d refusal.SpoolFault good cause = absurd (calm.disk cause.1)
  refused_well areas d (refusal.SpoolDamaged area at) good cause =
      absurd (sound_is_undamaged b.disk.told good area at cause)
  refused_well areas d refusal.SpoolLimit good cause = absurd (good_fits b.disk.told good cause)
  refused_well areas d refusal.Memory good cause = inr (inl refl)
  refused_well areas d refusal.NotYetWords good cause = absurd cc
  refused_well areas d refusal.NotYetMail good cause = absurd cause
  refused_well areas d refusal.NotYetReply good cause = absurd cause

  by_ending : (c : Option Command) (ending : Ending) (d : Deed) → IsGood (inputs_of c) b → Did ending c b a d
      → Printed ending b.out a.out d.text → EndsWell (inputs_of c) b (status_code_of ending) d.sessions
  by_ending c done d good did printed = inl refl
  by_ending c unwritten d good did printed = absurd (calm.out printed.0)
  by_ending c unfinished d good did printed = inr (inl refl)
  by_ending c (refused why) d good did printed = refused_well (inputs_of c) d why good did.1

pub ends_well : (c : Option Command) (b a : Outside) (code : ℕ) (history : Option (List Entry)) (sessions : List Session)
    → EndsCommand c b a code history sessions → IsGood (inputs_of c) b → IsCalm b a → EndsWell (inputs_of c) b code sessions
ends_well c b a code history sessions e good calm =
    rw (e.status_is, e.sessions_are) (by_ending b a calm c e.ending e.deed good e.did e.printed)
