-- What a mail text comes to, where it is read no further than one byte past the limit.
use Rattle.std.proofs.Common.{◌≡◌, ℕ, ◌<◌, nat_lt, List, length, true, refl, sym, ap, ◌∙◌, arith, inl, inr}
use Rattle.std.proofs.lemmas.Bool.Decides.{nat_tests}
use Rattle.kumo_outside.specs.declared.text_reader.TheConstants.{TEXT_LIMIT}
use Rattle.kumo_run.specs.MailRead.{too_long, mail_read}
use Rattle.kumo_outside.specs.Reading.{IsReadUpTo}

long : (text : List ℕ) → TEXT_LIMIT < length text → mail_read text ≡ too_long
unfolding mail_read
long text l = let test : nat_lt TEXT_LIMIT (length text) ≡ true = grind (arith, nat_tests) in rw test refl

pub same_read : (text read : List ℕ) → IsReadUpTo TEXT_LIMIT text read → mail_read text ≡ mail_read read
same_read text read h = elim h [ inl e ↦ ap mail_read (sym e) | inr more ↦ long text more.has_more ∙ sym (long read more.read_more) ]
