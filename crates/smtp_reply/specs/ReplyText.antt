-- Replies to an SMTP client, and when an outcome of an attempt keeps their rules (RFC 5321 sections 4.2 and 4.3).
use Rattle.std.specs.Prelude.{◌≡◌, ℕ, ◌+◌, ◌/◌, ◌%◌, ◌<◌, ◌≤◌, ◌⊎◌, ◌==◌, nat_le, nat_lt, bytes_eq, List, [], ◌∷◌, ◌++◌, length, Bool, false, ◌&&◌, IsTrue, ⊤}
use Rattle.std.specs.List.{list_all}
use Rattle.smtp_reply.specs.declared.reply.Reply.{Reply}
use Rattle.smtp_reply.specs.declared.reply.Outcome.{Outcome}
use Rattle.smtp_reply.specs.declared.reply.Outcome.TheVariants as outcome
use Rattle.kumo_base.specs.Limits.{reply_text_limit}

-- the three digits of a code
abbrev pub digits_of : ℕ → List ℕ
digits_of code = (48 + code / 100) ∷ (48 + code / 10 % 10) ∷ (48 + code % 10) ∷ []

abbrev pub is_printable : ℕ → Bool
is_printable b = nat_le 32 b && nat_le b 126

-- the test of it: the code, and then nothing, or a blank and something
abbrev pub begins_with_code : ℕ → List ℕ → Bool
begins_with_code code [] = false
begins_with_code code (a ∷ []) = false
begins_with_code code (a ∷ (b ∷ [])) = false
begins_with_code code (a ∷ (b ∷ (c ∷ []))) = bytes_eq (a ∷ (b ∷ (c ∷ []))) (digits_of code)
begins_with_code code (a ∷ (b ∷ (c ∷ (d ∷ more)))) = bytes_eq (a ∷ (b ∷ (c ∷ []))) (digits_of code) && (d == 32 && nat_lt 0 (length more))

-- the code, and then nothing, or a blank and something; printable and within the limit
pub record IsReplyText (code : ℕ) (text : List ℕ) : Type 0 where
  pub begins : (text ≡ digits_of code) ⊎ ((more : List ℕ) × (text ≡ digits_of code ++ (32 ∷ more)) × (0 < length more))
  pub printable : IsTrue (list_all is_printable text)
  pub within : length text ≤ reply_text_limit

-- a reply of the class that its code's first digit names
pub record IsReplyOf (class : ℕ) (r : Reply) : Type 0 where
  pub class_is : r.code / 100 ≡ class
  pub text : IsReplyText r.code r.text

abbrev pub IsProperOutcome : Outcome → Type 0
IsProperOutcome (outcome.Delivered r) = IsReplyOf 2 r
IsProperOutcome (outcome.Transient r) = IsReplyOf 4 r
IsProperOutcome (outcome.Permanent r) = IsReplyOf 5 r
IsProperOutcome (outcome.Lost why) = ⊤
