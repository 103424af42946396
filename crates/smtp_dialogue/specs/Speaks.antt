-- What a call of the dialogue does, by the part of the transcript that it stands for.
use Rattle.std.specs.Prelude.{◌≡◌, ℕ, ◌≤◌, ◌⊎◌, List, ◌++◌, codes, Bool, true, false}
use Rattle.kumo_base.specs.Causes.{Rose}
use Rattle.kumo_outside.specs.Sessions.{LinkSeen}
use Rattle.kumo_outside.specs.Content.{told_with, TakesPrefix, TakesProperPrefix}
use Rattle.smtp_reply.specs.declared.reply.Outcome.{Outcome}
use Rattle.smtp_dialogue.specs.Body.{crlf}
use Rattle.smtp_dialogue.specs.Transcript.{Spoken, waiting, is_alive}

-- a link and the bytes that were got over it and not yet read
pub record Side : Type 0 where
  pub link : LinkSeen
  pub unread : List ℕ

abbrev pub side : LinkSeen → List ℕ → Side
side link unread = record { link = link; unread = unread }

-- the part was gone through: all of it was sent, and its end is what was answered
pub record WentThrough (t : Spoken) (old new : Side) (outcomes : List Outcome) (is_left_alive : Bool) : Type 0 where
  pub sent : new.link.sent ≡ told_with old.link.sent t.sent
  pub outcomes_are : outcomes ≡ t.outcomes
  pub alive_is : is_left_alive ≡ is_alive t.standing
  pub left : is_left_alive ≡ true → new.unread ≡ t.rest
  pub waited : t.standing ≡ waiting → new.link.ended ≡ true

-- the last words of the part are RSET, and all before them was sent
pub record IsCutAtReset (t : Spoken) (old new : Side) : Type 0 where
  pub before : List ℕ
  pub last : t.sent ≡ before ++ (codes "RSET" ++ crlf)
  pub sent_before : TakesPrefix (told_with old.link.sent before) new.link.sent (codes "RSET" ++ crlf)

-- the link failed on the way: something was not sent, or a reply that was due is not whole. The outcomes are those of a
-- fault; what was decided before RSET stays decided.
pub record IsCutShort (t : Spoken) (old new : Side) (at_fault outcomes : List Outcome) (is_left_alive : Bool) : Type 0 where
  pub rose : Rose old.link.faults new.link.faults
  pub alive_is : is_left_alive ≡ false
  pub not_ended : new.link.ended ≡ false
  pub prefix : TakesPrefix old.link.sent new.link.sent t.sent
  pub short : (t.standing ≡ waiting) ⊎ TakesProperPrefix old.link.sent new.link.sent t.sent
  pub outcomes_are : (outcomes ≡ at_fault) ⊎ ((outcomes ≡ t.outcomes) × IsCutAtReset t old new)

-- the bytes that came in the call, whatever pieces they came in, make the part of the transcript what it is
pub record Speaks (part : List ℕ → Spoken) (old new : Side) (at_fault outcomes : List Outcome) (is_left_alive : Bool)
    : Type 0 where
  pub more : List ℕ
  pub grows : new.link.got ≡ told_with old.link.got more
  pub later : old.link.faults ≤ new.link.faults
  pub spoke :
      WentThrough (part (old.unread ++ more)) old new outcomes is_left_alive
      ⊎ IsCutShort (part (old.unread ++ more)) old new at_fault outcomes is_left_alive

-- more bytes behind those that a part read are left to read
abbrev pub with_more : List ℕ → Spoken → Spoken
with_more more s = record { sent = s.sent; outcomes = s.outcomes; standing = s.standing; rest = s.rest ++ more }

-- a part that left the link alive stays as it was when more bytes come
abbrev pub IsStable : (List ℕ → Spoken) → Type 0
IsStable part =
    (bytes more : List ℕ) → is_alive (part bytes).standing ≡ true → part (bytes ++ more) ≡ with_more more (part bytes)
