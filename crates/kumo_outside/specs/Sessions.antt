-- The sessions that a linker tells, one for each link that it opened, in the order of opening.
use Rattle.std.specs.Prelude.{◌≡◌, ℕ, Bool, false, List, [], ◌∷◌, ◌++◌, length, set, slice_get, Option, Some, None, IfSome}
use Rattle.kumo_outside.specs.declared.session.Session.{Session}

-- what a link was opened as: its place among the linker's sessions, its host and source, and the uses of the
-- host's keys that the linker knew then. It never changes.
pub record Opening : Type 0 where
  pub place : ℕ
  pub host : List ℕ
  pub source : List ℕ
  pub uses : List ℕ

-- what a link shows: what it was opened as, the bytes sent and got so far, where they are told, whether the last call
-- met the end of the link, and the faults counted so far
pub record LinkSeen : Type 0 where
  pub opening : Opening
  pub sent : Option (List ℕ)
  pub got : Option (List ℕ)
  pub ended : Bool
  pub faults : ℕ

-- what a linker shows: the sessions of its links, where they are told, and the faults counted so far
pub record LinkerSeen : Type 0 where
  pub sessions : Option (List Session)
  pub faults : ℕ

-- the session that a link's bytes both ways make
abbrev pub session_of : LinkSeen → List ℕ → List ℕ → Session
session_of link sent got = record {
  host = link.opening.host;
  source = link.opening.source;
  sent = sent;
  got = got;
  ended = link.ended;
  faults = link.faults;
  uses = link.opening.uses;
}

-- the session of a link just opened
abbrev pub fresh : Opening → Session
fresh o = record { host = o.host; source = o.source; sent = []; got = []; ended = false; faults = 0; uses = o.uses }

-- the session of the link is the last
abbrev pub IsAdded : Option (List Session) → Option (List Session) → LinkSeen → Type 0
IsAdded None new link = new ≡ None
IsAdded (Some sessions) new link =
    (link.opening.place ≡ length sessions) × (new ≡ Some (sessions ++ fresh link.opening ∷ []))
    × (link.sent ≡ Some []) × (link.got ≡ Some []) × (link.faults ≡ 0)

-- opening a link adds its session; a linker that tells nothing goes on telling nothing
pub record Opens (old new : Option (List Session)) (host source : List ℕ) (link : LinkSeen) : Type 0 where
  pub host_is : link.opening.host ≡ host
  pub source_is : link.opening.source ≡ source
  pub ended_is : link.ended ≡ false
  pub told : IsAdded old new link

-- a link that is given back is told by its session
abbrev pub GivesBack : Option (List Session) → Option (List Session) → LinkSeen → Type 0
GivesBack None new link = new ≡ None
GivesBack (Some sessions) new link =
    (sent : List ℕ) (got : List ℕ) → link.sent ≡ Some sent → link.got ≡ Some got
    → new ≡ Some (set sessions link.opening.place (session_of link sent got))

-- the session at the link's place is that of a link just opened so: the linker opened it and it was not given back
abbrev pub IsOpenAt : Option (List Session) → Opening → Type 0
IsOpenAt told o = IfSome told (λ sessions. slice_get sessions o.place ≡ Some (fresh o))
