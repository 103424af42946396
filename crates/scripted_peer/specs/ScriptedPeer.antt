-- What a scripted linker and its links are seen as.
use Rattle.std.specs.Prelude.{ℕ, Bool, List}
use Rattle.kumo_outside.specs.Sessions.{Opening}
use Rattle.kumo_outside.specs.declared.session.Session.{Session}

pub record LinkerState : Type 0 where
  pub sessions : List Session
  pub faults : ℕ

pub record LinkState : Type 0 where
  pub opening : Opening
  pub sent : List ℕ
  pub got : List ℕ
  pub ended : Bool
  pub faults : ℕ
