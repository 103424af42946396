-- What a payload reads as was written so, is proper, and has a payload of that length: for proofs of crates above.
use Rattle.std.proofs.Common.{◌≡◌, ℕ, List, Some, length, ◌^◌, ◌<◌}
use Rattle.queue_name.specs.Message.{IsProperMessage}
use Rattle.queue_name.specs.declared.message.Message.{Message}
use Rattle.spool_format.specs.Held.{held_payload, held_in, IsInUtf8}
use Rattle.spool_format.specs.Settled.{settled_payload, settled_in}
use Rattle.spool_format.specs.Deferred.{IsProperDeferral, deferred_payload, deferred_in}
use Rattle.spool_format.specs.declared.deferred.Deferral.{Deferral}
use Rattle.spool_format.proofs.NumberLemmas.{IsBytes}
use Rattle.spool_format.proofs.FieldLemmas.{splits_length, splits_whole}
use Rattle.spool_format.proofs.HeldLemmas.{held_parts}
use Rattle.spool_format.proofs.SmallLemmas.{settled_parts, deferred_parts}

pub held_written : (p : List ℕ) (m : Message) → IsBytes p → held_in p ≡ Some m → held_payload m ≡ p
held_written p m are e = splits_whole p (held_payload m) (held_parts p m e).splits are

pub held_long : (p : List ℕ) (m : Message) → held_in p ≡ Some m → length p ≡ length (held_payload m)
held_long p m e = splits_length p (held_payload m) (held_parts p m e).splits

pub held_proper : (p : List ℕ) (m : Message) → held_in p ≡ Some m → IsProperMessage m
held_proper p m e = (held_parts p m e).proper

pub held_texts : (p : List ℕ) (m : Message) → held_in p ≡ Some m → IsInUtf8 m
held_texts p m e = (held_parts p m e).texts

pub settled_written : (p : List ℕ) (id : ℕ) → IsBytes p → settled_in p ≡ Some id → settled_payload id ≡ p
settled_written p id are e = splits_whole p (settled_payload id) (settled_parts p id e).0 are

pub settled_long : (p : List ℕ) (id : ℕ) → settled_in p ≡ Some id → length p ≡ length (settled_payload id)
settled_long p id e = splits_length p (settled_payload id) (settled_parts p id e).0

pub settled_below : (p : List ℕ) (id : ℕ) → settled_in p ≡ Some id → id < 2 ^ 128
settled_below p id e = (settled_parts p id e).1

pub deferred_written : (p : List ℕ) (d : Deferral) → IsBytes p → deferred_in p ≡ Some d → deferred_payload d ≡ p
deferred_written p d are e = splits_whole p (deferred_payload d) (deferred_parts p d e).0 are

pub deferred_long : (p : List ℕ) (d : Deferral) → deferred_in p ≡ Some d → length p ≡ length (deferred_payload d)
deferred_long p d e = splits_length p (deferred_payload d) (deferred_parts p d e).0

pub deferred_proper : (p : List ℕ) (d : Deferral) → deferred_in p ≡ Some d → IsProperDeferral d
deferred_proper p d e = (deferred_parts p d e).1
