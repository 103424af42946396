use Rattle.std.proofs.Common.{refl}
use Rattle.spool_format.specs.Deferred.{deferred_payload}
use Rattle.spool_format.proofs.deferred.write_deferred.Goals as goal

pub returns : goal.returns
unfolding deferred_payload
returns c = rw (c.to_be_bytes.ensures, c.to_be_bytes-2.ensures, c.to_be_bytes-3.ensures) refl
