use Rattle.std.proofs.Common.{refl}
use Rattle.aft_door.proofs.tests.retired.mark.Goals as goal

pub returns-clause-history : goal.returns-clause-history
returns-clause-history g c = rw (c.put_marker.ensures.asks.history, c.expect.ensures, c.caller.ensures) refl
