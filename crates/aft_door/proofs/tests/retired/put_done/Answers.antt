use Rattle.std.proofs.Common.{refl}
use Rattle.aft_door.proofs.tests.retired.put_done.Goals as goal

pub returns-clause-history : goal.returns-clause-history
returns-clause-history g c = rw (c.put_done.ensures.asks.history, c.expect.ensures, c.caller.ensures, c.copied.ensures) refl
