use Rattle.aft_door.proofs.Seen.{looked}
use Rattle.aft_door.proofs.tests.store_failing.Goals as goal

pub fail_put-requires-clause-unused : goal.fail_put-requires-clause-unused
fail_put-requires-clause-unused g c = rw (c.empty_version-version.ensures, c.look.ensures.history) (looked c.caller-who.result c.args.id.now.uuid c.args.door.now.history)
