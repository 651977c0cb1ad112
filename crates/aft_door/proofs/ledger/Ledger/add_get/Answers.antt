use Rattle.std.proofs.Common.{refl}
use Rattle.aft_keeper.specs.declared.keeper.KeeperCall.TheVariants.{Get}
use Rattle.aft_door.proofs.CallRules.{asked_follows}
use Rattle.aft_door.proofs.ledger.Ledger.add_get.Goals as goal

pub add_call-requires-clause-legal : goal.add_call-requires-clause-legal
add_call-requires-clause-legal c = asked_follows c.args.self.now.history c.args.who (Get c.args.name) c.args.answer c.requires.next c.requires.up refl c.requires.answered
