use Rattle.std.proofs.Common.{refl}
use Rattle.aft_keeper.specs.declared.keeper.KeeperCall.TheVariants.{Scan}
use Rattle.aft_door.proofs.CallRules.{asked_follows}
use Rattle.aft_door.proofs.ledger.Ledger.add_scan.Goals as goal

pub add_call-requires-clause-legal : goal.add_call-requires-clause-legal
add_call-requires-clause-legal c = asked_follows c.args.self.now.history c.args.who (Scan c.args.prefix c.args.after c.args.limit) c.args.answer c.requires.next c.requires.up refl c.requires.answered
