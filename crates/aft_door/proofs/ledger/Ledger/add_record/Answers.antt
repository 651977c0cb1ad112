use Rattle.aft_keeper.specs.declared.keeper.KeeperCall.TheVariants.{Put}
use Rattle.aft_door.proofs.CallRules.{call_follows}
use Rattle.aft_door.proofs.ledger.Ledger.add_record.Goals as goal

pub add_record_put-requires-clause-legal : goal.add_record_put-requires-clause-legal
add_record_put-requires-clause-legal c = call_follows c.args.self.now.history c.args.who (Put c.args.name c.args.bytes) c.args.answer c.requires.open c.requires.up c.requires.may c.requires.answered
