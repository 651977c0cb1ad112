use Rattle.aft_keeper.specs.declared.keeper.KeeperCall.TheVariants.{Delete}
use Rattle.aft_door.proofs.CallRules.{call_follows}
use Rattle.aft_door.proofs.ledger.Ledger.add_forget.Goals as goal

pub add_marker_delete-requires-clause-legal : goal.add_marker_delete-requires-clause-legal
add_marker_delete-requires-clause-legal c = call_follows c.args.self.now.history c.args.who (Delete c.args.name) c.args.answer c.requires.open c.requires.up c.requires.may c.requires.answered
