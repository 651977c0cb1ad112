use Rattle.aft_read.proofs.Asking.{steps_to}
use Rattle.aft_read.proofs.fetch.fetch.Goals as goal

pub returns-clause-steps : goal.returns-clause-steps
returns-clause-steps g c capacity hold asked up = steps_to c.args.by c.args.attempt c.args.key c.args.id c.args.door.now.history c.get-got.new.door.history c.get-got.result capacity hold asked c.len-place.result c.came.result c.len-place.ensures c.came.ensures up c.get-got.ensures.fetches
