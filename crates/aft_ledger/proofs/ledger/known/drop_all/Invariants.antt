use Rattle.std.proofs.Common.{◌≡◌, take}
use Rattle.aft_records.specs.Commits.{without_ids}
use Rattle.aft_ledger.proofs.ledger.known.drop_all.Given as goal

abbrev pub invariant-loop-id : goal.invariant-loop-id
invariant-loop-id l = l.known ≡ without_ids (take l.id-index l.ids) l.fn.known
