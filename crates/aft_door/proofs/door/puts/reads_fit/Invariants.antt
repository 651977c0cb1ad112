use Rattle.std.proofs.Common.{take}
use Rattle.std.specs.Prelude.{IsTrue}
use Rattle.std.specs.List.{list_all}
use Rattle.aft_model.specs.Bytes.{is_uuid}
use Rattle.aft_door.proofs.door.puts.reads_fit.Given as goal

abbrev pub invariant-loop-id : goal.invariant-loop-id
invariant-loop-id l = IsTrue (list_all (λ id. is_uuid id.uuid) (take l.id-index l.reads))
