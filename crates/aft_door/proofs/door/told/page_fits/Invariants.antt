use Rattle.std.proofs.Common.{take}
use Rattle.std.specs.Prelude.{IsTrue}
use Rattle.std.specs.List.{list_all}
use Rattle.aft_model.specs.Bytes.{is_byte_pair}
use Rattle.aft_door.proofs.door.told.page_fits.Given as goal

abbrev pub invariant-loop-pair : goal.invariant-loop-pair
invariant-loop-pair l = IsTrue (list_all is_byte_pair (take l.pair-index l.pairs))
