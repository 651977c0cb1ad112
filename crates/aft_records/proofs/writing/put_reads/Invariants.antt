use Rattle.std.proofs.Common.{◌≡◌, ◌++◌, length, take}
use Rattle.std.specs.Prelude.{map}
use Rattle.std.specs.Int.{w32, to_be_bytes}
use Rattle.std.specs.List.{flat_map}
use Rattle.aft_fields.specs.Spelling.{counted}
use Rattle.aft_records.specs.Names.{id_digits}
use Rattle.aft_records.proofs.writing.put_reads.Given as goal

abbrev pub invariant-loop-id : goal.invariant-loop-id
invariant-loop-id l = l.out ≡ l.fn.out ++ (to_be_bytes w32 (length l.reads) ++ flat_map counted (map id_digits (take l.id-index l.reads)))
