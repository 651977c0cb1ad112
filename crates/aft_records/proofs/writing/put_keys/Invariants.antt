use Rattle.std.proofs.Common.{◌≡◌, ◌++◌, length, take}
use Rattle.std.specs.Int.{w32, to_be_bytes}
use Rattle.std.specs.List.{flat_map}
use Rattle.aft_fields.specs.Spelling.{counted}
use Rattle.aft_records.proofs.writing.put_keys.Given as goal

abbrev pub invariant-loop-key : goal.invariant-loop-key
invariant-loop-key l = l.out ≡ l.fn.out ++ (to_be_bytes w32 (length l.keys) ++ flat_map counted (take l.key-index l.keys))
