use Rattle.std.proofs.Common.{◌≡◌, ◌++◌, length, take}
use Rattle.std.specs.Int.{w32, to_be_bytes}
use Rattle.std.specs.List.{flat_map}
use Rattle.aft_fields.specs.Spelling.{counted}
use Rattle.aft_fields.proofs.writing.put_texts.Given as goal

abbrev pub invariant-loop-text : goal.invariant-loop-text
invariant-loop-text l = l.out ≡ l.fn.out ++ (to_be_bytes w32 (length l.texts) ++ flat_map counted (take l.text-index l.texts))
