use Rattle.std.proofs.Common.{◌≡◌, take}
use Rattle.std.specs.String.{string_bytes}
use Rattle.aft_lines.specs.CausesScans.{written_name}
use Rattle.aft_boot.proofs.reading.written.Given as goal

abbrev pub invariant-loop-byte : goal.invariant-loop-byte
invariant-loop-byte l = string_bytes l.text ≡ written_name (take l.byte-index l.name)
