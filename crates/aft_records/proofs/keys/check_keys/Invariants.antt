use Rattle.std.proofs.Common.{◌≡◌, drop}
use Rattle.aft_records.specs.Reading.{checked_keys}
use Rattle.aft_records.proofs.keys.check_keys.Given as goal

abbrev pub invariant-loop-index : goal.invariant-loop-index
invariant-loop-index l = checked_keys 0 l.texts ≡ checked_keys l.index (drop l.index l.texts)
