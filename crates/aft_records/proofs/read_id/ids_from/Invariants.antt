use Rattle.std.proofs.Common.{◌≡◌, drop}
use Rattle.aft_records.specs.ReadIds.{ids_of}
use Rattle.aft_records.proofs.ReadIds.{with_front}
use Rattle.aft_records.proofs.read_id.ids_from.Given as goal

abbrev pub invariant-loop-text : goal.invariant-loop-text
invariant-loop-text l = with_front l.ids.items (ids_of (drop l.text-index l.texts)) ≡ ids_of l.texts
