use Rattle.std.proofs.Common.{refl}
use Rattle.hex.specs.Hex.{decode_pairs, encode_with}
use Rattle.aft_records.specs.NameReading.{id_of, key_of, kind_name, name_of, split_once, time_of, version_name}
use Rattle.law_held.proofs.laws.one_line_twice.Goals as goal

pub returns-clause-runs : goal.returns-clause-runs
unfolding encode_with decode_pairs name_of split_once kind_name version_name key_of id_of time_of
returns-clause-runs c = record { settings = refl; bytes = refl; door = refl; nodes = refl; opening = refl; lines = refl; makes = refl; stopped = refl; attempts = refl; give_ups = refl }
