-- Whether what is shown of the records and the markers can be read, once the door is open.
use Rattle.std.specs.Prelude.{Bool, List, [], nat_eq, not, ℕ, ◌||◌}
use Rattle.std.specs.List.{list_all, starts_with}
use Rattle.aft_model.specs.declared.door.DoorEntry.{DoorEntry}
use Rattle.aft_model.specs.DoorKnowledge.{is_open}
use Rattle.aft_model.specs.Evidence.{shown_pairs}
use Rattle.aft_model.specs.History.{each_after}
use Rattle.aft_model.specs.Readings.{has_reading}
use Rattle.aft_model.specs.Sound.{markers_prefix, records_prefix}

-- whether a name is one of the records or of the markers, by its prefix
abbrev pub is_of_ids : List ℕ → Bool
is_of_ids name = starts_with nat_eq name records_prefix || starts_with nat_eq name markers_prefix

-- whether each pair of the records and the markers that an entry shows has a reading
abbrev pub shows_readable : DoorEntry → Bool
shows_readable entry = list_all (λ pair. not (is_of_ids pair.name) || has_reading pair) (shown_pairs entry)

-- whether a history shows only such pairs, once its door is open
abbrev pub is_readable : List DoorEntry → Bool
is_readable history = each_after (λ before entry. not (is_open before) || shows_readable entry) [] history
