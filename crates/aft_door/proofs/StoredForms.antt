-- The definitions of stored forms, opened together, so that closed histories compute.
use Rattle.hex.specs.Hex.{encode_with, decode_pairs}
use Rattle.std.specs.Str.{is_utf8, chars}
use Rattle.std.specs.Char.{encode_utf8}
use Rattle.aft_fields.specs.Reading.{number_at, bytes_at, text_at, texts_after, texts_at, cell_at, cells_at, tag_at, row_of}
use Rattle.aft_records.specs.NameReading.{split_once, key_of, time_of, id_of, version_name, commit_name, retired_name, kind_name, name_of}
use Rattle.aft_records.specs.ReadIds.{ids_of}
use Rattle.aft_records.specs.Reading.{id_in, checked_keys, checked_set, checked_commit, commit_in, checked_record, record_in, checked_version, version_in, done_in, first_commit_of, record_of, second_commit_of, commit_of, version_of, full_of, done_of, marker_of}

-- what opens the stored forms
unfoldable pub stored_forms : Unit {0}
unfolding encode_with decode_pairs is_utf8 chars encode_utf8 number_at bytes_at text_at texts_after texts_at cell_at cells_at tag_at row_of split_once key_of time_of id_of version_name commit_name retired_name kind_name name_of ids_of id_in checked_keys checked_set checked_commit commit_in checked_record record_in checked_version version_in done_in first_commit_of record_of second_commit_of commit_of version_of full_of done_of marker_of
stored_forms = tt
