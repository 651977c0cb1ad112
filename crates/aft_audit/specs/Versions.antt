-- The names of versions by their texts, and the gets of the opening.
use Rattle.std.specs.Prelude.{Bool, IsTrue, List, None, Option, Some, [], map, ℕ, ◌++◌, ◌∷◌, ◌≡◌}
use Rattle.std.specs.List.{list_all, list_any}
use Rattle.std.specs.Str.{bytes_eq}
use Rattle.std.specs.String.{string_bytes}
use Rattle.std.specs.declared.string.String.{String}
use Rattle.aft_keeper.specs.Contents.{Ascends, name_lt}
use Rattle.aft_keeper.specs.declared.keeper.KeeperAnswer.{KeeperAnswer}
use Rattle.aft_keeper.specs.declared.keeper.KeeperAnswer.TheVariants.{Absent, Found}
use Rattle.aft_keeper.specs.declared.keeper.KeeperCall.TheVariants.{Get}
use Rattle.aft_keeper.specs.declared.keeper.Pair.{Pair}
use Rattle.aft_records.specs.declared.name.Name.{Name}
use Rattle.aft_records.specs.declared.stored.Commit.{Commit}
use Rattle.aft_records.specs.Names.{name_text}
use Rattle.aft_model.specs.declared.door.DoorEntry.{DoorEntry}
use Rattle.aft_model.specs.Opening.{all_scanned, marker_pages, record_pages, version_names}
use Rattle.aft_model.specs.Readings.{version_name}
use Rattle.aft_door.specs.Entries.{called}
use Rattle.aft_audit.specs.Audit.{got_names, opener}
use Rattle.aft_audit.specs.Scans.{HasShown}

-- the names of the versions of a commit
abbrev pub names_of : Commit → List (List ℕ)
names_of c = map (λ key. version_name key c.id) c.keys

-- what a get that found this was answered
abbrev pub found_answer : Option (List ℕ) → KeeperAnswer
found_answer None = Absent
found_answer (Some bytes) = Found bytes

-- what was found under a name, as pairs
abbrev pub found_under : List ℕ → Option (List ℕ) → List Pair
found_under name None = []
found_under name (Some bytes) = record { name = name; bytes = bytes } ∷ []

-- a history with a get of a name, which found this
abbrev pub with_get : List DoorEntry → List ℕ → Option (List ℕ) → List DoorEntry
with_get history name found = history ++ called opener (Get name) (found_answer found) ∷ []

-- each of these names stands before each of those
abbrev pub AreBefore : List (List ℕ) → List (List ℕ) → Type 0
AreBefore names others = IsTrue (list_all (λ name. list_all (name_lt name) others) names)

-- the names of pairs
abbrev pub pair_names : List Pair → List (List ℕ)
pair_names pairs = map (λ p. p.name) pairs

module _ {Z : Type 0} where
  -- the texts of names
  abbrev pub texts_of : List (String Z × Name) → List (List ℕ)
  texts_of names = map (λ e. string_bytes e.0) names

  -- whether a text is among those of names
  abbrev pub is_among_names : List ℕ → List (String Z × Name) → Bool
  is_among_names name names = list_any (bytes_eq name) (texts_of names)

  -- each name stands under its text
  abbrev pub AreNamed : List (String Z × Name) → Type 0
  AreNamed names = IsTrue (list_all (λ e. bytes_eq (string_bytes e.0) (name_text e.1)) names)

  -- the gets on their way: these names are left, which come behind those that were got and behind all that was shown
  pub record IsGetting (rest names : List (String Z × Name)) (pairs : List Pair) (old new : List DoorEntry) : Type 0 where
    pub shows : HasShown pairs new
    pub records : record_pages new ≡ record_pages old
    pub markers : marker_pages new ≡ marker_pages old
    pub scanned : IsTrue (all_scanned old)
    pub same : version_names new ≡ version_names old
    pub wanted : (name : List ℕ) → is_among_names name names ≡ list_any (bytes_eq name) (version_names old)
    pub named : AreNamed rest
    pub got : got_names new ++ texts_of rest ≡ texts_of names
    pub up : Ascends pairs
    pub behind_got : AreBefore (got_names new) (texts_of rest)
    pub behind_shown : AreBefore (pair_names pairs) (texts_of rest)
