-- The course of a round that deletes the orphan versions of a key: the scan of its versions, and for each of them in order a claim of its UUID, two looks, the delete and the release.
use Rattle.std.specs.Prelude.{Bool, List, Option, Some, [], codes, false, filter, if◌then◌else◌, length, map, not, true, ℕ, ◌&&◌, ◌++◌, ◌==◌, ◌||◌, ◌∷◌}
use Rattle.std.specs.List.{flat_map, list_any}
use Rattle.std.specs.Str.{bytes_eq}
use Rattle.hex.specs.Hex.{encode_lower}
use Rattle.aft_id.specs.declared.txn_id.TxnId.{TxnId}
use Rattle.aft_keeper.specs.declared.keeper.KeeperAnswer.{KeeperAnswer}
use Rattle.aft_keeper.specs.declared.keeper.KeeperAnswer.TheVariants.{Done, Failed}
use Rattle.aft_keeper.specs.declared.keeper.KeeperCall.TheVariants.{Delete, Get}
use Rattle.aft_keeper.specs.declared.keeper.Pair.{Pair}
use Rattle.aft_records.specs.declared.name.Name.{Name}
use Rattle.aft_records.specs.declared.name.Name.TheVariants.{VersionOf}
use Rattle.aft_records.specs.Commits.{is_listed}
use Rattle.aft_records.specs.NameReading.{name_of}
use Rattle.aft_model.specs.declared.door.DoorAct.TheVariants.{Call, Claim, Release}
use Rattle.aft_model.specs.declared.office.OfficeAct.{OfficeAct}
use Rattle.aft_model.specs.declared.reply.Reply.{Reply}
use Rattle.aft_model.specs.DoorKnowledge.{ids_in}
use Rattle.aft_model.specs.Membership.{incarnation, same_incarnation, the_office}
use Rattle.aft_model.specs.Readings.{has_reading, marker_name, record_name, version_name}
use Rattle.aft_lines.specs.CourseWords.{Ends, ends_at_office, found_pair, office_answers, tells_no_memory}
use Rattle.aft_lines.specs.ScanCourse.{Scanned, scanned, versions_limit}
use Rattle.aft_lines.specs.Turns.{AtDoor, Turn}
use Rattle.aft_model.specs.declared.reply.Reply.TheVariants as replies

-- a version by its key and id
pub record VersionAt : Type 0 where
  pub key : List ℕ
  pub id : TxnId

-- the prefix of the names of a key's versions
abbrev pub versions_prefix : List ℕ → List ℕ
versions_prefix key = codes "v/" ++ (encode_lower key ++ codes "/")

-- the version that a name is of; other names are passed over
abbrev pub found_by : Option Name → List VersionAt
found_by (Some (VersionOf key id)) = record { key = key; id = id } ∷ []
found_by name = []

-- the versions that pairs stand under, in order
abbrev pub found_on : List Pair → List VersionAt
found_on pairs = flat_map (λ pair. found_by (name_of pair.name)) pairs

-- ---- how the turns for a version end

-- the version was deleted, or kept since its id was shown; its UUID was held or forgotten; a call failed; or the round ends there, since damage was shown or memory was wanting
pub data FoundEnd : Type 0 where
  IsDeleted : FoundEnd
  IsKept : FoundEnd
  IsHeldBack : FoundEnd
  IsFaulty : FoundEnd
  IsLast : FoundEnd

-- how the turns for the versions ended, one end for each that was come to, and the turns behind them
pub record Way : Type 0 where
  pub ends : List FoundEnd
  pub behind : List Turn

-- a way with one end more in front
abbrev pub with_end : FoundEnd → Way → Way
with_end end way = record { ends = end ∷ way.ends; behind = way.behind }

-- whether the round ends at this end
abbrev pub is_last : FoundEnd → Bool
is_last IsLast = true
is_last end = false

-- what follows an end: the next versions, unless the round ends there
abbrev pub ways_behind : FoundEnd → (List Turn → List Way) → List Turn → List Way
ways_behind end go_on line = if is_last end then record { ends = end ∷ []; behind = line } ∷ [] else map (with_end end) (go_on line)

-- the release of the claim, and what follows; it makes no entry only where the office doesn't hold any more
abbrev pub frees : Ends → VersionAt → FoundEnd → (List Turn → List Way) → List Turn → List Way
frees ends one end go_on (AtDoor place (Release uuid node inc) ∷ line) =
    if same_incarnation the_office (incarnation node inc) && bytes_eq one.id.uuid uuid then ways_behind end go_on line else []
frees ends one end go_on line = if ends.is_shut_out the_office 0 then ways_behind end go_on line else []

-- how a delete ended
abbrev pub deleted_as : KeeperAnswer → FoundEnd
deleted_as Done = IsDeleted
deleted_as answer = IsFaulty

-- the delete of a version, and the release; where it makes no entry memory was wanting, or the office doesn't hold any more
abbrev pub deletes_found : Ends → VersionAt → (List Turn → List Way) → List Turn → List Way
deletes_found ends one go_on (AtDoor place (Call node inc (Delete name) answer) ∷ line) =
    if same_incarnation the_office (incarnation node inc) && bytes_eq (version_name one.key one.id) name then frees ends one (deleted_as answer) go_on line else []
deletes_found ends one go_on line = frees ends one IsLast go_on line ++ (if ends.is_shut_out the_office 0 then frees ends one IsHeldBack go_on line else [])

-- behind a look at a name: the release where the call failed, or showed the version's id, or damage; else what comes next, unless memory was wanting
abbrev pub behind_look : Ends → VersionAt → List ℕ → KeeperAnswer → (List Turn → List Way) → (List Turn → List Way) → List Turn → List Way
behind_look ends one name Failed next go_on line = frees ends one IsFaulty go_on line
behind_look ends one name answer next go_on line =
    if list_any (λ pair. is_listed one.id (ids_in pair)) (found_pair name answer) then frees ends one IsKept go_on line
    else if list_any (λ pair. not (has_reading pair)) (found_pair name answer) then frees ends one IsLast go_on line
    else next line ++ frees ends one IsLast go_on line

-- a look of the office at a name; where it makes no entry memory was wanting
abbrev pub looks : Ends → VersionAt → List ℕ → (List Turn → List Way) → (List Turn → List Way) → List Turn → List Way
looks ends one name next go_on (AtDoor place (Call node inc (Get got) answer) ∷ line) =
    if same_incarnation the_office (incarnation node inc) && bytes_eq name got then behind_look ends one name answer next go_on line else []
looks ends one name next go_on line = frees ends one IsLast go_on line

-- the turns for a version whose UUID was claimed
abbrev pub works_on_found : Ends → VersionAt → (List Turn → List Way) → List Turn → List Way
works_on_found ends one go_on line =
    looks ends one (record_name one.id.uuid) (looks ends one (marker_name one.id.uuid) (deletes_found ends one go_on) go_on) go_on line

-- the claim of a version's UUID, and its turns
abbrev pub claims_found : Ends → VersionAt → (List Turn → List Way) → List Turn → List Way
claims_found ends one go_on (AtDoor place (Claim uuid node inc) ∷ line) =
    if same_incarnation the_office (incarnation node inc) && bytes_eq one.id.uuid uuid then works_on_found ends one go_on line else []
claims_found ends one go_on line = []

-- the ways in which turns may be those for these versions, in order: each is claimed, or passed over since its UUID was held or forgotten, or memory was wanting for its claim
abbrev pub ways : Ends → List VersionAt → List Turn → List Way
ways ends [] line = record { ends = []; behind = line } ∷ []
ways ends (one ∷ more) line =
    claims_found ends one (ways ends more) line ++ ways_behind IsHeldBack (ways ends more) line ++ ways_behind IsLast (ways ends more) line

-- ---- the whole round

-- the scan of a key's versions
abbrev pub versions_scan : List ℕ → List Turn → Scanned
versions_scan key line = scanned versions_limit the_office (versions_prefix key) line

-- whether the round of a way was cut short
abbrev pub is_cut_short : Way → Bool
is_cut_short way = list_any is_last way.ends

-- whether an answer tells the counts of a round
abbrev pub tells_orphans : Option Reply → Bool
tells_orphans (Some (replies.Orphans deleted kept held fault)) = true
tells_orphans answer = false

-- whether an answer comes alone, and tells the counts exactly where the round came to its end
abbrev pub tells_round : Bool → OfficeAct → Option Reply → Bool
tells_round whole act answer = office_answers act answer && (tells_no_memory answer || (if whole then tells_orphans answer else not (tells_orphans answer)))

-- whether a way leads to the end of the line
abbrev pub is_way : Way → Bool
is_way way = ends_at_office (tells_round (not (is_cut_short way))) way.behind

-- the ways of a round of a key behind its whole scan
abbrev pub round_ways : List ℕ → Ends → List Turn → List Way
round_ways key ends line = filter is_way (ways ends (found_on (versions_scan key line).listed) (versions_scan key line).behind)

-- the course of a round that deletes the orphans of a key
abbrev pub orphan_course : List ℕ → Ends → List Turn → Bool
orphan_course key ends line =
    if (versions_scan key line).is_whole then not (length (round_ways key ends line) == 0)
    else ends_at_office (tells_round false) (versions_scan key line).behind
