-- What an incarnation's own entries on one UUID have come to: a line that commits goes through these stages in their order.
use Rattle.std.specs.Prelude.{List, Bool, IsTrue, [], false, filter, if◌then◌else◌, length, nat_eq, not, suc, take, true, ℕ, ◌&&◌, ◌++◌, ◌==◌, ◌||◌, ◌∷◌}
use Rattle.std.specs.List.{fold, list_all, list_any, range_with_len, starts_with}
use Rattle.std.specs.Str.{bytes_eq}
use Rattle.aft_keeper.specs.declared.keeper.KeeperAnswer.{KeeperAnswer}
use Rattle.aft_keeper.specs.declared.keeper.KeeperAnswer.TheVariants.{Absent, Done}
use Rattle.aft_keeper.specs.declared.keeper.KeeperCall.{KeeperCall}
use Rattle.aft_keeper.specs.declared.keeper.KeeperCall.TheVariants.{Delete, Get, Put}
use Rattle.aft_keeper.specs.declared.keeper.Pair.{Pair}
use Rattle.aft_records.specs.declared.stored.Commit.{Commit}
use Rattle.aft_records.specs.declared.stored.Version.{Version}
use Rattle.aft_records.specs.Commits.{has_id, has_uuid}
use Rattle.aft_model.specs.declared.door.DoorAct.{DoorAct}
use Rattle.aft_model.specs.declared.door.DoorAct.TheVariants.{Call, Claim, Release}
use Rattle.aft_model.specs.declared.door.DoorEntry.{DoorEntry}
use Rattle.aft_model.specs.Claims.{holds}
use Rattle.aft_model.specs.Committed.{committed, marks_in}
use Rattle.aft_model.specs.History.{each_after}
use Rattle.aft_model.specs.Membership.{Incarnation, incarnation, same_incarnation, the_office, ups}
use Rattle.aft_model.specs.Readings.{marker_name, record_name, records_in, version_name, versions_in}
use Rattle.aft_model.specs.Sound.{markers_prefix}

-- an incarnation has nothing to do with a UUID; it has claimed it; it has then found no record; and then no marker, and since then these names of versions were put and acknowledged; it has put this record, whatever was answered; or it has deleted the marker, whatever was answered
pub data Stage : Type 0 where
  IsIdle : Stage
  HasClaimed : Stage
  IsUnrecorded : Stage
  IsClear : List (List ℕ) → Stage
  HasPut : Commit → Stage
  IsClosed : Stage

-- the record was found absent: nothing that was put before it is there
abbrev pub found_no_record : Stage → Stage
found_no_record HasClaimed = IsUnrecorded
found_no_record (IsClear names) = IsClear []
found_no_record (HasPut c) = IsClear []
found_no_record before = before

-- the marker was found absent
abbrev pub found_no_marker : Stage → Stage
found_no_marker IsUnrecorded = IsClear []
found_no_marker before = before

-- whether an answer acknowledges a write
abbrev pub is_acknowledged : KeeperAnswer → Bool
is_acknowledged Done = true
is_acknowledged answer = false

-- a version of this name was put
abbrev pub has_stored_version : List ℕ → KeeperAnswer → Stage → Stage
has_stored_version name answer (IsClear names) = IsClear (if is_acknowledged answer then name ∷ names else filter (λ other. not (bytes_eq name other)) names)
has_stored_version name answer before = before

-- a record of this commit was put
abbrev pub has_put_record : Commit → Stage → Stage
has_put_record c IsIdle = IsIdle
has_put_record c IsClosed = IsClosed
has_put_record c before = HasPut c

-- the marker was deleted
abbrev pub has_deleted_marker : Stage → Stage
has_deleted_marker IsIdle = IsIdle
has_deleted_marker before = IsClosed

-- the versions and the commits of a UUID that a pair is
abbrev pub versions_of : List ℕ → Pair → List Version
versions_of uuid pair = filter (λ v. bytes_eq uuid v.id.uuid) (versions_in pair)

abbrev pub commits_of : List ℕ → Pair → List Commit
commits_of uuid pair = filter (has_uuid uuid) (records_in pair)

-- a pair was put
abbrev pub has_put_pair : List ℕ → Pair → KeeperAnswer → Stage → Stage
has_put_pair uuid pair answer before =
    fold (λ stage c. has_put_record c stage) (fold (λ stage v. has_stored_version pair.name answer stage) before (versions_of uuid pair)) (commits_of uuid pair)

-- the stage of a UUID after a call of its incarnation
abbrev pub stage_after_call : List ℕ → Stage → KeeperCall → KeeperAnswer → Stage
stage_after_call uuid before (Get name) Absent =
    if bytes_eq name (record_name uuid) then found_no_record before else if bytes_eq name (marker_name uuid) then found_no_marker before else before
stage_after_call uuid before (Put name bytes) answer = has_put_pair uuid (record { name = name; bytes = bytes }) answer before
stage_after_call uuid before (Delete name) answer = if bytes_eq name (marker_name uuid) then has_deleted_marker before else before
stage_after_call uuid before asked answer = before

-- whether an act is of this incarnation and this UUID
abbrev pub is_own : Incarnation → List ℕ → ℕ → ℕ → List ℕ → Bool
is_own who uuid node inc named = same_incarnation who (incarnation node inc) && bytes_eq uuid named

-- the stage of an incarnation and a UUID after an act
abbrev pub stage_after : Incarnation → List ℕ → Stage → DoorAct → Stage
stage_after who uuid before (Claim claimed node inc) = if is_own who uuid node inc claimed then HasClaimed else before
stage_after who uuid before (Release released node inc) = if is_own who uuid node inc released then IsIdle else before
stage_after who uuid before (Call node inc asked answer) = if same_incarnation who (incarnation node inc) then stage_after_call uuid before asked answer else before
stage_after who uuid before act = before

-- the stage of an incarnation and a UUID after a history
abbrev pub stage : Incarnation → List ℕ → List DoorEntry → Stage
stage who uuid history = fold (λ before entry. stage_after who uuid before entry.act) IsIdle history

-- whether a stage is clear, and the names of its versions pass a test
abbrev pub is_clear : (List (List ℕ) → Bool) → Stage → Bool
is_clear test (IsClear names) = test names
is_clear test other = false

-- ---- the records that were put under the standing claim

-- the commits of a UUID whose records a call puts
abbrev pub put_by_call : List ℕ → KeeperCall → List Commit
put_by_call uuid (Put name bytes) = commits_of uuid (record { name = name; bytes = bytes })
put_by_call uuid asked = []

-- the commits of a UUID that an incarnation has put since its claim, after an act: its claim and its release begin anew
abbrev pub put_after : Incarnation → List ℕ → List Commit → DoorAct → List Commit
put_after who uuid before (Claim claimed node inc) = if is_own who uuid node inc claimed then [] else before
put_after who uuid before (Release released node inc) = if is_own who uuid node inc released then [] else before
put_after who uuid before (Call node inc asked answer) = if same_incarnation who (incarnation node inc) then before ++ put_by_call uuid asked else before
put_after who uuid before act = before

-- the commits of a UUID whose records an incarnation has put since its standing claim, whatever was answered
abbrev pub put_under_claim : Incarnation → List ℕ → List DoorEntry → List Commit
put_under_claim who uuid history = fold (λ before entry. put_after who uuid before entry.act) [] history

-- ---- what the lines of a run keep at the door

-- whether names have each version of a commit
abbrev pub has_versions : Commit → List (List ℕ) → Bool
has_versions c names = list_all (λ key. list_any (bytes_eq (version_name key c.id)) names) c.keys

-- whether an incarnation of a node is clear to put a version of this id, or this record with its versions
abbrev pub is_clear_to_store : List DoorEntry → Incarnation → Version → Bool
is_clear_to_store history who v = not (who.node == 0) && is_clear (λ names. true) (stage who v.id.uuid history)

abbrev pub is_clear_to_record : List DoorEntry → Incarnation → Commit → Bool
is_clear_to_record history who c = not (who.node == 0) && is_clear (has_versions c) (stage who c.id.uuid history)

-- whether an act claims something
abbrev pub is_claim : DoorAct → Bool
is_claim (Claim uuid node inc) = true
is_claim act = false

-- whether the office puts a record where nobody has claimed anything
abbrev pub is_upgraded_alone : List DoorEntry → Incarnation → Bool
is_upgraded_alone history who = same_incarnation the_office who && not (list_any (λ entry. is_claim entry.act) history)

-- whether a call is made in its stage: versions and records are put by nodes that are clear to, or by the office where nobody has claimed, and markers are deleted by nodes
abbrev pub is_call_in_stage : List DoorEntry → Incarnation → KeeperCall → Bool
is_call_in_stage history who (Put name bytes) =
    list_all (is_clear_to_store history who) (versions_in (record { name = name; bytes = bytes }))
    && list_all (λ c. is_clear_to_record history who c || is_upgraded_alone history who) (records_in (record { name = name; bytes = bytes }))
is_call_in_stage history who (Delete name) = not (starts_with nat_eq name markers_prefix) || not (who.node == 0)
is_call_in_stage history who asked = true

abbrev pub is_in_stage : List DoorEntry → DoorAct → Bool
is_in_stage history (Call node inc asked answer) = is_call_in_stage history (incarnation node inc) asked
is_in_stage history act = true

-- a history in which each put and each delete of a marker is made in its stage
abbrev pub keeps_stages : List DoorEntry → Bool
keeps_stages history = each_after (λ before entry. is_in_stage before entry.act) [] history

abbrev pub KeepsStages : List DoorEntry → Type 0
KeepsStages history = IsTrue (keeps_stages history)

-- whether at some time of a history a commit's id was committed, and this incarnation had put no record of the id under its claim
abbrev pub was_unheld : Commit → List DoorEntry → Incarnation → Bool
was_unheld c history who =
    list_any (λ seen. has_id c.id (committed (take seen history)) && not (has_id c.id (put_under_claim who c.id.uuid (take seen history)))) (range_with_len 0 (suc (length history)))

-- whether an act, if it puts a full marker, retires no commit that an incarnation of a node which holds its UUID is about to record
abbrev pub retires_unheld_in : List DoorEntry → DoorAct → Bool
retires_unheld_in history (Call node inc (Put name bytes) answer) =
    list_all (λ c. list_all (λ who. who.node == 0 || not (holds who c.id.uuid history) || was_unheld c history who) (ups history)) (marks_in (record { name = name; bytes = bytes }))
retires_unheld_in history act = true

-- a history in which no commit is retired under who is about to record it
abbrev pub retires_unheld : List DoorEntry → Bool
retires_unheld history = each_after (λ before entry. retires_unheld_in before entry.act) [] history

abbrev pub RetiresUnheld : List DoorEntry → Type 0
RetiresUnheld history = IsTrue (retires_unheld history)
