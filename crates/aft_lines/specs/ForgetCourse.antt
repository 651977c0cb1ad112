-- The course of a forget: its turns, in order. It claims the UUID, deletes its short marker if it finds one, and releases the claim whatever came of its calls.
use Rattle.std.specs.Prelude.{Bool, List, false, if◌then◌else◌, ℕ, ◌&&◌, ◌||◌, ◌∷◌}
use Rattle.std.specs.List.{list_any}
use Rattle.aft_keeper.specs.declared.keeper.KeeperAnswer.{KeeperAnswer}
use Rattle.aft_keeper.specs.declared.keeper.KeeperCall.TheVariants.{Delete, Get}
use Rattle.aft_model.specs.declared.door.DoorAct.TheVariants.{Call}
use Rattle.aft_model.specs.DoorKnowledge.{is_short_of}
use Rattle.aft_model.specs.Readings.{marker_name}
use Rattle.aft_lines.specs.BeginCourse.{Beginning, admitted_course, gets_own, release_begun}
use Rattle.aft_lines.specs.CourseWords.{Ends, any_answer, found_pair, tells_no_memory, tells_refused}
use Rattle.aft_lines.specs.Turns.{AtDoor, AtNode, Turn}

-- the delete of the marker, and the release; where it makes no entry it was refused
abbrev pub delete_course : Ends → Beginning → List Turn → Bool
delete_course ends begun (AtDoor place (Call node inc (Delete name) answer) ∷ line) =
    gets_own begun (marker_name begun.uuid) node inc name && release_begun ends begun any_answer line
delete_course ends begun line = release_begun ends begun tells_refused line

-- whether a get of the marker found the short one of a UUID
abbrev pub finds_short : List ℕ → KeeperAnswer → Bool
finds_short uuid answer = list_any (is_short_of uuid) (found_pair (marker_name uuid) answer)

-- behind a get of the marker: the delete where it found a short one, unless memory was wanting behind it, and else the release
abbrev pub after_marker : Ends → Beginning → KeeperAnswer → List Turn → Bool
after_marker ends begun answer line =
    if finds_short begun.uuid answer then delete_course ends begun line || release_begun ends begun tells_no_memory line else release_begun ends begun any_answer line

-- the get of the marker; where it makes no entry it was refused
abbrev pub short_course : Ends → Beginning → List Turn → Bool
short_course ends begun (AtDoor place (Call node inc (Get name) answer) ∷ line) = gets_own begun (marker_name begun.uuid) node inc name && after_marker ends begun answer line
short_course ends begun line = release_begun ends begun tells_refused line

-- the course of a forget
abbrev pub forget_course : Ends → List Turn → Bool
forget_course ends (AtNode node before entry ∷ line) = admitted_course (short_course ends) ends entry.act line
forget_course ends line = false
