-- The causes of what a get answers: by the pick of its key in the service that it found, and by what its fetch showed.
use Rattle.std.specs.Prelude.{Bool, List, Option, Some, false, ℕ, ◌&&◌, ◌||◌}
use Rattle.std.specs.List.{list_any}
use Rattle.aft_id.specs.declared.txn_id.TxnId.{TxnId}
use Rattle.aft_model.specs.declared.caller.Attempt.{Attempt}
use Rattle.aft_model.specs.declared.choice.Blocked.{Blocked}
use Rattle.aft_model.specs.declared.choice.Picked.{Picked}
use Rattle.aft_model.specs.declared.script.Command.{Command}
use Rattle.aft_model.specs.Attempts.{is_running}
use Rattle.aft_model.specs.DoorKnowledge.{finds_absent}
use Rattle.aft_model.specs.NodeRules.{pick, same_picked}
use Rattle.aft_model.specs.NodeSights.{finds_version}
use Rattle.aft_model.specs.Readings.{version_name}
use Rattle.aft_lines.specs.CausesAttempts.{state_in}
use Rattle.aft_lines.specs.CourseWords.{caller_of}
use Rattle.aft_lines.specs.LineView.{LineView, door_entries, finds}
use Rattle.aft_model.specs.declared.script.Command.TheVariants as commands
use Rattle.aft_model.specs.declared.choice.Picked.TheVariants as picked

-- whether a command is a get whose attempt runs and picks this for its key
abbrev pub picks_by : Picked → Command → LineView → Bool
picks_by what (commands.Get key) view = finds (λ a serving. is_running (state_in a serving) && same_picked (pick view.settings.cache serving a key) what) view
picks_by what command view = false

abbrev pub picks : Picked → LineView → Bool
picks what view = picks_by what view.command view

-- own: the attempt picks its own last put of the key, which is this value
abbrev pub is_own_caused : List ℕ → LineView → Bool
is_own_caused value view = picks (picked.Own value) view

-- absent: the attempt picks that the key is absent
abbrev pub is_absent_caused : LineView → Bool
is_absent_caused view = picks picked.Absent view

-- no valid version: the attempt picks none, and these are the blockers
abbrev pub is_no_valid_version_caused : List Blocked → LineView → Bool
is_no_valid_version_caused blocked view = picks (picked.NoneFits blocked) view

-- whether a line of a get passes a test of its caller and its key
abbrev pub of_get : (Attempt → List ℕ → Bool) → Command → Option Attempt → Bool
of_get test (commands.Get key) (Some a) = test a key
of_get test command a = false

-- whether the line's fetch of a version found this value
abbrev pub found_value : TxnId → List ℕ → LineView → Bool
found_value id value view =
    of_get (λ a key. list_any (λ entry. finds_version (caller_of a) key id value entry.act) (door_entries view)) view.command view.hold.attempt

-- whether the line's fetch of a version found nothing
abbrev pub found_nothing : TxnId → LineView → Bool
found_nothing id view =
    of_get (λ a key. list_any (λ entry. finds_absent (caller_of a) (version_name key id) entry.act) (door_entries view)) view.command view.hold.attempt

-- value: the attempt picks this version, and its value is kept, or the line's fetch found it
abbrev pub is_value_caused : TxnId → List ℕ → LineView → Bool
is_value_caused id value view = picks (picked.Cached id value) view || picks (picked.Fetch id) view && found_value id value view

-- missing: the attempt picks to fetch this version, and the line's fetch found nothing
abbrev pub is_missing_caused : TxnId → LineView → Bool
is_missing_caused id view = picks (picked.Fetch id) view && found_nothing id view
