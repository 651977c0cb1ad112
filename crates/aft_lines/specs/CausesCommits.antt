-- The causes of what a commit and an abort answer once they went on: by what the line stored and was shown of its commit.
use Rattle.std.specs.Prelude.{Bool, List, false, true, ℕ, ◌&&◌, ◌==◌, ◌||◌}
use Rattle.std.specs.List.{list_any}
use Rattle.std.specs.Str.{bytes_eq}
use Rattle.aft_id.specs.declared.txn_id.TxnId.{TxnId}
use Rattle.aft_id.specs.TxnId.{same_id}
use Rattle.aft_keeper.specs.declared.keeper.KeeperAnswer.TheVariants.{Failed}
use Rattle.aft_keeper.specs.declared.keeper.KeeperCall.TheVariants.{Get, Put}
use Rattle.aft_records.specs.declared.stored.Commit.{Commit}
use Rattle.aft_model.specs.declared.door.DoorAct.{DoorAct}
use Rattle.aft_model.specs.declared.door.DoorAct.TheVariants.{Call}
use Rattle.aft_model.specs.declared.door.DoorEntry.{DoorEntry}
use Rattle.aft_model.specs.Attempts.{is_in_doubt}
use Rattle.aft_model.specs.Evidence.{shows_absent}
use Rattle.aft_model.specs.History.{followed}
use Rattle.aft_model.specs.NodeSights.{is_stored_by}
use Rattle.aft_model.specs.Readings.{record_name}
use Rattle.aft_lines.specs.CausesAttempts.{is_ready, state_in}
use Rattle.aft_lines.specs.CausesBegins.{of_begin, shows_id}
use Rattle.aft_lines.specs.LineView.{LineView, door_entries, finds, is_abort, is_commit, is_for_fixed}

-- committed: to a begin, the line was shown a record or a marker of this id; to a commit or an abort, its commit has this id, and the line put its record and that was acknowledged, or was shown it
abbrev pub is_committed_caused : TxnId → LineView → Bool
is_committed_caused id view =
    of_begin (λ uuid node. shows_id id view) view.command || is_for_fixed (λ c. same_id id c.id && is_stored_by c (door_entries view)) view

-- whether an act is a put of this name that failed, or a get of it that did
abbrev pub fails_put : List ℕ → DoorAct → Bool
fails_put name (Call node inc (Put put bytes) Failed) = bytes_eq name put
fails_put name act = false

abbrev pub fails_get : List ℕ → DoorAct → Bool
fails_get name (Call node inc (Get got) Failed) = bytes_eq name got
fails_get name act = false

-- whether a put of the record of a commit failed, and then a get of it too
abbrev pub fails_both : Commit → List DoorEntry → Bool
fails_both c entries = followed (λ entry. fails_put (record_name c.id.uuid) entry.act) (list_any (λ entry. fails_get (record_name c.id.uuid) entry.act)) entries

-- in doubt: the line's put of the record failed, and then its get to settle it too
abbrev pub is_in_doubt_caused : LineView → Bool
is_in_doubt_caused view = is_commit view.command && is_for_fixed (λ c. fails_both c (door_entries view)) view

-- ended: a commit of an attempt that runs, has put nothing and has no fetch that isn't over
abbrev pub is_ended_caused : LineView → Bool
is_ended_caused view = is_commit view.command && finds (is_ready (λ count. count == 0)) view

-- whether a commit in doubt was found to have no record
abbrev pub is_found_absent : LineView → Bool
is_found_absent view =
    finds (λ a serving. is_in_doubt (state_in a serving)) view && is_for_fixed (λ c. list_any (shows_absent (record_name c.id.uuid)) (door_entries view)) view

-- aborted: an abort of an attempt that runs and has no fetch that isn't over, or of one in doubt whose record the line was shown to be absent
abbrev pub is_aborted_caused : LineView → Bool
is_aborted_caused view = is_abort view.command && (finds (is_ready (λ count. true)) view || is_found_absent view)
