-- The causes of what a begin and a forget answer. They are tested in this order: the node doesn't serve; an attempt of the UUID is there; another incarnation holds the UUID; it is forgotten; what the gets of its record and its marker show.
use Rattle.std.specs.Prelude.{Bool, List, false, is_none, length, map, not, ℕ, ◌&&◌, ◌++◌, ◌==◌, ◌||◌}
use Rattle.std.specs.List.{flat_map, list_any}
use Rattle.std.specs.Str.{bytes_eq}
use Rattle.aft_id.specs.declared.txn_id.TxnId.{TxnId}
use Rattle.aft_keeper.specs.declared.keeper.Pair.{Pair}
use Rattle.aft_records.specs.Commits.{ids_of, is_listed}
use Rattle.aft_model.specs.declared.door.DoorEntry.{DoorEntry}
use Rattle.aft_model.specs.declared.script.Command.{Command}
use Rattle.aft_model.specs.Attempts.{is_opening, present_of}
use Rattle.aft_model.specs.Claims.{forgotten, holder, holds}
use Rattle.aft_model.specs.Committed.{marks_in, shorts_in}
use Rattle.aft_model.specs.DoorKnowledge.{deletes, ids_in, knows_unused}
use Rattle.aft_model.specs.Evidence.{shown_pairs}
use Rattle.aft_model.specs.History.{followed}
use Rattle.aft_model.specs.Membership.{Incarnation, incarnation, same_incarnation}
use Rattle.aft_model.specs.NodeState.{Service, in_service}
use Rattle.aft_model.specs.Readings.{marker_name, records_in}
use Rattle.aft_model.specs.Stages.{is_claim}
use Rattle.aft_lines.specs.CausesAttempts.{state_in}
use Rattle.aft_lines.specs.LineView.{LineView, door_entries, first_front, found_service, last_front, newest_here, some_prefix, went_on}
use Rattle.aft_model.specs.declared.script.Command.TheVariants as commands

-- whether a command is the begin of a UUID at a node, which pass a test
abbrev pub of_begin : (List ℕ → ℕ → Bool) → Command → Bool
of_begin test (commands.Begin uuid node) = test uuid node
of_begin test command = false

-- the same of a forget, and of either
abbrev pub of_forget : (List ℕ → ℕ → Bool) → Command → Bool
of_forget test (commands.Forget uuid node) = test uuid node
of_forget test command = false

abbrev pub of_claim : (List ℕ → ℕ → Bool) → Command → Bool
of_claim test command = of_begin test command || of_forget test command

-- begun: the line claimed the UUID for its node's incarnation, and then found neither record nor marker of it
abbrev pub is_begun_caused : List ℕ → LineView → Bool
is_begun_caused uuid view =
    of_begin (λ asked node. bytes_eq uuid asked && knows_unused (incarnation node (newest_here view)) asked (door_entries view)) view.command

-- whether a service has an attempt of a UUID that opens, one that doesn't open any more, or any
abbrev pub has_opening : List ℕ → Service → Bool
has_opening uuid serving = list_any (λ a. is_opening (state_in a serving)) (present_of uuid serving.part)

abbrev pub has_opened : List ℕ → Service → Bool
has_opened uuid serving = list_any (λ a. not (is_opening (state_in a serving))) (present_of uuid serving.part)

abbrev pub has_attempt : List ℕ → Service → Bool
has_attempt uuid serving = not (length (present_of uuid serving.part) == 0)

-- joined: the node serves, and has an attempt of the UUID that doesn't open any more
abbrev pub is_joined_caused : List ℕ → LineView → Bool
is_joined_caused uuid view = of_begin (λ asked node. bytes_eq uuid asked && in_service (has_opened asked) (found_service view)) view.command

-- whether the node of a line serves as this incarnation, and its service passes a test
abbrev pub is_busy_here : Incarnation → (Service → Bool) → ℕ → LineView → Bool
is_busy_here who test node view = who.node == node && in_service (λ serving. who.inc == serving.inc && test serving) (found_service view)

-- whether a line went on to claim its UUID, and claimed nothing
abbrev pub claimed_nothing : LineView → Bool
claimed_nothing view = went_on view && not (list_any (λ entry. is_claim entry.act) (door_entries view))

-- whether another incarnation held the UUID at a place between the line's first turn and its last, and the line, which went on to claim it, claimed nothing
abbrev pub is_held_elsewhere : Incarnation → List ℕ → ℕ → LineView → Bool
is_held_elsewhere who uuid node view =
    claimed_nothing view
    && not (same_incarnation who (incarnation node (newest_here view)))
    && some_prefix (holds who uuid) (first_front view) (last_front view) view.seen

-- busy: an attempt of the UUID opens at this node, or to a forget is there at all, or another incarnation held it when the line went to claim it
abbrev pub is_busy_caused : Incarnation → LineView → Bool
is_busy_caused who view =
    of_begin (λ uuid node. is_busy_here who (has_opening uuid) node view) view.command
    || of_forget (λ uuid node. is_busy_here who (has_attempt uuid) node view) view.command
    || of_claim (λ uuid node. is_held_elsewhere who uuid node view) view.command

-- whether a UUID is forgotten, and nobody holds it
abbrev pub is_closed : List ℕ → List DoorEntry → Bool
is_closed uuid history = forgotten uuid history && is_none (holder uuid history)

-- forgotten: the UUID was forgotten, and nobody held it, when the line went to claim it
abbrev pub is_forgotten_caused : List ℕ → LineView → Bool
is_forgotten_caused uuid view =
    of_claim (λ asked node. bytes_eq uuid asked && claimed_nothing view && some_prefix (is_closed uuid) (first_front view) (last_front view) view.seen) view.command

-- whether the line was shown a record or a marker of this id
abbrev pub shows_id : TxnId → LineView → Bool
shows_id id view = list_any (is_listed id) (map ids_in (flat_map shown_pairs (door_entries view)))

-- ---- forget

-- whether an act is an acknowledged delete of the marker of an id's UUID
abbrev pub deletes_marker : TxnId → DoorEntry → Bool
deletes_marker id entry = deletes (marker_name id.uuid) entry.act

-- forgot: the line was shown the short marker of this id, and then its delete of that was acknowledged
abbrev pub is_forgot_caused : TxnId → LineView → Bool
is_forgot_caused id view =
    of_forget (λ uuid node. followed (λ entry. list_any (λ pair. is_listed id (shorts_in pair)) (shown_pairs entry)) (list_any (deletes_marker id)) (door_entries view)) view.command

-- the ids that a pair shows but for that of a short marker
abbrev pub kept_ids : Pair → List TxnId
kept_ids pair = ids_of (records_in pair ++ marks_in pair)

-- kept: the line was shown the record or the full marker of this id
abbrev pub is_kept_caused : TxnId → LineView → Bool
is_kept_caused id view = of_forget (λ uuid node. list_any (λ pair. is_listed id (kept_ids pair)) (flat_map shown_pairs (door_entries view))) view.command

-- unknown: the line claimed the UUID, and then found neither record nor marker of it
abbrev pub is_unknown_caused : List ℕ → LineView → Bool
is_unknown_caused uuid view =
    of_forget (λ asked node. bytes_eq uuid asked && knows_unused (incarnation node (newest_here view)) asked (door_entries view)) view.command
