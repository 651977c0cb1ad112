-- The causes of what a put, a get, a commit and an abort answer by how they find the attempt that their client holds. They are tested in this order: it holds none; the node doesn't serve the attempt's incarnation; the attempt is gone; its state; then the room in its buffer, its fetches that aren't over, and the end of the clock.
use Rattle.std.specs.Prelude.{Bool, List, None, Option, Some, [], false, is_none, length, not, true, ℕ, ◌&&◌, ◌==◌, ◌||◌, ◌∷◌}
use Rattle.std.specs.List.{flat_map}
use Rattle.std.specs.Option.{option_eq, option_or}
use Rattle.std.specs.Str.{bytes_eq}
use Rattle.aft_records.specs.Limits.{is_time}
use Rattle.aft_model.specs.declared.caller.Attempt.{Attempt}
use Rattle.aft_model.specs.declared.node.NodeAct.{NodeAct}
use Rattle.aft_model.specs.declared.node.NodeAct.TheVariants.{Start}
use Rattle.aft_model.specs.declared.script.Command.{Command}
use Rattle.aft_model.specs.Attempts.{AttemptState, attempt_state, buffer, buffered, is_committing, is_gone, is_leaving, is_opening, is_running, open_reads, reads, written_keys}
use Rattle.aft_model.specs.History.{first_of}
use Rattle.aft_model.specs.Known.{known_in}
use Rattle.aft_model.specs.NodeRules.{commit_time, may_put_key}
use Rattle.aft_model.specs.NodeState.{Service, part}
use Rattle.aft_lines.specs.LineView.{LineView, behind_first, finds, is_abort, is_commit, node_turns}
use Rattle.aft_model.specs.declared.script.Command.TheVariants as commands

-- what an attempt is doing in a service
abbrev pub state_in : Attempt → Service → AttemptState
state_in a serving = attempt_state a serving.part

-- whether a command speaks of the attempt that its client holds
abbrev pub speaks_of_attempt : Command → Bool
speaks_of_attempt (commands.Put key value) = true
speaks_of_attempt (commands.Get key) = true
speaks_of_attempt commands.Commit = true
speaks_of_attempt commands.Abort = true
speaks_of_attempt command = false

-- no transaction: the client holds no attempt, or the one that it holds is gone from the service of its incarnation
abbrev pub is_no_transaction_caused : LineView → Bool
is_no_transaction_caused view = speaks_of_attempt view.command && (is_none view.hold.attempt || finds (λ a serving. is_gone (state_in a serving)) view)

-- whether an attempt's state refuses a command: a put and a get are for an attempt that runs, a commit and an abort for one that runs or is in doubt
abbrev pub is_refused_by : AttemptState → Command → Bool
is_refused_by state (commands.Put key value) = not (is_gone state || is_running state)
is_refused_by state (commands.Get key) = not (is_gone state || is_running state)
is_refused_by state commands.Commit = is_opening state || is_committing state || is_leaving state
is_refused_by state commands.Abort = is_opening state || is_committing state || is_leaving state
is_refused_by state command = false

-- committing: the attempt is there, and its state refuses the command
abbrev pub is_committing_caused : LineView → Bool
is_committing_caused view = finds (λ a serving. is_refused_by (state_in a serving) view.command) view

-- whether a command is a put of a key and a value that pass a test
abbrev pub of_put : (List ℕ → List ℕ → Bool) → Command → Bool
of_put test (commands.Put key value) = test key value
of_put test command = false

-- too many keys: the attempt runs, and the key of the put is new and the buffer full
abbrev pub is_too_many_keys_caused : LineView → Bool
is_too_many_keys_caused view = of_put (λ key value. finds (λ a serving. is_running (state_in a serving) && not (may_put_key serving a key)) view) view.command

-- whether the attempt has buffered this value for this key behind the line's turn
abbrev pub holds_value : List ℕ → List ℕ → Attempt → LineView → Bool
holds_value key value a view = option_eq bytes_eq (buffered key (buffer a (part (behind_first view)))) (Some value)

-- ok: the attempt runs and has room for the key, and its buffer has the value from this line on
abbrev pub is_ok_caused : LineView → Bool
is_ok_caused view =
    of_put (λ key value. finds (λ a serving. is_running (state_in a serving) && may_put_key serving a key && holds_value key value a view) view) view.command

-- whether a command ends an attempt
abbrev pub ends_attempt : Command → Bool
ends_attempt command = is_commit command || is_abort command

-- open reads: a commit or an abort of an attempt that runs, of which so many fetches aren't over
abbrev pub is_open_reads_caused : ℕ → LineView → Bool
is_open_reads_caused count view =
    ends_attempt view.command && not (count == 0) && finds (λ a serving. is_running (state_in a serving) && open_reads a serving.part == count) view

-- ---- the end of the clock

-- what the clock read where an act fixes a commit
abbrev pub read_in : NodeAct → List ℕ
read_in (Start a now c) = now ∷ []
read_in act = []

-- what the line read of the clock: what the clock tells, or else what the line fixed its commit with; where it fixed none, this isn't known
abbrev pub reading : LineView → Option ℕ
reading view = option_or view.clock (first_of (flat_map (λ turn. read_in turn.entry.act) (node_turns view)))

-- whether the time of a commit would pass the last one; by a reading that isn't known it may
abbrev pub passes_end : Option ℕ → Attempt → Service → Bool
passes_end None a serving = true
passes_end (Some now) a serving = not (is_time (commit_time now (reads a serving.part) (written_keys (buffer a serving.part)) (known_in serving)))

-- whether an attempt may be committed, with so many keys as pass a test: it runs, and each fetch of it is over
abbrev pub is_ready : (ℕ → Bool) → Attempt → Service → Bool
is_ready test a serving = is_running (state_in a serving) && open_reads a serving.part == 0 && test (length (buffer a serving.part))

-- the end of the clock: a commit of an attempt that runs, has put something and has no fetch that isn't over, and the time of its commit would pass the last one
abbrev pub is_clock_end_caused : LineView → Bool
is_clock_end_caused view =
    is_commit view.command && finds (λ a serving. is_ready (λ count. not (count == 0)) a serving && passes_end (reading view) a serving) view
