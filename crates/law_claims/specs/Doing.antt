-- What an attempt is doing while a line that moves it is at a position, and how far its UUID has come where no line moves it.
use Rattle.std.specs.Prelude.{Bool, List, None, Option, Some, [], false, true, ℕ, ◌&&◌, ◌∷◌}
use Rattle.std.specs.List.{list_all, list_any}
use Rattle.std.specs.Str.{bytes_eq}
use Rattle.aft_records.specs.declared.stored.Commit.{Commit}
use Rattle.aft_records.specs.Commits.{same_commit}
use Rattle.aft_model.specs.declared.caller.Attempt.{Attempt}
use Rattle.aft_model.specs.Attempts.{AttemptState, IsGone, IsInDoubt, IsRunning, is_committing, is_leaving, is_opening, same_attempt}
use Rattle.aft_model.specs.NodeRules.{is_storing}
use Rattle.aft_model.specs.Stages.{Stage, is_clear}
use Rattle.aft_lines.specs.Progress.{Admitted, EndsLeft, FoundAborted, FoundNoRecord, FoundShort, FoundUnused, HasClaim, HasFailed, HasForgotten, HasReleased, IsNodeStored, IsOver, IsRecorded, IsStoring, MustDoubt, MustEnd, MustLeave, MustRelease, Outcome, Progress, Settling, Stopped}
use Rattle.law_holders.specs.Rows.{are_row_puts, is_idle, is_row, may_have_put, uuid_at}

-- ---- a line at a position

-- the attempt that a line in a position of a begin, a forget, a commit or an abort moves
abbrev pub attempt_at : Progress → Option Attempt
attempt_at (Admitted begun) = Some begun.attempt
attempt_at (HasClaim begun) = Some begun.attempt
attempt_at (FoundNoRecord begun) = Some begun.attempt
attempt_at (FoundUnused begun) = Some begun.attempt
attempt_at (FoundShort begun) = Some begun.attempt
attempt_at (HasForgotten begun) = Some begun.attempt
attempt_at (MustRelease begun) = Some begun.attempt
attempt_at (HasReleased begun reason) = Some begun.attempt
attempt_at (Settling aborts storing) = Some storing.attempt
attempt_at (IsStoring storing left) = Some storing.attempt
attempt_at (HasFailed storing) = Some storing.attempt
attempt_at (IsRecorded storing) = Some storing.attempt
attempt_at (IsNodeStored storing) = Some storing.attempt
attempt_at (FoundAborted storing) = Some storing.attempt
attempt_at (MustDoubt storing) = Some storing.attempt
attempt_at (MustLeave aborts a uuid) = Some a
attempt_at (MustEnd a outcome) = Some a
attempt_at position = None

-- whether it is this attempt
abbrev pub is_the : Attempt → Option Attempt → Bool
is_the a None = false
is_the a (Some b) = same_attempt a b

-- whether an attempt that is to end so does what it should: it leaves, or commits
abbrev pub is_ending : Outcome → AttemptState → Bool
is_ending (EndsLeft aborts) state = is_leaving state
is_ending outcome state = is_committing state

-- whether an attempt does what it should while its line is in a position: it opens, commits what the line stores, or leaves
abbrev pub is_doing : Progress → AttemptState → Bool
is_doing (Admitted begun) state = is_opening state
is_doing (HasClaim begun) state = is_opening state
is_doing (FoundNoRecord begun) state = is_opening state
is_doing (FoundUnused begun) state = is_opening state
is_doing (FoundShort begun) state = is_opening state
is_doing (HasForgotten begun) state = is_opening state
is_doing (MustRelease begun) state = is_opening state
is_doing (HasReleased begun reason) state = is_opening state
is_doing (Settling aborts storing) state = is_storing storing.written.commit state
is_doing (IsStoring storing left) state = is_storing storing.written.commit state
is_doing (HasFailed storing) state = is_storing storing.written.commit state
is_doing (IsRecorded storing) state = is_storing storing.written.commit state
is_doing (IsNodeStored storing) state = is_storing storing.written.commit state
is_doing (FoundAborted storing) state = is_storing storing.written.commit state
is_doing (MustDoubt storing) state = is_storing storing.written.commit state
is_doing (MustLeave aborts a uuid) state = is_leaving state
is_doing (MustEnd a outcome) state = is_ending outcome state
is_doing position state = false

-- whether a position names this UUID, if it names one
abbrev pub names_uuid : Progress → List ℕ → Bool
names_uuid (MustEnd a outcome) uuid = true
names_uuid position uuid = bytes_eq (uuid_at position) uuid

-- whether a line in a position moves this attempt, which does what it should, and is of this UUID
abbrev pub moves : Progress → Attempt → AttemptState → List ℕ → Bool
moves position a state uuid = is_the a (attempt_at position) && is_doing position state && names_uuid position uuid

-- whether a line in a position has claimed the UUID of its attempt, and not let it go
abbrev pub has_claim_at : Progress → Bool
has_claim_at (HasClaim begun) = true
has_claim_at (FoundNoRecord begun) = true
has_claim_at (FoundUnused begun) = true
has_claim_at (FoundShort begun) = true
has_claim_at (HasForgotten begun) = true
has_claim_at (MustRelease begun) = true
has_claim_at (Settling aborts storing) = true
has_claim_at (IsStoring storing left) = true
has_claim_at (HasFailed storing) = true
has_claim_at (IsRecorded storing) = true
has_claim_at (IsNodeStored storing) = true
has_claim_at (FoundAborted storing) = true
has_claim_at (MustDoubt storing) = true
has_claim_at (MustLeave aborts a uuid) = true
has_claim_at position = false

-- ---- an attempt that no line moves

-- whether a stage is that of the UUID of an attempt that no line moves: of one that is gone, that runs, or that is in doubt
abbrev pub is_rest : AttemptState → Stage → Bool
is_rest IsGone stage = is_idle stage
is_rest IsRunning stage = is_clear (λ names. true) stage
is_rest (IsInDoubt c) stage = may_have_put c stage
is_rest state stage = false

-- the commit whose record may have been put under the claim of such an attempt
abbrev pub doubted_in : AttemptState → List Commit
doubted_in (IsInDoubt c) = c ∷ []
doubted_in state = []

-- whether the records that were put under its claim are of that commit
abbrev pub are_rest_puts : AttemptState → List Commit → Bool
are_rest_puts state puts = list_all (λ d. list_any (λ c. same_commit c d) (doubted_in state)) puts

-- whether the stage, and what was put, are those of an attempt that no line moves
abbrev pub rests : AttemptState → Stage → List Commit → Bool
rests state stage puts = is_rest state stage && are_rest_puts state puts

-- and those of a line's position
abbrev pub keeps_row : Progress → Stage → List Commit → Bool
keeps_row position stage puts = is_row position stage && are_row_puts position puts

-- ---- behind a turn at a node

-- whether behind a turn an attempt rests as it should, where the line is over; is the one with which the line stopped; or goes on with it
abbrev pub is_left_so : Progress → Attempt → AttemptState → List ℕ → Stage → List Commit → Bool
is_left_so IsOver a state uuid stage puts = rests state stage puts
is_left_so (Stopped b) a state uuid stage puts = same_attempt a b
is_left_so next a state uuid stage puts = moves next a state uuid && keeps_row next stage puts
