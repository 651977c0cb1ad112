-- How far a line has come in its course: its position.
use Rattle.std.specs.Prelude.{Bool, List, Option, false, true, ℕ}
use Rattle.aft_id.specs.declared.txn_id.TxnId.{TxnId}
use Rattle.aft_keeper.specs.declared.keeper.Pair.{Pair}
use Rattle.aft_records.specs.declared.stored.Commit.{Commit}
use Rattle.aft_model.specs.declared.caller.Attempt.{Attempt}
use Rattle.aft_model.specs.Attempts.{Write}
use Rattle.aft_model.specs.Membership.{Incarnation}
use Rattle.aft_lines.specs.BackupCourse.{Copier}
use Rattle.aft_lines.specs.BeginCourse.{Beginning}
use Rattle.aft_lines.specs.CommitCourse.{Storing}
use Rattle.aft_lines.specs.OrphanCourse.{VersionAt}
use Rattle.aft_lines.specs.ScanCourse.{ScanLimit}
use Rattle.aft_lines.specs.Turns.{Turn}

-- why a claim is to be let go: a get showed something or failed; a call was refused, or memory was wanting; or memory was wanting behind a get
pub data Reason : Type 0 where
  AnyReason : Reason
  Refusal : Reason
  NoRoom : Reason

-- how an attempt that has let its claim go is to end: committed, aborted, or left by a commit or an abort
pub data Outcome : Type 0 where
  EndsCommitted : Outcome
  EndsAborted : Outcome
  EndsLeft : Bool → Outcome

-- a scan run on its way: its limit, caller and prefix, the name behind which the next page begins, and what was listed
pub record Scanning : Type 0 where
  pub limit : ScanLimit
  pub who : Incarnation
  pub prefix : List ℕ
  pub after : List ℕ
  pub listed : List Pair

-- a version whose UUID a round of orphans holds, and those that follow
pub record Holding : Type 0 where
  pub one : VersionAt
  pub rest : List VersionAt

-- one way in which a round of orphans may stand: it has these versions left; it holds the UUID of one; it has looked at the record; and at the marker; it must let the UUID go, and goes on or ends there; it must answer, without its counts
pub data Standing : Type 0 where
  HasLeft : List VersionAt → Standing
  Holds : Holding → Standing
  LookedOnce : Holding → Standing
  LookedTwice : Holding → Standing
  MustFree : Bool → Holding → Standing
  MustTell : Standing

-- a UUID that the office holds, and the place of its claim
pub record AtDesk : Type 0 where
  pub uuid : List ℕ
  pub place : ℕ

-- a line's position
pub data Progress : Type 0 where
  NotBegun : Progress
  -- a begin or a forget: its attempt opens; it has the claim; it found no record; neither record nor marker; the short marker; it has deleted that; it must let the claim go; it has
  Admitted : Beginning → Progress
  HasClaim : Beginning → Progress
  FoundNoRecord : Beginning → Progress
  FoundUnused : Beginning → Progress
  FoundShort : Beginning → Progress
  HasForgotten : Beginning → Progress
  MustRelease : Beginning → Progress
  HasReleased : Beginning → Reason → Progress
  -- a get: it fetches a version, and has fetched it from a place
  Fetching : Attempt → List ℕ → TxnId → Progress
  HasFetched : Attempt → List ℕ → TxnId → ℕ → Progress
  -- a commit or an abort: it settles a doubt; it has these versions to put, and then the record; the record's put failed; the record is there; the node knows; an abort found none; the attempt must be left in doubt; the attempt leaves; it has let the claim go
  Settling : Bool → Storing → Progress
  IsStoring : Storing → List Write → Progress
  HasFailed : Storing → Progress
  IsRecorded : Storing → Progress
  IsNodeStored : Storing → Progress
  FoundAborted : Storing → Progress
  MustDoubt : Storing → Progress
  MustLeave : Bool → Attempt → List ℕ → Progress
  MustEnd : Attempt → Outcome → Progress
  -- a start: it is to come up; it scans; the scan has ended, whole or not
  MustComeUp : Incarnation → Progress
  BootScan : Scanning → Progress
  BootScanned : Incarnation → Bool → Progress
  -- a round of orphans: it scans; the UUID that it holds, if it does, and each way in which it may stand
  OrphanScan : Scanning → Progress
  InRound : Option AtDesk → List Standing → Progress
  -- a copy: it scans the records, and then the markers; it gets these versions; it must be fenced, with all copied or not; it has been
  CopyRecords : Copier → Scanning → Progress
  CopyMarkers : Copier → List Commit → Scanning → Progress
  Copying : Copier → List VersionAt → Progress
  MustFence : Copier → Bool → Progress
  HasFenced : Bool → Progress
  -- any other line: the turns that it has made
  Along : List Turn → Progress
  -- it answered alone that the node is down, in the middle of its course; or its last turn was made
  Stopped : Attempt → Progress
  IsOver : Progress

-- whether a position is behind a line's last turn
abbrev pub has_ended : Progress → Bool
has_ended IsOver = true
has_ended (Stopped a) = true
has_ended position = false
