-- The attempts of a service, read off its part: what each is doing, what it has buffered and what it has read.
use Rattle.std.specs.Prelude.{Bool, List, None, Option, Some, [], false, filter, if◌then◌else◌, map, not, suc, true, ℕ, ◌&&◌, ◌++◌, ◌-◌, ◌==◌, ◌∷◌}
use Rattle.std.specs.List.{flat_map, fold, list_any}
use Rattle.std.specs.Str.{bytes_eq}
use Rattle.aft_id.specs.declared.txn_id.TxnId.{TxnId}
use Rattle.aft_id.specs.TxnId.{same_id, zero_id}
use Rattle.aft_keeper.specs.Contents.{name_lt}
use Rattle.aft_records.specs.declared.stored.Commit.{Commit}
use Rattle.aft_model.specs.declared.caller.Attempt.{Attempt}
use Rattle.aft_model.specs.declared.caller.By.{By}
use Rattle.aft_model.specs.declared.choice.Picked.{Picked}
use Rattle.aft_model.specs.declared.node.NodeAct.{NodeAct}
use Rattle.aft_model.specs.declared.node.NodeAct.TheVariants.{Admit, Begin, Doubt, End, Leave, Lost, Put, Select, Settle, Start, Unadmit, Value}
use Rattle.aft_model.specs.declared.node.NodeEntry.{NodeEntry}
use Rattle.aft_model.specs.declared.read_set.ReadPair.{ReadPair}
use Rattle.aft_model.specs.declared.choice.Picked.TheVariants as picked

-- whether two attempts are the same
abbrev pub same_attempt : Attempt → Attempt → Bool
same_attempt a b = a.node == b.node && a.inc == b.inc && a.number == b.number

-- ---- what an attempt is doing

-- an attempt opens, runs, commits, is in doubt about its commit, or leaves; or it isn't there
pub data AttemptState : Type 0 where
  IsGone : AttemptState
  IsOpening : AttemptState
  IsRunning : AttemptState
  IsCommitting : Commit → AttemptState
  IsInDoubt : Commit → AttemptState
  IsLeaving : AttemptState

-- a commit in doubt is tried again
abbrev pub tried_again : AttemptState → AttemptState
tried_again (IsInDoubt c) = IsCommitting c
tried_again before = before

-- it isn't known whether the commit is stored
abbrev pub doubted : AttemptState → AttemptState
doubted (IsCommitting c) = IsInDoubt c
doubted before = before

-- what an attempt is doing after an act
abbrev pub attempt_after : Attempt → AttemptState → NodeAct → AttemptState
attempt_after a before (Admit b uuid) = if same_attempt a b then IsOpening else before
attempt_after a before (Begin b) = if same_attempt a b then IsRunning else before
attempt_after a before (Unadmit b) = if same_attempt a b then IsGone else before
attempt_after a before (Start b now c) = if same_attempt a b then IsCommitting c else before
attempt_after a before (Settle b) = if same_attempt a b then tried_again before else before
attempt_after a before (Leave b) = if same_attempt a b then IsLeaving else before
attempt_after a before (Doubt b) = if same_attempt a b then doubted before else before
attempt_after a before (End b) = if same_attempt a b then IsGone else before
attempt_after a before act = before

-- what an attempt is doing after a part
abbrev pub attempt_state : Attempt → List NodeEntry → AttemptState
attempt_state a part = fold (λ before entry. attempt_after a before entry.act) IsGone part

-- whether an attempt opens, runs or is gone
abbrev pub is_opening : AttemptState → Bool
is_opening IsOpening = true
is_opening state = false

abbrev pub is_running : AttemptState → Bool
is_running IsRunning = true
is_running state = false

abbrev pub is_leaving : AttemptState → Bool
is_leaving IsLeaving = true
is_leaving state = false

abbrev pub is_committing : AttemptState → Bool
is_committing (IsCommitting c) = true
is_committing state = false

abbrev pub is_in_doubt : AttemptState → Bool
is_in_doubt (IsInDoubt c) = true
is_in_doubt state = false

abbrev pub is_gone : AttemptState → Bool
is_gone IsGone = true
is_gone state = false

-- the commit that an attempt has fixed: it is being stored, or in doubt
abbrev pub fixed_commit : AttemptState → Option Commit
fixed_commit (IsCommitting c) = Some c
fixed_commit (IsInDoubt c) = Some c
fixed_commit state = None

-- ---- which attempts there are

-- the attempt that an act admits
abbrev pub admitted_by : NodeAct → List Attempt
admitted_by (Admit a uuid) = a ∷ []
admitted_by act = []

-- the attempts that a part admitted, in order
abbrev pub attempts : List NodeEntry → List Attempt
attempts part = flat_map (λ entry. admitted_by entry.act) part

-- the attempts that are there
abbrev pub present : List NodeEntry → List Attempt
present part = filter (λ a. not (is_gone (attempt_state a part))) (attempts part)

-- whether an act admits this attempt for this UUID
abbrev pub admits : Attempt → List ℕ → NodeAct → Bool
admits a uuid (Admit b admitted) = same_attempt a b && bytes_eq uuid admitted
admits a uuid act = false

-- whether an attempt is of a UUID
abbrev pub is_of : List ℕ → List NodeEntry → Attempt → Bool
is_of uuid part a = list_any (λ entry. admits a uuid entry.act) part

-- the attempts of a UUID that are there
abbrev pub present_of : List ℕ → List NodeEntry → List Attempt
present_of uuid part = filter (is_of uuid part) (present part)

-- the UUID of an attempt after an act
abbrev pub uuid_after : Attempt → List ℕ → NodeAct → List ℕ
uuid_after a before (Admit b uuid) = if same_attempt a b then uuid else before
uuid_after a before act = before

-- the UUID that an attempt was admitted for
abbrev pub uuid_of : Attempt → List NodeEntry → List ℕ
uuid_of a part = fold (λ before entry. uuid_after a before entry.act) [] part

-- ---- what an attempt has buffered

-- a buffered write
pub record Write : Type 0 where
  pub key : List ℕ
  pub value : List ℕ

-- writes in key order with one more, in place of that of its key
abbrev pub with_write : Write → List Write → List Write
with_write write [] = write ∷ []
with_write write (other ∷ writes) =
    if bytes_eq write.key other.key then write ∷ writes
    else if name_lt write.key other.key then write ∷ other ∷ writes
    else other ∷ with_write write writes

-- what an attempt has buffered after an act
abbrev pub buffer_after : Attempt → List Write → NodeAct → List Write
buffer_after a before (Put b key value) = if same_attempt a b then with_write (record { key = key; value = value }) before else before
buffer_after a before act = before

-- what an attempt has buffered: the last value that it put for each key, in key order
abbrev pub buffer : Attempt → List NodeEntry → List Write
buffer a part = fold (λ before entry. buffer_after a before entry.act) [] part

-- the value of a key in a buffer
abbrev pub buffered : List ℕ → List Write → Option (List ℕ)
buffered key [] = None
buffered key (write ∷ writes) = if bytes_eq key write.key then Some write.value else buffered key writes

-- the keys of a buffer, ascending
abbrev pub written_keys : List Write → List (List ℕ)
written_keys writes = map (λ write. write.key) writes

-- ---- what an attempt has read

-- whether a key was read at this id
abbrev pub is_read : ReadPair → List ReadPair → Bool
is_read pair reads = list_any (λ other. bytes_eq pair.key other.key && same_id pair.id other.id) reads

-- reads with one more, if it isn't there
abbrev pub with_read : ReadPair → List ReadPair → List ReadPair
with_read pair reads = if is_read pair reads then reads else reads ++ pair ∷ []

-- the id at which a pick reads: that of the version, or the zero id of an absent key
abbrev pub read_by : Picked → List TxnId
read_by (picked.Own value) = []
read_by (picked.Cached id value) = id ∷ []
read_by (picked.Fetch id) = id ∷ []
read_by picked.Absent = zero_id ∷ []
read_by (picked.NoneFits blocked) = []

-- what an attempt has read after an act
abbrev pub reads_after : Attempt → List ReadPair → NodeAct → List ReadPair
reads_after a before (Select b key pick) = if same_attempt a b then fold (λ reads id. with_read (record { key = key; id = id }) reads) before (read_by pick) else before
reads_after a before act = before

-- what an attempt has read: the ids that its gets picked, in order
abbrev pub reads : Attempt → List NodeEntry → List ReadPair
reads a part = fold (λ before entry. reads_after a before entry.act) [] part

-- whether an act of this attempt begins a fetch, or ends one
abbrev pub fetches : Attempt → NodeAct → Bool
fetches a (Select b key (picked.Fetch id)) = same_attempt a b
fetches a act = false

abbrev pub ends_fetch : Attempt → NodeAct → Bool
ends_fetch a (Value b key id place kept) = same_attempt a b
ends_fetch a (Lost b key id) = same_attempt a b
ends_fetch a act = false

-- how many fetches of an attempt aren't over after an act
abbrev pub open_after : Attempt → ℕ → NodeAct → ℕ
open_after a before act = if fetches a act then suc before else if ends_fetch a act then before - 1 else before

-- how many fetches of an attempt aren't over
abbrev pub open_reads : Attempt → List NodeEntry → ℕ
open_reads a part = fold (λ before entry. open_after a before entry.act) 0 part

-- whether an attempt that is there has read at an id
abbrev pub is_pinned : TxnId → List NodeEntry → Bool
is_pinned id part = list_any (λ a. list_any (λ pair. same_id id pair.id) (reads a part)) (present part)

-- ---- an attempt as a row

-- all of an attempt: its number, its UUID, what it is doing, what it has buffered and read, and how many of its fetches aren't over
pub record Row : Type 0 where
  pub number : ℕ
  pub uuid : List ℕ
  pub state : AttemptState
  pub writes : List Write
  pub pairs : List ReadPair
  pub fetching : ℕ

-- an attempt as a row
abbrev pub row_of : List NodeEntry → Attempt → Row
row_of part a = record { number = a.number; uuid = uuid_of a part; state = attempt_state a part; writes = buffer a part; pairs = reads a part; fetching = open_reads a part }

-- the attempts that are there as rows, in order of number
abbrev pub rows : List NodeEntry → List Row
rows part = map (row_of part) (present part)

-- ---- who moves an attempt

-- the line that an act puts in charge of an attempt: the one that starts, settles or leaves it, until it is in doubt or has ended
abbrev pub owner_after : Attempt → By → Option By → NodeAct → Option By
owner_after a by before (Start b now c) = if same_attempt a b then Some by else before
owner_after a by before (Settle b) = if same_attempt a b then Some by else before
owner_after a by before (Leave b) = if same_attempt a b then Some by else before
owner_after a by before (Doubt b) = if same_attempt a b then None else before
owner_after a by before (End b) = if same_attempt a b then None else before
owner_after a by before act = before

-- the line that moves an attempt on, if one does
abbrev pub owner : Attempt → List NodeEntry → Option By
owner a part = fold (λ before entry. owner_after a entry.by before entry.act) None part
