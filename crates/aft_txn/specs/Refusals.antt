-- Which refusal comes.
use Rattle.std.specs.Prelude.{Err, IsOk, List, None, OnErr, Option, Result, Some, if◌then◌else◌, is_some, length, max, nat_lt, not, ℕ, ◌==◌, ◌||◌, ◌≡◌}
use Rattle.aft_records.specs.Limits.{is_time}
use Rattle.aft_model.specs.declared.read_set.ReadPair.{ReadPair}
use Rattle.aft_model.specs.Attempts.{Row, buffered, is_running}
use Rattle.aft_model.specs.NodeRules.{greatest_of, times_read}
use Rattle.aft_txn.specs.declared.state.TxnFault.{TxnFault}
use Rattle.aft_txn.specs.declared.state.TxnFault.TheVariants.{ClockEnd, Committing, Memory, NoTxn, OpenReads, TooManyKeys}

-- the refusal of a call on an attempt that is there and has to run: it doesn't run, or else why
abbrev pub refused_row : (Row → Option TxnFault) → Row → Option TxnFault
refused_row why row = if is_running row.state then why row else Some Committing

-- the refusal of a call on an attempt that has to run: none has the number, it doesn't run, or else why
abbrev pub refusal : (Row → Option TxnFault) → Option Row → Option TxnFault
refusal why None = Some NoTxn
refusal why (Some row) = refused_row why row

-- of a put: the key would be the 33rd
abbrev pub put_refusal : List ℕ → Row → Option TxnFault
put_refusal key row = if is_some (buffered key row.writes) || nat_lt (length row.writes) 32 then None else Some TooManyKeys

-- of a read: none
abbrev pub read_refusal : Row → Option TxnFault
read_refusal row = None

-- of leaving: reads are open
abbrev pub leave_refusal : Row → Option TxnFault
leave_refusal row = if row.fetching == 0 then None else Some (OpenReads row.fetching)

-- the time of a commit: the greatest of 1, the clock's time, one more than each time that was read, and the floor
abbrev pub start_time : ℕ → ℕ → List ReadPair → ℕ
start_time now floor pairs = max (max 1 now) (max (greatest_of (times_read pairs)) floor)

-- of a commit: reads are open, or its time would be past the last one
abbrev pub start_refusal : ℕ → ℕ → Row → Option TxnFault
start_refusal now floor row =
    if not (row.fetching == 0) then Some (OpenReads row.fetching)
    else if is_time (start_time now floor row.pairs) then None
    else Some ClockEnd

-- a call that takes no memory is refused just so
abbrev pub IsRefused : {T : Type 0} → Option TxnFault → Result T TxnFault → Type 0
IsRefused None result = IsOk result
IsRefused (Some fault) result = result ≡ Err fault

-- a call that takes memory is refused so, and otherwise at most for want of memory
abbrev pub MayBeRefused : {T : Type 0} → Option TxnFault → Result T TxnFault → Type 0
MayBeRefused None result = OnErr result (result ≡ Err Memory)
MayBeRefused (Some fault) result = result ≡ Err fault
