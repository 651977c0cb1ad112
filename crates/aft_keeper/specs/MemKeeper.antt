-- What a keeper in memory holds, its log, and how its calls are told to go.
use Rattle.std.specs.Prelude.{ℕ, ◌≡◌, ◌+◌, Bool, true, false, List, [], length, count_by, Option, None, Some, min, unwrap_or}
use Rattle.aft_keeper.specs.Fate.{fate_at}
use Rattle.aft_keeper.specs.declared.keeper.Pair.{Pair}
use Rattle.aft_keeper.specs.declared.keeper.KeeperEntry.{KeeperEntry}
use Rattle.aft_keeper.specs.declared.keeper.KeeperCall.{KeeperCall}
use Rattle.aft_keeper.specs.declared.keeper.KeeperAnswer.{KeeperAnswer}
use Rattle.aft_keeper.specs.declared.keeper.KeeperAnswer.TheVariants.{Failed}
use Rattle.aft_keeper.specs.declared.fate.Fail.{Fail}
use Rattle.aft_keeper.specs.declared.fate.Fate.{Fate}
use Rattle.aft_keeper.specs.declared.mem_keeper.MemKeeper.{MemKeeper}

-- the pairs that it holds, ascending by name: those that it was given, until they are indexed
abbrev pub contents_of : MemKeeper → List Pair
contents_of keeper = unwrap_or keeper.given keeper.pairs

-- each call that it answered, oldest first
abbrev pub log_of : MemKeeper → List KeeperEntry
log_of keeper = keeper.log.items

-- the calls that are told to fail
abbrev pub fails_of : MemKeeper → List Fail
fails_of keeper = keeper.fails

-- the number of the call from which on every call fails
abbrev pub stop_of : MemKeeper → Option ℕ
stop_of keeper = keeper.stop

-- how the next call goes: its number is one more than the entries of the log
abbrev pub fate_of : MemKeeper → Fate
fate_of keeper = fate_at (fails_of keeper) (stop_of keeper) (length (log_of keeper) + 1)

-- a call and its answer
abbrev pub entry_of : KeeperCall → KeeperAnswer → KeeperEntry
entry_of call answer = record { call = call; answer = answer }

-- whether an answer is a failure
abbrev pub is_failure : KeeperAnswer → Bool
is_failure Failed = true
is_failure _ = false

-- how often it has failed
abbrev pub faults_of : MemKeeper → ℕ
faults_of keeper = count_by (λ e. is_failure e.answer) (log_of keeper)

-- the earlier of a stop and a call
abbrev pub earlier : Option ℕ → ℕ → ℕ
earlier None call = call
earlier (Some from) call = min from call

-- no call has failed, and none will
pub record NeverFails (keeper : MemKeeper) : Type 0 where
  pub no_fails : fails_of keeper ≡ []
  pub no_stop : stop_of keeper ≡ None
  pub no_faults : faults_of keeper ≡ 0
