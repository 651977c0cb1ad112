-- What a call of the door leaves: its entry, and along with it what the store tells.
use Rattle.std.specs.Prelude.{Bool, Err, IsSomeAnd, IsTrue, List, None, Ok, Option, Result, Some, [], false, true, ℕ, ◌++◌, ◌||◌, ◌∷◌, ◌≡◌}
use Rattle.aft_keeper.specs.declared.keeper.KeeperAnswer.{KeeperAnswer}
use Rattle.aft_keeper.specs.declared.keeper.KeeperAnswer.TheVariants as answers
use Rattle.aft_keeper.specs.declared.keeper.KeeperCall.{KeeperCall}
use Rattle.aft_keeper.specs.declared.keeper.KeeperEntry.{KeeperEntry}
use Rattle.aft_keeper.specs.declared.keeper.Pair.{Pair}
use Rattle.aft_keeper.specs.Calls.{logged}
use Rattle.aft_door.specs.declared.fault.DoorFault.{DoorFault}
use Rattle.aft_door.specs.declared.fault.DoorFault.TheVariants.{Failed, Memory}
use Rattle.aft_door.specs.Entries.{called}
use Rattle.aft_model.specs.declared.caller.Caller.{Caller}
use Rattle.aft_model.specs.declared.door.DoorEntry.{DoorEntry}
use Rattle.aft_records.specs.declared.stored.Commit.{Commit}
use Rattle.aft_records.specs.declared.stored.Record.{Record}
use Rattle.aft_model.specs.Contents.{GoesAlong, keeper_entries}
use Rattle.aft_model.specs.DoorKnowledge.{is_open}
use Rattle.aft_model.specs.Opening.{may_open}

-- what a door shows: its history, and of its store what that holds and which calls it answered, where it tells them, what it told at first, and how often it has failed
pub record DoorView : Type 0 where
  pub history : List DoorEntry
  pub contents : Option (List Pair)
  pub log : Option (List KeeperEntry)
  pub first_contents : Option (List Pair)
  pub first_log : Option (List KeeperEntry)
  pub faults : ℕ

-- a door with one more entry, which made no call of the store
abbrev pub with_entry : DoorView → DoorEntry → DoorView
with_entry door e = record door { history = door.history ++ e ∷ [] }

-- a history with a call of the store, if that was answered
abbrev pub with_call : List DoorEntry → Caller → KeeperCall → Option KeeperAnswer → List DoorEntry
with_call history who asked None = history
with_call history who asked (Some answer) = history ++ called who asked answer ∷ []

-- contents go along with a history, from those at first; what isn't told stays so
abbrev pub ContentsAlong : Option (List Pair) → List DoorEntry → Option (List Pair) → Type 0
ContentsAlong None history now = now ≡ None
ContentsAlong (Some first) history now = IsSomeAnd now (GoesAlong first history)

-- a log with the calls of a history at its end; what isn't told stays so
abbrev pub logged_along : Option (List KeeperEntry) → List DoorEntry → Option (List KeeperEntry)
logged_along None history = None
logged_along (Some first) history = Some (first ++ keeper_entries history)

-- what the store tells goes along with the whole history, from what it told at first
pub record GoesOn (door : DoorView) : Type 0 where
  pub contents : ContentsAlong door.first_contents door.history door.contents
  pub log : door.log ≡ logged_along door.first_log door.history

-- contents go along with a call, if it was answered, and else stay
abbrev pub ContentsGo : Option (List Pair) → Caller → KeeperCall → Option KeeperAnswer → Option (List Pair) → Type 0
ContentsGo before who asked None after = after ≡ before
ContentsGo before who asked (Some answer) after = ContentsAlong before (called who asked answer ∷ []) after

-- a call was asked of the store, and answered so, or not answered
pub record Asks (old : DoorView) (who : Caller) (asked : KeeperCall) (answer : Option KeeperAnswer) (new : DoorView) : Type 0 where
  pub history : new.history ≡ with_call old.history who asked answer
  pub log : new.log ≡ logged old.log asked answer
  pub contents : ContentsGo old.contents who asked answer new.contents
  pub first_contents : new.first_contents ≡ old.first_contents
  pub first_log : new.first_log ≡ old.first_log

-- what the store answered to a put or a delete, by what the door did
abbrev pub told_done : {T : Type 0} → Result T DoorFault → Option KeeperAnswer
told_done (Ok x) = Some answers.Done
told_done (Err Failed) = Some answers.Failed
told_done (Err fault) = None

-- the same of a get
abbrev pub told_found : Result (Option (List ℕ)) DoorFault → Option KeeperAnswer
told_found (Ok None) = Some answers.Absent
told_found (Ok (Some bytes)) = Some (answers.Found bytes)
told_found (Err Failed) = Some answers.Failed
told_found (Err fault) = None

-- the same of a scan
abbrev pub told_page : Result (List Pair) DoorFault → Option KeeperAnswer
told_page (Ok pairs) = Some (answers.Page pairs)
told_page (Err Failed) = Some answers.Failed
told_page (Err fault) = None

-- whether want of memory may hide an answer: only what a get found and what a scan listed is copied for the caller
abbrev pub may_be_untold : Option KeeperAnswer → Bool
may_be_untold None = true
may_be_untold (Some (answers.Found bytes)) = true
may_be_untold (Some (answers.Page pairs)) = true
may_be_untold (Some answer) = false

-- what a caller is told of an answer: the answer, or want of memory where it was to be copied
abbrev pub Tells : {T : Type 0} → (Result T DoorFault → Option KeeperAnswer) → KeeperAnswer → Result T DoorFault → Type 0
Tells told answer (Err Memory) = IsTrue (may_be_untold (Some answer))
Tells told answer result = told result ≡ Some answer

-- a get or a scan: memory may run out behind its entry, and then what was found isn't told
abbrev pub Shows : {T : Type 0} → (Result T DoorFault → Option KeeperAnswer) → DoorView → Caller → KeeperCall → Result T DoorFault → DoorView → Type 0
Shows told old who asked (Err Memory) new = (answer : Option KeeperAnswer) × IsTrue (may_be_untold answer) × Asks old who asked answer new
Shows told old who asked result new = Asks old who asked (told result) new

-- whether a call may be asked now: the door is open, or the call is the next of the opening
abbrev pub may_ask : Caller → KeeperCall → List DoorEntry → Bool
may_ask who asked history = is_open history || may_open history (called who asked answers.Failed)

-- the record of the second format that the office puts for a commit
abbrev pub upgraded : Commit → Record
upgraded c = record { commit = c; origin = record { node = 0; inc = 0; reads = [] } }
