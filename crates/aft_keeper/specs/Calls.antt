-- What a call of a store leaves of its contents and adds to its log.
use Rattle.std.specs.Prelude.{ℕ, ◌≡◌, ◌⊎◌, List, [], ◌∷◌, ◌++◌, Option, None, Some, Result, Ok, Err, IsSomeAnd}
use Rattle.aft_keeper.specs.declared.keeper.Pair.{Pair}
use Rattle.aft_keeper.specs.declared.keeper.KeeperCall.{KeeperCall}
use Rattle.aft_keeper.specs.declared.keeper.KeeperAnswer.{KeeperAnswer}
use Rattle.aft_keeper.specs.declared.keeper.KeeperAnswer.TheVariants as answers
use Rattle.aft_keeper.specs.declared.keeper.KeeperEntry.{KeeperEntry}
use Rattle.aft_keeper.specs.declared.keeper.KeeperFault.{KeeperFault}
use Rattle.aft_keeper.specs.declared.keeper.KeeperFault.TheVariants.{Failed, Memory}

-- a call that succeeds has its effect, one that fails has it or not, and one that lacks memory has none
abbrev pub Leaves : {T : Type 0} → (List Pair → List Pair) → List Pair → Result T KeeperFault → List Pair → Type 0
Leaves effect old (Ok x) new = new ≡ effect old
Leaves effect old (Err Failed) new = (new ≡ effect old) ⊎ (new ≡ old)
Leaves effect old (Err Memory) new = new ≡ old

-- the same where contents are told; what isn't told stays so
abbrev pub ChangesBy : {T : Type 0} → (List Pair → List Pair) → Option (List Pair) → Result T KeeperFault → Option (List Pair) → Type 0
ChangesBy effect None result new = new ≡ None
ChangesBy effect (Some old) result new = IsSomeAnd new (Leaves effect old result)

-- the answer of a get; want of memory is none
abbrev pub get_answer : Result (Option (List ℕ)) KeeperFault → Option KeeperAnswer
get_answer (Ok None) = Some answers.Absent
get_answer (Ok (Some bytes)) = Some (answers.Found bytes)
get_answer (Err Failed) = Some answers.Failed
get_answer (Err Memory) = None

-- the answer of a put or a delete
abbrev pub done_answer : {T : Type 0} → Result T KeeperFault → Option KeeperAnswer
done_answer (Ok x) = Some answers.Done
done_answer (Err Failed) = Some answers.Failed
done_answer (Err Memory) = None

-- the answer of a scan
abbrev pub page_answer : Result (List Pair) KeeperFault → Option KeeperAnswer
page_answer (Ok page) = Some (answers.Page page)
page_answer (Err Failed) = Some answers.Failed
page_answer (Err Memory) = None

-- the log with the call and its answer at the end, if there was one; what isn't told stays so
abbrev pub logged : Option (List KeeperEntry) → KeeperCall → Option KeeperAnswer → Option (List KeeperEntry)
logged None call answer = None
logged (Some log) call None = Some log
logged (Some log) call (Some answer) = Some (log ++ record { call = call; answer = answer } ∷ [])
