-- What the calls of a line that claims a UUID do at the door, and what comes of them.
use Rattle.std.specs.Prelude.{Bool, List, None, Option, Some, false, true, ℕ, ◌++◌, ◌≡◌, ◌⊎◌, ◌∷◌, [], IsTrue}
use Rattle.aft_id.specs.declared.txn_id.TxnId.{TxnId}
use Rattle.aft_keeper.specs.declared.keeper.KeeperAnswer.{KeeperAnswer}
use Rattle.aft_keeper.specs.declared.keeper.KeeperAnswer.TheVariants.{Absent}
use Rattle.aft_model.specs.declared.caller.Attempt.{Attempt}
use Rattle.aft_model.specs.declared.caller.By.{By}
use Rattle.aft_model.specs.declared.door.DoorAct.{DoorAct}
use Rattle.aft_model.specs.declared.door.DoorEntry.{DoorEntry}
use Rattle.aft_model.specs.declared.reply.Reply.{Reply}
use Rattle.aft_model.specs.declared.reply.Reply.TheVariants.{StoreFault}
use Rattle.aft_model.specs.NodeSights.{is_fenced}
use Rattle.aft_lines.specs.CourseWords.{caller_of}
use Rattle.aft_begin.specs.declared.sought.Sought.{Sought}
use Rattle.aft_begin.specs.declared.looked.Looked.{Looked}
use Rattle.aft_begin.specs.declared.looked.Looked.TheVariants.{Nothing, Shows, Stops}
use Rattle.aft_begin.specs.Seen.{ShownBy}
use Rattle.aft_begin.specs.Way.{DeletedSo, IsRefused, IsTaken, claim_act, delete_act, look_act, release_act}

-- a history with one act of a line more
abbrev pub with_act : By → DoorAct → List DoorEntry → List DoorEntry
with_act by act history = history ++ record { by = by; act = act } ∷ []

-- the UUID is claimed, or this is to be answered, and nothing was done
abbrev pub ClaimsSo : By → Attempt → List ℕ → List DoorEntry → List DoorEntry → Option Reply → Type 0
ClaimsSo by a uuid old new None = new ≡ with_act by (claim_act a uuid) old
ClaimsSo by a uuid old new (Some reply) = (new ≡ old) × (IsRefused a old reply ⊎ IsTaken a uuid old reply)

-- nothing is there, or what the look showed: it was refused, or the store showed something or failed
abbrev pub LooksSo : By → Attempt → List ℕ → Sought → List DoorEntry → List DoorEntry → Looked → Type 0
LooksSo by a uuid sought old new Nothing = new ≡ with_act by (look_act a uuid sought Absent) old
LooksSo by a uuid sought old new (Shows id short) = (answer : KeeperAnswer) × (new ≡ with_act by (look_act a uuid sought answer) old) × ShownBy sought uuid answer (Shows id short)
LooksSo by a uuid sought old new (Stops reply) =
    ((new ≡ old) × IsRefused a old reply) ⊎ ((answer : KeeperAnswer) × (new ≡ with_act by (look_act a uuid sought answer) old) × ShownBy sought uuid answer (Stops reply))

-- the delete of the marker was refused, or asked for, and this is to be answered
abbrev pub ForgetsSo : By → Attempt → TxnId → List DoorEntry → List DoorEntry → Reply → Type 0
ForgetsSo by a id old new reply =
    ((new ≡ old) × IsRefused a old reply) ⊎ ((answer : KeeperAnswer) × (new ≡ with_act by (delete_act a id.uuid answer) old) × DeletedSo id answer reply)

-- the claim is let go, or the incarnation was fenced, and nothing was done
abbrev pub ReleasesSo : By → Attempt → List ℕ → List DoorEntry → List DoorEntry → Bool → Type 0
ReleasesSo by a uuid old new true = new ≡ with_act by (release_act a uuid) old
ReleasesSo by a uuid old new false = (new ≡ old) × IsTrue (is_fenced (caller_of a) old)

-- whether it is told that the store failed
abbrev pub tells_fault : Reply → Bool
tells_fault StoreFault = true
tells_fault reply = false

abbrev pub shows_fault : Looked → Bool
shows_fault (Stops reply) = tells_fault reply
shows_fault looked = false
