-- What a line that claims a UUID has done at the door behind its first turn.
use Rattle.std.specs.Prelude.{IsFalse, List, None, Option, Some, [], ℕ, ◌≡◌, ◌⊎◌, ◌∷◌, IsTrue, ◌≤◌, length, true}
use Rattle.aft_keeper.specs.declared.keeper.KeeperAnswer.{KeeperAnswer}
use Rattle.aft_id.specs.declared.txn_id.TxnId.{TxnId}
use Rattle.aft_keeper.specs.declared.keeper.KeeperAnswer.TheVariants.{Absent, Done, Failed, Found}
use Rattle.aft_keeper.specs.declared.keeper.KeeperCall.TheVariants.{Delete, Get}
use Rattle.aft_model.specs.declared.caller.Attempt.{Attempt}
use Rattle.aft_model.specs.declared.door.DoorAct.{DoorAct}
use Rattle.aft_model.specs.declared.door.DoorAct.TheVariants.{Call, Claim, Release}
use Rattle.aft_model.specs.declared.door.DoorEntry.{DoorEntry}
use Rattle.aft_model.specs.declared.reply.Reply.{Reply}
use Rattle.aft_model.specs.declared.reply.Reply.TheVariants as replies
use Rattle.aft_model.specs.Claims.{holds}
use Rattle.aft_model.specs.Membership.{incarnation, same_incarnation}
use Rattle.aft_model.specs.NodeSights.{is_fenced}
use Rattle.aft_model.specs.Readings.{marker_name}
use Rattle.aft_lines.specs.CausesBegins.{is_closed}
use Rattle.aft_lines.specs.CourseWords.{caller_of}
use Rattle.aft_lines.specs.Turns.{AtDoor, Turn}
use Rattle.aft_begin.specs.declared.aim.Aim.{Aim}
use Rattle.aft_begin.specs.declared.aim.Aim.TheVariants.{Begin, Forget}
use Rattle.aft_begin.specs.declared.looked.Looked.TheVariants.{Shows}
use Rattle.aft_begin.specs.declared.sought.Sought.{Sought}
use Rattle.aft_begin.specs.declared.sought.Sought.TheVariants.{Marker, Record}
use Rattle.aft_begin.specs.Seen.{Tells, name_of, told}

-- ---- its turns at the door

-- what it does there: it claims, looks, deletes, and lets go
abbrev pub claim_act : Attempt → List ℕ → DoorAct
claim_act a uuid = Claim uuid a.node a.inc

abbrev pub look_act : Attempt → List ℕ → Sought → KeeperAnswer → DoorAct
look_act a uuid sought answer = Call a.node a.inc (Get (name_of sought uuid)) answer

abbrev pub delete_act : Attempt → List ℕ → KeeperAnswer → DoorAct
delete_act a uuid answer = Call a.node a.inc (Delete (marker_name uuid)) answer

abbrev pub release_act : Attempt → List ℕ → DoorAct
release_act a uuid = Release uuid a.node a.inc

-- how far it came: it claimed nothing; it claimed the UUID, at a place; it then looked for the record, at a place, with this answer; or it found none, and looked for the marker; or it found the short marker of this id in these bytes, and asked for its delete, at a place, with this answer
pub data Way : Type 0 where
  Unclaimed : Way
  Claimed : ℕ → Way
  LookedForRecord : ℕ → ℕ → KeeperAnswer → Way
  LookedForMarker : ℕ → ℕ → ℕ → KeeperAnswer → Way
  Deleted : ℕ → ℕ → ℕ → List ℕ → TxnId → ℕ → KeeperAnswer → Way

abbrev pub way_turns : Attempt → List ℕ → Way → List Turn
way_turns a uuid Unclaimed = []
way_turns a uuid (Claimed p) = AtDoor p (claim_act a uuid) ∷ []
way_turns a uuid (LookedForRecord p q answer) = AtDoor p (claim_act a uuid) ∷ AtDoor q (look_act a uuid Record answer) ∷ []
way_turns a uuid (LookedForMarker p q r answer) = AtDoor p (claim_act a uuid) ∷ AtDoor q (look_act a uuid Record Absent) ∷ AtDoor r (look_act a uuid Marker answer) ∷ []
way_turns a uuid (Deleted p q r bytes id s answer) = AtDoor p (claim_act a uuid) ∷ AtDoor q (look_act a uuid Record Absent) ∷ AtDoor r (look_act a uuid Marker (Found bytes)) ∷ AtDoor s (delete_act a uuid answer) ∷ []

-- the release, if it was made
abbrev pub release_turns : Attempt → List ℕ → Option ℕ → List Turn
release_turns a uuid None = []
release_turns a uuid (Some place) = AtDoor place (release_act a uuid) ∷ []

-- bytes under the marker's name are the short marker of an id, which a forget may delete
abbrev pub ShowsShort : Aim → List ℕ → List ℕ → TxnId → Type 0
ShowsShort aim uuid bytes id = (aim ≡ Forget) × (told Marker uuid bytes ≡ Shows id true)

-- only a forget deletes, and what it found
abbrev pub FitsWay : Aim → List ℕ → Way → Type 0
FitsWay aim uuid (Deleted p q r bytes id s answer) = ShowsShort aim uuid bytes id
FitsWay aim uuid way = Unit {0}

-- ---- what it may answer

-- a call was refused: the look showed the attempt's incarnation fenced, or memory was wanting
abbrev pub IsRefused : Attempt → List DoorEntry → Reply → Type 0
IsRefused a look reply = ((reply ≡ replies.NodeDown a.node a.inc) × IsTrue (is_fenced (caller_of a) look)) ⊎ (reply ≡ replies.NoMemory)

-- another incarnation held the UUID, or it was forgotten
abbrev pub IsTaken : Attempt → List ℕ → List DoorEntry → Reply → Type 0
IsTaken a uuid look reply =
    ((node : ℕ) × (inc : ℕ) × (reply ≡ replies.Busy node inc) × IsTrue (holds (incarnation node inc) uuid look) × IsFalse (same_incarnation (incarnation node inc) (caller_of a)))
    ⊎ ((reply ≡ replies.Forgotten uuid) × IsTrue (is_closed uuid look))

-- why the claim was refused, of a line whose first turn had seen so much of the door
abbrev pub IsUnclaimed : ℕ → Attempt → List ℕ → List DoorEntry → Reply → Type 0
IsUnclaimed front a uuid look reply = IsRefused a look reply ⊎ (IsTaken a uuid look reply × (front ≤ length look))

-- neither record nor marker was found by a forget
abbrev pub IsUnknown : Aim → List ℕ → Reply → Type 0
IsUnknown aim uuid reply = (aim ≡ Forget) × (reply ≡ replies.Unknown uuid)

-- what is to be answered behind a delete
abbrev pub DeletedSo : TxnId → KeeperAnswer → Reply → Type 0
DeletedSo id Done reply = reply ≡ replies.Forgot id
DeletedSo id Failed reply = reply ≡ replies.StoreFault
DeletedSo id answer reply = ⊥

-- why the claim is let go
abbrev pub MustLetGo : Aim → Attempt → List ℕ → List DoorEntry → Way → Reply → Type 0
MustLetGo aim a uuid look Unclaimed reply = ⊥
MustLetGo aim a uuid look (Claimed p) reply = IsRefused a look reply
MustLetGo aim a uuid look (LookedForRecord p q answer) reply = Tells aim Record uuid (IsRefused a look reply) ⊥ answer reply
MustLetGo aim a uuid look (LookedForMarker p q r answer) reply = Tells aim Marker uuid (IsUnknown aim uuid reply) (IsRefused a look reply) answer reply
MustLetGo aim a uuid look (Deleted p q r bytes id s answer) reply = DeletedSo id answer reply

-- the incarnation was fenced before the claim was let go
abbrev pub IsShutOut : Attempt → List DoorEntry → Reply → Type 0
IsShutOut a look reply = (reply ≡ replies.NodeDown a.node a.inc) × IsTrue (is_fenced (caller_of a) look)

-- why the attempt is taken away: the claim was refused, or let go, or the incarnation was fenced before it was
abbrev pub MayTell : Aim → ℕ → Attempt → List ℕ → List DoorEntry → Way → Option ℕ → Reply → Type 0
MayTell aim front a uuid look way (Some place) reply = MustLetGo aim a uuid look way reply
MayTell aim front a uuid look Unclaimed None reply = IsUnclaimed front a uuid look reply
MayTell aim front a uuid look (LookedForMarker p q r Absent) None reply = (aim ≡ Forget) × IsShutOut a look reply
MayTell aim front a uuid look way None reply = IsShutOut a look reply

-- neither record nor marker was found by a begin
abbrev pub IsUnused : Aim → Way → Option ℕ → Type 0
IsUnused aim (LookedForMarker p q r Absent) None = aim ≡ Begin
IsUnused aim way release = ⊥
