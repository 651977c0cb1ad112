-- What the calls of a commit or an abort at the door do, and what comes of them.
use Rattle.std.specs.Prelude.{Bool, Err, IsFalse, IsTrue, List, None, Ok, Option, Result, Some, [], false, true, ℕ, ◌++◌, ◌∷◌, ◌≡◌, ◌⊎◌}
use Rattle.std.specs.List.{slice_get}
use Rattle.aft_id.specs.TxnId.{IsUuid}
use Rattle.aft_keeper.specs.declared.keeper.KeeperAnswer.{KeeperAnswer}
use Rattle.aft_keeper.specs.declared.keeper.KeeperAnswer.TheVariants as answers
use Rattle.aft_keeper.specs.declared.keeper.KeeperCall.TheVariants.{Get, Put}
use Rattle.aft_records.specs.declared.stored.Commit.{Commit}
use Rattle.aft_records.specs.declared.stored.Record.{Record}
use Rattle.aft_records.specs.declared.stored.Version.{Version}
use Rattle.aft_records.specs.Rows.{record_row, version_row}
use Rattle.aft_records.specs.Stored.{IsRecord, IsVersion}
use Rattle.aft_model.specs.declared.caller.Attempt.{Attempt}
use Rattle.aft_model.specs.declared.caller.By.{By}
use Rattle.aft_model.specs.declared.door.DoorAct.{DoorAct}
use Rattle.aft_model.specs.declared.door.DoorAct.TheVariants.{Call, Release}
use Rattle.aft_model.specs.declared.door.DoorEntry.{DoorEntry}
use Rattle.aft_model.specs.declared.reply.Reply.{Reply}
use Rattle.aft_model.specs.declared.reply.Reply.TheVariants as replies
use Rattle.aft_model.specs.NodeSights.{is_fenced}
use Rattle.aft_model.specs.Readings.{record_name, version_name}
use Rattle.aft_lines.specs.CourseWords.{caller_of, finds_record}
use Rattle.aft_door.specs.declared.fault.DoorFault.{DoorFault}
use Rattle.aft_door.specs.declared.fault.DoorFault.TheVariants as faults
use Rattle.aft_commit.specs.declared.sight.Sight.{Sight}
use Rattle.aft_commit.specs.declared.sight.Sight.TheVariants.{Absent, Failed, Recorded, Refused}
use Rattle.aft_turns.specs.Refusals.{refusal_of}

-- a history with one act of a line more
abbrev pub with_act : By → DoorAct → List DoorEntry → List DoorEntry
with_act by act history = history ++ record { by = by; act = act } ∷ []

-- what it does: it puts a version or the record, looks for the record, and lets go
abbrev pub version_act : Attempt → Version → KeeperAnswer → DoorAct
version_act a v answer = Call a.node a.inc (Put (version_name v.key v.id) (version_row v)) answer

abbrev pub record_act : Attempt → Record → KeeperAnswer → DoorAct
record_act a r answer = Call a.node a.inc (Put (record_name r.commit.id.uuid) (record_row r)) answer

abbrev pub look_act : Attempt → Commit → KeeperAnswer → DoorAct
look_act a c answer = Call a.node a.inc (Get (record_name c.id.uuid)) answer

abbrev pub release_act : Attempt → List ℕ → DoorAct
release_act a uuid = Release uuid a.node a.inc

-- a call was refused: the look showed the attempt's incarnation fenced, or memory was wanting
abbrev pub IsRefused : Attempt → List DoorEntry → Reply → Type 0
IsRefused a look reply = ((reply ≡ replies.NodeDown a.node a.inc) × IsTrue (is_fenced (caller_of a) look)) ⊎ (reply ≡ replies.NoMemory)

-- the version of the key of a commit at a place, with the value there
abbrev pub IsVersionAt : Record → List (List ℕ) → ℕ → Version → Type 0
IsVersionAt r values count v = (v.id ≡ r.commit.id) × (slice_get r.commit.keys count ≡ Some v.key) × (slice_get values count ≡ Some v.value)

-- what a put did, by what is told: it was acknowledged, it failed, or it made no entry
abbrev pub PutSo : By → Attempt → (KeeperAnswer → DoorAct) → List DoorEntry → List DoorEntry → Result Unit DoorFault → Type 0
PutSo by a act old new (Ok x) = new ≡ with_act by (act answers.Done) old
PutSo by a act old new (Err faults.Failed) = new ≡ with_act by (act answers.Failed) old
PutSo by a act old new (Err fault) = (new ≡ old) × IsRefused a old (refusal_of a fault)

-- the put of a version: of one within the limits; and where there was no memory for it, it wasn't made
abbrev pub PutsSo : By → Attempt → Record → List (List ℕ) → ℕ → List DoorEntry → List DoorEntry → Result Unit DoorFault → Type 0
PutsSo by a r values count old new result =
    ((v : Version) × IsVersionAt r values count v × IsVersion v × PutSo by a (version_act a v) old new result) ⊎ ((new ≡ old) × (result ≡ Err faults.Memory))

-- the put of a record, which is within the limits
abbrev pub RecordPutsSo : By → Attempt → Record → List DoorEntry → List DoorEntry → Result Unit DoorFault → Type 0
RecordPutsSo by a r old new result = IsRecord r × PutSo by a (record_act a r) old new result

-- whether a call failed
abbrev pub fails : Result Unit DoorFault → Bool
fails (Err faults.Failed) = true
fails result = false

-- what bytes under the name of a commit's record show: this commit, or damage, which want of memory may hide
abbrev pub Shown : Commit → List ℕ → Sight → Type 0
Shown c bytes Recorded = IsTrue (finds_record c (answers.Found bytes))
Shown c bytes (Refused reply) = (reply ≡ replies.NoMemory) ⊎ (IsFalse (finds_record c (answers.Found bytes)) × (reply ≡ replies.Damaged (record_name c.id.uuid)))
Shown c bytes sight = ⊥

-- what a refusal of a look is told as
abbrev pub refused_sight : Attempt → DoorFault → Sight
refused_sight a faults.Failed = Failed
refused_sight a faults.Memory = Refused replies.NoMemory
refused_sight a fault = Refused (replies.NodeDown a.node a.inc)

-- what comes of what the door tells: nothing is there, bytes, or why not
abbrev pub Tells : Attempt → Commit → Result (Option (List ℕ)) DoorFault → Sight → Type 0
Tells a c (Ok None) sight = sight ≡ Absent
Tells a c (Ok (Some bytes)) sight = Shown c bytes sight
Tells a c (Err fault) sight = sight ≡ refused_sight a fault

-- what a look did, by what it shows; behind an answer memory may have been wanting
abbrev pub LooksSo : By → Attempt → Commit → List DoorEntry → List DoorEntry → Sight → Type 0
LooksSo by a c old new Absent = new ≡ with_act by (look_act a c answers.Absent) old
LooksSo by a c old new Failed = new ≡ with_act by (look_act a c answers.Failed) old
LooksSo by a c old new Recorded = (bytes : List ℕ) × (new ≡ with_act by (look_act a c (answers.Found bytes)) old) × IsTrue (finds_record c (answers.Found bytes))
LooksSo by a c old new (Refused reply) =
    ((new ≡ old) × IsRefused a old reply)
    ⊎ ((answer : KeeperAnswer) × (new ≡ with_act by (look_act a c answer) old) × (reply ≡ replies.NoMemory))
    ⊎ ((bytes : List ℕ) × (new ≡ with_act by (look_act a c (answers.Found bytes)) old) × IsUuid c.id.uuid × IsFalse (finds_record c (answers.Found bytes)) × (reply ≡ replies.Damaged (record_name c.id.uuid)))

-- the claim is let go, or the incarnation was fenced, and nothing was done
abbrev pub ReleasesSo : By → Attempt → List ℕ → List DoorEntry → List DoorEntry → Bool → Type 0
ReleasesSo by a uuid old new true = new ≡ with_act by (release_act a uuid) old
ReleasesSo by a uuid old new false = (new ≡ old) × IsTrue (is_fenced (caller_of a) old)
