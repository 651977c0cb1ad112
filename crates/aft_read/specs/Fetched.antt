-- What comes of a fetch, by what the store showed.
use Rattle.std.specs.Prelude.{Bool, Err, IsTrue, List, None, Ok, Option, Result, Some, false, if◌then◌else◌, true, ℕ, ◌&&◌, ◌++◌, ◌≡◌, ◌⊎◌, ◌∷◌, []}
use Rattle.std.specs.Str.{bytes_eq}
use Rattle.aft_id.specs.declared.txn_id.TxnId.{TxnId}
use Rattle.aft_id.specs.TxnId.{same_id}
use Rattle.aft_keeper.specs.declared.keeper.KeeperAnswer.{KeeperAnswer}
use Rattle.aft_keeper.specs.declared.keeper.KeeperAnswer.TheVariants as answers
use Rattle.aft_keeper.specs.declared.keeper.KeeperCall.TheVariants.{Get}
use Rattle.aft_records.specs.declared.fault.RecordFault.{RecordFault}
use Rattle.aft_records.specs.declared.stored.Version.{Version}
use Rattle.aft_records.specs.Limits.{IsKey}
use Rattle.aft_records.specs.Reading.{version_of}
use Rattle.aft_records.specs.Stored.{IsWritableId}
use Rattle.aft_model.specs.declared.caller.Attempt.{Attempt}
use Rattle.aft_model.specs.declared.caller.By.{By}
use Rattle.aft_model.specs.declared.door.DoorAct.{DoorAct}
use Rattle.aft_model.specs.declared.door.DoorAct.TheVariants.{Call}
use Rattle.aft_model.specs.declared.door.DoorEntry.{DoorEntry}
use Rattle.aft_model.specs.declared.reply.Reply.TheVariants as replies
use Rattle.aft_model.specs.Bytes.{answers_bytes}
use Rattle.aft_model.specs.Membership.{incarnation, is_up}
use Rattle.aft_model.specs.Readings.{version_name}
use Rattle.aft_door.specs.declared.fault.DoorFault.{DoorFault}
use Rattle.aft_node.specs.declared.goes.Got.{Got}
use Rattle.aft_node.specs.declared.goes.Got.TheVariants.{Refused, Version as Came}
use Rattle.aft_turns.specs.Refusals.{refusal_of}

-- bytes under a version's name: the version's value, or else damage under that name
abbrev pub read_as : List ℕ → TxnId → Result Version RecordFault → Got
read_as key id (Ok v) = if bytes_eq key v.key && same_id id v.id then Came v.value else Refused (replies.Damaged (version_name key id))
read_as key id (Err fault) = Refused (replies.Damaged (version_name key id))

-- what comes of what the store answered
abbrev pub Answers : List ℕ → TxnId → KeeperAnswer → Got → Type 0
Answers key id (answers.Found bytes) got = got ≡ read_as key id (version_of bytes)
Answers key id answers.Absent got = got ≡ Refused (replies.Missing id)
Answers key id answers.Failed got = got ≡ Refused replies.StoreFault
Answers key id answer got = ⊥

-- want of memory, which may hide any answer
abbrev pub no_memory : Got
no_memory = Refused replies.NoMemory

-- the get of a version by an attempt's incarnation
abbrev pub fetch_act : Attempt → List ℕ → TxnId → KeeperAnswer → DoorAct
fetch_act a key id answer = Call a.node a.inc (Get (version_name key id)) answer

-- what is known of a fetch by the types of its words: the key, the id and what the store answered are within the limits
abbrev pub AreWords : List ℕ → TxnId → KeeperAnswer → Type 0
AreWords key id answer = IsKey key × IsWritableId id × IsTrue (answers_bytes answer)

-- the store was asked, and its answer came, or memory was wanting behind it
abbrev pub Asked : By → Attempt → List ℕ → TxnId → List DoorEntry → List DoorEntry → Got → Type 0
Asked by a key id old new got =
    (answer : KeeperAnswer) × AreWords key id answer × (new ≡ old ++ record { by = by; act = fetch_act a key id answer } ∷ []) × (Answers key id answer got ⊎ (got ≡ no_memory))

-- why the store wasn't asked: the attempt's incarnation was fenced, or memory was wanting
abbrev pub Unasked : Attempt → List DoorEntry → Got → Type 0
Unasked a look got = ((got ≡ Refused (replies.NodeDown a.node a.inc)) × (is_up (incarnation a.node a.inc) look ≡ false)) ⊎ (got ≡ no_memory)

-- what a fetch does at the door, and what comes of it
abbrev pub Fetches : By → Attempt → List ℕ → TxnId → List DoorEntry → List DoorEntry → Got → Type 0
Fetches by a key id old new got = Asked by a key id old new got ⊎ ((new ≡ old) × Unasked a old got)

-- whether it is told that the store failed
abbrev pub tells_fault : Got → Bool
tells_fault (Refused replies.StoreFault) = true
tells_fault got = false

-- what comes of what the door tells: no bytes, bytes, or why not
abbrev pub Tells : Attempt → List ℕ → TxnId → Result (Option (List ℕ)) DoorFault → Got → Type 0
Tells a key id (Ok None) got = got ≡ Refused (replies.Missing id)
Tells a key id (Ok (Some bytes)) got = (got ≡ read_as key id (version_of bytes)) ⊎ (got ≡ no_memory)
Tells a key id (Err fault) got = got ≡ Refused (refusal_of a fault)
