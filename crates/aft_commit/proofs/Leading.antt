-- What is true of where the calls at the door lead.
use Rattle.std.proofs.Common.{◌≡◌, ℕ, Bool, true, false, List, refl}
use Rattle.std.specs.Prelude.{Err, IsTrue, Ok, Result, Some}
use Rattle.std.proofs.lemmas.Bool.{false≢true}
use Rattle.aft_records.specs.declared.stored.Record.{Record}
use Rattle.aft_model.specs.declared.caller.Attempt.{Attempt}
use Rattle.aft_model.specs.declared.reply.Reply.{Reply}
use Rattle.aft_model.specs.declared.reply.Reply.TheVariants as replies
use Rattle.aft_model.specs.NodeRules.{is_doubt}
use Rattle.aft_door.specs.declared.fault.DoorFault.{DoorFault}
use Rattle.aft_door.specs.declared.fault.DoorFault.TheVariants as faults
use Rattle.aft_commit.specs.Calls.{fails}
use Rattle.aft_commit.specs.View.{FitsAt, has_look_failed, has_put_failed, is_doubtful, looked_stage, record_stage, settled_stage, tells_doubt, tells_fault, tells_refusal, version_stage}
use Rattle.aft_commit.specs.declared.sight.Sight.{Sight}
use Rattle.aft_commit.specs.declared.sight.Sight.TheVariants as sights
use Rattle.aft_turns.specs.Refusals.{refusal_of}

-- a refusal may leave an attempt in doubt, and tells of no failure
refusal_doubts : (reply : Reply) → IsTrue (tells_refusal reply) → IsTrue (is_doubt (Some reply))
refusal_doubts (replies.NodeDown node inc) is = refl
refusal_doubts (replies.Damaged name) is = refl
refusal_doubts replies.NoMemory is = refl
refusal_doubts reply is = absurd (false≢true is)

no_fault : (reply : Reply) → IsTrue (tells_refusal reply) → IsTrue (tells_fault reply) → ⊥
no_fault replies.StoreFault is told = false≢true is
no_fault reply is told = false≢true told

no_doubt : (reply : Reply) → IsTrue (tells_refusal reply) → IsTrue (tells_doubt reply) → ⊥
no_doubt replies.InDoubt is told = false≢true is
no_doubt reply is told = false≢true told

fault_doubts : (a : Attempt) (fault : DoorFault) → IsTrue (is_doubt (Some (refusal_of a fault)))
fault_doubts a faults.Failed = refl
fault_doubts a faults.Memory = refl
fault_doubts a fault = refl

-- ---- they fit the node

pub settled_fits : (sight : Sight) (aborts : Bool) (a : Attempt) (r : Record) (values : List (List ℕ)) → IsTrue (is_doubtful sight) → FitsAt a.node (settled_stage sight aborts a r values)
settled_fits sights.Recorded aborts a r values may = refl
settled_fits sights.Absent true a r values may = refl
settled_fits sights.Absent false a r values may = refl
settled_fits sights.Failed aborts a r values may = (refl, refl)
settled_fits (sights.Refused reply) aborts a r values may = (refl, refusal_doubts reply may)

pub looked_fits : (sight : Sight) (a : Attempt) (r : Record) → IsTrue (is_doubtful sight) → FitsAt a.node (looked_stage sight a r)
looked_fits sights.Recorded a r may = refl
looked_fits sights.Absent a r may = (refl, refl)
looked_fits sights.Failed a r may = (refl, refl)
looked_fits (sights.Refused reply) a r may = (refl, refusal_doubts reply may)

pub version_fits : (told : Result Unit DoorFault) (a : Attempt) (r : Record) (values : List (List ℕ)) (count : ℕ) → FitsAt a.node (version_stage a r values count told)
version_fits (Ok x) a r values count = refl
version_fits (Err fault) a r values count = (refl, fault_doubts a fault)

pub record_fits : (told : Result Unit DoorFault) (a : Attempt) (r : Record) → FitsAt a.node (record_stage a r told)
record_fits (Ok x) a r = refl
record_fits (Err faults.Failed) a r = refl
record_fits (Err faults.Memory) a r = (refl, refl)
record_fits (Err (faults.Fenced node inc)) a r = (refl, refl)
record_fits (Err (faults.Busy node inc)) a r = (refl, refl)
record_fits (Err faults.Forgotten) a r = (refl, refl)
record_fits (Err faults.NotHolder) a r = (refl, refl)
record_fits (Err (faults.Holdout node inc)) a r = (refl, refl)

-- ---- they tell of a failure only where the call failed

pub settled_failed : (sight : Sight) (aborts : Bool) (a : Attempt) (r : Record) (values : List (List ℕ)) → IsTrue (is_doubtful sight) → IsTrue (has_put_failed (settled_stage sight aborts a r values)) → sight ≡ sights.Failed
settled_failed sights.Recorded aborts a r values may told = absurd (false≢true told)
settled_failed sights.Absent true a r values may told = absurd (false≢true told)
settled_failed sights.Absent false a r values may told = absurd (false≢true told)
settled_failed sights.Failed aborts a r values may told = refl
settled_failed (sights.Refused reply) aborts a r values may told = absurd (no_fault reply may told)

pub looked_failed : (sight : Sight) (a : Attempt) (r : Record) → IsTrue (is_doubtful sight) → IsTrue (has_look_failed (looked_stage sight a r)) → sight ≡ sights.Failed
looked_failed sights.Recorded a r may told = absurd (false≢true told)
looked_failed sights.Absent a r may told = absurd (false≢true told)
looked_failed sights.Failed a r may told = refl
looked_failed (sights.Refused reply) a r may told = absurd (no_doubt reply may told)

pub version_failed : (told : Result Unit DoorFault) (a : Attempt) (r : Record) (values : List (List ℕ)) (count : ℕ) → IsTrue (has_put_failed (version_stage a r values count told)) → IsTrue (fails told)
version_failed (Ok x) a r values count told = absurd (false≢true told)
version_failed (Err faults.Failed) a r values count told = refl
version_failed (Err faults.Memory) a r values count told = absurd (false≢true told)
version_failed (Err fault) a r values count told = absurd (false≢true told)

pub record_failed : (told : Result Unit DoorFault) (a : Attempt) (r : Record) → IsTrue (has_put_failed (record_stage a r told)) → IsTrue (fails told)
record_failed (Ok x) a r told = absurd (false≢true told)
record_failed (Err faults.Failed) a r told = refl
record_failed (Err faults.Memory) a r told = absurd (false≢true told)
record_failed (Err fault) a r told = absurd (false≢true told)
