-- Why the door refuses a call, by its history: each test, and the order of the tests.
use Rattle.std.specs.Prelude.{Bool, Err, List, None, Ok, Option, Result, Some, if◌then◌else◌, nat_eq, nat_le, ℕ, ◌&&◌, ◌==◌, ◌≡◌}
use Rattle.std.specs.List.{list_any}
use Rattle.std.specs.Option.{option_eq}
use Rattle.aft_id.specs.declared.txn_id.TxnId.{TxnId}
use Rattle.aft_door.specs.declared.fault.DoorFault.{DoorFault}
use Rattle.aft_door.specs.declared.fault.DoorFault.TheVariants.{Busy, Failed, Fenced, Forgotten, Holdout, Memory, NotHolder}
use Rattle.aft_door.specs.Entries.{who_calls}
use Rattle.aft_model.specs.declared.caller.Caller.{Caller}
use Rattle.aft_model.specs.declared.door.DoorEntry.{DoorEntry}
use Rattle.aft_model.specs.Claims.{claim_place, forgotten, holder, holdout, holds}
use Rattle.aft_model.specs.Membership.{Incarnation, fenced, is_up}

-- the first of two tests that refuses
abbrev pub or_then : Option DoorFault → Option DoorFault → Option DoorFault
or_then (Some fault) later = Some fault
or_then None later = later

-- the caller's incarnation isn't up
abbrev pub if_fenced : Caller → List DoorEntry → Option DoorFault
if_fenced who history = if is_up (who_calls who) history then None else Some (Fenced who.node who.inc)

-- somebody holds a UUID
abbrev pub busy_with : Option Incarnation → Option DoorFault
busy_with None = None
busy_with (Some other) = Some (Busy other.node other.inc)

abbrev pub if_busy : List ℕ → List DoorEntry → Option DoorFault
if_busy uuid history = busy_with (holder uuid history)

-- a UUID is forgotten
abbrev pub if_forgotten : List ℕ → List DoorEntry → Option DoorFault
if_forgotten uuid history = if forgotten uuid history then Some Forgotten else None

-- the caller's incarnation doesn't hold a UUID
abbrev pub if_not_holder : Caller → List ℕ → List DoorEntry → Option DoorFault
if_not_holder who uuid history = if holds (who_calls who) uuid history then None else Some NotHolder

-- the caller's incarnation doesn't hold a UUID by the claim of this place
abbrev pub if_not_by_claim : Caller → List ℕ → ℕ → List DoorEntry → Option DoorFault
if_not_by_claim who uuid place history = if option_eq nat_eq (claim_place uuid history) (Some place) then if_not_holder who uuid history else Some NotHolder

-- an incarnation that is up has not given an id up
abbrev pub held_out_by : Option Incarnation → Option DoorFault
held_out_by None = None
held_out_by (Some other) = Some (Holdout other.node other.inc)

abbrev pub if_held_out : TxnId → List DoorEntry → Option DoorFault
if_held_out id history = held_out_by (holdout id history)

-- an incarnation of this number or a greater one of the node was fenced
abbrev pub is_past : ℕ → ℕ → List DoorEntry → Bool
is_past node inc history = list_any (λ other. other.node == node && nat_le inc other.inc) (fenced history)

abbrev pub if_past : ℕ → ℕ → List DoorEntry → Option DoorFault
if_past node inc history = if is_past node inc history then Some (Fenced node inc) else None

-- ---- what comes of the tests

-- a test's answer
abbrev pub as_result : Option DoorFault → Result Unit DoorFault
as_result None = Ok tt
as_result (Some fault) = Err fault

-- a call that makes no call of the store: it is refused just by its tests, or for want of memory
abbrev pub RefusedBy : {T : Type 0} → Option DoorFault → Result T DoorFault → Type 0
RefusedBy (Some fault) result = result ≡ Err fault
RefusedBy None (Ok x) = Unit {0}
RefusedBy None (Err Memory) = Unit {0}
RefusedBy None (Err fault) = ⊥

-- a call that takes no memory: it is refused just by its tests
abbrev pub RefusedOnlyBy : {T : Type 0} → Option DoorFault → Result T DoorFault → Type 0
RefusedOnlyBy (Some fault) result = result ≡ Err fault
RefusedOnlyBy None (Ok x) = Unit {0}
RefusedOnlyBy None (Err fault) = ⊥

-- a call of the store: it is refused just by its tests, for want of memory, or since the store failed
abbrev pub RefusedOrFailed : {T : Type 0} → Option DoorFault → Result T DoorFault → Type 0
RefusedOrFailed (Some fault) result = result ≡ Err fault
RefusedOrFailed None (Ok x) = Unit {0}
RefusedOrFailed None (Err Memory) = Unit {0}
RefusedOrFailed None (Err Failed) = Unit {0}
RefusedOrFailed None (Err fault) = ⊥
