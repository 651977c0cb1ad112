-- Who holds the claim of a UUID, which UUIDs are forgotten, and which commits an incarnation has given up.
use Rattle.std.specs.Prelude.{Bool, List, None, Option, Some, false, filter, if◌then◌else◌, is_some, nat_lt, not, ℕ, ◌&&◌, ◌==◌}
use Rattle.std.specs.List.{fold, list_any}
use Rattle.std.specs.Str.{bytes_eq}
use Rattle.aft_id.specs.declared.txn_id.TxnId.{TxnId}
use Rattle.aft_id.specs.TxnId.{same_id}
use Rattle.aft_keeper.specs.declared.keeper.KeeperCall.TheVariants.{Delete}
use Rattle.aft_model.specs.declared.door.DoorAct.{DoorAct}
use Rattle.aft_model.specs.declared.door.DoorAct.TheVariants.{Call, Claim, GiveUp, Release}
use Rattle.aft_model.specs.declared.door.DoorEntry.{DoorEntry}
use Rattle.aft_model.specs.History.{last_place}
use Rattle.aft_model.specs.Membership.{Incarnation, incarnation, is_up, same_incarnation, ups}
use Rattle.aft_model.specs.Readings.{marker_name}

-- whether it is this incarnation
abbrev pub is_held_by : Incarnation → Option Incarnation → Bool
is_held_by who None = false
is_held_by who (Some other) = same_incarnation who other

-- whose claim of a UUID stands after an act: that of the last Claim, until its own Release
abbrev pub claimant_after : List ℕ → Option Incarnation → DoorAct → Option Incarnation
claimant_after uuid before (Claim claimed node inc) = if bytes_eq uuid claimed then Some (incarnation node inc) else before
claimant_after uuid before (Release released node inc) = if bytes_eq uuid released && is_held_by (incarnation node inc) before then None else before
claimant_after uuid before act = before

-- whose claim of a UUID stands after a history
abbrev pub claimant : List ℕ → List DoorEntry → Option Incarnation
claimant uuid history = fold (λ before entry. claimant_after uuid before entry.act) None history

-- that incarnation, if it is up
abbrev pub if_up : List DoorEntry → Option Incarnation → Option Incarnation
if_up history None = None
if_up history (Some who) = if is_up who history then Some who else None

-- who holds a UUID: whose claim of it stands, and is up
abbrev pub holder : List ℕ → List DoorEntry → Option Incarnation
holder uuid history = if_up history (claimant uuid history)

-- whether an incarnation holds a UUID
abbrev pub holds : Incarnation → List ℕ → List DoorEntry → Bool
holds who uuid history = is_held_by who (holder uuid history)

-- whether an act claims a UUID, for whomever
abbrev pub is_claim_of : List ℕ → DoorAct → Bool
is_claim_of uuid (Claim claimed node inc) = bytes_eq uuid claimed
is_claim_of uuid act = false

-- the place of the claim by which a UUID is held, if somebody holds it: that of its last claim
abbrev pub claim_place : List ℕ → List DoorEntry → Option ℕ
claim_place uuid history = if is_some (holder uuid history) then last_place (λ entry. is_claim_of uuid entry.act) history else None

-- ---- forgotten UUIDs

-- whether an act deletes this name, whatever was answered
abbrev pub tries_delete : List ℕ → DoorAct → Bool
tries_delete name (Call node inc (Delete deleted) answer) = bytes_eq name deleted
tries_delete name act = false

-- whether a UUID is forgotten: its marker was deleted, or that was tried
abbrev pub forgotten : List ℕ → List DoorEntry → Bool
forgotten uuid history = list_any (λ entry. tries_delete (marker_name uuid) entry.act) history

-- ---- give-ups

-- whether an act is that incarnation's give-up of that id
abbrev pub gives_up : Incarnation → TxnId → DoorAct → Bool
gives_up who id (GiveUp node inc given) = same_incarnation who (incarnation node inc) && same_id id given
gives_up who id act = false

-- whether an incarnation has given the commit of an id up
abbrev pub given_up : Incarnation → TxnId → List DoorEntry → Bool
given_up who id history = list_any (λ entry. gives_up who id entry.act) history

-- whether an incarnation is one of a node, and has not given an id up
abbrev pub has_kept : TxnId → List DoorEntry → Incarnation → Bool
has_kept id history who = not (who.node == 0) && not (given_up who id history)

-- the incarnation of the lesser node
abbrev pub lesser_node : Option Incarnation → Incarnation → Option Incarnation
lesser_node None who = Some who
lesser_node (Some least) who = if nat_lt who.node least.node then Some who else Some least

-- the incarnation of the least node that is up and has not given an id up, if there is one
abbrev pub holdout : TxnId → List DoorEntry → Option Incarnation
holdout id history = fold lesser_node None (filter (has_kept id history) (ups history))
