-- What is found of the door's history without reading it: each map agrees with what the history says.
use Rattle.std.specs.Prelude.{Bool, List, None, Option, Some, if◌then◌else◌, max, ℕ, ◌&&◌, ◌==◌, ◌≡◌}
use Rattle.std.specs.List.{flat_map, fold, list_any}
use Rattle.std.specs.Map.{lookup}
use Rattle.std.specs.Str.{bytes_eq}
use Rattle.aft_id.specs.TxnId.{IsUuid, same_id}
use Rattle.aft_id.specs.declared.txn_id.TxnId.{TxnId}
use Rattle.aft_door.specs.declared.index.Claimed.{Claimed}
use Rattle.aft_door.specs.declared.index.GivenUp.{GivenUp}
use Rattle.aft_model.specs.declared.door.DoorEntry.{DoorEntry}
use Rattle.aft_model.specs.Claims.{claimant, forgotten, given_up, is_claim_of}
use Rattle.aft_model.specs.Cut.{tries_put}
use Rattle.aft_model.specs.History.{last_place}
use Rattle.aft_model.specs.Membership.{Incarnation, fenced, inc_at, incarnation, up_now}
use Rattle.aft_model.specs.Readings.{record_name}

-- ---- who is up

-- the incarnation of a node that is up, by what the map has of it: the office isn't in the map
abbrev pub up_in : ℕ → Option ℕ → Option ℕ
up_in node None = if node == 0 then Some 1 else None
up_in node (Some inc) = Some inc

-- the map has the incarnation of each node that is up
abbrev pub UpsAgree : List DoorEntry → List (ℕ × ℕ) → Type 0
UpsAgree history nodes = (node : ℕ) → up_in node (lookup (λ key. node == key) nodes) ≡ up_now node history

-- ---- who was fenced

-- the greater of a number, if there is one, and another
abbrev pub greater : Option ℕ → ℕ → Option ℕ
greater None n = Some n
greater (Some most) n = Some (max most n)

-- the greatest number, if there is one
abbrev pub greatest : List ℕ → Option ℕ
greatest numbers = fold greater None numbers

-- the map has the greatest fenced incarnation of each node of which one was fenced
abbrev pub FencedAgree : List DoorEntry → List (ℕ × ℕ) → Type 0
FencedAgree history nodes = (node : ℕ) → lookup (λ key. node == key) nodes ≡ greatest (flat_map (inc_at node) (fenced history))

-- a map with one more fenced incarnation of a node
pub record NotesFenced (before : List (ℕ × ℕ)) (node inc : ℕ) (after : List (ℕ × ℕ)) : Type 0 where
  pub most : ℕ
  pub is : greater (lookup (λ key. node == key) before) inc ≡ Some most
  pub updates : (q : ℕ) → lookup (λ key. q == key) after ≡ (if node == q then Some most else lookup (λ key. q == key) before)

-- ---- claims

-- whose claim it is
abbrev pub claimant_in : Option Claimed → Option Incarnation
claimant_in None = None
claimant_in (Some claimed) = Some (incarnation claimed.node claimed.inc)

-- its place is that of the last claim
abbrev pub IsPlaced : List ℕ → List DoorEntry → Option Claimed → Type 0
IsPlaced uuid history None = Unit {0}
IsPlaced uuid history (Some claimed) = last_place (λ entry. is_claim_of uuid entry.act) history ≡ Some claimed.place

-- the map has whose claim of each UUID stands, and its place
pub record ClaimsAgree (history : List DoorEntry) (claims : List (List ℕ × Claimed)) : Type 0 where
  pub claimant : (uuid : List ℕ) → claimant_in (lookup (bytes_eq uuid) claims) ≡ claimant uuid history
  pub place : (uuid : List ℕ) → IsPlaced uuid history (lookup (bytes_eq uuid) claims)

-- ---- UUIDs whose marker was deleted, whose record was put, and give-ups

abbrev pub ForgottenAgree : List DoorEntry → List (List ℕ) → Type 0
ForgottenAgree history uuids = (uuid : List ℕ) → IsUuid uuid → list_any (bytes_eq uuid) uuids ≡ forgotten uuid history

-- the place of the last put of a UUID's record
abbrev pub last_put : List ℕ → List DoorEntry → Option ℕ
last_put uuid history = last_place (λ entry. tries_put (record_name uuid) entry.act) history

abbrev pub PutsAgree : List DoorEntry → List (List ℕ × ℕ) → Type 0
PutsAgree history puts = (uuid : List ℕ) → IsUuid uuid → lookup (bytes_eq uuid) puts ≡ last_put uuid history

-- whether it is that incarnation's give-up of that id
abbrev pub same_given : GivenUp → GivenUp → Bool
same_given a b = a.node == b.node && (a.inc == b.inc && same_id a.id b.id)

abbrev pub GivenAgree : List DoorEntry → List GivenUp → Type 0
GivenAgree history given = (who : Incarnation) (id : TxnId) → list_any (same_given (record { node = who.node; inc = who.inc; id = id })) given ≡ given_up who id history
