-- What is true of the door's history and of what is kept beside it.
use Rattle.std.specs.Prelude.{Bool, IsFalse, IsTrue, List, Some, length, ℕ, ◌+◌, ◌≡◌, ◌≤◌}
use Rattle.aft_door.specs.declared.index.Claimed.{Claimed}
use Rattle.aft_door.specs.declared.index.GivenUp.{GivenUp}
use Rattle.aft_door.specs.Index.{ClaimsAgree, FencedAgree, ForgottenAgree, GivenAgree, PutsAgree, UpsAgree}
use Rattle.aft_model.specs.declared.door.DoorEntry.{DoorEntry}
use Rattle.aft_model.specs.Bytes.{HasBytes}
use Rattle.aft_model.specs.LegalDoor.{Legal}
use Rattle.aft_model.specs.Membership.{Incarnation, is_up, the_office, up_now}
use Rattle.aft_door.specs.Refusals.{is_past}

-- one incarnation of each node is up
abbrev pub OneUp : List DoorEntry → Type 0
OneUp history = (who : Incarnation) → IsTrue (is_up who history) → up_now who.node history ≡ Some who.inc

-- who is up in a legal history: one incarnation of each node, always the office, and none that was fenced or is older than one that was
pub record Standing (history : List DoorEntry) : Type 0 where
  pub one : OneUp history
  pub office : IsTrue (is_up the_office history)
  pub fresh : (who : Incarnation) → IsTrue (is_up who history) → IsFalse (is_past who.node who.inc history)

-- the history is legal and made of bytes, each map agrees with it, and there is room for a fence of each incarnation that is up and for a release of each claim
pub record IsLedger (history : List DoorEntry) (ups fenced : List (ℕ × ℕ)) (claims : List (List ℕ × Claimed)) (forgotten : List (List ℕ)) (puts : List (List ℕ × ℕ)) (given : List GivenUp) (capacity spare : ℕ) : Type 0 where
  pub legal : Legal history
  pub bytes : HasBytes history
  pub ups_agree : UpsAgree history ups
  pub fenced_agree : FencedAgree history fenced
  pub claims_agree : ClaimsAgree history claims
  pub forgotten_agree : ForgottenAgree history forgotten
  pub puts_agree : PutsAgree history puts
  pub given_agree : GivenAgree history given
  pub room : length ups + length claims + length history ≤ capacity
  pub fence_room : length ups ≤ spare

-- what callers of the ledger see: the history, and whether one more entry has its room
pub record LedgerView : Type 0 where
  pub history : List DoorEntry
  pub has_room : Bool
