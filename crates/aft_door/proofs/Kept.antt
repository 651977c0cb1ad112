-- What an entry leaves as it was.
use Rattle.std.proofs.Common.{◌≡◌, ℕ, length, false, ◌||◌, List, [], ◌∷◌, ◌++◌, sym, ap, subst, ◌∙◌, append-nil}
use Rattle.std.specs.Prelude.{IsTrue, Option, Some, None, ◌==◌, if◌then◌else◌}
use Rattle.std.specs.List.{list_any, flat_map}
use Rattle.std.specs.Map.{lookup}
use Rattle.std.specs.Str.{bytes_eq}
use Rattle.std.proofs.Math.Bool.{or-false}
use Rattle.aft_id.specs.declared.txn_id.TxnId.{TxnId}
use Rattle.aft_model.specs.declared.door.DoorEntry.{DoorEntry}
use Rattle.aft_model.specs.Claims.{claimant_after, claimant, forgotten, given_up, gives_up, is_claim_of, tries_delete}
use Rattle.aft_model.specs.Cut.{tries_put}
use Rattle.aft_model.specs.History.{first_of, last_place}
use Rattle.aft_model.specs.Membership.{Incarnation, fenced, fenced_in, inc_at, same_incarnation, up_after, ups}
use Rattle.aft_model.specs.Readings.{marker_name, record_name}
use Rattle.aft_model.proofs.OneCommit.{claimant-snoc}
use Rattle.aft_door.specs.declared.index.Claimed.{Claimed}
use Rattle.aft_door.specs.declared.index.GivenUp.{GivenUp}
use Rattle.aft_door.specs.Index.{ClaimsAgree, FencedAgree, ForgottenAgree, GivenAgree, IsPlaced, PutsAgree, UpsAgree, greatest, last_put, up_in}
use Rattle.aft_door.proofs.Snocs.{any_act, fenced_more, last_more, ups_more}

-- one incarnation of each node in a list
abbrev pub OneIn : List Incarnation → Type 0
OneIn xs = (who : Incarnation) → IsTrue (list_any (same_incarnation who) xs) → first_of (flat_map (inc_at who.node) xs) ≡ Some who.inc

-- the map has the incarnation of each node in a list
abbrev pub UpsIn : List (ℕ × ℕ) → List Incarnation → Type 0
UpsIn nodes xs = (node : ℕ) → up_in node (lookup (λ key. node == key) nodes) ≡ first_of (flat_map (inc_at node) xs)

module _ (history : List DoorEntry) (e : DoorEntry) where
  -- who is up
  module _ (same : (xs : List Incarnation) → up_after xs e.act ≡ xs) where
    ups_kept : ups (history ++ e ∷ []) ≡ ups history
    ups_kept = ups_more history e ∙ same (ups history)

    pub up_kept : (nodes : List (ℕ × ℕ)) → UpsAgree history nodes → UpsAgree (history ++ e ∷ []) nodes
    up_kept nodes agree = subst (UpsIn nodes) (sym ups_kept) agree

  -- who was fenced
  pub fenced_kept : fenced_in e.act ≡ [] → (nodes : List (ℕ × ℕ)) → FencedAgree history nodes → FencedAgree (history ++ e ∷ []) nodes
  fenced_kept none nodes agree =
      λ node. agree node ∙ ap (λ xs. greatest (flat_map (inc_at node) xs)) (sym (fenced_more history e ∙ ap (λ xs. fenced history ++ xs) none ∙ append-nil (fenced history)))

  -- claims
  pub placed_kept : (uuid : List ℕ) (o : Option Claimed) → is_claim_of uuid e.act ≡ false → IsPlaced uuid history o → IsPlaced uuid (history ++ e ∷ []) o
  placed_kept uuid None other placed = tt
  placed_kept uuid (Some claimed) other placed =
      last_more (λ (x : DoorEntry). is_claim_of uuid x.act) history e ∙ ap (λ t. if t then Some (length history) else last_place (λ (x : DoorEntry). is_claim_of uuid x.act) history) other ∙ placed

  pub claims_kept : ((uuid : List ℕ) (o : Option Incarnation) → claimant_after uuid o e.act ≡ o) → ((uuid : List ℕ) → is_claim_of uuid e.act ≡ false)
      → (claims : List (List ℕ × Claimed)) → ClaimsAgree history claims → ClaimsAgree (history ++ e ∷ []) claims
  claims_kept same other claims agree = record {
    claimant = λ uuid. agree.claimant uuid ∙ sym (claimant-snoc uuid history e ∙ same uuid (claimant uuid history));
    place = λ uuid. placed_kept uuid (lookup (bytes_eq uuid) claims) (other uuid) (agree.place uuid);
  }

  -- forgotten UUIDs
  pub forgotten_kept : ((uuid : List ℕ) → tries_delete (marker_name uuid) e.act ≡ false) → (uuids : List (List ℕ)) → ForgottenAgree history uuids → ForgottenAgree (history ++ e ∷ []) uuids
  forgotten_kept none uuids agree =
      λ uuid is. agree uuid is ∙ sym (any_act (tries_delete (marker_name uuid)) history e ∙ ap (λ t. forgotten uuid history || t) (none uuid) ∙ or-false (forgotten uuid history))

  -- puts of records
  pub puts_kept : ((uuid : List ℕ) → tries_put (record_name uuid) e.act ≡ false) → (puts : List (List ℕ × ℕ)) → PutsAgree history puts → PutsAgree (history ++ e ∷ []) puts
  puts_kept none puts agree =
      λ uuid is. agree uuid is ∙ sym (last_more (λ (x : DoorEntry). tries_put (record_name uuid) x.act) history e ∙ ap (λ t. if t then Some (length history) else last_put uuid history) (none uuid))

  -- give-ups
  pub given_kept : ((who : Incarnation) (id : TxnId) → gives_up who id e.act ≡ false) → (given : List GivenUp) → GivenAgree history given → GivenAgree (history ++ e ∷ []) given
  given_kept none given agree =
      λ who id. agree who id ∙ sym (any_act (gives_up who id) history e ∙ ap (λ t. given_up who id history || t) (none who id) ∙ or-false (given_up who id history))
