-- A UUID is kept behind each put, behind each entry, and so behind all entries of the open door.
use Rattle.std.proofs.Common.{◌≡◌, ℕ, ◌||◌, List, [], ◌∷◌, ◌++◌, refl, sym, subst, inl, inr, append_assoc, append-nil}
use Rattle.std.specs.Prelude.{IsTrue}
use Rattle.std.specs.List.{list_any}
use Rattle.std.proofs.lemmas.Bool.{and_parts, or_cases, false≢true}
use Rattle.aft_id.specs.TxnId.{IsUuid}
use Rattle.aft_keeper.specs.declared.keeper.KeeperAnswer.{KeeperAnswer}
use Rattle.aft_keeper.specs.declared.keeper.KeeperCall.TheVariants.{Delete, Get, Put, Scan}
use Rattle.aft_keeper.specs.declared.keeper.Pair.{Pair}
use Rattle.aft_model.specs.declared.door.DoorAct.{DoorAct}
use Rattle.aft_model.specs.declared.door.DoorAct.TheVariants.{Call, Claim, Fence, GiveUp, Opened, Release, Up}
use Rattle.aft_model.specs.declared.door.DoorEntry.{DoorEntry}
use Rattle.aft_model.specs.Bytes.{acts_bytes}
use Rattle.aft_model.specs.DoorKnowledge.{is_delete, is_open, opens}
use Rattle.aft_model.specs.DoorRules.{may_put, may_put_marker, may_put_record, may_put_version, may_upgrade}
use Rattle.aft_model.specs.Evidence.{shown}
use Rattle.aft_model.specs.Honest.{Honest, agrees, is_honest_about, names}
use Rattle.aft_model.specs.LegalDoor.{may_come, may_follow}
use Rattle.aft_model.specs.MayHold.{may_hold}
use Rattle.aft_model.specs.Membership.{Incarnation, incarnation, is_up}
use Rattle.aft_model.specs.Readings.{markers_in, versions_in, written_in}
use Rattle.aft_model.specs.Stages.{is_in_stage, retires_unheld_in}
use Rattle.aft_model.proofs.Growth.{any_grows}
use Rattle.aft_model.proofs.Histories.{all_append, any_found, each_after_split}
use Rattle.aft_model.proofs.Honesty.{honest_about}
use Rattle.aft_model.proofs.Lists.{all_from}
use Rattle.law_kept.specs.Kept.{Comes, Kept, Lawful, is_claiming, is_membership, is_put, is_sight}
use Rattle.law_kept.proofs.Deleted.{kept_behind_delete}
use Rattle.law_kept.proofs.Fates.{under}
use Rattle.law_kept.proofs.PutMarker.{kept_behind_marker}
use Rattle.law_kept.proofs.PutRecord.{kept_behind_record}
use Rattle.law_kept.proofs.PutStored.{kept_behind_version}
use Rattle.law_kept.proofs.Seen.{kept_behind_sight}
use Rattle.law_kept.proofs.Steps.{come}
use Rattle.law_kept.proofs.Unmoved.{kept_behind_claim, kept_behind_member}

module _ (uuid : List ℕ) (its : IsUuid uuid) (history : List DoorEntry) (entry : DoorEntry) (comes : Comes history entry) (before : Kept uuid history) where
  abbrev longer : List DoorEntry
  longer = history ++ entry ∷ []

  put_by : (node inc : ℕ) (name bytes : List ℕ) (answer : KeeperAnswer) → entry.act ≡ Call node inc (Put name bytes) answer → Kept uuid longer
  put_by node inc name bytes answer is =
      let who : Incarnation = incarnation node inc in
      let pair : Pair = under name bytes in
      let ruled = subst (λ act. IsTrue (may_come history act)) is (come history entry comes) in
      let may = (and_parts (is_up who history) (may_put history who pair) ruled).1 in
      elim (or_cases (list_any (may_put_version history who) (versions_in pair) || list_any (λ r. may_put_record history who r || may_upgrade history who r) (written_in pair)) (list_any (may_put_marker history who) (markers_in pair)) may) [
        | inl stored ↦ elim (or_cases (list_any (may_put_version history who) (versions_in pair)) (list_any (λ r. may_put_record history who r || may_upgrade history who r) (written_in pair)) stored) [
          | inl version ↦ (let v = any_found (may_put_version history who) (versions_in pair) version in kept_behind_version uuid its history entry comes before node inc name bytes answer is v.0 v.1 v.2)
          | inr record_put ↦ (let r = any_found (λ r. may_put_record history who r || may_upgrade history who r) (written_in pair) record_put in
              kept_behind_record uuid its history entry comes before node inc name bytes answer is r.0 r.1 r.2)
        ]
        | inr marker ↦ (let m = any_found (may_put_marker history who) (markers_in pair) marker in kept_behind_marker uuid its history entry comes before node inc name bytes answer is m.0 m.1 m.2)
      ]

  pub kept_behind_put : IsTrue (is_put entry.act) → Kept uuid longer
  kept_behind_put put = go entry.act refl put
    where
      go : (act : DoorAct) → entry.act ≡ act → IsTrue (is_put act) → Kept uuid longer
      go (Call node inc (Put name bytes) answer) is put = put_by node inc name bytes answer is
      go act is put = absurd (false≢true put)

  pub kept_behind_deleting : IsTrue (is_delete entry.act) → Kept uuid longer
  kept_behind_deleting deleting = go entry.act refl deleting
    where
      go : (act : DoorAct) → entry.act ≡ act → IsTrue (is_delete act) → Kept uuid longer
      go (Call node inc (Delete name) answer) is deleting = kept_behind_delete uuid its history entry comes before node inc name answer is
      go act is deleting = absurd (false≢true deleting)

  pub kept_behind_each : Kept uuid longer
  kept_behind_each = go entry.act refl
    where
      go : (act : DoorAct) → entry.act ≡ act → Kept uuid longer
      go (Call node inc (Get name) answer) is = kept_behind_sight uuid history entry comes before (subst (λ a. IsTrue (is_sight a)) (sym is) refl)
      go (Call node inc (Scan prefix after limit) answer) is = kept_behind_sight uuid history entry comes before (subst (λ a. IsTrue (is_sight a)) (sym is) refl)
      go (Call node inc (Put name bytes) answer) is = put_by node inc name bytes answer is
      go (Call node inc (Delete name) answer) is = kept_behind_delete uuid its history entry comes before node inc name answer is
      go (Claim claimed node inc) is = kept_behind_claim uuid history entry comes before (subst (λ a. IsTrue (is_claiming a)) (sym is) refl)
      go (Release released node inc) is = kept_behind_claim uuid history entry comes before (subst (λ a. IsTrue (is_claiming a)) (sym is) refl)
      go (Up node inc) is = kept_behind_member uuid history entry comes before (subst (λ a. IsTrue (is_membership a)) (sym is) refl)
      go (Fence node inc) is = kept_behind_member uuid history entry comes before (subst (λ a. IsTrue (is_membership a)) (sym is) refl)
      go (GiveUp node inc id) is = kept_behind_member uuid history entry comes before (subst (λ a. IsTrue (is_membership a)) (sym is) refl)
      go Opened is = absurd (false≢true (subst (λ a. IsTrue (may_come history a)) is (come history entry comes)))

-- ---- all entries

-- the beginning of an honest history is honest
pub honest_begins : (xs ys : List DoorEntry) → Honest (xs ++ ys) → Honest xs
honest_begins xs ys honest =
    all_from (λ name. is_honest_about name xs) (names xs) (λ name among.
    (each_after_split (λ before (e : DoorEntry). agrees (may_hold name before) (shown name e)) [] xs ys (honest_about name (xs ++ ys) honest)).0)

pub lawful_begins : (xs ys : List DoorEntry) → Lawful (xs ++ ys) → Lawful xs
lawful_begins xs ys whole = record {
  legal = (each_after_split may_follow [] xs ys whole.legal).0;
  honest = honest_begins xs ys whole.honest;
  made = (all_append (λ (e : DoorEntry). acts_bytes e.act) xs ys whole.made).0;
  stages = (each_after_split (λ (before : List DoorEntry) (e : DoorEntry). is_in_stage before e.act) [] xs ys whole.stages).0;
  retires = (each_after_split (λ (before : List DoorEntry) (e : DoorEntry). retires_unheld_in before e.act) [] xs ys whole.retires).0;
}

pub always : (uuid : List ℕ) → IsUuid uuid → (history more : List DoorEntry) → IsTrue (is_open history) → Lawful (history ++ more) → Kept uuid history → Kept uuid (history ++ more)
always uuid its history [] opened whole kept = subst (Kept uuid) (sym (append-nil history)) kept
always uuid its history (entry ∷ more) opened whole kept =
    let joined : history ++ entry ∷ more ≡ (history ++ entry ∷ []) ++ more = sym (append_assoc history (entry ∷ []) more) in
    let rest : Lawful ((history ++ entry ∷ []) ++ more) = subst Lawful joined whole in
    let now = lawful_begins (history ++ entry ∷ []) more rest in
    let comes : Comes history entry = record { opened = opened; legal = now.legal; honest = now.honest; made = now.made; stages = now.stages; retires = now.retires } in
    subst (Kept uuid) (sym joined)
    (always uuid its (history ++ entry ∷ []) more (any_grows (λ (e : DoorEntry). opens e.act) history (entry ∷ []) opened) rest (kept_behind_each uuid its history entry comes kept))
