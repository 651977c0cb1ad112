-- A node puts no record of a UUID that is used: none of its commits is committed, and no marker of it was acknowledged or shown.
use Rattle.std.proofs.Common.{◌≡◌, ℕ, ◌&&◌, ◌||◌, List, sym, ap, subst, ◌∙◌, inl, inr, refl, eqb}
use Rattle.std.specs.Prelude.{IsTrue, IsFalse}
use Rattle.std.specs.List.{list_any}
use Rattle.std.proofs.lemmas.Bool.{and_parts, or_cases, true≢false}
use Rattle.aft_id.specs.TxnId.{IsUuid}
use Rattle.aft_keeper.specs.declared.keeper.KeeperAnswer.{KeeperAnswer}
use Rattle.aft_keeper.specs.declared.keeper.KeeperCall.TheVariants.{Put}
use Rattle.aft_keeper.specs.declared.keeper.Pair.{Pair}
use Rattle.aft_records.specs.declared.stored.Commit.{Commit}
use Rattle.aft_records.specs.declared.stored.Marker.{Marker}
use Rattle.aft_records.specs.declared.stored.Record.{Record}
use Rattle.aft_records.specs.declared.stored.Version.{Version}
use Rattle.aft_records.specs.Reading.{commit_of, marker_of, version_of}
use Rattle.aft_model.specs.declared.door.DoorAct.TheVariants.{Call}
use Rattle.aft_model.specs.declared.door.DoorEntry.{DoorEntry}
use Rattle.aft_model.specs.Bytes.{acts_bytes, are_bytes}
use Rattle.aft_model.specs.DoorRules.{may_put, may_put_marker, may_put_record, may_put_version, may_upgrade}
use Rattle.aft_model.specs.LegalDoor.{may_come}
use Rattle.aft_model.specs.Membership.{Incarnation, incarnation, is_up, the_office}
use Rattle.aft_model.specs.Readings.{id_of_marker, marker_name, markers_in, record_name, records_in, version_name, versions_in, written_in}
use Rattle.aft_model.proofs.Formats.{written_is}
use Rattle.aft_model.proofs.Histories.{In, any_found}
use Rattle.aft_model.proofs.OneCommit.{same_who}
use Rattle.aft_model.proofs.Sights.{read-name, read-one}
use Rattle.law_names.proofs.Differ.{first_differs}
use Rattle.law_kept.specs.Kept.{Comes, Kept, Unused}
use Rattle.law_kept.specs.Outcomes.{ProvenOf, Uncommitted}
use Rattle.law_kept.proofs.Fates.{under}
use Rattle.law_kept.proofs.PutRecord.{putter, unused_by}
use Rattle.law_kept.proofs.Quiet.{may_be_absent}
use Rattle.law_kept.proofs.Steps.{come, made_act}
use Rattle.law_kept.proofs.Written.{commit_limits}

module _ (history : List DoorEntry) (entry : DoorEntry) (comes : Comes history entry) (node inc : ℕ) (name bytes : List ℕ) (answer : KeeperAnswer)
    (is : entry.act ≡ Call node inc (Put name bytes) answer) (at_node : IsFalse (eqb node 0)) (c : Commit) (among : In c (records_in (under name bytes))) (kept : Kept c.id.uuid history) where
  named : name ≡ record_name c.id.uuid
  named = read-name name (λ (d : Commit). record_name d.id.uuid) (commit_of bytes) c among

  made : IsTrue (are_bytes bytes)
  made = (and_parts (are_bytes name) (are_bytes bytes) (and_parts (are_bytes name && are_bytes bytes) _ (subst (λ act. IsTrue (acts_bytes act)) is (made_act history entry comes))).0).1

  its : IsUuid c.id.uuid
  its = (commit_limits (under name bytes) c made among).0.id.uuid

  abbrev Unrecorded : Type 0
  Unrecorded = Uncommitted c.id.uuid history × ((m : Marker) → ProvenOf c.id.uuid history m → ⊥)

  of_unused : (names : List (List ℕ)) → Unused c.id.uuid (incarnation node inc) names history → Unrecorded
  of_unused names unused = (
    unused.uncommitted,
    λ m proven. kept.sure m proven unused.free.unforgotten (may_be_absent (marker_name c.id.uuid) history kept.markers_known.some unused.marker_gone),
  )

  of_record : (r : Record) → In r (written_in (under name bytes)) → IsTrue (may_put_record history (incarnation node inc) r || may_upgrade history (incarnation node inc) r) → Unrecorded
  of_record r written rule =
      let same : r.commit ≡ c = read-one name (λ (d : Commit). record_name d.id.uuid) (commit_of bytes) r.commit c (written_is (under name bytes) r written) among in
      elim (putter c.id.uuid its history entry comes kept node inc name bytes answer is r written rule) [
        | inl node_puts ↦ of_unused node_puts.names (unused_by c.id.uuid its history entry comes kept node inc name bytes answer is r written rule (ap (λ (d : Commit). d.id.uuid) same) node_puts)
        | inr office ↦ absurd (true≢false (ap (λ (i : Incarnation). eqb i.node 0) (same_who the_office (incarnation node inc) office.by_it) ∙ at_node))
      ]

  pub puts_unused : Unrecorded
  puts_unused =
      let who : Incarnation = incarnation node inc in
      let pair : Pair = under name bytes in
      let ruled = subst (λ act. IsTrue (may_come history act)) is (come history entry comes) in
      let may = (and_parts (is_up who history) (may_put history who pair) ruled).1 in
      elim (or_cases (list_any (may_put_version history who) (versions_in pair) || list_any (λ r. may_put_record history who r || may_upgrade history who r) (written_in pair)) (list_any (may_put_marker history who) (markers_in pair)) may) [
        | inl stored ↦ elim (or_cases (list_any (may_put_version history who) (versions_in pair)) (list_any (λ r. may_put_record history who r || may_upgrade history who r) (written_in pair)) stored) [
          | inl version ↦ (let v = any_found (may_put_version history who) (versions_in pair) version in
              absurd (first_differs 118 99 _ _ refl (sym (read-name name (λ (w : Version). version_name w.key w.id) (version_of bytes) v.0 v.1) ∙ named)))
          | inr record_put ↦ (let r = any_found (λ r. may_put_record history who r || may_upgrade history who r) (written_in pair) record_put in of_record r.0 r.1 r.2)
        ]
        | inr marker ↦ (let m = any_found (may_put_marker history who) (markers_in pair) marker in
            absurd (first_differs 114 99 _ _ refl (sym (read-name name (λ (n : Marker). marker_name (id_of_marker n).uuid) (marker_of bytes) m.0 m.1) ∙ named)))
      ]
