-- Where a full marker was tried: it was shown before the door was open, or put by its rule.
use Rattle.std.proofs.Common.{◌≡◌, ℕ, ◌&&◌, ◌||◌, List, [], ◌∷◌, ◌++◌, refl, sym, subst, ◌∙◌, ◌⊎◌, inl, inr, append_assoc}
use Rattle.std.specs.Prelude.{IsTrue}
use Rattle.std.specs.List.{flat_map, list_any}
use Rattle.std.proofs.lemmas.Bool.{and_parts, or_cases}
use Rattle.aft_id.specs.TxnId.{IsUuid}
use Rattle.aft_keeper.specs.declared.keeper.KeeperAnswer.{KeeperAnswer}
use Rattle.aft_keeper.specs.declared.keeper.KeeperCall.TheVariants.{Put}
use Rattle.aft_keeper.specs.declared.keeper.Pair.{Pair}
use Rattle.aft_records.specs.declared.stored.Commit.{Commit}
use Rattle.aft_records.specs.declared.stored.Marker.{Marker}
use Rattle.aft_records.specs.declared.stored.Marker.TheVariants.{Full}
use Rattle.aft_records.specs.declared.stored.Version.{Version}
use Rattle.aft_records.specs.Commits.{is_among}
use Rattle.aft_records.specs.Reading.{commit_of, marker_of, version_of}
use Rattle.aft_records.specs.Superseded.{Superseded, is_superseded}
use Rattle.aft_model.specs.declared.door.DoorAct.{DoorAct}
use Rattle.aft_model.specs.declared.door.DoorAct.TheVariants.{Call}
use Rattle.aft_model.specs.declared.door.DoorEntry.{DoorEntry}
use Rattle.aft_model.specs.Committed.{committed}
use Rattle.aft_model.specs.DoorKnowledge.{is_open, knows_superseded}
use Rattle.aft_model.specs.DoorRules.{all_gave_up, may_put, may_put_marker, may_put_record, may_put_version, may_upgrade}
use Rattle.aft_model.specs.Evidence.{shown_pairs}
use Rattle.aft_model.specs.LegalDoor.{may_come}
use Rattle.aft_model.specs.Membership.{Incarnation, incarnation, is_up, same_incarnation, the_office}
use Rattle.aft_model.specs.Office.{before_open}
use Rattle.aft_model.specs.Readings.{id_of_marker, marker_name, markers_in, record_name, version_name, versions_in, written_in}
use Rattle.aft_model.proofs.Formats.{written_is}
use Rattle.aft_model.proofs.Histories.{In, any_found, in_flat_map}
use Rattle.aft_model.proofs.Sights.{read-name, read-one}
use Rattle.law_names.proofs.Differ.{first_differs}
use Rattle.law_kept.specs.Kept.{Comes, Lawful, is_put}
use Rattle.law_kept.specs.Tried.{Tried, markers_put}
use Rattle.law_kept.proofs.Always.{lawful_begins}
use Rattle.law_kept.proofs.Fates.{under}
use Rattle.law_kept.proofs.Steps.{come}
use Rattle.law_whole.specs.Marks.{MarkedAt}
use Rattle.law_whole.proofs.Lists.{split_at}
use Rattle.law_whole.proofs.Throughout.{kept_open, puts_at_open}

-- a call that puts a marker
pub record PutsMarker (m : Marker) (act : DoorAct) : Type 0 where
  pub node : ℕ
  pub inc : ℕ
  pub name : List ℕ
  pub bytes : List ℕ
  pub answer : KeeperAnswer
  pub is : act ≡ Call node inc (Put name bytes) answer
  pub reads : In m (markers_in (under name bytes))

pub puts_marker : (m : Marker) (act : DoorAct) → In m (markers_put act) → PutsMarker m act
puts_marker m (Call node inc (Put name bytes) answer) among = record { node = node; inc = inc; name = name; bytes = bytes; answer = answer; is = refl; reads = among }
puts_marker m act among = absurd among

-- a marker that is put comes by its rule
pub by_rule : (history : List DoorEntry) (who : Incarnation) (name bytes : List ℕ) (m : Marker) → In m (markers_in (under name bytes)) → IsTrue (may_put history who (under name bytes)) → IsTrue (may_put_marker history who m)
by_rule history who name bytes m among may =
    let pair : Pair = under name bytes in
    let named : name ≡ marker_name (id_of_marker m).uuid = read-name name (λ (n : Marker). marker_name (id_of_marker n).uuid) (marker_of bytes) m among in
    elim (or_cases (list_any (may_put_version history who) (versions_in pair) || list_any (λ r. may_put_record history who r || may_upgrade history who r) (written_in pair)) (list_any (may_put_marker history who) (markers_in pair)) may) [
      | inl stored ↦ elim (or_cases (list_any (may_put_version history who) (versions_in pair)) (list_any (λ r. may_put_record history who r || may_upgrade history who r) (written_in pair)) stored) [
        | inl version ↦ (let v = any_found (may_put_version history who) (versions_in pair) version in
            absurd (first_differs 118 114 _ _ refl (sym (read-name name (λ (w : Version). version_name w.key w.id) (version_of bytes) v.0 v.1) ∙ named)))
        | inr record_put ↦ (let r = any_found (λ r. may_put_record history who r || may_upgrade history who r) (written_in pair) record_put in
            absurd (first_differs 99 114 _ _ refl (sym (read-name name (λ (d : Commit). record_name d.id.uuid) (commit_of bytes) r.0.commit (written_is pair r.0 r.1)) ∙ named)))
      ]
      | inr marker ↦ (let n = any_found (may_put_marker history who) (markers_in pair) marker in
          subst (λ (k : Marker). IsTrue (may_put_marker history who k)) (read-one name (λ (k : Marker). marker_name (id_of_marker k).uuid) (marker_of bytes) n.0 m n.1 among) n.2)
    ]

module _ (c : Commit) (history : List DoorEntry) (lawful : Lawful history) where
  -- shown before the door was open
  abbrev pub ShownAtFirst : Type 0
  ShownAtFirst = In (Full c) (flat_map markers_in (flat_map shown_pairs (before_open history)))

  pub tried_how : Tried history (Full c) → ShownAtFirst ⊎ MarkedAt c history
  tried_how (inr shown) = inl shown
  tried_how (inl put) =
      let e = in_flat_map (λ (x : DoorEntry). markers_put x.act) (Full c) history put in
      let at = split_at e.0 history e.1 in
      let now : Lawful (at.0 ++ e.0 ∷ []) = lawful_begins (at.0 ++ e.0 ∷ []) at.1 (subst Lawful (at.2 ∙ sym (append_assoc at.0 (e.0 ∷ []) at.1)) lawful) in
      let puts = puts_marker (Full c) e.0.act e.2 in
      let opened : IsTrue (is_open at.0) = puts_at_open at.0 e.0 now.legal (subst (λ act. IsTrue (is_put act)) (sym puts.is) refl) in
      let comes : Comes at.0 e.0 = record { opened = opened; legal = now.legal; honest = now.honest; made = now.made; stages = now.stages; retires = now.retires } in
      let who : Incarnation = incarnation puts.node puts.inc in
      let ruled = subst (λ act. IsTrue (may_come at.0 act)) puts.is (come at.0 e.0 comes) in
      let rule = by_rule at.0 who puts.name puts.bytes (Full c) puts.reads (and_parts (is_up who at.0) (may_put at.0 who (under puts.name puts.bytes)) ruled).1 in
      let parts = and_parts (same_incarnation the_office who && knows_superseded c at.0) (all_gave_up at.0 c.id) rule in
      let knows = (and_parts (same_incarnation the_office who) (knows_superseded c at.0) parts.0).1 in
      inr (record {
        before = at.0;
        entry = e.0;
        after = at.1;
        parts = at.2;
        puts = e.2;
        superseded = (and_parts (is_among c (committed at.0)) (is_superseded c (committed at.0)) knows).1;
        given_up = parts.1;
      })

  pub tried_superseded : IsUuid c.id.uuid → IsTrue (is_open history) → Tried history (Full c) → Superseded c (committed history)
  tried_superseded its opened tried = ((kept_open c.id.uuid its history opened lawful).full c tried refl).0
