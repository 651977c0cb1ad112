-- A UUID whose marker was found absent isn't marked while no full marker of it is put, and it isn't forgotten.
use Rattle.std.proofs.Common.{◌≡◌, ℕ, ◌&&◌, ◌||◌, List, [], ◌∷◌, ◌++◌, refl, sym, ap, subst, ◌∙◌, inl, inr, append_assoc, append-nil}
use Rattle.std.specs.Prelude.{IsTrue, IsFalse, Option, Some, None}
use Rattle.std.specs.List.{list_any}
use Rattle.std.specs.Str.{bytes_eq}
use Rattle.std.proofs.lemmas.Bool.{and_parts, false_from_ne_true, or_cases, true≢false}
use Rattle.aft_id.specs.declared.txn_id.TxnId.{TxnId}
use Rattle.aft_id.specs.TxnId.{IsUuid, same_id}
use Rattle.aft_keeper.specs.declared.keeper.KeeperAnswer.{KeeperAnswer}
use Rattle.aft_keeper.specs.declared.keeper.KeeperCall.TheVariants.{Put}
use Rattle.aft_keeper.specs.declared.keeper.Pair.{Pair}
use Rattle.aft_records.specs.declared.stored.Commit.{Commit}
use Rattle.aft_records.specs.declared.stored.Marker.{Marker}
use Rattle.aft_records.specs.declared.stored.Marker.TheVariants.{Done, Full}
use Rattle.aft_records.specs.declared.stored.Version.{Version}
use Rattle.aft_records.specs.Commits.{has_uuid}
use Rattle.aft_records.specs.Reading.{commit_of, marker_of, version_of}
use Rattle.aft_model.specs.declared.door.DoorAct.{DoorAct}
use Rattle.aft_model.specs.declared.door.DoorAct.TheVariants.{Call}
use Rattle.aft_model.specs.declared.door.DoorEntry.{DoorEntry}
use Rattle.aft_model.specs.Bytes.{acts_bytes, are_bytes}
use Rattle.aft_model.specs.Claims.{forgotten}
use Rattle.aft_model.specs.Committed.{marked}
use Rattle.aft_model.specs.DoorKnowledge.{has_deleted, is_open, knows_marked, knows_versions_gone, marked_then, opens}
use Rattle.aft_model.specs.DoorRules.{may_put, may_put_marker, may_put_record, may_put_version, may_upgrade}
use Rattle.aft_model.specs.Evidence.{shows_absent}
use Rattle.aft_model.specs.LegalDoor.{may_come}
use Rattle.aft_model.specs.Membership.{Incarnation, incarnation, is_up, same_incarnation, the_office}
use Rattle.aft_model.specs.Readings.{id_of_marker, marker_name, markers_in, record_name, version_name, versions_in, written_in}
use Rattle.aft_model.proofs.Formats.{written_is}
use Rattle.aft_model.proofs.Growth.{any_grows, forgotten_grows}
use Rattle.aft_model.proofs.Histories.{In, any_found, any_from, in_front}
use Rattle.aft_model.proofs.Ids.{same_ids}
use Rattle.aft_model.proofs.Sights.{bytes_eq-refl, read-name}
use Rattle.law_names.proofs.Differ.{first_differs}
use Rattle.law_kept.specs.Kept.{Comes, Kept, Lawful}
use Rattle.law_kept.specs.Outcomes.{MayBe, OnlyAbsent}
use Rattle.law_kept.specs.Tried.{markers_put}
use Rattle.law_kept.proofs.Always.{kept_behind_each, lawful_begins}
use Rattle.law_kept.proofs.Fates.{fate, only_one, under}
use Rattle.law_kept.proofs.Quiet.{may_be_absent, unmarked_where_absent}
use Rattle.law_kept.proofs.Steps.{absent_effect, come, made_act, new_put}
use Rattle.law_kept.proofs.Written.{marker_limits, marker_uuid, same_marker_name}
use Rattle.law_whole.proofs.Throughout.{kept_open}
use Rattle.law_whole.proofs.Values.{comes_next}

-- whoever puts under a marker's name puts a marker, by its rule
record PutsOne (history : List DoorEntry) (who : Incarnation) (pair : Pair) : Type 0 where
  marker : Marker
  among : In marker (markers_in pair)
  rule : IsTrue (may_put_marker history who marker)

puts_one : (history : List DoorEntry) (who : Incarnation) (uuid bytes : List ℕ) → IsTrue (may_put history who (under (marker_name uuid) bytes)) → PutsOne history who (under (marker_name uuid) bytes)
puts_one history who uuid bytes may =
    let pair : Pair = under (marker_name uuid) bytes in
    elim (or_cases (list_any (may_put_version history who) (versions_in pair) || list_any (λ r. may_put_record history who r || may_upgrade history who r) (written_in pair)) (list_any (may_put_marker history who) (markers_in pair)) may) [
      | inl stored ↦ elim (or_cases (list_any (may_put_version history who) (versions_in pair)) (list_any (λ r. may_put_record history who r || may_upgrade history who r) (written_in pair)) stored) [
        | inl version ↦ (let v = any_found (may_put_version history who) (versions_in pair) version in
            absurd (first_differs 118 114 _ _ refl (sym (read-name (marker_name uuid) (λ (w : Version). version_name w.key w.id) (version_of bytes) v.0 v.1))))
        | inr record_put ↦ (let r = any_found (λ r. may_put_record history who r || may_upgrade history who r) (written_in pair) record_put in
            absurd (first_differs 99 114 _ _ refl (sym (read-name (marker_name uuid) (λ (d : Commit). record_name d.id.uuid) (commit_of bytes) r.0.commit (written_is pair r.0 r.1)))))
      ]
      | inr marker ↦ (let m = any_found (may_put_marker history who) (markers_in pair) marker in record { marker = m.0; among = m.1; rule = m.2 })
    ]

-- what is put by a call is put by its act
put_in : (act : DoorAct) (node inc : ℕ) (name bytes : List ℕ) (answer : KeeperAnswer) → act ≡ Call node inc (Put name bytes) answer → (m : Marker) → In m (markers_in (under name bytes)) → In m (markers_put act)
put_in act node inc name bytes answer is m among = subst (λ a. In m (markers_put a)) (sym is) among

module _ (uuid : List ℕ) (its : IsUuid uuid) where
  -- no full marker of the UUID is put
  abbrev pub Unretired : List DoorEntry → Type 0
  Unretired entries = (e : DoorEntry) → In e entries → (c : Commit) → In (Full c) (markers_put e.act) → c.id.uuid ≡ uuid → ⊥

  module _ (history : List DoorEntry) (entry : DoorEntry) (comes : Comes history entry) (kept : Kept uuid history) (gone : OnlyAbsent (marker_name uuid) history) (un : IsFalse (forgotten uuid history)) (unretired : Unretired (entry ∷ [])) where
    unmarked : IsTrue (knows_marked uuid history) → ⊥
    unmarked marks = unmarked_where_absent uuid history kept un (may_be_absent (marker_name uuid) history kept.markers_known.some gone) marks

    no_marker : (node inc : ℕ) (bytes : List ℕ) (answer : KeeperAnswer) → entry.act ≡ Call node inc (Put (marker_name uuid) bytes) answer → ⊥
    no_marker node inc bytes answer is =
        let who : Incarnation = incarnation node inc in
        let pair : Pair = under (marker_name uuid) bytes in
        let ruled = subst (λ act. IsTrue (may_come history act)) is (come history entry comes) in
        let one = puts_one history who uuid bytes (and_parts (is_up who history) (may_put history who pair) ruled).1 in
        let made = (and_parts (are_bytes (marker_name uuid)) (are_bytes bytes) (and_parts (are_bytes (marker_name uuid) && are_bytes bytes) _ (subst (λ act. IsTrue (acts_bytes act)) is (made_act history entry comes))).0).1 in
        let named = read-name (marker_name uuid) (λ (n : Marker). marker_name (id_of_marker n).uuid) (marker_of bytes) one.marker one.among in
        let same : uuid ≡ (id_of_marker one.marker).uuid = same_marker_name uuid (id_of_marker one.marker).uuid its (marker_uuid one.marker (marker_limits pair one.marker made one.among)) named in
        by_kind one.marker one.rule (put_in entry.act node inc (marker_name uuid) bytes answer is one.marker one.among) (sym same)
      where
        by_kind : (m : Marker) → IsTrue (may_put_marker history (incarnation node inc) m) → In m (markers_put entry.act) → (id_of_marker m).uuid ≡ uuid → ⊥
        by_kind (Full c) rule put of = unretired entry (inl refl) c put of
        by_kind (Done id) rule put of =
            let gone_versions = (and_parts (same_incarnation the_office (incarnation node inc)) (knows_versions_gone id history) rule).1 in
            let c = any_found (λ (d : Commit). same_id id d.id && marked_then (has_deleted d) d history) (marked history) gone_versions in
            let same : id ≡ c.0.id = same_ids id c.0.id (and_parts (same_id id c.0.id) (marked_then (has_deleted c.0) c.0 history) c.2).0 in
            unmarked (any_from (has_uuid uuid) c.0 (marked history) c.1 (subst (λ u. IsTrue (bytes_eq uuid u)) (sym of ∙ ap (λ (i : TxnId). i.uuid) same) (bytes_eq-refl uuid)))

    pub gone_next : OnlyAbsent (marker_name uuid) (history ++ entry ∷ [])
    gone_next o may = by_outcome o may
      where
        by_outcome : (p : Option (List ℕ)) → MayBe (marker_name uuid) (history ++ entry ∷ []) p → p ≡ None
        by_outcome None may = refl
        by_outcome (Some bytes) may = elim (fate history entry (marker_name uuid) comes.honest kept.markers_known.some (Some bytes) may) [
          | inl was ↦ gone (Some bytes) was
          | inr new ↦ (let put = new_put (marker_name uuid) entry.act bytes new in absurd (no_marker put.0 put.1 bytes put.2 put.3))
        ]

  -- what isn't forgotten behind some entries wasn't before them
  unforgotten : (history more : List DoorEntry) → IsFalse (forgotten uuid (history ++ more)) → IsFalse (forgotten uuid history)
  unforgotten history more un = false_from_ne_true (forgotten uuid history) (λ was. true≢false (sym (forgotten_grows uuid history more was) ∙ un))

  gone_from : (history more : List DoorEntry) → IsTrue (is_open history) → Lawful (history ++ more) → Kept uuid history → OnlyAbsent (marker_name uuid) history → IsFalse (forgotten uuid (history ++ more)) → Unretired more → IsTrue (knows_marked uuid (history ++ more)) → ⊥
  gone_from history [] opened whole kept gone un unretired marks =
      unmarked_where_absent uuid history kept (subst (λ (h : List DoorEntry). IsFalse (forgotten uuid h)) (append-nil history) un) (may_be_absent (marker_name uuid) history kept.markers_known.some gone)
      (subst (λ (h : List DoorEntry). IsTrue (knows_marked uuid h)) (append-nil history) marks)
  gone_from history (entry ∷ more) opened whole kept gone un unretired marks =
      let joined : history ++ entry ∷ more ≡ (history ++ entry ∷ []) ++ more = sym (append_assoc history (entry ∷ []) more) in
      let rest : Lawful ((history ++ entry ∷ []) ++ more) = subst Lawful joined whole in
      let comes : Comes history entry = comes_next history more entry opened rest in
      gone_from (history ++ entry ∷ []) more (any_grows (λ (e : DoorEntry). opens e.act) history (entry ∷ []) opened) rest (kept_behind_each uuid its history entry comes kept)
      (gone_next history entry comes kept gone (unforgotten history (entry ∷ more) un) (λ e among c put of. unretired e (in_front e (entry ∷ []) more among) c put of))
      (subst (λ (h : List DoorEntry). IsFalse (forgotten uuid h)) joined un) (λ e among c put of. unretired e (inr among) c put of)
      (subst (λ (h : List DoorEntry). IsTrue (knows_marked uuid h)) joined marks)

  -- a marker that is shown absent is gone behind that
  pub unmarked_since : (history : List DoorEntry) (entry : DoorEntry) (more : List DoorEntry) → IsTrue (is_open history) → Lawful (history ++ entry ∷ more) → IsTrue (shows_absent (marker_name uuid) entry)
      → IsFalse (forgotten uuid (history ++ entry ∷ more)) → Unretired more → IsFalse (knows_marked uuid (history ++ entry ∷ more))
  unmarked_since history entry more opened whole absent un unretired = false_from_ne_true (knows_marked uuid (history ++ entry ∷ more)) (λ marks.
      let joined : history ++ entry ∷ more ≡ (history ++ entry ∷ []) ++ more = sym (append_assoc history (entry ∷ []) more) in
      let rest : Lawful ((history ++ entry ∷ []) ++ more) = subst Lawful joined whole in
      let still : IsTrue (is_open (history ++ entry ∷ [])) = any_grows (λ (e : DoorEntry). opens e.act) history (entry ∷ []) opened in
      gone_from (history ++ entry ∷ []) more still rest (kept_open uuid its (history ++ entry ∷ []) still (lawful_begins (history ++ entry ∷ []) more rest))
      (λ o may. only_one history entry (marker_name uuid) None (inl (absent_effect (marker_name uuid) entry.act absent)) o may)
      (subst (λ (h : List DoorEntry). IsFalse (forgotten uuid h)) joined un) unretired (subst (λ (h : List DoorEntry). IsTrue (knows_marked uuid h)) joined marks))
