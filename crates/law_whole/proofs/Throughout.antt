-- What is kept of each UUID, over whole histories of the door: once it is open, and before that.
use Rattle.std.proofs.Common.{◌≡◌, ℕ, Bool, true, false, ◌&&◌, ◌||◌, not, List, [], ◌∷◌, ◌++◌, refl, sym, ap, subst, ◌∙◌, inl, inr, append_assoc, eqb}
use Rattle.std.specs.Prelude.{IsTrue, IsFalse, Some, if◌then◌else◌}
use Rattle.std.specs.List.{list_all, list_any}
use Rattle.std.specs.Str.{bytes_eq}
use Rattle.std.proofs.lemmas.Bool.{and_parts, cases_Bool, false≢true, false_from_ne_true, or_cases, or_left, or_right}
use Rattle.aft_id.specs.TxnId.{IsUuid}
use Rattle.aft_keeper.specs.declared.keeper.KeeperAnswer.{KeeperAnswer}
use Rattle.aft_keeper.specs.declared.keeper.KeeperCall.TheVariants.{Put}
use Rattle.aft_keeper.specs.declared.keeper.Pair.{Pair}
use Rattle.aft_records.specs.declared.stored.Commit.{Commit}
use Rattle.aft_records.specs.declared.stored.Marker.{Marker}
use Rattle.aft_records.specs.Commits.{has_uuid, same_commit}
use Rattle.aft_records.specs.Superseded.{is_superseded}
use Rattle.aft_model.specs.declared.door.DoorAct.{DoorAct}
use Rattle.aft_model.specs.declared.door.DoorAct.TheVariants.{Call, Opened}
use Rattle.aft_model.specs.declared.door.DoorEntry.{DoorEntry}
use Rattle.aft_model.specs.Bytes.{acts_bytes, are_bytes}
use Rattle.aft_model.specs.Committed.{Committed, committed, committed_by, proven_pairs}
use Rattle.aft_model.specs.DoorKnowledge.{is_open, opens}
use Rattle.aft_model.specs.Evidence.{shown_pairs, stored_pairs}
use Rattle.aft_model.specs.History.{each_after}
use Rattle.aft_model.specs.LegalDoor.{Legal}
use Rattle.aft_model.specs.MayHold.{OneOf}
use Rattle.aft_model.specs.Readings.{id_of_marker, markers_in, record_name, records_in}
use Rattle.aft_model.specs.Whole.{is_whole}
use Rattle.aft_model.proofs.Histories.{In, all_at, any_found, any_from, in_back, in_flat_map}
use Rattle.aft_model.proofs.Lists.{all_from, none_snoc}
use Rattle.aft_model.proofs.Sights.{same_bytes}
use Rattle.aft_lines.specs.Headline.{all_whole, has_one_each, is_used, record_put_by}
use Rattle.law_names.proofs.Proven.{committed_limits}
use Rattle.law_kept.specs.Kept.{Comes, Kept, Lawful, is_put, is_sight}
use Rattle.law_kept.specs.Outcomes.{CommittedOf, ProvenOf, Uncommitted, records_at}
use Rattle.law_kept.proofs.Always.{always, lawful_begins}
use Rattle.law_kept.proofs.Fates.{committed_by_it, markers_by, one_record, under}
use Rattle.law_kept.proofs.Gives.{whole_commit}
use Rattle.law_kept.proofs.Gone.{flat_map_in}
use Rattle.law_kept.proofs.PutMarker.{same_commit_itself}
use Rattle.law_kept.proofs.Quiet.{nothing_new}
use Rattle.law_kept.proofs.Shown.{ShownIn, held_as_shown, reads_alone}
use Rattle.law_kept.proofs.UsedNoMore.{puts_unused}
use Rattle.law_kept.proofs.Written.{commit_limits}
use Rattle.law_opened.proofs.Acts.{answered_each, sight_quiet}
use Rattle.law_opened.proofs.Base.{kept_base}
use Rattle.law_whole.proofs.Lists.{each_from}

-- ---- once the door is open

-- where a history opens the door
pub record Opening (history : List DoorEntry) : Type 0 where
  pub before : List DoorEntry
  pub entry : DoorEntry
  pub after : List DoorEntry
  pub parts : history ≡ (before ++ entry ∷ []) ++ after
  pub opened : entry.act ≡ Opened

opened_act : (act : DoorAct) → IsTrue (opens act) → act ≡ Opened
opened_act Opened is = refl
opened_act act is = absurd (false≢true is)

pub opening_of : (before history : List DoorEntry) → IsTrue (is_open history) → Opening (before ++ history)
opening_of before [] is = absurd (false≢true is)
opening_of before (entry ∷ history) is =
    let joined : before ++ entry ∷ history ≡ (before ++ entry ∷ []) ++ history = sym (append_assoc before (entry ∷ []) history) in
    elim (or_cases (opens entry.act) (is_open history) is) [
      | inl here ↦ record { before = before; entry = entry; after = history; parts = joined; opened = opened_act entry.act here }
      | inr later ↦ subst Opening (sym joined) (opening_of (before ++ entry ∷ []) history later)
    ]

pub opens_still : (before : List DoorEntry) (entry : DoorEntry) → entry.act ≡ Opened → IsTrue (is_open (before ++ entry ∷ []))
opens_still before entry is = any_from (λ (e : DoorEntry). opens e.act) entry (before ++ entry ∷ []) (in_back entry before (entry ∷ []) (inl refl)) (subst (λ act. IsTrue (opens act)) (sym is) refl)

pub kept_open : (uuid : List ℕ) → IsUuid uuid → (history : List DoorEntry) → IsTrue (is_open history) → Lawful history → Kept uuid history
kept_open uuid its history opened lawful =
    let at = opening_of [] history opened in
    let start : List DoorEntry = at.before ++ at.entry ∷ [] in
    let whole : Lawful (start ++ at.after) = subst Lawful at.parts lawful in
    let base : Kept uuid start = kept_base uuid its at.before at.entry (lawful_begins start at.after whole) at.opened in
    subst (Kept uuid) (sym at.parts) (always uuid its start at.after (opens_still at.before at.entry at.opened) whole base)

-- ---- a UUID has one commit

module _ (history : List DoorEntry) (lawful : Lawful history) where
  pub is_committed : (c : Commit) → In c (committed history) → Committed c history
  is_committed c among = any_from (same_commit c) c (committed history) among (same_commit_itself c)

  pub its_uuid : (c : Commit) → In c (committed history) → IsUuid c.id.uuid
  its_uuid c among = (committed_limits c history lawful.made (is_committed c among)).0.id.uuid

  -- while the door isn't open a commit was shown under its name
  record Shown (uuid : List ℕ) (c : Commit) : Type 0 where
    bytes : List ℕ
    shown : ShownIn (record_name uuid) history (Some bytes)
    among : In c (records_at uuid (Some bytes))

  shown_commit : IsFalse (is_open history) → (uuid : List ℕ) (c : Commit) → CommittedOf uuid history c → Shown uuid c
  shown_commit shut uuid c of =
      let entry = in_flat_map (λ (e : DoorEntry). committed_by e) c history of.0 in
      let still = sight_quiet entry.0.act (reads_alone [] history lawful.legal shut entry.0 entry.1) in
      let by_it = committed_by_it uuid entry.0 (answered_each [] history lawful.legal entry.0 entry.1) c entry.2 of.1 in
      elim by_it.leaves [
        | inl shows ↦ record { bytes = by_it.bytes; shown = record { entry = entry.0; among = entry.1; shows = shows }; among = by_it.among }
        | inr writes ↦ absurd (nothing_new [] history entry.0 still (record_name uuid) (Some by_it.bytes) (inl writes))
      ]

  same_one : (a b : List ℕ) → OneOf (Some a ∷ []) ≡ OneOf (Some b ∷ []) → a ≡ b
  same_one a b e = cc

  one_shut : IsFalse (is_open history) → (uuid : List ℕ) (c d : Commit) → CommittedOf uuid history c → CommittedOf uuid history d → c ≡ d
  one_shut shut uuid c d of_c of_d =
      let quiet = λ (e : DoorEntry) (among : In e history). sight_quiet e.act (reads_alone [] history lawful.legal shut e among) in
      let of = shown_commit shut uuid c of_c in
      let other = shown_commit shut uuid d of_d in
      let same : of.bytes ≡ other.bytes = same_one of.bytes other.bytes
      (sym (held_as_shown (record_name uuid) history lawful.honest quiet (Some of.bytes) of.shown) ∙ held_as_shown (record_name uuid) history lawful.honest quiet (Some other.bytes) other.shown) in
      one_record uuid (Some other.bytes) c d (subst (λ b. In c (records_at uuid (Some b))) same of.among) other.among

  pub one_each : (c d : Commit) → In c (committed history) → In d (committed history) → c.id.uuid ≡ d.id.uuid → c ≡ d
  one_each c d of_c of_d same = elim (cases_Bool (is_open history)) [
    | inl opened ↦ (kept_open c.id.uuid (its_uuid c of_c) history opened lawful).one c d (inl (of_c, refl)) (inl (of_d, sym same))
    | inr shut ↦ one_shut shut c.id.uuid c d (of_c, refl) (of_d, sym same)
  ]

  pub has_one : IsTrue (has_one_each (committed history))
  has_one =
      all_from (λ c. list_all (λ d. not (bytes_eq c.id.uuid d.id.uuid) || same_commit c d) (committed history)) (committed history)
      (λ c of_c. all_from (λ d. not (bytes_eq c.id.uuid d.id.uuid) || same_commit c d) (committed history) (λ d of_d. elim (cases_Bool (bytes_eq c.id.uuid d.id.uuid)) [
        | inl same ↦ or_right _ _ (subst (λ (e : Commit). IsTrue (same_commit c e)) (one_each c d of_c of_d (same_bytes c.id.uuid d.id.uuid same)) (same_commit_itself c))
        | inr other ↦ or_left _ _ (ap not other)
      ]))

  -- ---- a commit that isn't superseded is whole

  pub whole_behind : IsTrue (all_whole history)
  whole_behind = elim (cases_Bool (is_open history)) [
    | inl opened ↦ or_right _ _ (all_from (λ c. is_superseded c (committed history) || is_whole c history) (committed history) (λ c of_c. elim (cases_Bool (is_superseded c (committed history))) [
      | inl old ↦ or_left _ _ old
      | inr newest ↦ or_right _ _ (whole_commit c history (kept_open c.id.uuid (its_uuid c of_c) history opened lawful) (is_committed c of_c) newest)
    ]))
    | inr shut ↦ or_left _ _ (ap not shut)
  ]

-- ---- a used UUID is put no more

put_opens_nothing : (act : DoorAct) → IsTrue (is_put act) → IsFalse (opens act)
put_opens_nothing Opened put = absurd (false≢true put)
put_opens_nothing act put = refl

no_sight : (act : DoorAct) → IsTrue (is_put act) → IsTrue (is_sight act) → ⊥
no_sight (Call node inc (Put name bytes) answer) put sight = false≢true sight
no_sight act put sight = false≢true put

-- a put comes at the open door
pub puts_at_open : (before : List DoorEntry) (entry : DoorEntry) → Legal (before ++ entry ∷ []) → IsTrue (is_put entry.act) → IsTrue (is_open before)
puts_at_open before entry legal put = elim (cases_Bool (is_open before)) [
  | inl opened ↦ opened
  | inr shut ↦ absurd (no_sight entry.act put (reads_alone [] (before ++ entry ∷ []) legal (none_snoc (λ (e : DoorEntry). opens e.act) before entry shut (put_opens_nothing entry.act put)) entry (in_back entry before (entry ∷ []) (inl refl))))
]

-- a UUID is used where a commit of it is committed, or a marker of it was shown
used_by : (uuid : List ℕ) (history : List DoorEntry) → Uncommitted uuid history → ((m : Marker) → ProvenOf uuid history m → ⊥) → IsFalse (is_used uuid history)
used_by uuid history uncommitted unmarked = false_from_ne_true (is_used uuid history) (λ used.
    elim (or_cases (list_any (has_uuid uuid) (committed history)) _ used) [
      | inl commits ↦ (let c = any_found (has_uuid uuid) (committed history) commits in uncommitted c.0 (c.1, sym (same_bytes uuid c.0.id.uuid c.2)))
      | inr marks ↦ (
          let entry = any_found (λ (e : DoorEntry). list_any (λ pair. list_any (λ marker. bytes_eq uuid (id_of_marker marker).uuid) (markers_in pair)) (shown_pairs e)) history marks in
          let pair = any_found (λ (p : Pair). list_any (λ marker. bytes_eq uuid (id_of_marker marker).uuid) (markers_in p)) (shown_pairs entry.0) entry.2 in
          let marker = any_found (λ (m : Marker). bytes_eq uuid (id_of_marker m).uuid) (markers_in pair.0) pair.2 in
          unmarked marker.0 (
            flat_map_in (λ (e : DoorEntry). markers_by e) marker.0 entry.0 history entry.1
                (flat_map_in markers_in marker.0 pair.0 (proven_pairs entry.0) (in_back pair.0 (stored_pairs entry.0) (shown_pairs entry.0) pair.1) marker.1),
            sym (same_bytes uuid (id_of_marker marker.0).uuid marker.2),
          ))
    ])

module _ (before : List DoorEntry) (entry : DoorEntry) (lawful : Lawful (before ++ entry ∷ [])) where
  abbrev is_unused : Commit → Bool
  is_unused c = not (is_used c.id.uuid before)

  comes_open : IsTrue (is_open before) → Comes before entry
  comes_open opened = record { opened = opened; legal = lawful.legal; honest = lawful.honest; made = lawful.made; stages = lawful.stages; retires = lawful.retires }

  put_unused : (node inc : ℕ) (name bytes : List ℕ) (answer : KeeperAnswer) → entry.act ≡ Call node inc (Put name bytes) answer → IsFalse (eqb node 0) → (c : Commit) → In c (records_in (under name bytes)) → IsTrue (is_unused c)
  put_unused node inc name bytes answer is at_node c among =
      let opened : IsTrue (is_open before) = puts_at_open before entry lawful.legal (subst (λ act. IsTrue (is_put act)) (sym is) refl) in
      let comes = comes_open opened in
      let act_made : IsTrue (acts_bytes entry.act) = all_at (λ (e : DoorEntry). acts_bytes e.act) entry (before ++ entry ∷ []) (in_back entry before (entry ∷ []) (inl refl)) lawful.made in
      let made = (and_parts (are_bytes name) (are_bytes bytes) (and_parts (are_bytes name && are_bytes bytes) _ (subst (λ act. IsTrue (acts_bytes act)) is act_made)).0).1 in
      let its : IsUuid c.id.uuid = (commit_limits (under name bytes) c made among).0.id.uuid in
      let kept = kept_open c.id.uuid its before opened (lawful_begins before (entry ∷ []) lawful) in
      let unused = puts_unused before entry comes node inc name bytes answer is at_node c among kept in
      ap not (used_by c.id.uuid before unused.0 unused.1)

  pub puts_no_used : IsTrue (list_all is_unused (record_put_by entry.act))
  puts_no_used = go entry.act refl
    where
      go : (act : DoorAct) → entry.act ≡ act → IsTrue (list_all is_unused (record_put_by act))
      go (Call node inc (Put name bytes) answer) is = by_node (eqb node 0) refl
        where
          by_node : (t : Bool) → eqb node 0 ≡ t → IsTrue (list_all is_unused (if t then [] else records_in (under name bytes)))
          by_node true office = refl
          by_node false at_node = all_from is_unused (records_in (under name bytes)) (put_unused node inc name bytes answer is at_node)
      go act is = refl

-- ---- at each place

module _ (history : List DoorEntry) (lawful : Lawful history) where
  pub lawful_to : (before : List DoorEntry) (entry : DoorEntry) (after : List DoorEntry) → history ≡ before ++ entry ∷ after → Lawful (before ++ entry ∷ [])
  lawful_to before entry after is = lawful_begins (before ++ entry ∷ []) after (subst Lawful (is ∙ sym (append_assoc before (entry ∷ []) after)) lawful)

  pub each_whole : IsTrue (each_after (λ before entry. all_whole (before ++ entry ∷ [])) [] history)
  each_whole = each_from (λ before entry. all_whole (before ++ entry ∷ [])) [] history (λ before entry after is. whole_behind (before ++ entry ∷ []) (lawful_to before entry after is))

  pub each_unused : IsTrue (each_after (λ before entry. list_all (λ c. not (is_used c.id.uuid before)) (record_put_by entry.act)) [] history)
  each_unused = each_from (λ before entry. list_all (λ c. not (is_used c.id.uuid before)) (record_put_by entry.act)) [] history (λ before entry after is. puts_no_used before entry (lawful_to before entry after is))
