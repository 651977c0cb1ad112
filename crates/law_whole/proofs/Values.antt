-- The values of versions, over whole histories of the door: what the opening was shown, and what stays so.
use Rattle.std.proofs.Common.{◌≡◌, ℕ, List, [], ◌∷◌, ◌++◌, refl, sym, ap, subst, ◌∙◌, inl, inr, append_assoc, append-nil}
use Rattle.std.specs.Prelude.{IsTrue, IsFalse, Option, Some, None, if◌then◌else◌}
use Rattle.std.specs.List.{flat_map}
use Rattle.std.proofs.lemmas.Bool.{and_parts, false_from_ne_true, or_parts}
use Rattle.std.proofs.lemmas.List.Concat.{flat_map-append}
use Rattle.std.proofs.lemmas.List.Folds.{list_any-append}
use Rattle.aft_id.specs.declared.txn_id.TxnId.{TxnId}
use Rattle.aft_id.specs.TxnId.{IsUuid}
use Rattle.aft_keeper.specs.declared.keeper.Pair.{Pair}
use Rattle.aft_records.specs.declared.stored.Commit.{Commit}
use Rattle.aft_records.specs.declared.stored.Marker.TheVariants.{Full}
use Rattle.aft_records.specs.declared.stored.Version.{Version}
use Rattle.aft_records.specs.Commits.{has_uuid}
use Rattle.aft_records.specs.Reading.{version_of}
use Rattle.aft_model.specs.declared.door.DoorAct.TheVariants.{Opened}
use Rattle.aft_model.specs.declared.door.DoorEntry.{DoorEntry}
use Rattle.aft_model.specs.Committed.{Committed, committed, committed_by, marked, proven_pairs}
use Rattle.aft_model.specs.DoorKnowledge.{is_open, knows_marked, opens}
use Rattle.aft_model.specs.Evidence.{shown_pairs, stored_pairs}
use Rattle.aft_model.specs.History.{each_after}
use Rattle.aft_model.specs.Honest.{Honest}
use Rattle.aft_model.specs.LegalDoor.{is_answered, may_come, may_follow}
use Rattle.aft_model.specs.NodeSights.{own_entries}
use Rattle.aft_model.specs.Opening.{may_open, may_read, opening}
use Rattle.aft_model.specs.Readings.{record_name, version_name, versions_in}
use Rattle.aft_model.specs.ScanRun.{same_line}
use Rattle.aft_model.proofs.Growth.{any_grows}
use Rattle.aft_model.proofs.Histories.{In, any_found, each_after_snoc, in_append, in_back, in_flat_map, in_front}
use Rattle.aft_model.proofs.Lists.{filter_in, in_filter}
use Rattle.aft_model.proofs.Sights.{read-one, same_bytes}
use Rattle.aft_lines.specs.Headline.{shown_values, stored_values, value_of, values_in}
use Rattle.law_effects.specs.Effects.{Shows, effect_of}
use Rattle.law_effects.proofs.Pairs.{pair_proves}
use Rattle.law_kept.specs.Kept.{Comes, Kept, Lawful}
use Rattle.law_kept.specs.Outcomes.{Appears, CommittedOf, MayBe, MayRecord, Stored, outcomes}
use Rattle.law_kept.specs.Tried.{Tried}
use Rattle.law_kept.proofs.Always.{kept_behind_each, lawful_begins}
use Rattle.law_kept.proofs.Fates.{record_of_uuid, shown_before, under}
use Rattle.law_kept.proofs.Gives.{committed_among}
use Rattle.law_kept.proofs.Gone.{flat_map_in, full_proven}
use Rattle.law_kept.proofs.Quiet.{nothing_new}
use Rattle.law_kept.proofs.Shown.{ShownIn}
use Rattle.law_opened.proofs.Acts.{answered_each, proven_effect}
use Rattle.law_opened.proofs.Base.{kept_base, there, unclaimed}
use Rattle.law_opened.proofs.Opened.{at_opening, held_only, pair_of_shown, quiet, was_shown}
use Rattle.law_whole.specs.Values.{VersionIs}
use Rattle.law_whole.proofs.There.{may_record, same_version}
use Rattle.law_whole.proofs.Throughout.{its_uuid, kept_open, opening_of, opens_still}
use Rattle.law_whole.proofs.Told.{Told, last-of, named_so, value_from, value_in}
use Rattle.law_whole.proofs.Valued.{Valued, stays_same, valued_next}

-- ---- till the door is open each entry is of the opening

by_opening : (before entries : List DoorEntry) → IsTrue (each_after may_follow before entries) → IsFalse (is_open (before ++ entries)) → (e : DoorEntry) → In e entries → IsTrue (same_line opening e.by)
by_opening before [] legal shut e among = absurd among
by_opening before (entry ∷ entries) legal shut e among =
    let parts = and_parts (may_follow before entry) (each_after may_follow (before ++ entry ∷ []) entries) legal in
    let split = or_parts (is_open before) (is_open (entry ∷ entries)) (sym (list_any-append (λ (x : DoorEntry). opens x.act) before (entry ∷ entries)) ∙ shut) in
    let rule = subst (λ t. IsTrue (if t then may_come before entry.act else may_open before entry)) split.0 (and_parts _ _ parts.0).1 in
    elim among [
      | inl here ↦ subst (λ (x : DoorEntry). IsTrue (same_line opening x.by)) (sym here) (and_parts (same_line opening entry.by) (may_read before entry.act) rule).0
      | inr later ↦ by_opening (before ++ entry ∷ []) entries parts.1 (ap is_open (append_assoc before (entry ∷ []) entries) ∙ shut) e later
    ]

-- ---- where the door has just been opened

module _ (history : List DoorEntry) (entry : DoorEntry) (lawful : Lawful (history ++ entry ∷ [])) (opened : entry.act ≡ Opened) where
  abbrev first : List DoorEntry
  first = history ++ entry ∷ []

  module _ (key : List ℕ) (id : TxnId) (bytes : List ℕ) (v : Version) (may : MayBe (version_name key id) first (Some bytes)) (reads : In v (versions_in (under (version_name key id) bytes))) (of_key : key ≡ v.key) (of_id : id ≡ v.id) where
    abbrev its_name : List ℕ
    its_name = version_name key id

    its_shown : ShownIn its_name first (Some bytes)
    its_shown = was_shown history entry lawful opened its_name (Some bytes) may

    some_is : (a b : List ℕ) → Some a ≡ Some b → a ≡ b
    some_is a b e = cc

    -- a value that an entry proves is that of what was shown
    same_value : (e : DoorEntry) → In e first → IsTrue (is_answered e.act) → (pair : Pair) → In pair (proven_pairs e) → (x : List ℕ) → In x (values_in key id pair) → x ≡ v.value
    same_value e among answered pair its_pair x in_it =
        let of = value_from key id pair x in_it in
        let name : pair.name ≡ its_name = named_so key id pair x of in
        let leaves = proven_effect (effect_of pair.name e.act) pair.bytes (pair_proves e.act answered pair its_pair) in
        let shown : ShownIn its_name first (Some pair.bytes) = elim leaves [
          | inl shows ↦ record { entry = e; among = among; shows = subst (λ n. effect_of n e.act ≡ Shows (Some pair.bytes)) name shows }
          | inr writes ↦ absurd (nothing_new [] first e (quiet history entry lawful opened e among) pair.name (Some pair.bytes) (inl writes))
        ] in
        let same : bytes ≡ pair.bytes = some_is bytes pair.bytes (held_only history entry lawful opened its_name (Some pair.bytes) (Some bytes) shown may) in
        let its_read : In of.version (versions_in (under its_name bytes)) =
        subst (λ b. In of.version (versions_in (under its_name b))) (sym same) (subst (λ n. In of.version (versions_in (under n pair.bytes))) name of.among) in
        of.is ∙ ap (λ (w : Version). w.value) (read-one its_name (λ (w : Version). version_name w.key w.id) (version_of bytes) of.version v its_read reads)

    answered : (e : DoorEntry) → In e first → IsTrue (is_answered e.act)
    answered e among = answered_each [] first lawful.legal e among

    each_value : (x : List ℕ) → In x (shown_values key id (own_entries opening first) ++ stored_values key id first) → x ≡ v.value
    each_value x among = elim (in_append x (shown_values key id (own_entries opening first)) (stored_values key id first) among) [
      | inl shown ↦ (let e = in_flat_map (λ (y : DoorEntry). flat_map (values_in key id) (shown_pairs y)) x (own_entries opening first) shown in
          let pair = in_flat_map (values_in key id) x (shown_pairs e.0) e.2 in
          let within = (in_filter (λ (y : DoorEntry). same_line opening y.by) e.0 first e.1).0 in
          same_value e.0 within (answered e.0 within) pair.0 (in_back pair.0 (stored_pairs e.0) (shown_pairs e.0) pair.1) x pair.2)
      | inr stored ↦ (let e = in_flat_map (λ (y : DoorEntry). flat_map (values_in key id) (stored_pairs y)) x first stored in
          let pair = in_flat_map (values_in key id) x (stored_pairs e.0) e.2 in
          same_value e.0 e.1 (answered e.0 e.1) pair.0 (in_front pair.0 (stored_pairs e.0) (shown_pairs e.0) pair.1) x pair.2)
    ]

    some_value : In v.value (shown_values key id (own_entries opening first) ++ stored_values key id first)
    some_value =
        let pair : Pair = under its_name bytes in
        let e = in_flat_map (λ (y : DoorEntry). shown_pairs y) pair history (pair_of_shown history entry lawful opened its_name bytes its_shown) in
        let own : In e.0 (own_entries opening first) =
        filter_in (λ (y : DoorEntry). same_line opening y.by) e.0 first (in_front e.0 history (entry ∷ []) e.1)
        (by_opening [] history (each_after_snoc may_follow [] history entry lawful.legal).0 (at_opening history entry lawful opened).shut e.0 e.1) in
        in_front v.value (shown_values key id (own_entries opening first)) (stored_values key id first)
        (flat_map_in (λ (y : DoorEntry). flat_map (values_in key id) (shown_pairs y)) v.value e.0 (own_entries opening first) own
        (flat_map_in (values_in key id) v.value pair (shown_pairs e.0) e.2 (value_in key id pair v reads of_key of_id)))

    told_first : Told key id first
    told_first = record {
      known = (Some bytes, may);
      value = v.value;
      is = last-of None v.value v.value (shown_values key id (own_entries opening first) ++ stored_values key id first) some_value each_value;
      each = λ b there_it w in_it. (
          let same : b ≡ bytes = some_is b bytes (held_only history entry lawful opened its_name (Some bytes) (Some b) its_shown there_it) in
          ap (λ (x : Version). x.value) (read-one its_name (λ (x : Version). version_name x.key x.id) (version_of bytes) w v (subst (λ t. In w (versions_in (under its_name t))) same in_it) reads));
    }

  module _ (uuid : List ℕ) (its : IsUuid uuid) where
    kept_first : Kept uuid first
    kept_first = kept_base uuid its history entry lawful opened

    -- at first each commit that appears is there
    is_there : (c : Commit) → Appears uuid first c → MayRecord uuid first c
    is_there c (inr may) = may
    is_there c (inl of) =
        subst (λ u. MayRecord u first c) of.1
        (may_record c first (subst (λ u. Kept u first) (sym of.1) kept_first) (of.0, refl) (subst (λ u. MayBe (record_name u) first None → ⊥) (sym of.1) (there uuid its history entry lawful opened c of)))

    its_is : (c : Commit) → Appears uuid first c → c.id.uuid ≡ uuid
    its_is c (inl of) = of.1
    its_is c (inr may) = record_of_uuid uuid may.outcome c may.among

    each_first : (c : Commit) → Appears uuid first c → (key : List ℕ) → In key c.keys → Told key c.id first
    each_first c appears key among =
        let of : c.id.uuid ≡ uuid = its_is c appears in
        let kept : Kept c.id.uuid first = subst (λ u. Kept u first) (sym of) kept_first in
        let may : MayRecord c.id.uuid first c = subst (λ u. MayRecord u first c) (sym of) (is_there c appears) in
        let stored : Stored c.id.uuid (version_name key c.id) first = kept.whole c may key among in
        let same = same_version c first kept may key among in
        told_first key c.id stored.bytes stored.version (subst (λ m. In (Some stored.bytes) (outcomes m)) (sym stored.only) (inl refl)) stored.reads same.0 same.1

    pub valued_first : Valued uuid first
    valued_first = record { clear = λ who held up names clear name among. absurd (unclaimed uuid its history entry lawful opened who held); each = each_first }

-- ---- behind all entries

pub comes_next : (history more : List DoorEntry) (entry : DoorEntry) → IsTrue (is_open history) → Lawful ((history ++ entry ∷ []) ++ more) → Comes history entry
comes_next history more entry opened whole =
    let now = lawful_begins (history ++ entry ∷ []) more whole in
    record { opened = opened; legal = now.legal; honest = now.honest; made = now.made; stages = now.stages; retires = now.retires }

module _ (uuid : List ℕ) (its : IsUuid uuid) where
  valued_from : (history more : List DoorEntry) → IsTrue (is_open history) → Lawful (history ++ more) → Kept uuid history → Valued uuid history → Valued uuid (history ++ more)
  valued_from history [] opened whole kept valued = subst (Valued uuid) (sym (append-nil history)) valued
  valued_from history (entry ∷ more) opened whole kept valued =
      let joined : history ++ entry ∷ more ≡ (history ++ entry ∷ []) ++ more = sym (append_assoc history (entry ∷ []) more) in
      let rest : Lawful ((history ++ entry ∷ []) ++ more) = subst Lawful joined whole in
      let comes : Comes history entry = comes_next history more entry opened rest in
      subst (Valued uuid) (sym joined)
      (valued_from (history ++ entry ∷ []) more (any_grows (λ (e : DoorEntry). opens e.act) history (entry ∷ []) opened) rest (kept_behind_each uuid its history entry comes kept) (valued_next uuid its history entry comes kept valued))

  pub valued_open : (history : List DoorEntry) → IsTrue (is_open history) → Lawful history → Valued uuid history
  valued_open history opened lawful =
      let at = opening_of [] history opened in
      let start : List DoorEntry = at.before ++ at.entry ∷ [] in
      let whole : Lawful (start ++ at.after) = subst Lawful at.parts lawful in
      let first_lawful : Lawful start = lawful_begins start at.after whole in
      subst (Valued uuid) (sym at.parts)
      (valued_from start at.after (opens_still at.before at.entry at.opened) whole (kept_base uuid its at.before at.entry first_lawful at.opened) (valued_first at.before at.entry first_lawful at.opened uuid its))

  -- the value of a version of a commit that appears stays
  module _ (c : Commit) (key : List ℕ) (among : In key c.keys) where
    pub value_stays : (history more : List DoorEntry) → IsTrue (is_open history) → Lawful (history ++ more) → CommittedOf uuid history c → value_of key c.id (history ++ more) ≡ value_of key c.id history
    value_stays history [] opened whole of = ap (value_of key c.id) (append-nil history)
    value_stays history (entry ∷ more) opened whole of =
        let joined : history ++ entry ∷ more ≡ (history ++ entry ∷ []) ++ more = sym (append_assoc history (entry ∷ []) more) in
        let rest : Lawful ((history ++ entry ∷ []) ++ more) = subst Lawful joined whole in
        let comes : Comes history entry = comes_next history more entry opened rest in
        let lawful : Lawful history = lawful_begins history (entry ∷ more) whole in
        ap (value_of key c.id) joined
        ∙ (value_stays (history ++ entry ∷ []) more (any_grows (λ (e : DoorEntry). opens e.act) history (entry ∷ []) opened) rest (committed_more history entry of)
        ∙ stays_same uuid its history entry comes (kept_open uuid its history opened lawful) (valued_open history opened lawful) c (inl of) key among)
      where
        committed_more : (h : List DoorEntry) (e : DoorEntry) → CommittedOf uuid h c → CommittedOf uuid (h ++ e ∷ []) c
        committed_more h e was = (subst (In c) (sym (flat_map-append (λ (d : DoorEntry). committed_by d) h (e ∷ []))) (in_front c (committed h) (committed (e ∷ [])) was.0), was.1)

-- ---- a commit that isn't marked

module _ (c : Commit) (history : List DoorEntry) (lawful : Lawful history) (opened : IsTrue (is_open history)) (is : Committed c history) where
  in_it : In c (committed history)
  in_it = committed_among c history is

  its_id : IsUuid c.id.uuid
  its_id = its_uuid history lawful c in_it

  kept : Kept c.id.uuid history
  kept = kept_open c.id.uuid its_id history opened lawful

  -- where its full marker was never tried, its UUID isn't marked
  pub untried_unmarked : (Tried history (Full c) → ⊥) → IsFalse (knows_marked c.id.uuid history)
  untried_unmarked untried = false_from_ne_true (knows_marked c.id.uuid history) (λ marks.
      let found = any_found (has_uuid c.id.uuid) (marked history) marks in
      let of : found.0.id.uuid ≡ c.id.uuid = sym (same_bytes c.id.uuid found.0.id.uuid found.2) in
      let tried = kept.marked_tried (Full found.0) (inr (full_proven found.0 history found.1, of)) in
      elim (kept.full found.0 tried of).1 [
        | inl committed_it ↦ untried (subst (λ (d : Commit). Tried history (Full d)) (kept.one found.0 c (inl (committed_it, of)) (inl (in_it, refl))) tried)
        | inr retired ↦ retired.uncommitted c (in_it, refl)
      ])

  pub version_is : IsFalse (knows_marked c.id.uuid history) → (key : List ℕ) → In key c.keys → (value : List ℕ) × VersionIs key c.id value history
  version_is unmarked key among =
      let may = may_record c history kept (in_it, refl) (kept.there c (in_it, refl) unmarked) in
      let stored = kept.whole c may key among in
      let same = same_version c history kept may key among in
      let told = (valued_open c.id.uuid its_id history opened lawful).each c (inl (in_it, refl)) key among in
      let there_it : MayBe (version_name key c.id) history (Some stored.bytes) = subst (λ m. In (Some stored.bytes) (outcomes m)) (sym stored.only) (inl refl) in (
        told.value,
        record {
          bytes = stored.bytes;
          version = stored.version;
          only = stored.only;
          reads = stored.reads;
          its_key = sym same.0;
          its_id = sym same.1;
          its_value = told.each stored.bytes there_it stored.version stored.reads;
          told = told.is;
        },
      )

  -- what is shown of its name is that version
  module _ (entry : DoorEntry) (honest : Honest (history ++ entry ∷ [])) (outcome : Option (List ℕ)) where
    pub shows_version : IsFalse (knows_marked c.id.uuid history) → (key : List ℕ) → In key c.keys → effect_of (version_name key c.id) entry.act ≡ Shows outcome → (value : List ℕ) × (is : VersionIs key c.id value history) × (outcome ≡ Some is.bytes)
    shows_version unmarked key among shows =
        let held = version_is unmarked key among in
        let there_it : MayBe (version_name key c.id) history (Some held.1.bytes) = subst (λ m. In (Some held.1.bytes) (outcomes m)) (sym held.1.only) (inl refl) in
        let before : MayBe (version_name key c.id) history outcome = shown_before history entry (version_name key c.id) honest (Some held.1.bytes, there_it) outcome shows in
        (held.0, held.1, elim (subst (λ m. In outcome (outcomes m)) held.1.only before) [ inl same ↦ same | inr nowhere ↦ absurd nowhere ])
