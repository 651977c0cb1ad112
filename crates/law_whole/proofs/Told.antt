-- The value of a version, with one entry more: that of the last acknowledged put, or else of the last that the opening was shown.
use Rattle.std.proofs.Common.{◌≡◌, ℕ, Bool, true, false, ◌&&◌, List, [], ◌∷◌, ◌++◌, refl, sym, ap, subst, ◌∙◌, inl, inr}
use Rattle.std.specs.Prelude.{IsTrue, Option, Some, None, filter, if◌then◌else◌}
use Rattle.std.specs.List.{flat_map, last_or}
use Rattle.std.specs.Str.{bytes_eq}
use Rattle.std.proofs.lemmas.Bool.{and_from, and_parts}
use Rattle.std.proofs.lemmas.List.Concat.{flat_map-append}
use Rattle.std.proofs.lemmas.List.Elements.{filter-append}
use Rattle.aft_id.specs.declared.txn_id.TxnId.{TxnId}
use Rattle.aft_id.specs.TxnId.{same_id}
use Rattle.aft_keeper.specs.declared.keeper.Pair.{Pair}
use Rattle.aft_records.specs.declared.stored.Version.{Version}
use Rattle.aft_records.specs.Reading.{version_of}
use Rattle.aft_model.specs.declared.door.DoorEntry.{DoorEntry}
use Rattle.aft_model.specs.Committed.{proven_pairs}
use Rattle.aft_model.specs.Evidence.{shown_pairs, stored_pairs}
use Rattle.aft_model.specs.Honest.{Honest}
use Rattle.aft_model.specs.LegalDoor.{is_answered}
use Rattle.aft_model.specs.MayHold.{OneOf, may_hold}
use Rattle.aft_model.specs.NodeSights.{own_entries}
use Rattle.aft_model.specs.Opening.{opening}
use Rattle.aft_model.specs.Readings.{version_name, versions_in}
use Rattle.aft_model.specs.ScanRun.{same_line}
use Rattle.aft_model.proofs.Histories.{In, in_back, in_flat_map, in_front}
use Rattle.aft_model.proofs.Ids.{same_id-refl, same_ids}
use Rattle.aft_model.proofs.Lists.{filter_in, in_filter, in_map, map_in}
use Rattle.aft_model.proofs.Sights.{bytes_eq-refl, read-name, read-one, same_bytes}
use Rattle.aft_lines.specs.Headline.{shown_values, stored_values, value_of, values_in}
use Rattle.law_effects.specs.Effects.{Shows, Writes, effect_of}
use Rattle.law_effects.proofs.Pairs.{pair_proves}
use Rattle.law_kept.specs.Outcomes.{MayBe, outcomes}
use Rattle.law_kept.proofs.Fates.{Known, NewAt, fate, known_after, leaves_one, shown_before, under}
use Rattle.law_kept.proofs.Gone.{flat_map_in}
use Rattle.law_opened.proofs.Acts.{proven_effect}

-- ---- the last of a list

pub last-append : {A : Type 0} (o : Option A) (xs ys : List A) → last_or o (xs ++ ys) ≡ last_or (last_or o xs) ys
last-append o [] ys = refl
last-append o (x ∷ xs) ys = last-append (Some x) xs ys

pub last-same : {A : Type 0} (a : A) (xs : List A) → ((x : A) → In x xs → x ≡ a) → last_or (Some a) xs ≡ Some a
last-same a [] each = refl
last-same {A} a (x ∷ xs) each = subst (λ (b : A). last_or (Some b) xs ≡ Some a) (sym (each x (inl refl))) (last-same a xs (λ y among. each y (inr among)))

-- where some are there, and all are the same, the last is that one
pub last-of : {A : Type 0} (o : Option A) (a x : A) (xs : List A) → In x xs → ((y : A) → In y xs → y ≡ a) → last_or o xs ≡ Some a
last-of o a x [] among each = absurd among
last-of {A} o a x (y ∷ ys) among each = subst (λ (b : A). last_or (Some b) ys ≡ Some a) (sym (each y (inl refl))) (last-same a ys (λ z later. each z (inr later)))

-- what comes in between is the same, or is passed over
between : {A : Type 0} (o : Option A) (new later : List A) (a : A) → last_or o later ≡ Some a → ((x : A) → In x new → x ≡ a) → last_or (last_or o new) later ≡ Some a
between {A} o new [] a is each = subst (λ (p : Option A). last_or p new ≡ Some a) (sym is) (last-same a new each)
between o new (x ∷ later) a is each = is

-- ---- the values of a version

module _ (key : List ℕ) (id : TxnId) where
  abbrev its_name : List ℕ
  its_name = version_name key id

  -- a value of a pair is that of a version which the pair is
  pub record ValueOf (pair : Pair) (x : List ℕ) : Type 0 where
    pub version : Version
    pub among : In version (versions_in pair)
    pub its_key : key ≡ version.key
    pub its_id : id ≡ version.id
    pub is : x ≡ version.value

  pub value_from : (pair : Pair) (x : List ℕ) → In x (values_in key id pair) → ValueOf pair x
  value_from pair x among =
      let v = in_map (λ (v : Version). v.value) x (filter (λ (v : Version). bytes_eq key v.key && same_id id v.id) (versions_in pair)) among in
      let found = in_filter (λ (v : Version). bytes_eq key v.key && same_id id v.id) v.0 (versions_in pair) v.1 in
      let same = and_parts (bytes_eq key v.0.key) (same_id id v.0.id) found.1 in
      record { version = v.0; among = found.0; its_key = same_bytes key v.0.key same.0; its_id = same_ids id v.0.id same.1; is = v.2 }

  pub value_in : (pair : Pair) (v : Version) → In v (versions_in pair) → key ≡ v.key → id ≡ v.id → In v.value (values_in key id pair)
  value_in pair v among of_key of_id =
      map_in (λ (w : Version). w.value) v (filter (λ (w : Version). bytes_eq key w.key && same_id id w.id) (versions_in pair))
      (filter_in (λ (w : Version). bytes_eq key w.key && same_id id w.id) v (versions_in pair) among
      (and_from _ _ (subst (λ k. IsTrue (bytes_eq key k)) of_key (bytes_eq-refl key)) (subst (λ i. IsTrue (same_id id i)) of_id (same_id-refl id))))

  -- such a pair stands under the version's name
  pub named_so : (pair : Pair) (x : List ℕ) → ValueOf pair x → pair.name ≡ its_name
  named_so pair x of =
      read-name pair.name (λ (w : Version). version_name w.key w.id) (version_of pair.bytes) of.version of.among
      ∙ (ap (λ (k : List ℕ). version_name k of.version.id) (sym of.its_key) ∙ ap (λ (i : TxnId). version_name key i) (sym of.its_id))

  -- the values that an entry shows for the opening, and those that it stored
  abbrev shown_new : DoorEntry → List (List ℕ)
  shown_new entry = shown_values key id (own_entries opening (entry ∷ []))

  abbrev stored_new : DoorEntry → List (List ℕ)
  stored_new entry = stored_values key id (entry ∷ [])

  value_snoc : (history : List DoorEntry) (entry : DoorEntry)
      → value_of key id (history ++ entry ∷ [])
      ≡ last_or (last_or (last_or (last_or None (shown_values key id (own_entries opening history))) (shown_new entry)) (stored_values key id history)) (stored_new entry)
  value_snoc history entry =
      let shown : shown_values key id (own_entries opening (history ++ entry ∷ [])) ≡ shown_values key id (own_entries opening history) ++ shown_new entry =
      ap (shown_values key id) (filter-append (λ (e : DoorEntry). same_line opening e.by) history (entry ∷ []))
      ∙ flat_map-append (λ (e : DoorEntry). flat_map (values_in key id) (shown_pairs e)) (own_entries opening history) (own_entries opening (entry ∷ [])) in
      let stored : stored_values key id (history ++ entry ∷ []) ≡ stored_values key id history ++ stored_new entry =
      flat_map-append (λ (e : DoorEntry). flat_map (values_in key id) (stored_pairs e)) history (entry ∷ []) in
      ap (λ (xs : List (List ℕ)). last_or None (xs ++ stored_values key id (history ++ entry ∷ []))) shown
      ∙ (ap (λ (ys : List (List ℕ)). last_or None ((shown_values key id (own_entries opening history) ++ shown_new entry) ++ ys)) stored
      ∙ (last-append None (shown_values key id (own_entries opening history) ++ shown_new entry) (stored_values key id history ++ stored_new entry)
      ∙ (last-append (last_or None (shown_values key id (own_entries opening history) ++ shown_new entry)) (stored_values key id history) (stored_new entry)
      ∙ ap (λ (o : Option (List ℕ)). last_or (last_or o (stored_values key id history)) (stored_new entry)) (last-append None (shown_values key id (own_entries opening history)) (shown_new entry)))))

  -- a new value is of a pair that the entry proves
  record ProvenPair (entry : DoorEntry) (x : List ℕ) : Type 0 where
    pair : Pair
    among : In pair (proven_pairs entry)
    of : ValueOf pair x

  only_if : (t : Bool) (entry e : DoorEntry) → In e (if t then entry ∷ [] else []) → e ≡ entry
  only_if true entry e (inl is) = is
  only_if true entry e (inr nowhere) = absurd nowhere
  only_if false entry e among = absurd among

  from_shown : (entry : DoorEntry) (x : List ℕ) → In x (shown_new entry) → ProvenPair entry x
  from_shown entry x among =
      let e = in_flat_map (λ (y : DoorEntry). flat_map (values_in key id) (shown_pairs y)) x (own_entries opening (entry ∷ [])) among in
      let pair = in_flat_map (values_in key id) x (shown_pairs e.0) e.2 in
      let here : e.0 ≡ entry = only_if (same_line opening entry.by) entry e.0 e.1 in
      record { pair = pair.0; among = in_back pair.0 (stored_pairs entry) (shown_pairs entry) (subst (λ (y : DoorEntry). In pair.0 (shown_pairs y)) here pair.1); of = value_from pair.0 x pair.2 }

  from_stored : (entry : DoorEntry) (x : List ℕ) → In x (stored_new entry) → ProvenPair entry x
  from_stored entry x among =
      let e = in_flat_map (λ (y : DoorEntry). flat_map (values_in key id) (stored_pairs y)) x (entry ∷ []) among in
      let pair = in_flat_map (values_in key id) x (stored_pairs e.0) e.2 in
      let here : e.0 ≡ entry = only_if true entry e.0 e.1 in
      record { pair = pair.0; among = in_front pair.0 (stored_pairs entry) (shown_pairs entry) (subst (λ (y : DoorEntry). In pair.0 (stored_pairs y)) here pair.1); of = value_from pair.0 x pair.2 }

  -- ---- what is told of a version

  -- something is known of its name, it has a value by the history, and each text that its name may hold has that
  pub record Told (history : List DoorEntry) : Type 0 where
    pub known : Known its_name history
    pub value : List ℕ
    pub is : value_of key id history ≡ Some value
    pub each : (bytes : List ℕ) → MayBe its_name history (Some bytes) → (v : Version) → In v (versions_in (under its_name bytes)) → v.value ≡ value

  module _ (history : List DoorEntry) (entry : DoorEntry) (honest : Honest (history ++ entry ∷ [])) (answered : IsTrue (is_answered entry.act)) where
    abbrev longer : List DoorEntry
    longer = history ++ entry ∷ []

    -- it stays told, with its value, where the entry puts nothing under its name
    module _ (told : Told history) (unput : (bytes : List ℕ) → NewAt its_name entry.act (Some bytes) → ⊥) where
      same_value : (x : List ℕ) → ProvenPair entry x → x ≡ told.value
      same_value x proven =
          let name : proven.pair.name ≡ its_name = named_so proven.pair x proven.of in
          let leaves = proven_effect (effect_of proven.pair.name entry.act) proven.pair.bytes (pair_proves entry.act answered proven.pair proven.among) in
          let reads : In proven.of.version (versions_in (under its_name proven.pair.bytes)) = subst (λ n. In proven.of.version (versions_in (under n proven.pair.bytes))) name proven.of.among in
          elim leaves [
            | inl shows ↦ proven.of.is ∙ told.each proven.pair.bytes (shown_before history entry its_name honest told.known (Some proven.pair.bytes) (subst (λ n. effect_of n entry.act ≡ Shows (Some proven.pair.bytes)) name shows)) proven.of.version reads
            | inr writes ↦ absurd (unput proven.pair.bytes (inl (subst (λ n. effect_of n entry.act ≡ Writes (Some proven.pair.bytes)) name writes)))
          ]

      still_is : value_of key id longer ≡ Some told.value
      still_is =
          let first = last_or None (shown_values key id (own_entries opening history)) in
          let was : last_or first (stored_values key id history) ≡ Some told.value = sym (last-append None (shown_values key id (own_entries opening history)) (stored_values key id history)) ∙ told.is in
          let more : last_or (last_or first (shown_new entry)) (stored_values key id history) ≡ Some told.value =
          between first (shown_new entry) (stored_values key id history) told.value was (λ x among. same_value x (from_shown entry x among)) in
          value_snoc history entry
          ∙ (ap (λ (o : Option (List ℕ)). last_or o (stored_new entry)) more ∙ last-same told.value (stored_new entry) (λ x among. same_value x (from_stored entry x among)))

      pub value_same : value_of key id longer ≡ value_of key id history
      value_same = still_is ∙ sym told.is

      pub told_stays : Told longer
      told_stays = record {
        known = known_after history entry its_name told.known;
        value = told.value;
        is = still_is;
        each = λ bytes may v among. elim (fate history entry its_name honest told.known (Some bytes) may) [
          | inl was ↦ told.each bytes was v among
          | inr new ↦ absurd (unput bytes new)
        ];
      }

    -- it is told anew where a version was put under its name, acknowledged
    module _ (v : Version) (bytes : List ℕ) (of_key : key ≡ v.key) (of_id : id ≡ v.id) (among : In v (versions_in (under its_name bytes)))
        (stored : In (under its_name bytes) (stored_pairs entry)) (writes : effect_of its_name entry.act ≡ Writes (Some bytes)) where
      only_here : may_hold its_name longer ≡ OneOf (Some bytes ∷ [])
      only_here = leaves_one history entry its_name (Some bytes) (inr writes)

      written_is : (a b : Option (List ℕ)) → Writes a ≡ Writes b → a ≡ b
      written_is a b e = cc

      some_is : (a b : List ℕ) → Some a ≡ Some b → a ≡ b
      some_is a b e = cc

      put_value : (x : List ℕ) → In x (stored_new entry) → x ≡ v.value
      put_value x in_it =
          let proven = from_stored entry x in_it in
          let name : proven.pair.name ≡ its_name = named_so proven.pair x proven.of in
          let leaves = proven_effect (effect_of proven.pair.name entry.act) proven.pair.bytes (pair_proves entry.act answered proven.pair proven.among) in
          let same : proven.pair.bytes ≡ bytes = elim leaves [
            | inl shows ↦ (let no : Shows (Some proven.pair.bytes) ≡ Writes (Some bytes) = sym (subst (λ n. effect_of n entry.act ≡ Shows (Some proven.pair.bytes)) name shows) ∙ writes in absurd (cc))
            | inr it ↦ some_is proven.pair.bytes bytes (written_is (Some proven.pair.bytes) (Some bytes) (sym (subst (λ n. effect_of n entry.act ≡ Writes (Some proven.pair.bytes)) name it) ∙ writes))
          ] in
          let reads : In proven.of.version (versions_in (under its_name bytes)) =
          subst (λ b. In proven.of.version (versions_in (under its_name b))) same (subst (λ n. In proven.of.version (versions_in (under n proven.pair.bytes))) name proven.of.among) in
          proven.of.is ∙ ap (λ (w : Version). w.value) (read-one its_name (λ (w : Version). version_name w.key w.id) (version_of bytes) proven.of.version v reads among)

      there_now : In v.value (stored_new entry)
      there_now = in_front v.value (flat_map (values_in key id) (stored_pairs entry)) [] (flat_map_in (values_in key id) v.value (under its_name bytes) (stored_pairs entry) stored (value_in (under its_name bytes) v among of_key of_id))

      held_text : (b : List ℕ) → MayBe its_name longer (Some b) → b ≡ bytes
      held_text b may = elim (subst (λ m. In (Some b) (outcomes m)) only_here may) [ inl is ↦ some_is b bytes is | inr nowhere ↦ absurd nowhere ]

      pub told_now : Told longer
      told_now = record {
        known = (Some bytes, subst (λ m. In (Some bytes) (outcomes m)) (sym only_here) (inl refl));
        value = v.value;
        is = value_snoc history entry ∙ last-of _ v.value v.value (stored_new entry) there_now put_value;
        each = λ b may w in_it. (let reads : In w (versions_in (under its_name bytes)) = subst (λ t. In w (versions_in (under its_name t))) (held_text b may) in_it in
            ap (λ (x : Version). x.value) (read-one its_name (λ (x : Version). version_name x.key x.id) (version_of bytes) w v reads among));
      }
