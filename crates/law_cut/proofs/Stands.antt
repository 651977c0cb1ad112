-- What a store holds of a commit without a marker stands as it is while a copier is up.
use Rattle.std.proofs.Common.{◌≡◌, ℕ, ◌||◌, not, List, [], ◌∷◌, ◌++◌, refl, sym, ap, subst, ◌∙◌, inl, inr, append_assoc}
use Rattle.std.specs.Prelude.{IsFalse, IsTrue, None, Option, Some}
use Rattle.std.proofs.lemmas.Bool.{and_parts, false_from_ne_true, not-true, true≢false}
use Rattle.aft_keeper.specs.declared.keeper.Pair.{Pair}
use Rattle.aft_keeper.specs.Contents.{IsContents, bytes_at}
use Rattle.aft_records.specs.declared.stored.Commit.{Commit}
use Rattle.aft_records.specs.declared.stored.Marker.TheVariants.{Full}
use Rattle.aft_model.specs.declared.door.DoorEntry.{DoorEntry}
use Rattle.aft_model.specs.Claims.{forgotten}
use Rattle.aft_model.specs.Contents.{GoesAlong}
use Rattle.aft_model.specs.DoorKnowledge.{is_delete, is_open, is_untouched, is_up_act, knows_marked, opens}
use Rattle.aft_model.specs.Readings.{marker_name, record_name, records_in, version_name}
use Rattle.aft_model.proofs.Followed.{joined, parted}
use Rattle.aft_model.proofs.Growth.{any_grows}
use Rattle.aft_model.proofs.Histories.{In}
use Rattle.law_kept.specs.Kept.{Comes, Kept, Lawful}
use Rattle.law_kept.specs.Outcomes.{MayBe, records_at}
use Rattle.law_kept.specs.Tried.{markers_put}
use Rattle.law_kept.proofs.Always.{lawful_begins}
use Rattle.law_kept.proofs.Fates.{NewAt, under}
use Rattle.law_kept.proofs.Gone.{flat_map_in}
use Rattle.law_kept.proofs.Quiet.{unmarked_where_absent}
use Rattle.law_whole.proofs.Throughout.{kept_open}
use Rattle.law_whole.proofs.Values.{comes_next}
use Rattle.law_contents.proofs.Held.{may_stand, stands_in}
use Rattle.law_contents.proofs.Ids.{RecordThere, record_there}
use Rattle.law_cut.specs.Served.{is_served}
use Rattle.law_cut.proofs.Bytes.{after_none, after_one, held_fate}
use Rattle.law_cut.proofs.Untouched.{marker_stays, record_stays, version_stays}

module _ (c : Commit) where
  -- contents have the record of a commit, and no marker of its UUID
  pub record Stands (now : List Pair) : Type 0 where
    pub bytes : List ℕ
    pub there : bytes_at (record_name c.id.uuid) now ≡ Some bytes
    pub reads : In c (records_in (under (record_name c.id.uuid) bytes))
    pub unmarked : bytes_at (marker_name c.id.uuid) now ≡ None

  pub stands_of : (now : List Pair) (bytes : List ℕ) → bytes_at (record_name c.id.uuid) now ≡ Some bytes → In c (records_in (under (record_name c.id.uuid) bytes)) → bytes_at (marker_name c.id.uuid) now ≡ None → Stands now
  stands_of now bytes there reads none = record { bytes = bytes; there = there; reads = reads; unmarked = none }

  -- these entries leave that, and the commit's versions, as they are
  pub record Left (more : List DoorEntry) (held now : List Pair) : Type 0 where
    pub record_same : bytes_at (record_name c.id.uuid) now ≡ bytes_at (record_name c.id.uuid) held
    pub marker_same : bytes_at (marker_name c.id.uuid) now ≡ bytes_at (marker_name c.id.uuid) held
    pub version_same : (key : List ℕ) → In key c.keys → bytes_at (version_name key c.id) now ≡ bytes_at (version_name key c.id) held
    pub record_unwritten : (e : DoorEntry) → In e more → (o : Option (List ℕ)) → NewAt (record_name c.id.uuid) e.act o → ⊥
    pub marker_unwritten : (e : DoorEntry) → In e more → (o : Option (List ℕ)) → NewAt (marker_name c.id.uuid) e.act o → ⊥

  pub still_stands : (more : List DoorEntry) (held now : List Pair) → Left more held now → Stands held → Stands now
  still_stands more held now left stands = record { bytes = stands.bytes; there = left.record_same ∙ stands.there; reads = stands.reads; unmarked = left.marker_same ∙ stands.unmarked }

  module _ (at_first : List Pair) (contents : IsContents at_first) where
    -- at one entry
    module _ (start : List DoorEntry) (entry : DoorEntry) (more : List DoorEntry) (held next : List Pair) (along : GoesAlong at_first start held) (one : GoesAlong held (entry ∷ []) next) (opened : IsTrue (is_open start))
        (whole : Lawful ((start ++ entry ∷ []) ++ more)) (served : IsTrue (is_served start)) (unretired : (d : Commit) → In (Full d) (markers_put entry.act) → d.id.uuid ≡ c.id.uuid → ⊥) (stands : Stands held) where
      lawful : Lawful start
      lawful = lawful_begins start (entry ∷ []) (lawful_begins (start ++ entry ∷ []) more whole)

      its : RecordThere at_first held start contents along lawful opened c
      its = record_there at_first held start contents along lawful opened c (flat_map_in records_in c (under (record_name c.id.uuid) stands.bytes) held (stands_in at_first held start contents along (record_name c.id.uuid) stands.bytes stands.there) stands.reads)

      kept : Kept c.id.uuid start
      kept = kept_open c.id.uuid its.its start opened lawful

      unforgotten : IsFalse (forgotten c.id.uuid start)
      unforgotten = false_from_ne_true (forgotten c.id.uuid start) (λ is. subst (λ o. In c (records_at c.id.uuid o)) (kept.forgotten_gone is its.may.outcome its.may.may) its.may.among)

      unmarked : IsFalse (knows_marked c.id.uuid start)
      unmarked = false_from_ne_true (knows_marked c.id.uuid start) (λ marks.
          unmarked_where_absent c.id.uuid start kept unforgotten (subst (MayBe (marker_name c.id.uuid) start) stands.unmarked (may_stand at_first held start contents along (marker_name c.id.uuid) kept.markers_known.some)) marks)

      touched : IsFalse (is_untouched start)
      touched = false_from_ne_true (is_untouched start) (λ is. true≢false (sym served ∙ not-true (is_served start) (and_parts (is_open start) (not (is_served start)) is).1))

      comes : Comes start entry
      comes = comes_next start more entry opened whole

      no_record : (o : Option (List ℕ)) → NewAt (record_name c.id.uuid) entry.act o → ⊥
      no_record = record_stays c its.its start entry comes kept its.may unmarked touched unretired

      no_marker : (o : Option (List ℕ)) → NewAt (marker_name c.id.uuid) entry.act o → ⊥
      no_marker = marker_stays c its.its start entry comes kept its.may unmarked touched unretired

      no_version : (key : List ℕ) → In key c.keys → (o : Option (List ℕ)) → NewAt (version_name key c.id) entry.act o → ⊥
      no_version = version_stays c its.its start entry comes kept its.may unmarked touched unretired

      same : (name : List ℕ) → ((o : Option (List ℕ)) → NewAt name entry.act o → ⊥) → bytes_at name next ≡ bytes_at name held
      same name none = elim (held_fate name held next entry.act (after_one held next entry one)) [ inl is ↦ is | inr new ↦ absurd (none (bytes_at name next) new) ]

      one_left : Left (entry ∷ []) held next
      one_left = record {
        record_same = same (record_name c.id.uuid) no_record;
        marker_same = same (marker_name c.id.uuid) no_marker;
        version_same = λ key within. same (version_name key c.id) (no_version key within);
        record_unwritten = λ e among. elim among [ inl is ↦ subst (λ (x : DoorEntry). (o : Option (List ℕ)) → NewAt (record_name c.id.uuid) x.act o → ⊥) (sym is) no_record | inr none ↦ absurd none ];
        marker_unwritten = λ e among. elim among [ inl is ↦ subst (λ (x : DoorEntry). (o : Option (List ℕ)) → NewAt (marker_name c.id.uuid) x.act o → ⊥) (sym is) no_marker | inr none ↦ absurd none ];
      }

    -- along all
    pub leaves : (start more : List DoorEntry) (held now : List Pair) → GoesAlong at_first start held → GoesAlong held more now → IsTrue (is_open start) → Lawful (start ++ more) → IsTrue (is_served start)
        → ((e : DoorEntry) → In e more → (d : Commit) → In (Full d) (markers_put e.act) → d.id.uuid ≡ c.id.uuid → ⊥) → Stands held → Left more held now
    leaves start [] held now along rest opened whole served unretired stands =
        let is = after_none held now rest in
        record {
          record_same = ap (bytes_at (record_name c.id.uuid)) is;
          marker_same = ap (bytes_at (marker_name c.id.uuid)) is;
          version_same = λ key within. ap (bytes_at (version_name key c.id)) is;
          record_unwritten = λ e among. absurd among;
          marker_unwritten = λ e among. absurd among;
        }
    leaves start (entry ∷ more) held now along rest opened whole served unretired stands =
        let cut = parted held now (entry ∷ []) more rest in
        let together : Lawful ((start ++ entry ∷ []) ++ more) = subst Lawful (sym (append_assoc start (entry ∷ []) more)) whole in
        let first : Left (entry ∷ []) held cut.0 = one_left start entry more held cut.0 along cut.1 opened together served (λ d put of. unretired entry (inl refl) d put of) stands in
        let later : Left more cut.0 now =
        leaves (start ++ entry ∷ []) more cut.0 now (joined at_first held cut.0 start (entry ∷ []) along cut.1) cut.2 (any_grows (λ (e : DoorEntry). opens e.act) start (entry ∷ []) opened) together
        (any_grows (λ (e : DoorEntry). is_up_act e.act || is_delete e.act) start (entry ∷ []) served) (λ e among d put of. unretired e (inr among) d put of) (still_stands (entry ∷ []) held cut.0 first stands) in
        record {
          record_same = later.record_same ∙ first.record_same;
          marker_same = later.marker_same ∙ first.marker_same;
          version_same = λ key within. later.version_same key within ∙ first.version_same key within;
          record_unwritten = λ e among. elim among [ inl is ↦ first.record_unwritten e (inl is) | inr there ↦ later.record_unwritten e there ];
          marker_unwritten = λ e among. elim among [ inl is ↦ first.marker_unwritten e (inl is) | inr there ↦ later.marker_unwritten e there ];
        }
