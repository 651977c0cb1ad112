-- What holds by the stages and by what the office has found out stays so behind an entry that puts no record, and no marker, of the UUID.
use Rattle.std.proofs.Common.{◌≡◌, ℕ, List, [], ◌∷◌, ◌++◌, sym, ap, subst, ◌∙◌, inl, inr, length, take, arith, length-append}
use Rattle.std.specs.Prelude.{IsTrue, IsFalse, Option, Some, None}
use Rattle.std.proofs.lemmas.Bool.{cases_lt}
use Rattle.std.proofs.lemmas.List.{take-append-le, take_all}
use Rattle.aft_id.specs.declared.txn_id.TxnId.{TxnId}
use Rattle.aft_records.specs.declared.stored.Commit.{Commit}
use Rattle.aft_records.specs.Commits.{has_id}
use Rattle.aft_model.specs.declared.door.DoorEntry.{DoorEntry}
use Rattle.aft_model.specs.Claims.{forgotten}
use Rattle.aft_model.specs.Looks.{FoundOther, IsClaimed, IsCleared, IsUnclaimed, Look}
use Rattle.aft_model.specs.Membership.{Incarnation}
use Rattle.aft_model.specs.Readings.{marker_name, record_name}
use Rattle.aft_model.specs.Stages.{HasClaimed, HasPut, IsClear, IsClosed, IsIdle, IsUnrecorded, Stage, put_under_claim}
use Rattle.aft_model.proofs.Growth.{knows_marked_grows}
use Rattle.aft_model.proofs.Histories.{In}
use Rattle.law_kept.specs.Kept.{CommittedId, Comes, Free, Holding, Kept, Looking, PutBefore, Recording, Unused}
use Rattle.law_kept.specs.Outcomes.{Appears, CommittedOf, MayRecord, OnlyAbsent, Stored, Uncommitted, records_at}
use Rattle.law_kept.proofs.After.{News, absent_stays, appears_fate, record_fate, stored_stays}
use Rattle.law_kept.proofs.Fates.{NewAt}

module _ (uuid : List ℕ) (history : List DoorEntry) (entry : DoorEntry) (comes : Comes history entry) (before : Kept uuid history) (news : News uuid history entry)
    (no_record : (bytes : List ℕ) → NewAt (record_name uuid) entry.act (Some bytes) → ⊥) where
  abbrev longer : List DoorEntry
  longer = history ++ entry ∷ []

  -- nothing appears that didn't before
  pub appeared : (c : Commit) → Appears uuid longer c → Appears uuid history c
  appeared c appears = elim (appears_fate uuid history entry comes before news c appears) [ inl was ↦ was | inr new ↦ absurd (no_record new.0 new.1) ]

  pub record_absent : OnlyAbsent (record_name uuid) history → OnlyAbsent (record_name uuid) longer
  record_absent none = absent_stays uuid history entry comes before (record_name uuid) before.records_known.some none no_record

  -- where the record is surely absent, no commit of the UUID is committed that wasn't before
  pub uncommitted_stays : OnlyAbsent (record_name uuid) history → Uncommitted uuid history → Uncommitted uuid longer
  uncommitted_stays none un c is = elim (appeared c (inl is)) [
    | inl was ↦ un c was
    | inr possible ↦ subst (λ o. In c (records_at uuid o)) (none possible.outcome possible.may) possible.among
  ]

  pub free_stays : IsFalse (forgotten uuid longer) → Free uuid history → Free uuid longer
  free_stays unforgotten free = record { unforgotten = unforgotten; record_gone = record_absent free.record_gone }

  module _ (who : Incarnation) (unforgotten : IsFalse (forgotten uuid history) → IsFalse (forgotten uuid longer)) where
    pub unrecorded_stays : Holding uuid who history IsUnrecorded → Holding uuid who longer IsUnrecorded
    unrecorded_stays holding = (
      free_stays (unforgotten holding.0.unforgotten) holding.0,
      elim holding.1 [ inl un ↦ inl (uncommitted_stays holding.0.record_gone un) | inr is ↦ inr (knows_marked_grows uuid history (entry ∷ []) is) ],
    )

    module _ (no_marker : (bytes : List ℕ) → NewAt (marker_name uuid) entry.act (Some bytes) → ⊥) where
      pub unused_stays : (names : List (List ℕ)) → ((name : List ℕ) → In name names → Stored uuid name history → (outcome : Option (List ℕ)) → NewAt name entry.act outcome → ⊥)
          → Unused uuid who names history → Unused uuid who names longer
      unused_stays names no_version unused = record {
        free = free_stays (unforgotten unused.free.unforgotten) unused.free;
        marker_gone = absent_stays uuid history entry comes before (marker_name uuid) before.markers_known.some unused.marker_gone no_marker;
        uncommitted = uncommitted_stays unused.free.record_gone unused.uncommitted;
        stored = λ name among. stored_stays uuid history entry comes before name (unused.stored name among) (no_version name among (unused.stored name among));
        of_node = unused.of_node;
      }

      module _ (put_stays : (id : TxnId) → IsTrue (has_id id (put_under_claim who uuid history)) → IsTrue (has_id id (put_under_claim who uuid longer))) where
        put_before_stays : (id : TxnId) → IsTrue (has_id id (put_under_claim who uuid history)) → PutBefore uuid who id history → PutBefore uuid who id longer
        put_before_stays id put was place within c is = elim (cases_lt (length history) place) [
          | inl beyond ↦ (let whole : take place longer ≡ longer = take_all place longer (omega (arith, length-append history (entry ∷ []))) in
              subst (λ h. IsTrue (has_id id (put_under_claim who uuid h))) (sym whole) (put_stays id put))
          | inr inside ↦ (let same : take place longer ≡ take place history = take-append-le place history (entry ∷ []) inside in
              subst (λ h. IsTrue (has_id id (put_under_claim who uuid h))) (sym same) (was place inside c (subst (λ h. CommittedOf uuid h c) same is)))
        ]

        pub recording_stays : (d : Commit) → Recording uuid who d history → Recording uuid who d longer
        recording_stays d recording = record {
          unforgotten = unforgotten recording.unforgotten;
          of_node = recording.of_node;
          marker_gone = absent_stays uuid history entry comes before (marker_name uuid) before.markers_known.some recording.marker_gone no_marker;
          alone = λ c appears. recording.alone c (appeared c appears);
          put = put_stays d.id recording.put;
          put_before = put_before_stays d.id recording.put recording.put_before;
        }

        pub holding_stays : ((names : List (List ℕ)) → Unused uuid who names history → (name : List ℕ) → In name names → (outcome : Option (List ℕ)) → NewAt name entry.act outcome → ⊥) → (s : Stage) → Holding uuid who history s → Holding uuid who longer s
        holding_stays no_version IsIdle holding = holding
        holding_stays no_version HasClaimed holding = unforgotten holding
        holding_stays no_version IsUnrecorded holding = unrecorded_stays holding
        holding_stays no_version (IsClear names) holding = unused_stays names (λ name among stored. no_version names holding name among) holding
        holding_stays no_version (HasPut d) holding = recording_stays d holding
        holding_stays no_version IsClosed holding = holding

  -- what the office has found out stays so
  pub unseen_stays : (id : TxnId) → id.uuid ≡ uuid → ((c : Commit) → MayRecord id.uuid history c → c.id ≡ id → ⊥) → (c : Commit) → MayRecord id.uuid longer c → c.id ≡ id → ⊥
  unseen_stays id of none c possible is = (let here = subst (λ u. MayRecord u longer c) of possible in elim (record_fate uuid history entry comes before here.outcome here.may) [
    | inl was ↦ none c (subst (λ u. MayRecord u history c) (sym of) (record { outcome = here.outcome; may = was; among = here.among })) is
    | inr new ↦ no_new here.outcome new here.among
  ])
    where
      no_new : (o : Option (List ℕ)) → NewAt (record_name uuid) entry.act o → In c (records_at uuid o) → ⊥
      no_new None new among = among
      no_new (Some bytes) new among = no_record bytes new

  pub committed_before : (id : TxnId) → id.uuid ≡ uuid → ((c : Commit) → MayRecord id.uuid history c → c.id ≡ id → ⊥) → CommittedId id longer → CommittedId id history
  committed_before id of none is =
      elim (appeared is.0 (inl (is.1, ap (λ (i : TxnId). i.uuid) is.2 ∙ of))) [
        | inl was ↦ (is.0, was.0, is.2)
        | inr possible ↦ absurd (none is.0 (subst (λ u. MayRecord u history is.0) (sym of) possible) is.2)
      ]

  pub looking_stays : (id : TxnId) → id.uuid ≡ uuid → (l : Look) → Looking id history l → Looking id longer l
  looking_stays id of IsUnclaimed looking = tt
  looking_stays id of IsClaimed looking = tt
  looking_stays id of FoundOther looking = (
    unseen_stays id of looking.0,
    λ is. knows_marked_grows id.uuid history (entry ∷ []) (looking.1 (committed_before id of looking.0 is)),
  )
  looking_stays id of IsCleared looking = (unseen_stays id of looking.0, λ is. looking.1 (committed_before id of looking.0 is))
