-- A UUID is kept behind a put of a version, and behind a put of a record.
use Rattle.std.proofs.Common.{◌≡◌, ℕ, Bool, true, false, ◌&&◌, not, List, [], ◌∷◌, ◌++◌, refl, sym, ap, subst, ◌∙◌, inl, inr, eqb}
use Rattle.std.specs.Prelude.{IsTrue, IsFalse, Option, Some, None, filter, if◌then◌else◌}
use Rattle.std.specs.List.{list_all, fold}
use Rattle.std.specs.Str.{bytes_eq}
use Rattle.std.proofs.lemmas.Bool.{and_parts, cases_Bool, not-true, false≢true, true≢false}
use Rattle.aft_id.specs.declared.txn_id.TxnId.{TxnId}
use Rattle.aft_id.specs.TxnId.{IsUuid}
use Rattle.aft_keeper.specs.declared.keeper.KeeperAnswer.{KeeperAnswer}
use Rattle.aft_keeper.specs.declared.keeper.KeeperAnswer.TheVariants.{Done}
use Rattle.aft_keeper.specs.declared.keeper.KeeperCall.TheVariants.{Put}
use Rattle.aft_records.specs.declared.stored.Commit.{Commit}
use Rattle.aft_records.specs.declared.stored.Marker.{Marker}
use Rattle.aft_records.specs.declared.stored.Version.{Version}
use Rattle.aft_records.specs.Commits.{has_id}
use Rattle.aft_records.specs.Reading.{commit_of, marker_of, version_of}
use Rattle.aft_model.specs.declared.door.DoorAct.TheVariants.{Call}
use Rattle.aft_model.specs.declared.door.DoorEntry.{DoorEntry}
use Rattle.aft_model.specs.Bytes.{are_bytes, acts_bytes}
use Rattle.aft_model.specs.Claims.{claimant, claimant_after, forgotten, holds, is_held_by}
use Rattle.aft_model.specs.DoorKnowledge.{knows_unused}
use Rattle.aft_model.specs.DoorRules.{may_put_version}
use Rattle.aft_model.specs.Looks.{look_after}
use Rattle.aft_model.specs.Membership.{Incarnation, incarnation, is_up}
use Rattle.aft_model.specs.Readings.{id_of_marker, marker_name, record_name, version_name, versions_in}
use Rattle.aft_model.specs.Stages.{HasClaimed, HasPut, IsClear, IsClosed, IsIdle, IsUnrecorded, Stage, commits_of, has_put_pair, has_put_record, has_stored_version, is_acknowledged, is_clear, is_clear_to_store, is_in_stage, put_after, put_under_claim, stage, stage_after, versions_of}
use Rattle.aft_model.proofs.Histories.{In, all_at}
use Rattle.aft_model.proofs.Lists.{in_filter}
use Rattle.aft_model.proofs.OneCommit.{held_same, same_itself}
use Rattle.aft_model.proofs.Sights.{bytes_eq-refl, read-name, read-one, same_bytes}
use Rattle.aft_model.proofs.Turns.{held_up}
use Rattle.law_effects.specs.Effects.{Leaves, Writes, effect_of}
use Rattle.law_names.proofs.Differ.{first_differs}
use Rattle.law_kept.specs.Kept.{Comes, Holding, Kept, Unused}
use Rattle.law_kept.specs.Outcomes.{MayRecord, Stored, records_at}
use Rattle.law_kept.specs.Tried.{markers_put}
use Rattle.law_kept.proofs.After.{News, stored_stays}
use Rattle.law_kept.proofs.Calm.{holding_stays, unused_stays}
use Rattle.law_kept.proofs.Fates.{NewAt, leaves_one, record_of_uuid, under}
use Rattle.law_kept.proofs.Members.{put-snoc}
use Rattle.law_kept.proofs.PutMarker.{no_commits_of, no_versions_of, put_begins_none, put_forgets_none, put_none, put_unmoving}
use Rattle.law_kept.proofs.Quiet.{forgotten_fate, still_unforgotten}
use Rattle.law_kept.proofs.Steps.{in_stage, made_act}
use Rattle.law_kept.proofs.Unmoved.{Moves, Unmoving, kept_held, kept_unmoved}
use Rattle.law_kept.proofs.Written.{key_of_commit, possible_limits, put_writes, read_single, same_version_id, version_limits}

-- a stage that is clear, and its names
pub clear_names : (test : List (List ℕ) → Bool) (s : Stage) → IsTrue (is_clear test s) → (names : List (List ℕ)) × (s ≡ IsClear names) × IsTrue (test names)
clear_names test (IsClear names) passed = (names, refl, passed)
clear_names test IsIdle passed = absurd (false≢true passed)
clear_names test HasClaimed passed = absurd (false≢true passed)
clear_names test IsUnrecorded passed = absurd (false≢true passed)
clear_names test (HasPut c) passed = absurd (false≢true passed)
clear_names test IsClosed passed = absurd (false≢true passed)

done_effect : (name bytes : List ℕ) (answer : KeeperAnswer) (node inc : ℕ) → IsTrue (is_acknowledged answer) → effect_of name (Call node inc (Put name bytes) answer) ≡ Writes (Some bytes)
done_effect name bytes Done node inc done = ap (λ t. if t then Writes (Some bytes) else Leaves) (bytes_eq-refl name)
done_effect name bytes answer node inc done = absurd (false≢true done)

module _ (uuid : List ℕ) (its : IsUuid uuid) (history : List DoorEntry) (entry : DoorEntry) (comes : Comes history entry) (before : Kept uuid history)
    (node inc : ℕ) (name bytes : List ℕ) (answer : KeeperAnswer) (is : entry.act ≡ Call node inc (Put name bytes) answer) where
  abbrev longer : List DoorEntry
  longer = history ++ entry ∷ []

  abbrev who : Incarnation
  who = incarnation node inc

  made : IsTrue (are_bytes bytes)
  made = (and_parts (are_bytes name) (are_bytes bytes) (and_parts (are_bytes name && are_bytes bytes) _ (subst (λ act. IsTrue (acts_bytes act)) is (made_act history entry comes))).0).1

  at_name : (n : List ℕ) (o : Option (List ℕ)) → NewAt n entry.act o → (n ≡ name) × (o ≡ Some bytes)
  at_name n o new = put_writes entry.act node inc name bytes answer is n o new

  unforgotten : IsFalse (forgotten uuid history) → IsFalse (forgotten uuid longer)
  unforgotten un = still_unforgotten uuid history entry (put_forgets_none (marker_name uuid) entry.act node inc name bytes answer is) un

  staged : IsTrue (is_in_stage history (Call node inc (Put name bytes) answer))
  staged = subst (λ act. IsTrue (is_in_stage history act)) is (in_stage history entry comes)

  -- ---- a version

  module _ (v : Version) (among : In v (versions_in (under name bytes))) (rule : IsTrue (may_put_version history who v)) where
    named : name ≡ version_name v.key v.id
    named = read-name name (λ (w : Version). version_name w.key w.id) (version_of bytes) v among

    no_record : (o : Option (List ℕ)) → NewAt (record_name uuid) entry.act o → ⊥
    no_record o new = first_differs 99 118 _ _ refl ((at_name (record_name uuid) o new).0 ∙ named)

    no_marker : (o : Option (List ℕ)) → NewAt (marker_name uuid) entry.act o → ⊥
    no_marker o new = first_differs 114 118 _ _ refl ((at_name (marker_name uuid) o new).0 ∙ named)

    no_mark : (m : Marker) → In m (markers_put entry.act) → ⊥
    no_mark m put =
        let within = subst (λ act. In m (markers_put act)) is put in
        first_differs 114 118 _ _ refl (sym (read-name name (λ (n : Marker). marker_name (id_of_marker n).uuid) (marker_of bytes) m within) ∙ named)

    no_commits : commits_of uuid (under name bytes) ≡ []
    no_commits = no_commits_of uuid (under name bytes) (λ c within of. first_differs 99 118 _ _ refl (sym (read-name name (λ (d : Commit). record_name d.id.uuid) (commit_of bytes) c within) ∙ named))

    -- who puts a version of the UUID is of a node, holds it, and is clear
    clear : v.id.uuid ≡ uuid → IsFalse (eqb node 0) × (names : List (List ℕ)) × (stage who uuid history ≡ IsClear names)
    clear of =
        let it = all_at (is_clear_to_store history who) v (versions_in (under name bytes)) among (and_parts (list_all (is_clear_to_store history who) (versions_in (under name bytes))) _ staged).0 in
        let parts = and_parts (not (eqb node 0)) (is_clear (λ names. true) (stage who v.id.uuid history)) it in
        let found = clear_names (λ names. true) (stage who uuid history) (subst (λ u. IsTrue (is_clear (λ names. true) (stage who u history))) of parts.1) in
        (not-true (eqb node 0) parts.0, found.0, found.1)

    held : v.id.uuid ≡ uuid → IsTrue (is_held_by who (claimant uuid history)) × IsTrue (is_up who history)
    held of = held_up who history (claimant uuid history) (subst (λ u. IsTrue (holds who u history)) of (and_parts (holds who v.id.uuid history) (knows_unused who v.id.uuid history) rule).0)

    unused_by : (of : v.id.uuid ≡ uuid) → Unused uuid who (clear of).1 history
    unused_by of = subst (Holding uuid who history) (clear of).2 (before.holding who (held of).0 (held of).1)

    stays_by : (c : Commit) → MayRecord uuid history c → (key : List ℕ) → In key c.keys → (o : Option (List ℕ)) → NewAt (version_name key c.id) entry.act o → ⊥
    stays_by c may key within o new =
        let limits = possible_limits uuid history before c may in
        let its_limits = version_limits (under name bytes) v made among in
        let same = same_version_id key v.key c.id v.id (key_of_commit c limits key within) its_limits.0.key limits.0.id its_limits.0.id ((at_name (version_name key c.id) o new).0 ∙ named) in
        let of : v.id.uuid ≡ uuid = ap (λ (i : TxnId). i.uuid) (sym same) ∙ record_of_uuid uuid may.outcome c may.among in
        subst (λ p. In c (records_at uuid p)) ((unused_by of).free.record_gone may.outcome may.may) may.among

    news : News uuid history entry
    news = record {
      record_reads = λ b new. absurd (no_record (Some b) new);
      recorded = λ b new c within. absurd (no_record (Some b) new);
      unrecorded = λ new. absurd (no_record None new);
      marker_reads = λ b new. absurd (no_marker (Some b) new);
      unmarked = λ new. absurd (no_marker None new);
      marking = λ m put of. absurd (no_mark m put);
      forgetting = λ gone. elim (forgotten_fate uuid history entry gone) [ inl was ↦ inl was | inr now ↦ absurd (true≢false (sym now ∙ put_forgets_none (marker_name uuid) entry.act node inc name bytes answer is)) ];
      began = λ id completes of. absurd (put_begins_none history entry node inc name bytes answer is completes.commit completes.now);
      stays = stays_by;
    }

    puts_stay : (other : Incarnation) (id : TxnId) → IsTrue (has_id id (put_under_claim other uuid history)) → IsTrue (has_id id (put_under_claim other uuid longer))
    puts_stay other id was =
        subst (λ cs. IsTrue (has_id id cs)) (sym (put-snoc other uuid history entry ∙ (ap (λ act. put_after other uuid (put_under_claim other uuid history) act) is ∙ put_none other uuid (put_under_claim other uuid history) node inc name bytes answer no_commits))) was

    -- a stored name is of the version's UUID
    stored_of : (other : Incarnation) (names : List (List ℕ)) → Unused uuid other names history → (n : List ℕ) → In n names → n ≡ name → v.id.uuid ≡ uuid
    stored_of other names unused n within e =
        let stored = unused.stored n within in
        let limits = version_limits (under n stored.bytes) stored.version stored.made stored.reads in
        let its_limits = version_limits (under name bytes) v made among in
        let it : n ≡ version_name stored.version.key stored.version.id = read-name n (λ (w : Version). version_name w.key w.id) (version_of stored.bytes) stored.version stored.reads in
        ap (λ (i : TxnId). i.uuid) (sym (same_version_id stored.version.key v.key stored.version.id v.id limits.0.key its_limits.0.key limits.0.id its_limits.0.id (sym it ∙ (e ∙ named)))) ∙ stored.of

    -- of another UUID
    of_other : (v.id.uuid ≡ uuid → ⊥) → Kept uuid longer
    of_other other =
        kept_unmoved uuid history entry comes before news (λ b new. no_record (Some b) new)
        (subst (Unmoving uuid) (sym is) (put_unmoving uuid node inc name bytes answer
        (no_versions_of uuid (under name bytes) (λ w within of. other (subst (λ (x : Version). x.id.uuid ≡ uuid) (read-one name (λ (x : Version). version_name x.key x.id) (version_of bytes) w v within among) of))) no_commits))
        (λ holds_it held_it up holding. holding_stays uuid history entry comes before news (λ b new. no_record (Some b) new) holds_it unforgotten (λ b new. no_marker (Some b) new) (puts_stay holds_it)
        (λ names unused n within o new. other (stored_of holds_it names unused n within (at_name n o new).0)) (stage holds_it uuid history) holding)

    -- of this UUID: the name joins those that hold versions, where the put was acknowledged, and otherwise leaves them
    module _ (of : v.id.uuid ≡ uuid) where
      now_stored : IsTrue (is_acknowledged answer) → Stored uuid name longer
      now_stored done = record {
        bytes = bytes;
        version = v;
        only = leaves_one history entry name (Some bytes) (inr (subst (λ act. effect_of name act ≡ Writes (Some bytes)) (sym is) (done_effect name bytes answer node inc done)));
        made = made;
        reads = among;
        of = of;
      }

      still_stored : (n : List ℕ) → bytes_eq name n ≡ false → Stored uuid n history → Stored uuid n longer
      still_stored n other was = stored_stays uuid history entry comes before n was (λ o new. true≢false (sym (subst (λ m. IsTrue (bytes_eq name m)) (sym (at_name n o new).0) (bytes_eq-refl name)) ∙ other))

      -- what the stage's names hold
      abbrev Holds : List (List ℕ) → Type 0
      Holds names = (n : List ℕ) → In n names → Stored uuid n longer × IsFalse (eqb node 0)

      stored_after : (names : List (List ℕ)) → Unused uuid who names history → (t : Bool) → is_acknowledged answer ≡ t → Holds (if t then name ∷ names else filter (λ n. not (bytes_eq name n)) names)
      stored_after names unused true done n (inl here) = (subst (λ m. Stored uuid m longer) (sym here) (now_stored done), (clear of).0)
      stored_after names unused true done n (inr later) = elim (cases_Bool (bytes_eq name n)) [
        | inl same ↦ (subst (λ m. Stored uuid m longer) (same_bytes name n same) (now_stored done), (clear of).0)
        | inr other ↦ (still_stored n other (unused.stored n later), (clear of).0)
      ]
      stored_after names unused false done n within =
          let found = in_filter (λ m. not (bytes_eq name m)) n names within in (still_stored n (not-true (bytes_eq name n) found.1) (unused.stored n found.0), (clear of).0)

      clear_after : (names : List (List ℕ)) → Unused uuid who names history → Unused uuid who (if is_acknowledged answer then name ∷ names else filter (λ n. not (bytes_eq name n)) names) longer
      clear_after names unused =
          let none = unused_stays uuid history entry comes before news (λ b new. no_record (Some b) new) who unforgotten (λ b new. no_marker (Some b) new) [] (λ n within. absurd within)
          (record { free = unused.free; marker_gone = unused.marker_gone; uncommitted = unused.uncommitted; stored = λ n within. absurd within; of_node = λ n within. absurd within }) in
          let after = stored_after names unused (is_acknowledged answer) refl in
          record { free = none.free; marker_gone = none.marker_gone; uncommitted = none.uncommitted; stored = λ n within. (after n within).0; of_node = λ n within. (after n within).1 }

      one_version : versions_of uuid (under name bytes) ≡ v ∷ []
      one_version =
          ap (filter (λ (w : Version). bytes_eq uuid w.id.uuid)) (read_single name (λ (w : Version). version_name w.key w.id) (version_of bytes) v among)
          ∙ ap (λ t. if t then v ∷ [] else []) (subst (λ u. bytes_eq uuid u ≡ true) (sym of) (bytes_eq-refl uuid))

      after_stage : stage_after who uuid (stage who uuid history) (Call node inc (Put name bytes) answer) ≡ IsClear (if is_acknowledged answer then name ∷ (clear of).1 else filter (λ n. not (bytes_eq name n)) (clear of).1)
      after_stage =
          ap (λ t. if t then has_put_pair uuid (under name bytes) answer (stage who uuid history) else stage who uuid history) (same_itself who)
          ∙ (ap (λ cs. fold (λ (t : Stage) (c : Commit). has_put_record c t) (fold (λ (t : Stage) (w : Version). has_stored_version name answer t) (stage who uuid history) (versions_of uuid (under name bytes))) cs) no_commits
          ∙ (ap (λ vs. fold (λ (t : Stage) (w : Version). has_stored_version name answer t) (stage who uuid history) vs) one_version ∙ ap (has_stored_version name answer) (clear of).2))

      moves : Moves uuid history entry comes before news (λ b new. no_record (Some b) new) (λ w. stage_after w uuid (stage w uuid history) entry.act)
      moves w held_it up holding =
          let mine : w ≡ who = held_same w who (claimant uuid history) held_it (held of).0 in
          subst (λ (i : Incarnation). Holding uuid i longer (stage_after i uuid (stage i uuid history) entry.act)) (sym mine)
          (subst (Holding uuid who longer) (sym (ap (λ act. stage_after who uuid (stage who uuid history) act) is ∙ after_stage)) (clear_after (clear of).1 (unused_by of)))

      of_this : Kept uuid longer
      of_this =
          kept_held uuid history entry comes before news (λ b new. no_record (Some b) new) (λ claim. ap (λ act. claimant_after uuid claim act) is) moves
          (λ id its_id claim l. ap (λ act. look_after id claim l act) is)

    pub kept_behind_version : Kept uuid longer
    kept_behind_version = elim (cases_Bool (bytes_eq uuid v.id.uuid)) [
      | inl same ↦ of_this (sym (same_bytes uuid v.id.uuid same))
      | inr differs ↦ of_other (λ of. true≢false (sym (subst (λ u. bytes_eq uuid u ≡ true) (sym of) (bytes_eq-refl uuid)) ∙ differs))
    ]
