-- A UUID is kept behind a put of a record.
use Rattle.std.proofs.Common.{◌≡◌, ℕ, Bool, true, false, ◌&&◌, ◌||◌, not, List, [], ◌∷◌, ◌++◌, refl, sym, ap, subst, ◌∙◌, ◌⊎◌, inl, inr, eqb, take, length, zero, suc, arith, length-append}
use Rattle.std.specs.Prelude.{IsTrue, IsFalse, Option, Some, None, filter, if◌then◌else◌}
use Rattle.std.specs.List.{list_any, list_all, fold}
use Rattle.std.specs.Str.{bytes_eq}
use Rattle.std.proofs.lemmas.Bool.{and_parts, cases_Bool, cases_lt, or_cases, or_parts, or_right, not-true, false≢true, true≢false, false_from_ne_true}
use Rattle.std.proofs.lemmas.List.{take-append-le, take_all}
use Rattle.aft_id.specs.declared.txn_id.TxnId.{TxnId}
use Rattle.aft_id.specs.TxnId.{IsUuid, same_id}
use Rattle.aft_keeper.specs.declared.keeper.KeeperAnswer.{KeeperAnswer}
use Rattle.aft_keeper.specs.declared.keeper.KeeperCall.TheVariants.{Put}
use Rattle.aft_records.specs.declared.stored.Commit.{Commit}
use Rattle.aft_records.specs.declared.stored.Marker.{Marker}
use Rattle.aft_records.specs.declared.stored.Record.{Record}
use Rattle.aft_records.specs.declared.stored.Version.{Version}
use Rattle.aft_records.specs.Commits.{has_id, has_uuid}
use Rattle.aft_records.specs.Reading.{commit_of, marker_of, version_of}
use Rattle.aft_records.specs.Stored.{IsCommit}
use Rattle.aft_model.specs.declared.door.DoorAct.{DoorAct}
use Rattle.aft_model.specs.declared.door.DoorAct.TheVariants.{Call, Claim, Release}
use Rattle.aft_model.specs.declared.door.DoorEntry.{DoorEntry}
use Rattle.aft_model.specs.Bytes.{are_bytes, acts_bytes}
use Rattle.aft_model.specs.Claims.{claimant, claimant_after, forgotten, holds, is_held_by}
use Rattle.aft_model.specs.Committed.{committed, committed_by, marked}
use Rattle.aft_model.specs.Course.{DeletesNothing}
use Rattle.aft_model.specs.DoorKnowledge.{is_delete, is_open, is_untouched, is_up_act, knows_marked, knows_record_gone, knows_stored, marked_then, shows_first_format, shows_gone}
use Rattle.aft_model.specs.DoorRules.{may_put_record, may_upgrade}
use Rattle.aft_model.specs.Membership.{Incarnation, incarnation, is_up, same_incarnation, the_office}
use Rattle.aft_model.specs.Readings.{id_of_marker, marker_name, record_name, records_in, version_name, versions_in, written_in}
use Rattle.aft_model.specs.Stages.{HasPut, IsClear, Stage, commits_of, has_put_pair, has_put_record, has_stored_version, has_versions, is_claim, is_clear, is_clear_to_record, is_clear_to_store, is_in_stage, is_upgraded_alone, put_after, put_under_claim, stage, stage_after, versions_of}
use Rattle.aft_model.proofs.Formats.{shown_is_committed, written_is}
use Rattle.aft_model.proofs.Histories.{In, all_at, any_found, any_from, in_append, in_back, in_front}
use Rattle.aft_model.proofs.Ids.{same_id-refl, same_ids}
use Rattle.aft_model.proofs.Lists.{all_from, filter_in, none_at}
use Rattle.aft_model.proofs.OneCommit.{claimant-snoc, held_same, same_itself, same_who}
use Rattle.aft_model.proofs.Sights.{bytes_eq-refl, read-name, read-one, same_bytes}
use Rattle.aft_model.proofs.Turns.{held_up}
use Rattle.law_names.proofs.Differ.{first_differs}
use Rattle.law_kept.specs.Kept.{Comes, Holding, Kept, PutBefore, Recording, Unused}
use Rattle.law_kept.specs.Outcomes.{Appears, CommittedOf, MayBe, MayRecord, OnlyAbsent, Stored, records_at}
use Rattle.law_kept.specs.Tried.{RetiredBefore, began_to_delete, deletes_of, markers_put}
use Rattle.law_kept.proofs.After.{News, Recorded, absent_stays, appears_fate, kept_after, some_is}
use Rattle.law_kept.proofs.Calm.{holding_stays}
use Rattle.law_kept.proofs.Fates.{NewAt, one_record, under}
use Rattle.law_kept.proofs.Members.{Fenced, known_after, put-snoc, stage-snoc}
use Rattle.law_kept.proofs.PutMarker.{no_commits_of, no_versions_of, put_begins_none, put_forgets_none, put_none, put_unmoving}
use Rattle.law_kept.proofs.PutStored.{clear_names}
use Rattle.law_kept.proofs.Quiet.{forgotten_fate, may_be_absent, still_unforgotten, unmarked_where_absent}
use Rattle.law_kept.proofs.Steps.{come, in_stage, made_act}
use Rattle.law_kept.proofs.Unmoved.{Unmoving, kept_unmoved}
use Rattle.law_kept.proofs.Written.{commit_limits, put_writes, read_single, same_record_name}

abbrev nobody_of : Option Incarnation
nobody_of = None

none_if : (t : Bool) → (if t then nobody_of else nobody_of) ≡ nobody_of
none_if true = refl
none_if false = refl

-- where nothing was claimed, nobody has the claim
unclaimed : (uuid : List ℕ) (history : List DoorEntry) (held : Option Incarnation) → held ≡ None → IsFalse (list_any (λ (e : DoorEntry). is_claim e.act) history) → fold (λ (h : Option Incarnation) (e : DoorEntry). claimant_after uuid h e.act) held history ≡ None
unclaimed uuid [] held none no_claim = none
unclaimed uuid (entry ∷ history) held none no_claim =
    let parts = or_parts (is_claim entry.act) (list_any (λ (e : DoorEntry). is_claim e.act) history) no_claim in
    unclaimed uuid history (claimant_after uuid held entry.act) (one entry.act parts.0) parts.1
  where
    one : (act : DoorAct) → IsFalse (is_claim act) → claimant_after uuid held act ≡ None
    one (Claim claimed node inc) claims_it = absurd (true≢false claims_it)
    one (Release released node inc) other = ap (λ h. if bytes_eq uuid released && is_held_by (incarnation node inc) h then None else h) none ∙ none_if (bytes_eq uuid released && is_held_by (incarnation node inc) None)
    one act other = none

-- what is committed in the first entries is committed in all
committed_whole : (place : ℕ) (history : List DoorEntry) (c : Commit) → In c (committed (take place history)) → In c (committed history)
committed_whole place [] c within = within_none place within
  where
    within_none : (n : ℕ) → In c (committed (take n [])) → ⊥
    within_none zero within = within
    within_none (suc n) within = within
committed_whole zero (entry ∷ history) c within = absurd within
committed_whole (suc place) (entry ∷ history) c within =
    elim (in_append c (committed_by entry) (committed (take place history)) within) [
      | inl here ↦ in_front c (committed_by entry) (committed history) here
      | inr later ↦ in_back c (committed_by entry) (committed history) (committed_whole place history c later)
    ]

module _ (uuid : List ℕ) (its : IsUuid uuid) (history : List DoorEntry) (entry : DoorEntry) (comes : Comes history entry) (before : Kept uuid history)
    (node inc : ℕ) (name bytes : List ℕ) (answer : KeeperAnswer) (is : entry.act ≡ Call node inc (Put name bytes) answer)
    (r : Record) (written : In r (written_in (under name bytes))) (rule : IsTrue (may_put_record history (incarnation node inc) r || may_upgrade history (incarnation node inc) r)) where
  abbrev longer : List DoorEntry
  longer = history ++ entry ∷ []

  abbrev who : Incarnation
  who = incarnation node inc

  abbrev d : Commit
  d = r.commit

  among : In d (records_in (under name bytes))
  among = written_is (under name bytes) r written

  named : name ≡ record_name d.id.uuid
  named = read-name name (λ (c : Commit). record_name c.id.uuid) (commit_of bytes) d among

  made : IsTrue (are_bytes bytes)
  made = (and_parts (are_bytes name) (are_bytes bytes) (and_parts (are_bytes name && are_bytes bytes) _ (subst (λ act. IsTrue (acts_bytes act)) is (made_act history entry comes))).0).1

  limits : IsCommit d
  limits = commit_limits (under name bytes) d made among

  at_name : (n : List ℕ) (o : Option (List ℕ)) → NewAt n entry.act o → (n ≡ name) × (o ≡ Some bytes)
  at_name n o new = put_writes entry.act node inc name bytes answer is n o new

  of_uuid : (o : Option (List ℕ)) → NewAt (record_name uuid) entry.act o → d.id.uuid ≡ uuid
  of_uuid o new = sym (same_record_name uuid d.id.uuid its limits.0.id.uuid ((at_name (record_name uuid) o new).0 ∙ named))

  no_marker : (o : Option (List ℕ)) → NewAt (marker_name uuid) entry.act o → ⊥
  no_marker o new = first_differs 114 99 _ _ refl ((at_name (marker_name uuid) o new).0 ∙ named)

  unforgotten : IsFalse (forgotten uuid history) → IsFalse (forgotten uuid longer)
  unforgotten un = still_unforgotten uuid history entry (put_forgets_none (marker_name uuid) entry.act node inc name bytes answer is) un

  -- ---- by a node, which is clear and has put each version, or by the office, where nothing was claimed and nothing deleted

  pub record ByNode : Type 0 where
    pub at_node : IsFalse (eqb node 0)
    pub held : IsTrue (is_held_by who (claimant d.id.uuid history)) × IsTrue (is_up who history)
    pub names : List (List ℕ)
    pub clear : stage who d.id.uuid history ≡ IsClear names
    pub stored : IsTrue (has_versions d names)

  pub record ByOffice : Type 0 where
    pub by_it : IsTrue (same_incarnation the_office who)
    pub committed_it : In d (committed history)
    pub undeleted : DeletesNothing history
    pub no_claim : IsFalse (list_any (λ (e : DoorEntry). is_claim e.act) history)

  pub putter : ByNode ⊎ ByOffice
  putter =
      let staged = subst (λ act. IsTrue (is_in_stage history act)) is (in_stage history entry comes) in
      let all = (and_parts (list_all (is_clear_to_store history who) (versions_in (under name bytes))) (list_all (λ (c : Commit). is_clear_to_record history who c || is_upgraded_alone history who) (records_in (under name bytes))) staged).1 in
      let one = all_at (λ (c : Commit). is_clear_to_record history who c || is_upgraded_alone history who) d (records_in (under name bytes)) among all in
      elim (or_cases (may_put_record history who r) (may_upgrade history who r) rule) [
        | inl puts ↦ (let first = and_parts (not (eqb node 0) && same_incarnation who (incarnation r.origin.node r.origin.inc) && holds who d.id.uuid history) (knows_stored who d history) puts in
            let second = and_parts (not (eqb node 0) && same_incarnation who (incarnation r.origin.node r.origin.inc)) (holds who d.id.uuid history) first.0 in
            let at = not-true (eqb node 0) (and_parts (not (eqb node 0)) (same_incarnation who (incarnation r.origin.node r.origin.inc)) second.0).0 in
            elim (or_cases (is_clear_to_record history who d) (is_upgraded_alone history who) one) [
              | inl clear ↦ (let found = clear_names (has_versions d) (stage who d.id.uuid history) (and_parts (not (eqb node 0)) (is_clear (has_versions d) (stage who d.id.uuid history)) clear).1 in
                  inl (record { at_node = at; held = held_up who history (claimant d.id.uuid history) second.1; names = found.0; clear = found.1; stored = found.2 }))
              | inr office ↦ absurd (true≢false (sym (ap (λ (i : Incarnation). eqb i.node 0) (sym (same_who the_office who (and_parts (same_incarnation the_office who) (not (list_any (λ (e : DoorEntry). is_claim e.act) history)) office).0))) ∙ at))
            ])
        | inr upgrades ↦ (let first = and_parts (same_incarnation the_office who && eqb r.origin.node 0 && shows_first_format d history) (is_untouched history) upgrades in
            let second = and_parts (same_incarnation the_office who && eqb r.origin.node 0) (shows_first_format d history) first.0 in
            let mine = (and_parts (same_incarnation the_office who) (eqb r.origin.node 0) second.0).0 in
            let touched = not-true (list_any (λ (e : DoorEntry). is_up_act e.act || is_delete e.act) history) (and_parts (is_open history) (not (list_any (λ (e : DoorEntry). is_up_act e.act || is_delete e.act) history)) first.1).1 in
            elim (or_cases (is_clear_to_record history who d) (is_upgraded_alone history who) one) [
              | inl clear ↦ absurd (true≢false (sym (ap (λ (i : Incarnation). eqb i.node 0) (sym (same_who the_office who mine))) ∙ not-true (eqb node 0) (and_parts (not (eqb node 0)) (is_clear (has_versions d) (stage who d.id.uuid history)) clear).0))
              | inr office ↦ inr (record {
                by_it = mine;
                committed_it = shown_is_committed d history second.1;
                undeleted = all_from (λ (e : DoorEntry). not (is_delete e.act)) history (λ e within. (ap not (false_from_ne_true (is_delete e.act) (λ deletes. none_at (λ (x : DoorEntry). is_up_act x.act || is_delete x.act) e history within touched (or_right _ _ deletes)))));
                no_claim = not-true (list_any (λ (e : DoorEntry). is_claim e.act) history) (and_parts (same_incarnation the_office who) (not (list_any (λ (e : DoorEntry). is_claim e.act) history)) office).1;
              })
            ])
      ]

  module _ (of : d.id.uuid ≡ uuid) where
    pub unused_by : (node_puts : ByNode) → Unused uuid who node_puts.names history
    unused_by node_puts =
        subst (Holding uuid who history) (subst (λ u. stage who u history ≡ IsClear node_puts.names) of node_puts.clear)
        (before.holding who (subst (λ u. IsTrue (is_held_by who (claimant u history))) of node_puts.held.0) node_puts.held.1)

    -- a commit of an id of this UUID is marked, where it began to be gone
    marks_by : (id : TxnId) → IsTrue (knows_record_gone id history) ⊎ IsTrue (began_to_delete id history) → id.uuid ≡ uuid → IsTrue (knows_marked uuid history)
    marks_by id (inl knows) its_uuid =
        let found = any_found (λ (c : Commit). same_id id c.id && marked_then (list_any (shows_gone c)) c history) (marked history) knows in
        let its_id = same_ids id found.0.id (and_parts (same_id id found.0.id) (marked_then (list_any (shows_gone found.0)) found.0 history) found.2).0 in
        any_from (has_uuid uuid) found.0 (marked history) found.1 (subst (λ u. IsTrue (bytes_eq uuid u)) (sym (ap (λ (j : TxnId). j.uuid) (sym its_id) ∙ its_uuid)) (bytes_eq-refl uuid))
    marks_by id (inr began) its_uuid =
        let found = any_found (λ (c : Commit). same_id id c.id && marked_then (list_any (deletes_of c)) c history) (marked history) began in
        let its_id = same_ids id found.0.id (and_parts (same_id id found.0.id) (marked_then (list_any (deletes_of found.0)) found.0 history) found.2).0 in
        any_from (has_uuid uuid) found.0 (marked history) found.1 (subst (λ u. IsTrue (bytes_eq uuid u)) (sym (ap (λ (j : TxnId). j.uuid) (sym its_id) ∙ its_uuid)) (bytes_eq-refl uuid))

    by_node : ByNode → Recorded uuid history d
    by_node node_puts = record {
      alone = λ e appears. absurd (none_appears e appears);
      unforgotten = λ gone. true≢false (sym gone ∙ unused.free.unforgotten);
      unshort = λ id tried its_uuid. elim (before.short id tried its_uuid).1 [
        | inl e ↦ unused.uncommitted e.0 (e.1, ap (λ (j : TxnId). j.uuid) e.2 ∙ its_uuid)
        | inr retired ↦ unretired retired
      ];
      unretired = unretired;
      ungone = λ id gone its_uuid. unmarked_where_absent uuid history before unused.free.unforgotten no_mark (marks_by id gone its_uuid);
      stored = λ key within. (let it = any_found (bytes_eq (version_name key d.id)) node_puts.names (all_at (λ k. list_any (bytes_eq (version_name k d.id)) node_puts.names) key d.keys within node_puts.stored) in
          subst (λ n. Stored uuid n history) (sym (same_bytes (version_name key d.id) it.0 it.2)) (unused.stored it.0 it.1));
    }
      where
        unused : Unused uuid who node_puts.names history
        unused = unused_by node_puts

        no_mark : MayBe (marker_name uuid) history None
        no_mark = may_be_absent (marker_name uuid) history before.markers_known.some unused.marker_gone

        none_appears : (e : Commit) → Appears uuid history e → ⊥
        none_appears e (inl committed_e) = unused.uncommitted e committed_e
        none_appears e (inr possible) = subst (λ o. In e (records_at uuid o)) (unused.free.record_gone possible.outcome possible.may) possible.among

        unretired : RetiredBefore uuid history → ⊥
        unretired retired = elim retired.marked_or_forgotten [ inl never ↦ never no_mark | inr gone ↦ true≢false (sym gone ∙ unused.free.unforgotten) ]

    by_office : ByOffice → Recorded uuid history d
    by_office office = record {
      alone = λ e appears. before.one e d appears (inl (office.committed_it, of));
      unforgotten = λ gone. not_gone (before.forgotten_gone gone);
      unshort = λ id tried its_uuid. not_gone (before.short id tried its_uuid).0;
      unretired = λ retired. not_gone retired.record_gone;
      ungone = λ id gone its_uuid. not_gone (before.gone id gone its_uuid);
      stored = λ key within. stored_by (before.records_known.some.0) before.records_known.some.1 key within;
    }
      where
        never : MayBe (record_name uuid) history None → ⊥
        never = before.undeleted d (office.committed_it, of) office.undeleted

        not_gone : OnlyAbsent (record_name uuid) history → ⊥
        not_gone none = never (may_be_absent (record_name uuid) history before.records_known.some none)

        stored_by : (o : Option (List ℕ)) → MayBe (record_name uuid) history o → (key : List ℕ) → In key d.keys → Stored uuid (version_name key d.id) history
        stored_by None may key within = absurd (never may)
        stored_by (Some b) may key within =
            let read = before.records_known.each b may in
            let possible : MayRecord uuid history read.1 = record { outcome = Some b; may = may; among = read.2 } in
            let same : d ≡ read.1 = before.one d read.1 (inl (office.committed_it, of)) (inr possible) in
            subst (λ (c : Commit). Stored uuid (version_name key c.id) history) (sym same) (before.whole read.1 possible key (subst (λ (c : Commit). In key c.keys) same within))

    recorded_it : Recorded uuid history d
    recorded_it = elim putter [ inl node_puts ↦ by_node node_puts | inr office ↦ by_office office ]

  at_uuid : (b : List ℕ) → NewAt (record_name uuid) entry.act (Some b) → In d (records_at uuid (Some b))
  at_uuid b new =
      let it = at_name (record_name uuid) (Some b) new in
      let same : b ≡ bytes = some_is b bytes it.1 in
      filter_in (has_uuid uuid) d (records_in (under (record_name uuid) b))
      (subst (λ x. In d (records_in (under (record_name uuid) x))) (sym same) (subst (λ n. In d (records_in (under n bytes))) (sym it.0) among))
      (subst (λ u. IsTrue (bytes_eq uuid u)) (sym (of_uuid (Some b) new)) (bytes_eq-refl uuid))

  news : News uuid history entry
  news = record {
    record_reads = λ b new. (subst (λ x. IsTrue (are_bytes x)) (sym (some_is b bytes (at_name (record_name uuid) (Some b) new).1)) made, d, at_uuid b new);
    recorded = λ b new c within. subst (Recorded uuid history) (one_record uuid (Some b) d c (at_uuid b new) within) (recorded_it (of_uuid (Some b) new));
    unrecorded = λ new. (let no : None ≡ Some bytes = (at_name (record_name uuid) None new).1 in absurd (cc));
    marker_reads = λ b new. absurd (no_marker (Some b) new);
    unmarked = λ new. absurd (no_marker None new);
    marking = λ m put of. (let within = subst (λ act. In m (markers_put act)) is put in
        absurd (first_differs 114 99 _ _ refl (sym (read-name name (λ (n : Marker). marker_name (id_of_marker n).uuid) (marker_of bytes) m within) ∙ named)));
    forgetting = λ gone. elim (forgotten_fate uuid history entry gone) [ inl was ↦ inl was | inr now ↦ absurd (true≢false (sym now ∙ put_forgets_none (marker_name uuid) entry.act node inc name bytes answer is)) ];
    began = λ id completes of. absurd (put_begins_none history entry node inc name bytes answer is completes.commit completes.now);
    stays = λ c may key within o new. first_differs 118 99 _ _ refl ((at_name (version_name key c.id) o new).0 ∙ named);
  }

  no_versions : versions_of uuid (under name bytes) ≡ []
  no_versions = no_versions_of uuid (under name bytes) (λ v within of. first_differs 118 99 _ _ refl (sym (read-name name (λ (w : Version). version_name w.key w.id) (version_of bytes) v within) ∙ named))

  not_stored : (other : Incarnation) (names : List (List ℕ)) → Unused uuid other names history → (n : List ℕ) → In n names → n ≡ name → ⊥
  not_stored other names unused n within e =
      let stored = unused.stored n within in
      first_differs 118 99 _ _ refl (sym (read-name n (λ (w : Version). version_name w.key w.id) (version_of stored.bytes) stored.version stored.reads) ∙ (e ∙ named))

  -- of another UUID
  of_other : (d.id.uuid ≡ uuid → ⊥) → Kept uuid longer
  of_other other =
      kept_unmoved uuid history entry comes before news (λ b new. other (of_uuid (Some b) new)) (subst (Unmoving uuid) (sym is) (put_unmoving uuid node inc name bytes answer no_versions no_commits))
      (λ w held up holding. holding_stays uuid history entry comes before news (λ b new. other (of_uuid (Some b) new)) w unforgotten (λ b new. no_marker (Some b) new)
      (λ id was. subst (λ cs. IsTrue (has_id id cs)) (sym (put-snoc w uuid history entry ∙ (ap (λ act. put_after w uuid (put_under_claim w uuid history) act) is ∙ put_none w uuid (put_under_claim w uuid history) node inc name bytes answer no_commits))) was)
      (λ names unused n within o new. not_stored w names unused n within (at_name n o new).0) (stage w uuid history) holding)
    where
      no_commits : commits_of uuid (under name bytes) ≡ []
      no_commits = no_commits_of uuid (under name bytes) (λ c within of. other (subst (λ (x : Commit). x.id.uuid ≡ uuid) (read-one name (λ (x : Commit). record_name x.id.uuid) (commit_of bytes) c d within among) of))

  -- of this UUID
  module _ (of : d.id.uuid ≡ uuid) where
    claim_same : claimant uuid longer ≡ claimant uuid history
    claim_same = claimant-snoc uuid history entry ∙ ap (λ act. claimant_after uuid (claimant uuid history) act) is

    one_commit : commits_of uuid (under name bytes) ≡ d ∷ []
    one_commit =
        ap (filter (has_uuid uuid)) (read_single name (λ (c : Commit). record_name c.id.uuid) (commit_of bytes) d among)
        ∙ ap (λ t. if t then d ∷ [] else []) (subst (λ u. bytes_eq uuid u ≡ true) (sym of) (bytes_eq-refl uuid))

    nobody : ByOffice → (w : Incarnation) → IsTrue (is_held_by w (claimant uuid longer)) → ⊥
    nobody office w held = false≢true (subst (λ h. IsTrue (is_held_by w h)) (claim_same ∙ unclaimed uuid history None refl office.no_claim) held)

    -- the node that puts it
    module _ (node_puts : ByNode) where
      held_it : IsTrue (is_held_by who (claimant uuid history))
      held_it = subst (λ u. IsTrue (is_held_by who (claimant u history))) of node_puts.held.0

      mine : (w : Incarnation) → IsTrue (is_held_by w (claimant uuid longer)) → w ≡ who
      mine w held = held_same w who (claimant uuid history) (subst (λ h. IsTrue (is_held_by w h)) claim_same held) held_it

      put_is : put_under_claim who uuid longer ≡ put_under_claim who uuid history ++ d ∷ []
      put_is =
          put-snoc who uuid history entry ∙ (ap (λ act. put_after who uuid (put_under_claim who uuid history) act) is
          ∙ (ap (λ t. if t then put_under_claim who uuid history ++ commits_of uuid (under name bytes) else put_under_claim who uuid history) (same_itself who) ∙ ap (λ cs. put_under_claim who uuid history ++ cs) one_commit))

      put_now : IsTrue (has_id d.id (put_under_claim who uuid longer))
      put_now = subst (λ cs. IsTrue (has_id d.id cs)) (sym put_is) (any_from (λ (c : Commit). same_id d.id c.id) d (put_under_claim who uuid history ++ d ∷ []) (in_back d (put_under_claim who uuid history) (d ∷ []) (inl refl)) (same_id-refl d.id))

      unused : Unused uuid who node_puts.names history
      unused = unused_by of node_puts

      grown : (place : ℕ) (c : Commit) → In c (committed (take place history)) → In c (committed history)
      grown place c within = committed_whole place history c within

      put_before : PutBefore uuid who d.id longer
      put_before place within c committed_c = elim (cases_lt (length history) place) [
        | inl beyond ↦ (let whole : take place longer ≡ longer = take_all place longer (omega (arith, length-append history (entry ∷ []))) in
            subst (λ h. IsTrue (has_id d.id (put_under_claim who uuid h))) (sym whole) put_now)
        | inr inside ↦ (let same : take place longer ≡ take place history = take-append-le place history (entry ∷ []) inside in
            let was = subst (λ h. CommittedOf uuid h c) same committed_c in absurd (unused.uncommitted c (grown place c was.0, was.1)))
      ]

      recording : Recording uuid who d longer
      recording = record {
        unforgotten = unforgotten unused.free.unforgotten;
        of_node = node_puts.at_node;
        marker_gone = absent_stays uuid history entry comes before (marker_name uuid) before.markers_known.some unused.marker_gone (λ b new. no_marker (Some b) new);
        alone = λ c appears. elim (appears_fate uuid history entry comes before news c appears) [ inl was ↦ (recorded_it of).alone c was | inr new ↦ one_record uuid (Some new.0) c d new.2 (at_uuid new.0 new.1) ];
        put = put_now;
        put_before = put_before;
      }

      after_stage : stage who uuid longer ≡ HasPut d
      after_stage =
          stage-snoc who uuid history entry ∙ (ap (λ act. stage_after who uuid (stage who uuid history) act) is
          ∙ (ap (λ t. if t then has_put_pair uuid (under name bytes) answer (stage who uuid history) else stage who uuid history) (same_itself who)
          ∙ (ap (λ cs. fold (λ (t : Stage) (c : Commit). has_put_record c t) (fold (λ (t : Stage) (v : Version). has_stored_version name answer t) (stage who uuid history) (versions_of uuid (under name bytes))) cs) one_commit
          ∙ (ap (λ vs. has_put_record d (fold (λ (t : Stage) (v : Version). has_stored_version name answer t) (stage who uuid history) vs)) no_versions
          ∙ ap (has_put_record d) (subst (λ u. stage who u history ≡ IsClear node_puts.names) of node_puts.clear)))))

      office_not : IsTrue (is_held_by the_office (claimant uuid longer)) → ⊥
      office_not held = true≢false (ap (λ (i : Incarnation). eqb i.node 0) (mine the_office held) ∙ node_puts.at_node)

    claimed_of : (w : Incarnation) → IsTrue (is_held_by w (claimant uuid longer)) → IsTrue (is_up w longer) ⊎ Fenced w longer
    claimed_of w held = known_after w history (before.claimed w (subst (λ h. IsTrue (is_held_by w h)) claim_same held)) entry (come history entry comes)

    of_this : Kept uuid longer
    of_this = elim putter [
      | inl node_puts ↦ kept_after uuid history entry comes before news claimed_of
          (λ w held up. subst (λ (i : Incarnation). Holding uuid i longer (stage i uuid longer)) (sym (mine node_puts w held)) (subst (Holding uuid who longer) (sym (after_stage node_puts)) (recording node_puts)))
          (λ id its_uuid held. absurd (office_not node_puts held))
      | inr office ↦ kept_after uuid history entry comes before news claimed_of (λ w held up. absurd (nobody office w held)) (λ id its_uuid held. absurd (nobody office the_office held))
    ]

  pub kept_behind_record : Kept uuid longer
  kept_behind_record = elim (cases_Bool (bytes_eq uuid d.id.uuid)) [
    | inl same ↦ of_this (sym (same_bytes uuid d.id.uuid same))
    | inr differs ↦ of_other (λ of. true≢false (sym (subst (λ u. bytes_eq uuid u ≡ true) (sym of) (bytes_eq-refl uuid)) ∙ differs))
  ]
