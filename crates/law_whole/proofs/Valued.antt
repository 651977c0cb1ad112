-- The values of a UUID's versions at the open door: of what a clear holder has put, and of each commit that appears.
use Rattle.std.proofs.Common.{◌≡◌, ℕ, true, ◌&&◌, ◌||◌, not, List, [], ◌∷◌, ◌++◌, refl, sym, ap, subst, ◌∙◌, ◌⊎◌, inl, inr, eqb}
use Rattle.std.specs.Prelude.{IsTrue, Option, Some, None, if◌then◌else◌}
use Rattle.std.specs.List.{list_all, list_any}
use Rattle.std.specs.Str.{bytes_eq}
use Rattle.std.proofs.lemmas.Bool.{and_parts, false≢true, or_cases}
use Rattle.aft_id.specs.declared.txn_id.TxnId.{TxnId}
use Rattle.aft_id.specs.TxnId.{IsUuid}
use Rattle.aft_keeper.specs.declared.keeper.KeeperAnswer.{KeeperAnswer}
use Rattle.aft_keeper.specs.declared.keeper.KeeperAnswer.TheVariants.{Done}
use Rattle.aft_keeper.specs.declared.keeper.KeeperCall.TheVariants.{Put}
use Rattle.aft_keeper.specs.declared.keeper.Pair.{Pair}
use Rattle.aft_records.specs.declared.stored.Commit.{Commit}
use Rattle.aft_records.specs.declared.stored.Marker.{Marker}
use Rattle.aft_records.specs.declared.stored.Record.{Record}
use Rattle.aft_records.specs.declared.stored.Version.{Version}
use Rattle.aft_records.specs.Commits.{same_commit}
use Rattle.aft_records.specs.Reading.{commit_of, marker_of, version_of}
use Rattle.aft_records.specs.Stored.{IsCommit, IsVersion}
use Rattle.aft_model.specs.declared.door.DoorAct.{DoorAct}
use Rattle.aft_model.specs.declared.door.DoorAct.TheVariants.{Call}
use Rattle.aft_model.specs.declared.door.DoorEntry.{DoorEntry}
use Rattle.aft_model.specs.Bytes.{acts_bytes, are_bytes}
use Rattle.aft_model.specs.Claims.{claimant, holds, is_held_by}
use Rattle.aft_model.specs.Committed.{committed}
use Rattle.aft_model.specs.DoorKnowledge.{knows_unused}
use Rattle.aft_model.specs.DoorRules.{may_put, may_put_marker, may_put_record, may_put_version, may_upgrade}
use Rattle.aft_model.specs.Evidence.{pairs_by, pairs_in, stored_in, stored_pairs}
use Rattle.aft_model.specs.LegalDoor.{may_come}
use Rattle.aft_model.specs.MayHold.{MayHold, OneOf, may_hold, or_else}
use Rattle.aft_model.specs.Membership.{Incarnation, incarnation, is_up}
use Rattle.aft_model.specs.Readings.{id_of_marker, marker_name, markers_in, record_name, version_name, versions_in, written_in}
use Rattle.aft_model.specs.Stages.{HasClaimed, IsClear, has_versions, is_acknowledged, is_clear, is_clear_to_store, is_in_stage, stage, stage_after}
use Rattle.aft_model.proofs.Formats.{written_is}
use Rattle.aft_model.proofs.Histories.{In, all_at, any_found, any_from, in_append}
use Rattle.aft_model.proofs.OneCommit.{claimant-snoc}
use Rattle.aft_model.proofs.Sights.{bytes_eq-refl, read-name, read-one, same_bytes}
use Rattle.aft_model.proofs.Turns.{held_up}
use Rattle.aft_lines.specs.Headline.{value_of}
use Rattle.law_effects.specs.Effects.{Effect, Leaves, Shows, Tries, Writes, after_effect, effect_of, proven_by}
use Rattle.law_effects.proofs.Follows.{follows}
use Rattle.law_effects.proofs.Pairs.{act_pair}
use Rattle.law_names.proofs.Differ.{first_differs, versions}
use Rattle.law_names.proofs.Proven.{committed_limits}
use Rattle.law_kept.specs.Kept.{Comes, Holding, Kept, Unused}
use Rattle.law_kept.specs.Outcomes.{Appears, MayBe, Stored, records_at}
use Rattle.law_kept.proofs.After.{Doing, ItLeaves, ItShows, ItTries, ItWrites, doing}
use Rattle.law_kept.proofs.Always.{kept_behind_each}
use Rattle.law_kept.proofs.Fates.{NewAt, NewBy, committed_fate, fate, leaves_one, record_of_uuid, record_read, shown_before, under}
use Rattle.law_kept.proofs.Members.{stage-snoc, was_up}
use Rattle.law_kept.proofs.PutMarker.{same_commit_itself}
use Rattle.law_kept.proofs.PutRecord.{putter}
use Rattle.law_kept.proofs.PutStored.{clear_names}
use Rattle.law_kept.proofs.Steps.{answered, come, in_stage, made_act, made_before, new_name, new_put, new_same}
use Rattle.law_kept.proofs.Written.{commit_limits, key_of_commit, possible_limits, version_limits}
use Rattle.law_whole.proofs.Clear.{ClearBy, Now, Was, clear_by, held_before}
use Rattle.law_whole.proofs.Told.{Told, told_now, told_stays, value_same}

-- a name is that of a version, and that is told
pub record ToldAt (name : List ℕ) (history : List DoorEntry) : Type 0 where
  pub version : Version
  pub limits : IsVersion version
  pub named : name ≡ version_name version.key version.id
  pub told : Told version.key version.id history

-- what stays true of the values of a UUID's versions
pub record Valued (uuid : List ℕ) (history : List DoorEntry) : Type 0 where
  pub clear : (who : Incarnation) → IsTrue (is_held_by who (claimant uuid history)) → IsTrue (is_up who history) → (names : List (List ℕ)) → stage who uuid history ≡ IsClear names → (name : List ℕ) → In name names → ToldAt name history
  pub each : (c : Commit) → Appears uuid history c → (key : List ℕ) → In key c.keys → Told key c.id history

-- ---- effects

none_bytes : (bytes : List ℕ) → None ≡ Some bytes → ⊥
none_bytes bytes e = cc

-- an act that leaves a name alone, or shows it, writes nothing there
new_is_none : (effect : Effect) (bytes : List ℕ) → (effect ≡ Leaves) ⊎ ((o : Option (List ℕ)) × (effect ≡ Shows o)) → NewBy effect (Some bytes) → ⊥
new_is_none effect bytes (inl leaves) (inl new) = (let no : Leaves ≡ Writes (Some bytes) = sym leaves ∙ new in absurd (cc))
new_is_none effect bytes (inl leaves) (inr new) = (let no : Leaves ≡ Tries (Some bytes) = sym leaves ∙ new in absurd (cc))
new_is_none effect bytes (inr shows) (inl new) = (let no : Shows shows.0 ≡ Writes (Some bytes) = sym shows.1 ∙ new in absurd (cc))
new_is_none effect bytes (inr shows) (inr new) = (let no : Shows shows.0 ≡ Tries (Some bytes) = sym shows.1 ∙ new in absurd (cc))

done_effect : (name bytes : List ℕ) (answer : KeeperAnswer) (node inc : ℕ) → IsTrue (is_acknowledged answer) → effect_of name (Call node inc (Put name bytes) answer) ≡ Writes (Some bytes)
done_effect name bytes Done node inc done = ap (λ t. if t then Writes (Some bytes) else Leaves) (bytes_eq-refl name)
done_effect name bytes answer node inc done = absurd (false≢true done)

put_shows_none : (name bytes : List ℕ) (answer : KeeperAnswer) (pair : Pair) → In pair (pairs_by (Put name bytes) answer) → ⊥
put_shows_none name bytes answer pair among = among

-- what an act writes it has stored
written_stored : (name bytes : List ℕ) (act : DoorAct) → effect_of name act ≡ Writes (Some bytes) → In (under name bytes) (stored_in act)
written_stored name bytes act writes =
    let put = new_put name act bytes (inl writes) in
    elim (in_append (under name bytes) (stored_in act) (pairs_in act) (act_pair name bytes act (ap proven_by writes))) [
      | inl stored ↦ stored
      | inr shown ↦ absurd (put_shows_none name bytes put.2 (under name bytes) (subst (λ a. In (under name bytes) (pairs_in a)) put.3 shown))
    ]

module _ (uuid : List ℕ) (its : IsUuid uuid) (history : List DoorEntry) (entry : DoorEntry) (comes : Comes history entry) (kept : Kept uuid history) (valued : Valued uuid history) where
  abbrev longer : List DoorEntry
  longer = history ++ entry ∷ []

  limits_of : (c : Commit) → Appears uuid history c → IsCommit c
  limits_of c (inl of) = committed_limits c history (made_before history entry comes) (any_from (same_commit c) c (committed history) of.0 (same_commit_itself c))
  limits_of c (inr may) = possible_limits uuid history kept c may

  its_uuid_is : (c : Commit) → Appears uuid history c → c.id.uuid ≡ uuid
  its_uuid_is c (inl of) = of.1
  its_uuid_is c (inr may) = record_of_uuid uuid may.outcome c may.among

  -- ---- what a put under a version's name is

  module _ (node inc : ℕ) (name bytes : List ℕ) (answer : KeeperAnswer) (is : entry.act ≡ Call node inc (Put name bytes) answer) where
    abbrev putting : Incarnation
    putting = incarnation node inc

    made : IsTrue (are_bytes bytes)
    made = (and_parts (are_bytes name) (are_bytes bytes) (and_parts (are_bytes name && are_bytes bytes) _ (subst (λ act. IsTrue (acts_bytes act)) is (made_act history entry comes))).0).1

    may : IsTrue (may_put history putting (under name bytes))
    may = (and_parts (is_up putting history) (may_put history putting (under name bytes)) (subst (λ act. IsTrue (may_come history act)) is (come history entry comes))).1

    -- it puts a version, whose UUID is clear
    record PutsVersion : Type 0 where
      version : Version
      among : In version (versions_in (under name bytes))
      rule : IsTrue (may_put_version history putting version)

    puts_version : (key : List ℕ) (id : TxnId) → name ≡ version_name key id → PutsVersion
    puts_version key id named =
        elim (or_cases (list_any (may_put_version history putting) (versions_in (under name bytes)) || list_any (λ r. may_put_record history putting r || may_upgrade history putting r) (written_in (under name bytes))) (list_any (may_put_marker history putting) (markers_in (under name bytes))) may) [
          | inl stored ↦ elim (or_cases (list_any (may_put_version history putting) (versions_in (under name bytes))) (list_any (λ r. may_put_record history putting r || may_upgrade history putting r) (written_in (under name bytes))) stored) [
            | inl version ↦ (let v = any_found (may_put_version history putting) (versions_in (under name bytes)) version in record { version = v.0; among = v.1; rule = v.2 })
            | inr record_put ↦ (let r = any_found (λ r. may_put_record history putting r || may_upgrade history putting r) (written_in (under name bytes)) record_put in
                absurd (first_differs 99 118 _ _ refl (sym (read-name name (λ (d : Commit). record_name d.id.uuid) (commit_of bytes) r.0.commit (written_is (under name bytes) r.0 r.1)) ∙ named)))
          ]
          | inr marker ↦ (let m = any_found (may_put_marker history putting) (markers_in (under name bytes)) marker in
              absurd (first_differs 114 118 _ _ refl (sym (read-name name (λ (n : Marker). marker_name (id_of_marker n).uuid) (marker_of bytes) m.0 m.1) ∙ named)))
        ]

    module _ (puts : PutsVersion) (of : puts.version.id.uuid ≡ uuid) where
      clear_putter : (names : List (List ℕ)) × Unused uuid putting names history
      clear_putter =
          let staged = subst (λ act. IsTrue (is_in_stage history act)) is (in_stage history entry comes) in
          let it = all_at (is_clear_to_store history putting) puts.version (versions_in (under name bytes)) puts.among (and_parts (list_all (is_clear_to_store history putting) (versions_in (under name bytes))) _ staged).0 in
          let parts = and_parts (not (eqb node 0)) (is_clear (λ names. true) (stage putting puts.version.id.uuid history)) it in
          let found = clear_names (λ names. true) (stage putting uuid history) (subst (λ u. IsTrue (is_clear (λ names. true) (stage putting u history))) of parts.1) in
          let held = held_up putting history (claimant uuid history) (subst (λ u. IsTrue (holds putting u history)) of (and_parts (holds putting puts.version.id.uuid history) (knows_unused putting puts.version.id.uuid history) puts.rule).0) in
          (found.0, subst (Holding uuid putting history) found.1 (kept.holding putting held.0 held.1))

      nothing_appears : (c : Commit) → Appears uuid history c → ⊥
      nothing_appears c (inl committed_it) = clear_putter.1.uncommitted c committed_it
      nothing_appears c (inr possible_it) = subst (λ p. In c (records_at uuid p)) (clear_putter.1.free.record_gone possible_it.outcome possible_it.may) possible_it.among

  -- ---- a commit that appears stays told

  unput : (c : Commit) → Appears uuid history c → (key : List ℕ) → In key c.keys → (bytes : List ℕ) → NewAt (version_name key c.id) entry.act (Some bytes) → ⊥
  unput c appears key among bytes new =
      let put = new_put (version_name key c.id) entry.act bytes new in
      let puts = puts_version put.0 put.1 (version_name key c.id) bytes put.2 put.3 key c.id refl in
      let limits = limits_of c appears in
      let its_limits = version_limits (under (version_name key c.id) bytes) puts.version (made put.0 put.1 (version_name key c.id) bytes put.2 put.3) puts.among in
      let same = versions key puts.version.key c.id puts.version.id (key_of_commit c limits key among) its_limits.0.key limits.0.id its_limits.0.id (read-name (version_name key c.id) (λ (w : Version). version_name w.key w.id) (version_of bytes) puts.version puts.among) in
      nothing_appears put.0 put.1 (version_name key c.id) bytes put.2 put.3 puts (ap (λ (i : TxnId). i.uuid) (sym same.1) ∙ its_uuid_is c appears) c appears

  pub stays_told : (c : Commit) → Appears uuid history c → (key : List ℕ) → In key c.keys → Told key c.id longer
  stays_told c appears key among = told_stays key c.id history entry comes.honest (answered history entry comes) (valued.each c appears key among) (unput c appears key among)

  pub stays_same : (c : Commit) → Appears uuid history c → (key : List ℕ) → In key c.keys → value_of key c.id longer ≡ value_of key c.id history
  stays_same c appears key among = value_same key c.id history entry comes.honest (answered history entry comes) (valued.each c appears key among) (unput c appears key among)

  -- ---- what a clear holder has put is told

  module _ (who : Incarnation) (held : IsTrue (is_held_by who (claimant uuid longer))) (up : IsTrue (is_up who longer)) (names : List (List ℕ)) (clear : stage who uuid longer ≡ IsClear names) (name : List ℕ) (among : In name names) where
    staged : stage_after who uuid (stage who uuid history) entry.act ≡ IsClear names
    staged = sym (stage-snoc who uuid history entry) ∙ clear

    held_it : IsTrue (is_held_by who (claimant uuid history))
    held_it = elim (held_before uuid who (claimant uuid history) (stage who uuid history) entry.act (subst (λ h. IsTrue (is_held_by who h)) (claimant-snoc uuid history entry) held)) [
      | inl was ↦ was
      | inr claimed ↦ (let no : HasClaimed ≡ IsClear names = sym claimed ∙ staged in absurd (cc))
    ]

    up_it : IsTrue (is_up who history)
    up_it = was_up who history (kept.claimed who held_it) entry (come history entry comes) up

    -- what it holds behind the entry
    stored : Stored uuid name longer
    stored = let unused : Unused uuid who names longer = subst (Holding uuid who longer) clear ((kept_behind_each uuid its history entry comes kept).holding who held up) in unused.stored name among

    some_is : (a b : List ℕ) → OneOf (Some a ∷ []) ≡ OneOf (Some b ∷ []) → a ≡ b
    some_is a b e = cc

    -- where the entry writes it, it is told anew
    written : (bytes : List ℕ) → effect_of name entry.act ≡ Writes (Some bytes) → ToldAt name longer
    written bytes writes =
        let same : stored.bytes ≡ bytes = some_is stored.bytes bytes (sym stored.only ∙ leaves_one history entry name (Some bytes) (inr writes)) in
        let reads : In stored.version (versions_in (under name bytes)) = subst (λ b. In stored.version (versions_in (under name b))) same stored.reads in
        let named : name ≡ version_name stored.version.key stored.version.id = read-name name (λ (w : Version). version_name w.key w.id) (version_of bytes) stored.version reads in
        record {
          version = stored.version;
          limits = version_limits (under name stored.bytes) stored.version stored.made stored.reads;
          named = named;
          told = told_now stored.version.key stored.version.id history entry comes.honest (answered history entry comes) stored.version bytes refl refl
              (subst (λ n. In stored.version (versions_in (under n bytes))) named reads) (subst (λ n. In (under n bytes) (stored_pairs entry)) named (written_stored name bytes entry.act writes)) (subst (λ n. effect_of n entry.act ≡ Writes (Some bytes)) named writes);
        }

    -- where it was told before, it stays so, or is told anew
    module _ (others : List (List ℕ)) (clear_before : stage who uuid history ≡ IsClear others) (in_it : In name others) where
      told : ToldAt name history
      told = valued.clear who held_it up_it others clear_before name in_it

      stored_before : Stored uuid name history
      stored_before = let unused : Unused uuid who others history = subst (Holding uuid who history) clear_before (kept.holding who held_it up_it) in unused.stored name in_it

      keep : ((bytes : List ℕ) → NewAt name entry.act (Some bytes) → ⊥) → ToldAt name longer
      keep none = record {
        version = told.version;
        limits = told.limits;
        named = told.named;
        told = told_stays told.version.key told.version.id history entry comes.honest (answered history entry comes) told.told (λ bytes new. none bytes (subst (λ n. NewAt n entry.act (Some bytes)) (sym told.named) new));
      }

      two : (a b c : List ℕ) → OneOf (Some a ∷ Some b ∷ []) ≡ OneOf (Some c ∷ []) → ⊥
      two a b c e = cc

      tried : (bytes : List ℕ) → effect_of name entry.act ≡ Tries (Some bytes) → ⊥
      tried bytes is =
          two stored_before.bytes bytes stored.bytes
          (sym (follows name history entry ∙ (ap (λ e. after_effect e (may_hold name history)) is ∙ ap (λ (m : MayHold). or_else m (Some bytes)) stored_before.only)) ∙ stored.only)

      pub was_told : ToldAt name longer
      was_told = by_effect (doing (effect_of name entry.act))
        where
          by_effect : Doing (effect_of name entry.act) → ToldAt name longer
          by_effect (ItLeaves is) = keep (λ bytes new. new_is_none (effect_of name entry.act) bytes (inl is) new)
          by_effect (ItShows o is) = keep (λ bytes new. new_is_none (effect_of name entry.act) bytes (inr (o, is)) new)
          by_effect (ItWrites None is) = keep (λ bytes new. none_bytes bytes (new_same name (effect_of name entry.act) None (Some bytes) (inl is) new))
          by_effect (ItWrites (Some bytes) is) = written bytes is
          by_effect (ItTries None is) = keep (λ bytes new. none_bytes bytes (new_same name (effect_of name entry.act) None (Some bytes) (inr is) new))
          by_effect (ItTries (Some bytes) is) = absurd (tried bytes is)

    pub clear_told : ToldAt name longer
    clear_told = by_stage (clear_by uuid (stage who uuid history) names name among who entry.act staged)
      where
        by_stage : ClearBy (stage who uuid history) entry.act name → ToldAt name longer
        by_stage (Was others was in_it) = was_told others was in_it
        by_stage (Now node inc bytes answer is done) = written bytes (ap (λ act. effect_of name act) is ∙ done_effect name bytes answer node inc done)

  -- ---- a commit that appears anew is told

  module _ (c : Commit) (key : List ℕ) (among : In key c.keys) where
    module _ (bytes : List ℕ) (new : NewAt (record_name uuid) entry.act (Some bytes)) (reads : In c (records_at uuid (Some bytes))) where
      abbrev the_record : List ℕ
      the_record = record_name uuid

      put : (node : ℕ) × (inc : ℕ) × (answer : KeeperAnswer) × (entry.act ≡ Call node inc (Put the_record bytes) answer)
      put = new_put the_record entry.act bytes new

      abbrev putter_is : Incarnation
      putter_is = incarnation put.0 put.1

      of : c.id.uuid ≡ uuid
      of = record_of_uuid uuid (Some bytes) c reads

      record PutsRecord : Type 0 where
        whole : Record
        written : In whole (written_in (under the_record bytes))
        rule : IsTrue (may_put_record history putter_is whole || may_upgrade history putter_is whole)

      puts_record : PutsRecord
      puts_record =
          let pair : Pair = under the_record bytes in
          elim (or_cases (list_any (may_put_version history putter_is) (versions_in pair) || list_any (λ r. may_put_record history putter_is r || may_upgrade history putter_is r) (written_in pair)) (list_any (may_put_marker history putter_is) (markers_in pair)) (may put.0 put.1 the_record bytes put.2 put.3)) [
            | inl stored ↦ elim (or_cases (list_any (may_put_version history putter_is) (versions_in pair)) (list_any (λ r. may_put_record history putter_is r || may_upgrade history putter_is r) (written_in pair)) stored) [
              | inl version ↦ (let v = any_found (may_put_version history putter_is) (versions_in pair) version in
                  absurd (first_differs 118 99 _ _ refl (sym (read-name the_record (λ (w : Version). version_name w.key w.id) (version_of bytes) v.0 v.1))))
              | inr record_put ↦ (let r = any_found (λ r. may_put_record history putter_is r || may_upgrade history putter_is r) (written_in pair) record_put in record { whole = r.0; written = r.1; rule = r.2 })
            ]
            | inr marker ↦ (let m = any_found (may_put_marker history putter_is) (markers_in pair) marker in
                absurd (first_differs 114 99 _ _ refl (sym (read-name the_record (λ (n : Marker). marker_name (id_of_marker n).uuid) (marker_of bytes) m.0 m.1))))
          ]

      same : puts_record.whole.commit ≡ c
      same = read-one the_record (λ (d : Commit). record_name d.id.uuid) (commit_of bytes) puts_record.whole.commit c (written_is (under the_record bytes) puts_record.whole puts_record.written) (record_read uuid bytes c reads)

      -- the names that the stage has are told, each version's among them
      by_names : (names : List (List ℕ)) → IsTrue (is_held_by putter_is (claimant uuid history)) → IsTrue (is_up putter_is history) → stage putter_is uuid history ≡ IsClear names → IsTrue (has_versions c names) → Told key c.id history
      by_names names held up clear has =
          let it = any_found (bytes_eq (version_name key c.id)) names (all_at (λ k. list_any (bytes_eq (version_name k c.id)) names) key c.keys among has) in
          let told = valued.clear putter_is held up names clear it.0 it.1 in
          let limits = commit_limits (under the_record bytes) c (made put.0 put.1 the_record bytes put.2 put.3) (record_read uuid bytes c reads) in
          let is = versions key told.version.key c.id told.version.id (key_of_commit c limits key among) told.limits.0.key limits.0.id told.limits.0.id (same_bytes (version_name key c.id) it.0 it.2 ∙ told.named) in
          subst (λ k. Told k c.id history) (sym is.0) (subst (λ i. Told told.version.key i history) (sym is.1) told.told)

      pub put_told : Told key c.id longer
      put_told = elim (putter uuid its history entry comes kept put.0 put.1 the_record bytes put.2 put.3 puts_record.whole puts_record.written puts_record.rule) [
        | inl node_puts ↦ (
            let held = subst (λ (d : Commit). IsTrue (is_held_by putter_is (claimant d.id.uuid history))) same node_puts.held.0 in
            let clear = subst (λ (d : Commit). stage putter_is d.id.uuid history ≡ IsClear node_puts.names) same node_puts.clear in
            let has = subst (λ (d : Commit). IsTrue (has_versions d node_puts.names)) same node_puts.stored in
            told_stays key c.id history entry comes.honest (answered history entry comes)
            (by_names node_puts.names (subst (λ u. IsTrue (is_held_by putter_is (claimant u history))) of held) node_puts.held.1 (subst (λ u. stage putter_is u history ≡ IsClear node_puts.names) of clear) has)
            (λ b other. first_differs 99 118 _ _ refl (new_name the_record (version_name key c.id) entry.act (Some bytes) (Some b) new other)))
        | inr office ↦ stays_told c (inl (subst (λ (d : Commit). In d (committed history)) same office.committed_it, of)) key among
      ]

    from_may : (o : Option (List ℕ)) → MayBe (record_name uuid) longer o → In c (records_at uuid o) → Told key c.id longer
    from_may None there reads = absurd reads
    from_may (Some bytes) there reads = elim (fate history entry (record_name uuid) comes.honest kept.records_known.some (Some bytes) there) [
      | inl was ↦ stays_told c (inr (record { outcome = Some bytes; may = was; among = reads })) key among
      | inr new ↦ put_told bytes new reads
    ]

    pub each_told : Appears uuid longer c → Told key c.id longer
    each_told (inr possible_it) = from_may possible_it.outcome possible_it.may possible_it.among
    each_told (inl of) = elim (committed_fate uuid history entry (answered history entry comes) c of) [
      | inl before ↦ stays_told c (inl before) key among
      | inr by_it ↦ elim by_it.leaves [
        | inl shows ↦ stays_told c (inr (record { outcome = Some by_it.bytes; may = shown_before history entry (record_name uuid) comes.honest kept.records_known.some (Some by_it.bytes) shows; among = by_it.among })) key among
        | inr writes ↦ put_told by_it.bytes (inl writes) by_it.among
      ]
    ]

  pub valued_next : Valued uuid longer
  valued_next = record { clear = λ who held up names clear name among. clear_told who held up names clear name among; each = λ c appears key among. each_told c key among appears }
