-- What a line was told grows with each turn.
use Rattle.std.proofs.Common.{◌≡◌, ℕ, suc, Bool, true, false, ◌||◌, ◌&&◌, not, List, [], ◌∷◌, ◌++◌, take, refl, sym, ap, subst, ◌∙◌, ◌⊎◌, inl, inr}
use Rattle.std.specs.Prelude.{IsTrue, None, Result, Some, filter, if◌then◌else◌, map}
use Rattle.std.specs.List.{flat_map, list_all, list_any, slice_get}
use Rattle.std.specs.Str.{bytes_eq}
use Rattle.std.proofs.lemmas.Bool.{and_from, false≢true, or_cases, or_left, or_right, true≢false}
use Rattle.std.proofs.lemmas.List.Concat.{flat_map-append}
use Rattle.std.proofs.lemmas.List.Folds.{list_all-append, list_any-append}
use Rattle.aft_keeper.specs.declared.keeper.KeeperAnswer.TheVariants as answers
use Rattle.aft_keeper.specs.declared.keeper.KeeperCall.TheVariants as calls
use Rattle.aft_keeper.specs.declared.keeper.Pair.{Pair}
use Rattle.aft_records.specs.declared.fault.RecordFault.{RecordFault}
use Rattle.aft_records.specs.declared.stored.Commit.{Commit}
use Rattle.aft_records.specs.declared.stored.Record.{Record}
use Rattle.aft_records.specs.declared.stored.Version.{Version}
use Rattle.aft_records.specs.Commits.{is_among, same_commit}
use Rattle.aft_records.specs.Reading.{commit_of, marker_of, version_of}
use Rattle.aft_records.specs.Rows.{record_row}
use Rattle.aft_records.specs.Stored.{IsRecord, IsVersion}
use Rattle.aft_records.proofs.Written.{commit_of_record_written, timely_is}
use Rattle.aft_id.specs.TxnId.{IsUuid}
use Rattle.aft_id.specs.declared.txn_id.TxnId.{TxnId}
use Rattle.aft_model.specs.declared.caller.Attempt.{Attempt}
use Rattle.aft_model.specs.declared.caller.By.{By}
use Rattle.aft_model.specs.declared.caller.Hold.{Hold}
use Rattle.aft_model.specs.declared.door.DoorAct.{DoorAct}
use Rattle.aft_model.specs.declared.door.DoorAct.TheVariants as doors
use Rattle.aft_model.specs.declared.door.DoorEntry.{DoorEntry}
use Rattle.aft_model.specs.declared.node.NodeEntry.{NodeEntry}
use Rattle.aft_model.specs.Attempts.{AttemptState, IsCommitting, IsLeaving}
use Rattle.aft_model.specs.Committed.{committed_by}
use Rattle.aft_model.specs.DoorKnowledge.{stores_version}
use Rattle.aft_model.specs.Evidence.{is_absence, pairs_in, shows_absent}
use Rattle.aft_model.specs.History.{first_of, followed}
use Rattle.aft_model.specs.NodeSights.{is_stored_by, may_abort}
use Rattle.aft_model.specs.Opening.{is_failure}
use Rattle.aft_model.specs.Readings.{has_reading, read_under, record_name, records_in}
use Rattle.aft_model.proofs.Growth.{all_implied, any_grows, any_implied}
use Rattle.aft_model.proofs.OneCommit.{same_itself as caller_itself}
use Rattle.aft_model.proofs.Sights.{bytes_eq-refl, no_marker, no_version, same_bytes}
use Rattle.aft_lines.specs.CausesCommits.{fails_both, fails_get, fails_put}
use Rattle.aft_lines.specs.CausesScans.{damage_in, is_damage, is_of_another, is_written_name}
use Rattle.aft_lines.specs.CourseWords.{caller_of, finds_record}
use Rattle.aft_lines.specs.LineView.{door_entry_in}
use Rattle.aft_lines.specs.Turns.{AtDoor, AtNode, Turn}
use Rattle.aft_turns.proofs.Written as names
use Rattle.aft_commit.specs.Asks.{may_end_with}
use Rattle.aft_commit.specs.Calls.{look_act, record_act, version_act}
use Rattle.aft_commit.specs.Told.{ArePut, BothFailed, FirstDamage, HasBegun, HasFailedPut, HasFault, IsAbsent, IsQuiet, IsStored, IsToLeave, IsToStore, ToldEnd, Undamaged, entries_by}
use Rattle.aft_commit.specs.View.{told_of}
use Rattle.aft_commit.specs.declared.outcome.Outcome.{Outcome}
use Rattle.aft_commit.specs.declared.outcome.Outcome.TheVariants.{Absent, Left, Stored}
use Rattle.aft_commit.proofs.Stored.{same_itself, take_next, version_there}

-- ---- the first turn stays

abbrev pub begun_on : (by : By) (made : List Turn) (turn : Turn) → HasBegun by made → HasBegun by (made ++ turn ∷ [])
begun_on by made turn begun = record {
  node = begun.node;
  before = begun.before;
  front = begun.front;
  act = begun.act;
  rest = begun.rest ++ turn ∷ [];
  turns = ap (λ (ts : List Turn). ts ++ turn ∷ []) begun.turns;
}

pub stores_on : (by : By) (hold : Hold) (aborts : Bool) (c : Commit) (made : List Turn) (turn : Turn) → IsToStore by hold aborts c made → IsToStore by hold aborts c (made ++ turn ∷ [])
stores_on by hold aborts c made turn is = record { begun = begun_on by made turn is.begun; fixed = is.fixed; doubted = is.doubted }

pub leaves_on : (by : By) (hold : Hold) (aborts : Bool) (made : List Turn) (turn : Turn) → IsToLeave by hold aborts made → IsToLeave by hold aborts (made ++ turn ∷ [])
leaves_on by hold aborts made turn is = record { begun = begun_on by made turn is.begun; ready = is.ready }

-- ---- tests of entries

-- a put or a get that failed is a failure
put_failed : (name : List ℕ) (act : DoorAct) → IsTrue (fails_put name act) → IsTrue (is_failure act)
put_failed name (doors.Call node inc (calls.Put put bytes) answers.Failed) is = refl
put_failed name act is = absurd (false≢true is)

get_failed : (name : List ℕ) (act : DoorAct) → IsTrue (fails_get name act) → IsTrue (is_failure act)
get_failed name (doors.Call node inc (calls.Get got) answers.Failed) is = refl
get_failed name act is = absurd (false≢true is)

-- where no entry passes a weaker test none passes this one
none_implied : {A : Type 0} (p q : A → Bool) → ((x : A) → IsTrue (p x) → IsTrue (q x)) → (xs : List A) → list_any q xs ≡ false → list_any p xs ≡ false
none_implied p q more xs none = by_test (list_any p xs) refl
  where
    by_test : (t : Bool) → list_any p xs ≡ t → list_any p xs ≡ false
    by_test false is = is
    by_test true is = absurd (true≢false (sym (any_implied p q more xs is) ∙ none))

-- none is followed where none follows
none_followed : {A : Type 0} (p q : A → Bool) (xs : List A) → list_any q xs ≡ false → followed p (list_any q) xs ≡ false
none_followed p q [] none = refl
none_followed p q (x ∷ xs) none = by_tests (p x) (q x) (list_any q xs) refl (none_followed p q xs) none
  where
    by_tests : (first here later : Bool) → list_any q xs ≡ later → (list_any q xs ≡ false → followed p (list_any q) xs ≡ false) → (here || later) ≡ false → (first && list_any q xs || followed p (list_any q) xs) ≡ false
    by_tests true false false is rest other = rw (is, rest is) refl
    by_tests false false false is rest other = rest is
    by_tests first true later is rest other = absurd (true≢false other)
    by_tests first false true is rest other = absurd (true≢false other)

-- nor where none comes first but the last
none_first : {A : Type 0} (p q : A → Bool) (xs : List A) (x : A) → list_any p xs ≡ false → followed p (list_any q) (xs ++ x ∷ []) ≡ false
none_first p q [] x none = by_test (p x)
  where
    by_test : (t : Bool) → (t && false || false) ≡ false
    by_test true = refl
    by_test false = refl
none_first p q (y ∷ xs) x none = by_test (p y) (none_first p q xs x) none
  where
    by_test : (t : Bool) → (list_any p xs ≡ false → followed p (list_any q) (xs ++ x ∷ []) ≡ false) → (t || list_any p xs) ≡ false → (t && list_any q (xs ++ x ∷ []) || followed p (list_any q) (xs ++ x ∷ [])) ≡ false
    by_test true rest other = absurd (true≢false other)
    by_test false rest other = rest other

-- what came is followed by the last
followed_last : {A : Type 0} (p q : A → Bool) (xs : List A) (x : A) → IsTrue (list_any p xs) → IsTrue (q x) → IsTrue (followed p (list_any q) (xs ++ x ∷ []))
followed_last p q [] x some is = absurd (false≢true some)
followed_last p q (y ∷ xs) x some is = by_cases (λ later. followed_last p q xs x later is) (or_cases (p y) (list_any p xs) some)
  where
    by_cases : (IsTrue (list_any p xs) → IsTrue (followed p (list_any q) (xs ++ x ∷ []))) → IsTrue (p y) ⊎ IsTrue (list_any p xs) → IsTrue (p y && list_any q (xs ++ x ∷ []) || followed p (list_any q) (xs ++ x ∷ []))
    by_cases rest (inl here) = or_left _ _ (and_from _ _ here (list_any-append q xs (x ∷ []) ∙ or_right (list_any q xs) _ (or_left _ _ is)))
    by_cases rest (inr later) = or_right _ _ (rest later)

-- the first doesn't pass where none does
first_none : (a b : Bool) → (a || b) ≡ false → a ≡ false
first_none false b other = refl
first_none true b other = absurd (true≢false other)

-- neither passes
neither : (a b : Bool) → a ≡ false → b ≡ false → (a || (b || false)) ≡ false
neither a b other none = rw (other, none) refl

-- ---- behind a turn at the door

module _ (made : List Turn) (place : ℕ) (act : DoorAct) where
  -- the turns, and what they did
  abbrev pub acted : List Turn
  acted = made ++ AtDoor place act ∷ []

  abbrev entry : By → DoorEntry
  entry by = record { by = by; act = act }

  acted_entries : (by : By) → entries_by by acted ≡ entries_by by made ++ entry by ∷ []
  acted_entries by = flat_map-append (door_entry_in by) made (AtDoor place act ∷ [])

  -- what passed a test still does, and what the last passes does
  any_acted : (test : DoorEntry → Bool) (by : By) → IsTrue (list_any test (entries_by by made)) → IsTrue (list_any test (entries_by by acted))
  any_acted test by passed = subst (λ (es : List DoorEntry). IsTrue (list_any test es)) (sym (acted_entries by)) (any_grows test (entries_by by made) (entry by ∷ []) passed)

  last_acted : (test : DoorEntry → Bool) (by : By) → IsTrue (test (entry by)) → IsTrue (list_any test (entries_by by acted))
  last_acted test by passed = subst (λ (es : List DoorEntry). IsTrue (list_any test es)) (sym (acted_entries by)) (list_any-append test (entries_by by made) (entry by ∷ []) ∙ or_right (list_any test (entries_by by made)) _ (or_left _ _ passed))

  none_acted : (test : DoorEntry → Bool) (by : By) → list_any test (entries_by by made) ≡ false → test (entry by) ≡ false → list_any test (entries_by by acted) ≡ false
  none_acted test by none other = subst (λ (es : List DoorEntry). list_any test es ≡ false) (sym (acted_entries by)) (list_any-append test (entries_by by made) (entry by ∷ []) ∙ neither (list_any test (entries_by by made)) (test (entry by)) none other)

  pub stored_on : (c : Commit) → IsStored c made → IsStored c acted
  stored_on c stored by = any_acted (λ e. is_among c (committed_by e)) by (stored by)

  pub absent_on : (uuid : List ℕ) → IsAbsent uuid made → IsAbsent uuid acted
  absent_on uuid absent by = any_acted (shows_absent (record_name uuid)) by (absent by)

  module _ (c : Commit) where
    damage_acted : Undamaged c made → (by : By) → flat_map (damage_in (Some c)) (entries_by by acted) ≡ damage_in (Some c) (entry by) ++ []
    damage_acted undamaged by =
        ap (λ (es : List DoorEntry). flat_map (damage_in (Some c)) es) (acted_entries by)
        ∙ flat_map-append (damage_in (Some c)) (entries_by by made) (entry by ∷ [])
        ∙ ap (λ (names : List (List ℕ)). names ++ (damage_in (Some c) (entry by) ++ [])) (undamaged by)

    -- an act that shows nothing shows no damage
    undamaged_on : pairs_in act ≡ [] → Undamaged c made → Undamaged c acted
    undamaged_on none undamaged by = damage_acted undamaged by ∙ ap (λ (pairs : List Pair). map (λ (pair : Pair). pair.name) (filter (is_damage (Some c)) pairs) ++ []) none

    pub quiet_on : is_failure act ≡ false → pairs_in act ≡ [] → IsQuiet c made → IsQuiet c acted
    quiet_on done none quiet = record {
      unfailed = λ by. none_acted (λ e. is_failure e.act) by (quiet.unfailed by) done;
      undamaged = undamaged_on none quiet.undamaged;
    }

    -- a first call that fails
    pub fault_first : is_failure act ≡ true → pairs_in act ≡ [] → IsQuiet c made → HasFault c acted
    fault_first fails none quiet = record {
      failed = λ by. last_acted (λ e. is_failure e.act) by fails;
      settled = λ by.
          subst (λ (es : List DoorEntry). fails_both c es ≡ false) (sym (acted_entries by))
          (none_first (λ e. fails_put (record_name c.id.uuid) e.act) (λ e. fails_get (record_name c.id.uuid) e.act) (entries_by by made) (entry by)
          (none_implied (λ e. fails_put (record_name c.id.uuid) e.act) (λ e. is_failure e.act) (λ e. put_failed (record_name c.id.uuid) e.act) (entries_by by made) (quiet.unfailed by)));
      undamaged = undamaged_on none quiet.undamaged;
    }

    -- behind a put of the record that failed, what settles nothing is told as a fault
    pub fault_behind : fails_get (record_name c.id.uuid) act ≡ false → pairs_in act ≡ [] → HasFailedPut c made → HasFault c acted
    fault_behind other none failed = record {
      failed = λ by. any_acted (λ e. is_failure e.act) by (any_implied (λ e. fails_put (record_name c.id.uuid) e.act) (λ e. is_failure e.act) (λ e. put_failed (record_name c.id.uuid) e.act) (entries_by by made) (failed.put by));
      settled = λ by. none_followed (λ e. fails_put (record_name c.id.uuid) e.act) (λ e. fails_get (record_name c.id.uuid) e.act) (entries_by by acted) (none_acted (λ e. fails_get (record_name c.id.uuid) e.act) by (failed.got by) other);
      undamaged = undamaged_on none failed.undamaged;
    }

    pub both_failed : IsTrue (fails_get (record_name c.id.uuid) act) → HasFailedPut c made → BothFailed c acted
    both_failed fails failed by =
        subst (λ (es : List DoorEntry). IsTrue (fails_both c es)) (sym (acted_entries by))
        (followed_last (λ e. fails_put (record_name c.id.uuid) e.act) (λ e. fails_get (record_name c.id.uuid) e.act) (entries_by by made) (entry by) (failed.put by) fails)

    -- the put of the record fails
    pub put_fails : IsTrue (fails_put (record_name c.id.uuid) act) → fails_get (record_name c.id.uuid) act ≡ false → pairs_in act ≡ [] → IsQuiet c made → HasFailedPut c acted
    put_fails fails other none quiet = record {
      put = λ by. last_acted (λ e. fails_put (record_name c.id.uuid) e.act) by fails;
      got = λ by.
          none_acted (λ e. fails_get (record_name c.id.uuid) e.act) by
          (none_implied (λ e. fails_get (record_name c.id.uuid) e.act) (λ e. is_failure e.act) (λ e. get_failed (record_name c.id.uuid) e.act) (entries_by by made) (quiet.unfailed by)) other;
      undamaged = undamaged_on none quiet.undamaged;
    }

-- ---- the calls

-- a record that is put is that of its commit
record_reads : (r : Record) → IsRecord r → IsTrue (list_any (same_commit r.commit) (records_in (record { name = record_name r.commit.id.uuid; bytes = record_row r })))
record_reads r is =
    subst (λ (read : Result Commit RecordFault). IsTrue (list_any (same_commit r.commit) (read_under (record_name r.commit.id.uuid) (λ (x : Commit). record_name x.id.uuid) read))) (sym (commit_of_record_written r is.0 ∙ timely_is r.commit.id.time r.commit is.1))
    (subst (λ (t : Bool). IsTrue (list_any (same_commit r.commit) (if t then r.commit ∷ [] else []))) (sym (bytes_eq-refl (record_name r.commit.id.uuid))) (or_left _ _ (same_itself r.commit)))

module _ (a : Attempt) (made : List Turn) (place : ℕ) where
  first_any : (c : Commit) (cs : List Commit) → IsTrue (list_any (same_commit c) cs) → IsTrue (list_any (same_commit c) (cs ++ []))
  first_any c cs some = any_grows (same_commit c) cs [] some

  pub put_stored : (r : Record) → IsRecord r → IsStored r.commit (made ++ AtDoor place (record_act a r answers.Done) ∷ [])
  put_stored r is by = last_acted made place (record_act a r answers.Done) (λ e. is_among r.commit (committed_by e)) by (first_any r.commit (records_in (record { name = record_name r.commit.id.uuid; bytes = record_row r })) (record_reads r is))

  pub shown_stored : (c : Commit) (bytes : List ℕ) → IsTrue (finds_record c (answers.Found bytes)) → IsStored c (made ++ AtDoor place (look_act a c (answers.Found bytes)) ∷ [])
  shown_stored c bytes finds by = last_acted made place (look_act a c (answers.Found bytes)) (λ e. is_among c (committed_by e)) by (first_any c (records_in (record { name = record_name c.id.uuid; bytes = bytes })) finds)

  pub shown_absent : (c : Commit) → IsAbsent c.id.uuid (made ++ AtDoor place (look_act a c answers.Absent) ∷ [])
  shown_absent c by =
      last_acted made place (look_act a c answers.Absent) (shows_absent (record_name c.id.uuid)) by
      (ap (λ (t : Bool). is_absence (if t then Some None else None)) (bytes_eq-refl (record_name c.id.uuid)))

  -- what stands under the name of a commit's record and isn't that is damage
  abbrev named : Commit → List ℕ → Pair
  named c bytes = record { name = record_name c.id.uuid; bytes = bytes }

  is_damaged : (c : Commit) (bytes : List ℕ) → finds_record c (answers.Found bytes) ≡ false → IsTrue (is_damage (Some c) (named c bytes))
  is_damaged c bytes other = by_read (read_under (record_name c.id.uuid) (λ (x : Commit). record_name x.id.uuid) (commit_of bytes)) refl
    where
      unread : records_in (named c bytes) ≡ [] → has_reading (named c bytes) ≡ false
      unread none = rw (none, no_marker c.id.uuid (marker_of bytes), no_version c.id.uuid (version_of bytes)) refl

      by_read : (read : List Commit) → records_in (named c bytes) ≡ read → IsTrue (is_damage (Some c) (named c bytes))
      by_read [] none = or_left (not (has_reading (named c bytes))) _ (ap not (unread none))
      by_read (d ∷ ds) some =
          or_right (not (has_reading (named c bytes))) (is_of_another (Some c) (named c bytes))
          (subst (λ (cs : List Commit). IsTrue (list_any (λ x. not (same_commit c x)) cs)) (sym some)
          (or_left _ _ (ap not (first_none (same_commit c d) (list_any (same_commit c) ds) (sym (ap (λ (cs : List Commit). list_any (same_commit c) cs) some) ∙ other)))))

  pub first_damaged : (c : Commit) (bytes : List ℕ) → IsUuid c.id.uuid → finds_record c (answers.Found bytes) ≡ false → Undamaged c made → FirstDamage c (record_name c.id.uuid) (made ++ AtDoor place (look_act a c (answers.Found bytes)) ∷ [])
  first_damaged c bytes is other undamaged by =
      subst (λ (ns : List (List ℕ)). IsTrue (is_written_name (record_name c.id.uuid) (first_of ns))) (sym (damage_acted made place (look_act a c (answers.Found bytes)) c undamaged by))
      (subst (λ (t : Bool). IsTrue (is_written_name (record_name c.id.uuid) (first_of (map (λ (pair : Pair). pair.name) (if t then record { name = record_name c.id.uuid; bytes = bytes } ∷ [] else []) ++ [])))) (sym (is_damaged c bytes other))
      (subst (λ (name : List ℕ). IsTrue (bytes_eq (record_name c.id.uuid) name)) (sym (names.record_written c.id.uuid is)) (bytes_eq-refl (record_name c.id.uuid))))

-- one version more is put
pub put_on : (a : Attempt) (c : Commit) (count : ℕ) (made : List Turn) (place : ℕ) (v : Version) → IsVersion v → v.id ≡ c.id → slice_get c.keys count ≡ Some v.key → ArePut a c count made → ArePut a c (suc count) (acted made place (version_act a v answers.Done))
put_on a c count made place v is its at put by =
    subst (λ (keys : List (List ℕ)). IsTrue (list_all is_there keys)) (sym (take_next c.keys count v.key at))
    (list_all-append is_there (take count c.keys) (v.key ∷ [])
    ∙ and_from _ _ (all_implied was_there is_there (λ key. any_acted made place (version_act a v answers.Done) (λ e. stores_version (caller_of a) key c.id e.act) by) (take count c.keys) (put by)) (and_from _ _ last refl))
  where
    was_there : List ℕ → Bool
    was_there key = list_any (λ e. stores_version (caller_of a) key c.id e.act) (entries_by by made)

    is_there : List ℕ → Bool
    is_there key = list_any (λ e. stores_version (caller_of a) key c.id e.act) (entries_by by (acted made place (version_act a v answers.Done)))

    last : IsTrue (is_there v.key)
    last =
        last_acted made place (version_act a v answers.Done) (λ e. stores_version (caller_of a) v.key c.id e.act) by
        (subst (λ (i : TxnId). IsTrue (stores_version (caller_of a) v.key i (version_act a v answers.Done))) its (and_from _ _ (caller_itself (caller_of a)) (version_there v is)))

-- a turn at the node adds nothing to what was shown
pub stored_still : (c : Commit) (made : List Turn) (node : ℕ) (before : List NodeEntry) (entry : NodeEntry) → IsStored c made → IsStored c (made ++ AtNode node before entry ∷ [])
stored_still c made node before entry stored by =
    subst (λ (es : List DoorEntry). IsTrue (is_stored_by c es)) (sym (flat_map-append (door_entry_in by) made (AtNode node before entry ∷ []))) (any_grows (λ e. is_among c (committed_by e)) (entries_by by made) [] (stored by))

-- ---- an end

-- its line has begun
pub end_begun : (by : By) (hold : Hold) (aborts : Bool) (uuid : List ℕ) (outcome : Outcome) (made : List Turn) → ToldEnd by hold aborts uuid outcome made → HasBegun by made
end_begun by hold aborts uuid (Stored id) made (c, its, stores, stored) = stores.begun
end_begun by hold aborts uuid Absent made (c, its, abort, stores, absent) = stores.begun
end_begun by hold aborts uuid (Left leaves) made (same, leaves_it) = leaves_it.begun

pub end_on : (by : By) (hold : Hold) (aborts : Bool) (uuid : List ℕ) (outcome : Outcome) (made : List Turn) (place : ℕ) (act : DoorAct) → ToldEnd by hold aborts uuid outcome made → ToldEnd by hold aborts uuid outcome (acted made place act)
end_on by hold aborts uuid (Stored id) made place act (c, its, stores, stored) = (c, its, stores_on by hold aborts c made (AtDoor place act) stores, stored_on made place act c stored)
end_on by hold aborts uuid Absent made place act (c, its, abort, stores, absent) = (c, its, abort, stores_on by hold aborts c made (AtDoor place act) stores, absent_on made place act uuid absent)
end_on by hold aborts uuid (Left leaves) made place act (same, leaves_it) = (same, leaves_on by hold aborts made (AtDoor place act) leaves_it)

-- an end that aborts a fixed commit was shown that its record isn't there
pub end_sees : (by : By) (hold : Hold) (aborts : Bool) (uuid : List ℕ) (outcome : Outcome) (made : List Turn) (state : AttemptState) → ToldEnd by hold aborts uuid outcome made → IsTrue (may_end_with uuid outcome state) → IsTrue (may_abort (entries_by by made) state (Some (told_of outcome)))
end_sees by hold aborts uuid (Stored id) made (IsCommitting c) told does = refl
end_sees by hold aborts uuid (Stored id) made state told does = refl
end_sees by hold aborts uuid Absent made (IsCommitting c) (d, its, abort, stores, absent) does =
    subst (λ (u : List ℕ). IsTrue (list_any (shows_absent (record_name u)) (entries_by by made))) (same_bytes uuid c.id.uuid does) (absent by)
end_sees by hold aborts uuid Absent made state told does = absurd (false≢true does)
end_sees by hold aborts uuid (Left true) made IsLeaving told does = refl
end_sees by hold aborts uuid (Left false) made IsLeaving told does = refl
end_sees by hold aborts uuid (Left leaves) made state told does = absurd (false≢true does)
