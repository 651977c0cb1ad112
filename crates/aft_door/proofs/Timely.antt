-- What was read of a store is within the limits: so are committed and marked commits.
use Rattle.std.proofs.Common.{◌≡◌, ℕ, zero, suc, length, Bool, true, false, ◌&&◌, List, [], ◌∷◌, sym, ap, subst, inl, inr, arith}
use Rattle.std.specs.Prelude.{Err, IsTrue, Ok, Result, ◌==◌, if◌then◌else◌}
use Rattle.std.specs.List.{list_all, list_any}
use Rattle.std.specs.Str.{bytes_eq}
use Rattle.std.proofs.lemmas.Bool.{and_parts, ltb-true}
use Rattle.aft_fields.proofs.Bytes.{IsBytes}
use Rattle.aft_id.specs.TxnId.{same_id}
use Rattle.aft_id.specs.declared.txn_id.TxnId.{TxnId}
use Rattle.aft_keeper.specs.declared.keeper.KeeperAnswer.TheVariants.{Done, Found, Page}
use Rattle.aft_keeper.specs.declared.keeper.KeeperCall.TheVariants.{Get, Put, Scan}
use Rattle.aft_keeper.specs.declared.keeper.Pair.{Pair}
use Rattle.aft_records.specs.declared.fault.RecordFault.{RecordFault}
use Rattle.aft_records.specs.declared.stored.Commit.{Commit}
use Rattle.aft_records.specs.declared.stored.Marker.{Marker}
use Rattle.aft_records.specs.declared.stored.Marker.TheVariants.{Full}
use Rattle.aft_records.specs.declared.stored.Marker.TheVariants as markers
use Rattle.aft_records.specs.Stored.{IsMarker}
use Rattle.aft_records.specs.Commits.{is_among, same_commit}
use Rattle.aft_records.specs.Limits.{IsTime}
use Rattle.aft_records.specs.Reading.{commit_of, marker_of}
use Rattle.aft_records.proofs.Found.{commit_found, marker_found}
use Rattle.aft_model.specs.declared.door.DoorAct.{DoorAct}
use Rattle.aft_model.specs.declared.door.DoorAct.TheVariants.{Call}
use Rattle.aft_model.specs.declared.door.DoorEntry.{DoorEntry}
use Rattle.aft_model.specs.Bytes.{HasBytes, acts_bytes, are_bytes, is_byte, is_byte_pair}
use Rattle.aft_model.specs.Committed.{committed, committed_by, marked, marked_by, marks_in, proven_pairs, retired_by}
use Rattle.aft_model.specs.DoorKnowledge.{has_deleted, knows_record_gone, knows_superseded, knows_versions_gone, marked_then, shows_first_format, shows_gone}
use Rattle.aft_model.specs.Evidence.{pairs_in, shown_pairs, stored_in, stored_pairs}
use Rattle.aft_model.specs.Readings.{first_format_in, id_of_marker, marker_name, markers_in, read_under, record_name, records_in, written_in}
use Rattle.aft_model.proofs.Histories.{In, all_at, any_found, in_append, in_flat_map}
use Rattle.aft_model.proofs.Ids.{same_commits, same_ids}

bytes_in : (bytes : List ℕ) → IsTrue (are_bytes bytes) → IsBytes bytes
bytes_in [] is i = omega arith
bytes_in (b ∷ bytes) is zero = ltb-true b 256 (and_parts (is_byte b) (are_bytes bytes) is).0
bytes_in (b ∷ bytes) is (suc i) = bytes_in bytes (and_parts (is_byte b) (are_bytes bytes) is).1 i

read_is : {A : Type 0} (name : List ℕ) (its_name : A → List ℕ) (r : Result A RecordFault) (x : A) → In x (read_under name its_name r) → r ≡ Ok x
read_is name its_name (Err e) x among = absurd among
read_is {A} name its_name (Ok y) x among = cases (bytes_eq name (its_name y)) among
  where
    cases : (t : Bool) → In x (if t then y ∷ [] else []) → ◌≡◌ {A = Result A RecordFault} (Ok y) (Ok x)
    cases true (inl is) = ap (λ (z : A). Ok z) (sym is)
    cases true (inr nowhere) = absurd nowhere
    cases false nowhere = absurd nowhere

-- the pairs that an act put or shows are made of bytes
shown_bytes : (act : DoorAct) → IsTrue (acts_bytes act) → (p : Pair) → In p (pairs_in act) → IsTrue (are_bytes p.bytes)
shown_bytes (Call node inc (Get got) (Found bytes)) is p (inl here) = subst (λ (q : Pair). IsTrue (are_bytes q.bytes)) (sym here) (and_parts (are_bytes got) (are_bytes bytes) is).1
shown_bytes (Call node inc (Get got) (Found bytes)) is p (inr nowhere) = absurd nowhere
shown_bytes (Call node inc (Scan prefix after limit) (Page pairs)) is p among =
    (and_parts (are_bytes p.name) (are_bytes p.bytes) (all_at is_byte_pair p pairs among (and_parts (are_bytes prefix && are_bytes after) (list_all is_byte_pair pairs) is).1)).1
shown_bytes act is p among = absurd among

stored_bytes : (act : DoorAct) → IsTrue (acts_bytes act) → (p : Pair) → In p (stored_in act) → IsTrue (are_bytes p.bytes)
stored_bytes (Call node inc (Put name bytes) Done) is p (inl here) =
    subst (λ (q : Pair). IsTrue (are_bytes q.bytes)) (sym here) (and_parts (are_bytes name) (are_bytes bytes) (and_parts (are_bytes name && are_bytes bytes) true is).0).1
stored_bytes (Call node inc (Put name bytes) Done) is p (inr nowhere) = absurd nowhere
stored_bytes act is p among = absurd among

module _ (history : List DoorEntry) (bytes : HasBytes history) where
  entry_bytes : (e : DoorEntry) → In e history → IsTrue (acts_bytes e.act)
  entry_bytes e among = all_at (λ (x : DoorEntry). acts_bytes x.act) e history among bytes

  proven_bytes : (e : DoorEntry) → In e history → (p : Pair) → In p (proven_pairs e) → IsBytes p.bytes
  proven_bytes e at p among = bytes_in p.bytes (elim (in_append p (stored_pairs e) (shown_pairs e) among) [
    | inl stored ↦ stored_bytes e.act (entry_bytes e at) p stored
    | inr shown ↦ shown_bytes e.act (entry_bytes e at) p shown
  ])

  record_timely : (c : Commit) (p : Pair) → IsBytes p.bytes → In c (records_in p) → IsTime c.id.time
  record_timely c p fits among = (commit_found p.bytes c fits (read_is p.name (λ (d : Commit). record_name d.id.uuid) (commit_of p.bytes) c among)).0.1

  committed_timely : (c : Commit) → In c (committed history) → IsTime c.id.time
  committed_timely c among =
      let found = in_flat_map (λ (e : DoorEntry). committed_by e) c history among in
      let pair = in_flat_map records_in c (proven_pairs found.0) found.2 in
      record_timely c pair.0 (proven_bytes found.0 found.1 pair.0 pair.1) pair.2

  marked_timely : (c : Commit) → In c (marked history) → IsTime c.id.time
  marked_timely c among =
      let found = in_flat_map (λ (e : DoorEntry). marked_by e) c history among in
      let pair = in_flat_map (λ (p : Pair). marks_in p) c (proven_pairs found.0) found.2 in
      let marker = in_flat_map retired_by c (markers_in pair.0) pair.2 in
      full marker.0 (marker_found pair.0.bytes marker.0 (proven_bytes found.0 found.1 pair.0 pair.1) (read_is pair.0.name (λ (m : Marker). marker_name (id_of_marker m).uuid) (marker_of pair.0.bytes) marker.0 marker.1)).0 marker.2
    where
      full : (m : Marker) → IsMarker m → In c (retired_by m) → IsTime c.id.time
      full (Full d) is (inl here) = subst (λ (x : Commit). IsTime x.id.time) (sym here) is.1
      full (Full d) is (inr nowhere) = absurd nowhere
      full (markers.Done id) is among = absurd among

  -- a commit that is known to be superseded, or was shown in the first format
  pub superseded_timely : (c : Commit) → IsTrue (knows_superseded c history) → IsTime c.id.time
  superseded_timely c knows =
      let found = any_found (same_commit c) (committed history) (and_parts (is_among c (committed history)) _ knows).0 in
      subst (λ (x : Commit). IsTime x.id.time) (sym (same_commits c found.0 found.2)) (committed_timely found.0 found.1)

  pub old_timely : (c : Commit) → IsTrue (shows_first_format c history) → IsTime c.id.time
  old_timely c shows =
      let e = any_found (λ (x : DoorEntry). list_any (λ pair. is_among c (first_format_in pair)) (shown_pairs x)) history shows in
      let p = any_found (λ pair. is_among c (first_format_in pair)) (shown_pairs e.0) e.2 in
      let d = any_found (same_commit c) (first_format_in p.0) p.2 in
      subst (λ (x : Commit). IsTime x.id.time) (sym (same_commits c d.0 d.2))
      (record_timely d.0 p.0 (bytes_in p.0.bytes (shown_bytes e.0.act (entry_bytes e.0 e.1) p.0 p.1)) (first (length (written_in p.0) == 0) p.0 d.0 d.1))
    where
      first : (t : Bool) (p : Pair) (d : Commit) → In d (if t then records_in p else []) → In d (records_in p)
      first true p d among = among
      first false p d among = absurd among

  -- an id of a marked commit
  marked_id : (test : Commit → Bool) (id : TxnId) → IsTrue (list_any (λ c. same_id id c.id && test c) (marked history)) → IsTime id.time
  marked_id test id some =
      let found = any_found (λ (c : Commit). same_id id c.id && test c) (marked history) some in
      subst (λ (i : TxnId). IsTime i.time) (sym (same_ids id found.0.id (and_parts (same_id id found.0.id) (test found.0) found.2).0)) (marked_timely found.0 found.1)

  pub gone_timely : (id : TxnId) → IsTrue (knows_record_gone id history) → IsTime id.time
  gone_timely id knows = marked_id (λ c. marked_then (list_any (shows_gone c)) c history) id knows

  pub done_timely : (id : TxnId) → IsTrue (knows_versions_gone id history) → IsTime id.time
  done_timely id knows = marked_id (λ c. marked_then (has_deleted c) c history) id knows
