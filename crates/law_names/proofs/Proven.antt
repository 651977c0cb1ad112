-- What a history made of bytes has acknowledged or shown is within the limits.
use Rattle.std.proofs.Common.{◌≡◌, ℕ, Bool, true, false, ◌&&◌, List, [], ◌∷◌, refl, sym, subst, inl, inr}
use Rattle.std.specs.Prelude.{IsTrue, Result, Ok, Err, if◌then◌else◌}
use Rattle.std.specs.List.{list_all}
use Rattle.std.specs.Str.{bytes_eq}
use Rattle.std.proofs.lemmas.Bool.{and_parts}
use Rattle.aft_keeper.specs.declared.keeper.KeeperAnswer.TheVariants.{Done, Found, Page}
use Rattle.aft_keeper.specs.declared.keeper.KeeperCall.TheVariants.{Get, Put, Scan}
use Rattle.aft_keeper.specs.declared.keeper.Pair.{Pair}
use Rattle.aft_records.specs.declared.fault.RecordFault.{RecordFault}
use Rattle.aft_records.specs.declared.stored.Commit.{Commit}
use Rattle.aft_records.specs.declared.stored.Marker.{Marker}
use Rattle.aft_records.specs.declared.stored.Marker.TheVariants as markers
use Rattle.aft_records.specs.Commits.{same_commit}
use Rattle.aft_records.specs.Reading.{commit_of, marker_of}
use Rattle.aft_records.specs.Stored.{IsCommit, IsMarker}
use Rattle.aft_records.proofs.Found.{commit_found, marker_found}
use Rattle.aft_model.specs.declared.door.DoorAct.{DoorAct}
use Rattle.aft_model.specs.declared.door.DoorAct.TheVariants.{Call}
use Rattle.aft_model.specs.declared.door.DoorEntry.{DoorEntry}
use Rattle.aft_model.specs.Bytes.{HasBytes, acts_bytes, are_bytes, is_byte_pair}
use Rattle.aft_model.specs.Committed.{Committed, Marked, committed, committed_by, marked, marked_by, marks_in, proven_pairs, retired_by}
use Rattle.aft_model.specs.Evidence.{pairs_in, stored_in}
use Rattle.aft_model.specs.Readings.{id_of_marker, marker_name, markers_in, read_under, record_name, records_in}
use Rattle.aft_model.proofs.Histories.{In, all_at, any_found, in_append, in_flat_map}
use Rattle.aft_model.proofs.Ids.{same_commits}
use Rattle.law_names.proofs.Tests.{bytes_are}

-- what stands under a name was read
abbrev reading : {A : Type 0} → A → Result A RecordFault
reading x = Ok x

was_read : {A : Type 0} (name : List ℕ) (its_name : A → List ℕ) (r : Result A RecordFault) (x : A) → In x (read_under name its_name r) → r ≡ reading x
was_read name its_name (Err e) x among = absurd among
was_read {A} name its_name (Ok y) x among = cases (bytes_eq name (its_name y)) among
  where
    cases : (t : Bool) → In x (if t then y ∷ [] else []) → reading y ≡ reading x
    cases true (inl is) = subst (λ (z : A). reading y ≡ reading z) (sym is) refl
    cases true (inr nowhere) = absurd nowhere
    cases false nowhere = absurd nowhere

-- the pairs that an act of bytes puts or shows are made of bytes
stored_bytes : (act : DoorAct) → IsTrue (acts_bytes act) → (pair : Pair) → In pair (stored_in act) → IsTrue (is_byte_pair pair)
stored_bytes (Call node inc (Put name bytes) Done) made pair (inl is) =
    subst (λ (p : Pair). IsTrue (is_byte_pair p)) (sym is) (and_parts (are_bytes name && are_bytes bytes) true made).0
stored_bytes (Call node inc (Put name bytes) Done) made pair (inr nowhere) = absurd nowhere
stored_bytes act made pair among = absurd among

shown_bytes : (act : DoorAct) → IsTrue (acts_bytes act) → (pair : Pair) → In pair (pairs_in act) → IsTrue (is_byte_pair pair)
shown_bytes (Call node inc (Get name) (Found bytes)) made pair (inl is) = subst (λ (p : Pair). IsTrue (is_byte_pair p)) (sym is) made
shown_bytes (Call node inc (Get name) (Found bytes)) made pair (inr nowhere) = absurd nowhere
shown_bytes (Call node inc (Scan prefix after limit) (Page pairs)) made pair among =
    all_at is_byte_pair pair pairs among (and_parts (are_bytes prefix && are_bytes after) (list_all is_byte_pair pairs) made).1
shown_bytes act made pair among = absurd among

proven_bytes : (entry : DoorEntry) → IsTrue (acts_bytes entry.act) → (pair : Pair) → In pair (proven_pairs entry) → IsTrue (is_byte_pair pair)
proven_bytes entry made pair among =
    elim (in_append pair (stored_in entry.act) (pairs_in entry.act) among) [
      | inl stored ↦ stored_bytes entry.act made pair stored
      | inr shown ↦ shown_bytes entry.act made pair shown
    ]

-- what is proven by a pair of some entry was read from bytes
record Comes {A : Type 0} (read : Pair → List A) (x : A) : Type 0 where
  pair : Pair
  among : In x (read pair)
  made : IsTrue (is_byte_pair pair)

committed_comes : (c : Commit) (history : List DoorEntry) → HasBytes history → In c (committed history) → Comes records_in c
committed_comes c history made among =
    let entry = in_flat_map (λ (entry : DoorEntry). committed_by entry) c history among in
    let pair = in_flat_map records_in c (proven_pairs entry.0) entry.2 in
    record { pair = pair.0; among = pair.2; made = proven_bytes entry.0 (all_at (λ (e : DoorEntry). acts_bytes e.act) entry.0 history entry.1 made) pair.0 pair.1 }

marked_comes : (c : Commit) (history : List DoorEntry) → HasBytes history → In c (marked history) → Comes marks_in c
marked_comes c history made among =
    let entry = in_flat_map (λ (entry : DoorEntry). marked_by entry) c history among in
    let pair = in_flat_map (λ (pair : Pair). marks_in pair) c (proven_pairs entry.0) entry.2 in
    record { pair = pair.0; among = pair.2; made = proven_bytes entry.0 (all_at (λ (e : DoorEntry). acts_bytes e.act) entry.0 history entry.1 made) pair.0 pair.1 }

pair_bytes : (pair : Pair) → IsTrue (is_byte_pair pair) → IsTrue (are_bytes pair.bytes)
pair_bytes pair made = (and_parts (are_bytes pair.name) (are_bytes pair.bytes) made).1

pub committed_limits : (c : Commit) (history : List DoorEntry) → HasBytes history → Committed c history → IsCommit c
committed_limits c history made proven =
    let found = any_found (same_commit c) (committed history) proven in
    let comes = committed_comes found.0 history made found.1 in
    let read = was_read comes.pair.name (λ (d : Commit). record_name d.id.uuid) (commit_of comes.pair.bytes) found.0 comes.among in
    subst IsCommit (sym (same_commits c found.0 found.2)) (commit_found comes.pair.bytes found.0 (bytes_are comes.pair.bytes (pair_bytes comes.pair comes.made)) read).0

full_is : (m : Marker) (c : Commit) → In c (retired_by m) → m ≡ markers.Full c
full_is (markers.Full d) c (inl is) = subst (λ (e : Commit). markers.Full d ≡ markers.Full e) (sym is) refl
full_is (markers.Full d) c (inr nowhere) = absurd nowhere
full_is (markers.Done id) c nowhere = absurd nowhere

pub marked_limits : (c : Commit) (history : List DoorEntry) → HasBytes history → Marked c history → IsCommit c
marked_limits c history made proven =
    let found = any_found (same_commit c) (marked history) proven in
    let comes = marked_comes found.0 history made found.1 in
    let marker = in_flat_map retired_by found.0 (markers_in comes.pair) comes.among in
    let read = was_read comes.pair.name (λ (m : Marker). marker_name (id_of_marker m).uuid) (marker_of comes.pair.bytes) marker.0 marker.1 in
    let full = full_is marker.0 found.0 marker.2 in
    let limits = (marker_found comes.pair.bytes marker.0 (bytes_are comes.pair.bytes (pair_bytes comes.pair comes.made)) read).0 in
    subst IsCommit (sym (same_commits c found.0 found.2)) (subst IsMarker full limits)
