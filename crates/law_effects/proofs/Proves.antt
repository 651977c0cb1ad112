-- What an entry commits and marks is what its effects prove.
use Rattle.std.proofs.Common.{◌≡◌, ℕ, List, [], ◌∷◌, sym, ap, subst, ◌∙◌, inl, inr}
use Rattle.std.specs.Prelude.{IsTrue, Some}
use Rattle.std.specs.List.{flat_map}
use Rattle.aft_keeper.specs.declared.keeper.Pair.{Pair}
use Rattle.aft_records.specs.declared.stored.Commit.{Commit}
use Rattle.aft_records.specs.declared.stored.Marker.{Marker}
use Rattle.aft_records.specs.declared.stored.Marker.TheVariants as markers
use Rattle.aft_records.specs.Commits.{is_among, same_commit}
use Rattle.aft_records.specs.Reading.{commit_of, marker_of}
use Rattle.aft_model.specs.declared.door.DoorEntry.{DoorEntry}
use Rattle.aft_model.specs.Committed.{committed_by, marked_by, marks_in, proven_pairs, retired_by}
use Rattle.aft_model.specs.LegalDoor.{is_answered}
use Rattle.aft_model.specs.Readings.{id_of_marker, is_record_of, marker_name, markers_in, record_name, records_in}
use Rattle.aft_model.proofs.Histories.{In, any_found, any_from, in_back, in_flat_map, in_front}
use Rattle.aft_model.proofs.Ids.{same_commits}
use Rattle.aft_model.proofs.Sights.{read-name}
use Rattle.law_effects.specs.Effects.{effect_of, proven_by}
use Rattle.law_effects.proofs.Pairs.{act_pair, pair_of, pair_proves}

-- what one element of a list gives, they give together
flat_map_in : {A B : Type 0} (f : A → List B) (y : B) (x : A) (xs : List A) → In x xs → In y (f x) → In y (flat_map f xs)
flat_map_in f y x [] among gives = absurd among
flat_map_in f y x (z ∷ xs) (inl here) gives = in_front y (f z) (flat_map f xs) (subst (λ a. In y (f a)) here gives)
flat_map_in f y x (z ∷ xs) (inr later) gives = in_back y (f z) (flat_map f xs) (flat_map_in f y x xs later gives)

-- what pairs are read as, each under the name of its UUID
module _ (read : Pair → List Commit) (its_name : List ℕ → List ℕ) (named : (pair : Pair) (c : Commit) → In c (read pair) → pair.name ≡ its_name c.id.uuid) where
  proven : (c : Commit) (entry : DoorEntry) → IsTrue (is_answered entry.act) → IsTrue (is_among c (flat_map read (proven_pairs entry)))
      → (bytes : List ℕ) × (proven_by (effect_of (its_name c.id.uuid) entry.act) ≡ Some bytes) × IsTrue (is_among c (read (pair_of (its_name c.id.uuid) bytes)))
  proven c entry answered among =
      let found = any_found (same_commit c) (flat_map read (proven_pairs entry)) among in
      let of = in_flat_map read found.0 (proven_pairs entry) found.1 in
      let is : c ≡ found.0 = same_commits c found.0 found.2 in
      let name : of.0.name ≡ its_name c.id.uuid = named of.0 found.0 of.2 ∙ ap (λ (d : Commit). its_name d.id.uuid) (sym is) in (
        of.0.bytes,
        subst (λ n. proven_by (effect_of n entry.act) ≡ Some of.0.bytes) name (pair_proves entry.act answered of.0 of.1),
        subst (λ n. IsTrue (is_among c (read (pair_of n of.0.bytes)))) name (any_from (same_commit c) found.0 (read of.0) of.2 found.2),
      )

  proves : (c : Commit) (bytes : List ℕ) (entry : DoorEntry) → proven_by (effect_of (its_name c.id.uuid) entry.act) ≡ Some bytes → IsTrue (is_among c (read (pair_of (its_name c.id.uuid) bytes)))
      → IsTrue (is_among c (flat_map read (proven_pairs entry)))
  proves c bytes entry is among =
      let pair = act_pair (its_name c.id.uuid) bytes entry.act is in
      let found = any_found (same_commit c) (read (pair_of (its_name c.id.uuid) bytes)) among in
      any_from (same_commit c) found.0 (flat_map read (proven_pairs entry)) (flat_map_in read found.0 (pair_of (its_name c.id.uuid) bytes) (proven_pairs entry) pair found.1) found.2

record_named : (pair : Pair) (c : Commit) → In c (records_in pair) → pair.name ≡ record_name c.id.uuid
record_named pair c among = read-name pair.name (λ (d : Commit). record_name d.id.uuid) (commit_of pair.bytes) c among

mark_of : (m : Marker) (c : Commit) → In c (retired_by m) → id_of_marker m ≡ c.id
mark_of (markers.Full d) c (inl is) = ap (λ (e : Commit). e.id) (sym is)
mark_of (markers.Full d) c (inr nowhere) = absurd nowhere
mark_of (markers.Done id) c nowhere = absurd nowhere

mark_named : (pair : Pair) (c : Commit) → In c (marks_in pair) → pair.name ≡ marker_name c.id.uuid
mark_named pair c among =
    let marker = in_flat_map retired_by c (markers_in pair) among in
    read-name pair.name (λ (m : Marker). marker_name (id_of_marker m).uuid) (marker_of pair.bytes) marker.0 marker.1 ∙ ap (λ id. marker_name id.uuid) (mark_of marker.0 c marker.2)

pub committed_proven : (c : Commit) (entry : DoorEntry) → IsTrue (is_answered entry.act) → IsTrue (is_among c (committed_by entry))
    → (bytes : List ℕ) × (proven_by (effect_of (record_name c.id.uuid) entry.act) ≡ Some bytes) × IsTrue (is_record_of c (pair_of (record_name c.id.uuid) bytes))
committed_proven = proven records_in record_name record_named

pub committed_proves : (c : Commit) (bytes : List ℕ) (entry : DoorEntry) → proven_by (effect_of (record_name c.id.uuid) entry.act) ≡ Some bytes → IsTrue (is_record_of c (pair_of (record_name c.id.uuid) bytes))
    → IsTrue (is_among c (committed_by entry))
committed_proves = proves records_in record_name record_named

pub marked_proven : (c : Commit) (entry : DoorEntry) → IsTrue (is_answered entry.act) → IsTrue (is_among c (marked_by entry))
    → (bytes : List ℕ) × (proven_by (effect_of (marker_name c.id.uuid) entry.act) ≡ Some bytes) × IsTrue (is_among c (marks_in (pair_of (marker_name c.id.uuid) bytes)))
marked_proven = proven (λ pair. marks_in pair) marker_name mark_named

pub marked_proves : (c : Commit) (bytes : List ℕ) (entry : DoorEntry) → proven_by (effect_of (marker_name c.id.uuid) entry.act) ≡ Some bytes → IsTrue (is_among c (marks_in (pair_of (marker_name c.id.uuid) bytes)))
    → IsTrue (is_among c (marked_by entry))
marked_proves = proves (λ pair. marks_in pair) marker_name mark_named
