-- The two formats of a record: what the second one reads is what either reads, and so is what the first one does.
use Rattle.std.proofs.Common.{◌≡◌, ℕ, Bool, true, false, List, [], ◌∷◌, ◌++◌, take, drop, length, refl, sym, ap, subst, ◌∙◌, inl, inr}
use Rattle.std.specs.Prelude.{IsTrue, Result, Ok, Err, if◌then◌else◌, nat_eq, nat_lt, ◌==◌}
use Rattle.std.specs.Cmp.Lexicographic.{pointwise, same_text}
use Rattle.std.specs.List.{flat_map}
use Rattle.std.specs.Str.{bytes_eq}
use Rattle.aft_keeper.specs.declared.keeper.Pair.{Pair}
use Rattle.aft_fields.specs.declared.fault.FieldFault.{FieldFault}
use Rattle.aft_fields.specs.declared.fault.FieldFault.TheVariants.{Short, Tag}
use Rattle.aft_fields.specs.declared.table.Cell.{Cell}
use Rattle.aft_fields.specs.Gives as fields
use Rattle.aft_fields.specs.Place.{Place, start}
use Rattle.aft_fields.specs.Reading.{tag_at, row_of}
use Rattle.aft_records.specs.declared.fault.RecordFault.{RecordFault}
use Rattle.aft_records.specs.declared.stored.Commit.{Commit}
use Rattle.aft_records.specs.declared.stored.Record.{Record}
use Rattle.aft_records.specs.Commits.{same_commit}
use Rattle.aft_records.specs.Gives.{◌>>=◌}
use Rattle.aft_records.specs.Reading.{laid_out, cells_of, is_tagged, record_in, record_of, second_commit_of, first_commit_of, commit_of}
use Rattle.aft_records.specs.Rows.{record_tag, record_kinds}
use Rattle.aft_model.specs.declared.door.DoorEntry.{DoorEntry}
use Rattle.aft_model.specs.Committed.{committed, committed_by}
use Rattle.aft_model.specs.DoorKnowledge.{shows_first_format}
use Rattle.aft_model.specs.Evidence.{shown_pairs, stored_pairs}
use Rattle.aft_model.specs.Readings.{record_name, read_under, records_in, written_in, first_format_in}
use Rattle.aft_model.proofs.Histories.{In, in_front, in_back, any_found}
use Rattle.aft_model.proofs.Ids.{same_commits}

-- ---- the second format

-- a step that gave a value had one to begin with
bind_ok : {A B : Type 0} (m : Result A RecordFault) (f : A → Result B RecordFault) (y : B) → (m >>= f) ≡ Ok y → (x : A) × (m ≡ Ok x)
bind_ok (Ok x) f y e = (x, refl)
bind_ok (Err fault) f y e = absurd (cc)

field_ok : {A B : Type 0} (m : Result A FieldFault) (f : A → Result B FieldFault) (y : B) → fields.◌>>=◌ m f ≡ Ok y → (x : A) × (m ≡ Ok x)
field_ok (Ok x) f y e = (x, refl)
field_ok (Err fault) f y e = absurd (cc)

-- bytes whose tag was found begin with it
tag_found : (bytes : List ℕ) (place : Place) → tag_at record_tag (start bytes) ≡ Ok place → is_tagged record_tag bytes ≡ true
unfolding tag_at
tag_found bytes place e = short (nat_lt (length bytes) 3) e
  where
    rest : List ℕ × Place → Result Place FieldFault
    rest found = if pointwise nat_eq found.0 record_tag then Ok found.1 else Err Tag

    tagged : (t : Bool) → pointwise nat_eq (take 3 bytes) record_tag ≡ t → (p : Place) → (if t then Ok p else Err Tag) ≡ Ok place → is_tagged record_tag bytes ≡ true
    tagged true is p e = ap (λ (found : List ℕ). pointwise nat_eq record_tag found) (same_text (take 3 bytes) record_tag (sym is))
    tagged false is p e = absurd (cc)

    short : (s : Bool) → fields.◌>>=◌ (if s then Err (Short 0) else Ok (take 3 bytes, record { at = 3; bytes = drop 3 bytes })) rest ≡ Ok place → is_tagged record_tag bytes ≡ true
    short true e = absurd (cc)
    short false e = tagged (pointwise nat_eq (take 3 bytes) record_tag) refl (record { at = 3; bytes = drop 3 bytes }) e

laid_is : (r : Result (List Cell) FieldFault) (cells : List Cell) → laid_out r ≡ Ok cells → r ≡ Ok cells
laid_is (Ok x) cells e = cc
laid_is (Err f) cells e = absurd (cc)

-- a record of the second format is the record of its commit
record_reads : (bytes : List ℕ) (r : Record) → record_of bytes ≡ Ok r → commit_of bytes ≡ Ok r.commit
unfolding record_of second_commit_of commit_of row_of
record_reads bytes r e =
    let row = bind_ok (cells_of record_tag record_kinds bytes) record_in r e in
    let laid : row_of record_tag record_kinds bytes ≡ Ok row.0 = laid_is (row_of record_tag record_kinds bytes) row.0 row.1 in
    let tag = field_ok (tag_at record_tag (start bytes)) _ row.0 laid in
    ap (λ t. if t then second_commit_of bytes else first_commit_of bytes) (tag_found bytes tag.0 tag.1) ∙ ap (λ read. read >>= λ (whole : Record). Ok whole.commit) e

-- ---- under a name

-- something was read, and stands under its name
abbrev WasRead : {A : Type 0} → List ℕ → (A → List ℕ) → Result A RecordFault → A → Type 0
WasRead name its_name r x = (r ≡ Ok x) × IsTrue (bytes_eq name (its_name x))

read_from : {A : Type 0} (name : List ℕ) (its_name : A → List ℕ) (r : Result A RecordFault) (x : A) → In x (read_under name its_name r) → WasRead name its_name r x
read_from name its_name (Err e) x among = absurd among
read_from {A} name its_name (Ok y) x among = cases (bytes_eq name (its_name y)) refl among
  where
    cases : (t : Bool) → bytes_eq name (its_name y) ≡ t → In x (if t then y ∷ [] else []) → WasRead name its_name (Ok y) x
    cases true same (inl is) = (ap (λ (z : A). Ok z) (sym is), subst (λ z. IsTrue (bytes_eq name (its_name z))) (sym is) same)
    cases true same (inr nowhere) = absurd nowhere
    cases false same nowhere = absurd nowhere

read_there : {A : Type 0} (name : List ℕ) (its_name : A → List ℕ) (r : Result A RecordFault) (x : A) → r ≡ Ok x → IsTrue (bytes_eq name (its_name x)) → In x (read_under name its_name r)
read_there name its_name r x is same =
    subst (λ read. In x (read_under name its_name read)) (sym is) (subst (λ t. In x (if t then x ∷ [] else [])) (sym same) (inl refl))

-- the commit of a record of the second format is one that its pair shows
pub written_is : (pair : Pair) (r : Record) → In r (written_in pair) → In r.commit (records_in pair)
written_is pair r among =
    let read = read_from pair.name (λ (q : Record). record_name q.commit.id.uuid) (record_of pair.bytes) r among in
    read_there pair.name (λ (c : Commit). record_name c.id.uuid) (commit_of pair.bytes) r.commit (record_reads pair.bytes r read.0) read.1

-- and so is that of the first format
first_is : (pair : Pair) (c : Commit) → In c (first_format_in pair) → In c (records_in pair)
first_is pair c among = cases (length (written_in pair) == 0) among
  where
    cases : (t : Bool) → In c (if t then records_in pair else []) → In c (records_in pair)
    cases true among = among
    cases false among = absurd among

-- ---- what was shown in the first format is committed

flat_map_in : {A B : Type 0} (f : A → List B) (x : A) (y : B) (xs : List A) → In x xs → In y (f x) → In y (flat_map f xs)
flat_map_in f x y [] among gives = absurd among
flat_map_in f x y (z ∷ xs) (inl here) gives = in_front y (f z) (flat_map f xs) (subst (λ w. In y (f w)) here gives)
flat_map_in f x y (z ∷ xs) (inr later) gives = in_back y (f z) (flat_map f xs) (flat_map_in f x y xs later gives)

pub shown_is_committed : (c : Commit) (history : List DoorEntry) → IsTrue (shows_first_format c history) → In c (committed history)
shown_is_committed c history shown =
    let entry = any_found _ history shown in
    let pair = any_found _ (shown_pairs entry.0) entry.2 in
    let found = any_found (same_commit c) (first_format_in pair.0) pair.2 in
    let there : In found.0 (committed_by entry.0) =
    flat_map_in records_in pair.0 found.0 (stored_pairs entry.0 ++ shown_pairs entry.0) (in_back pair.0 (stored_pairs entry.0) (shown_pairs entry.0) pair.1) (first_is pair.0 found.0 found.1) in
    subst (λ d. In d (committed history)) (sym (same_commits c found.0 found.2)) (flat_map_in (λ (e : DoorEntry). committed_by e) entry.0 found.0 history entry.1 there)
