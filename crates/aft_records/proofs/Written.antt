-- What was written has a reading exactly where its time keeps the limit, and no spelling begins another.
use Rattle.std.proofs.Common.{◌≡◌, ℕ, ◌^◌, ◌<◌, ◌≤◌, Bool, true, false, cond, ◌&&◌, leb, ltb, List, [], ◌∷◌, ◌++◌, length, get_or, Result, Ok, Err, refl, sym, ap, ◌∙◌, arith, inl, inr}
use Rattle.std.specs.Prelude.{map, All}
use Rattle.std.specs.Int.{w128, to_be_bytes}
use Rattle.std.specs.List.{list_all}
use Rattle.std.specs.Str.{IsAscii, is_utf8}
use Rattle.std.proofs.lemmas.Bool.{and_parts, leb-true, ltb-true, le-leb, lt-ltb}
use Rattle.std.proofs.lemmas.List.{length-map}
use Rattle.std.proofs.lemmas.Str.{IsUtf8-from_ascii, is_utf8-from_IsUtf8}
use Rattle.std.proofs.lemmas.Str.Ascii.{IsAscii-nil, IsAscii-cons}
use Rattle.aft_fields.specs.declared.table.Cell.{Cell}
use Rattle.aft_fields.specs.declared.table.Cell.TheVariants.{U64, Text, Bytes, Texts}
use Rattle.aft_fields.specs.declared.table.Kind.{Kind}
use Rattle.aft_fields.specs.declared.table.Kind.TheVariants as kinds
use Rattle.aft_fields.specs.Kinds.{is_count, is_text, are_texts, are_of}
use Rattle.aft_fields.specs.Order.{ascend}
use Rattle.aft_fields.specs.Spelling.{row_bytes}
use Rattle.aft_fields.proofs.Rows.{row_written, rows_apart}
use Rattle.aft_fields.proofs.Wide.{wide128}
use Rattle.aft_id.specs.declared.txn_id.TxnId.{TxnId}
use Rattle.aft_id.specs.TxnId.{IsUuid, uuid_number}
use Rattle.aft_records.specs.declared.fault.RecordFault.{RecordFault}
use Rattle.aft_records.specs.declared.fault.RecordFault.TheVariants.{BadTime}
use Rattle.aft_records.specs.declared.stored.Commit.{Commit}
use Rattle.aft_records.specs.declared.stored.Origin.{Origin}
use Rattle.aft_records.specs.declared.stored.Record.{Record}
use Rattle.aft_records.specs.declared.stored.Version.{Version}
use Rattle.aft_records.specs.declared.stored.Marker.{Marker}
use Rattle.aft_records.specs.declared.stored.Marker.TheVariants.{Full, Done}
use Rattle.aft_records.specs.Gives.{◌>>=◌}
use Rattle.aft_records.specs.Limits.{is_time, IsTime, is_key_byte, is_key, IsKey, AreKeys, is_origin}
use Rattle.aft_records.specs.Names.{id_digits}
use Rattle.aft_records.specs.Reading.{cells_of, id_in, checked_time, checked_set, checked_commit, commit_in, checked_record, record_in, checked_version, version_in, done_in, first_commit_of, record_of, second_commit_of, commit_of, version_of, full_of, done_of, marker_of}
use Rattle.aft_records.specs.Records.{IsSpelledRecordOf}
use Rattle.aft_records.specs.Rows.{version_tag, commit_tag, record_tag, full_tag, done_tag, version_kinds, commit_kinds, record_kinds, done_kinds, id_cells, commit_cells, commit_row, record_cells, record_row, version_cells, version_row, marker_row}
use Rattle.aft_records.specs.Stored.{IsWritableId, IsWritableCommit, IsWritableRecord, IsOrigin, IsCommit, IsWritableVersion, IsWritableMarker, marker_time, if_timely}
use Rattle.aft_records.proofs.Steps.{ok_is}
use Rattle.aft_records.proofs.KeyChecks.{checked_keys-all}
use Rattle.aft_records.proofs.LimitTests.{time_below, key_limits, key_passes, count_passes}
use Rattle.aft_records.proofs.NameWritten.{uuid_bytes}
use Rattle.aft_records.proofs.ReadIds.{reads_are_texts, ids_again, reads_apart}

-- ---- cells are of their table

both : (a b : Bool) → a ≡ true → b ≡ true → (a && b) ≡ true
both a b p q = rw (p, q) refl

uuid_again : (uuid : List ℕ) → IsUuid uuid → to_be_bytes w128 (uuid_number uuid) ≡ uuid
uuid_again uuid is = wide128.back uuid is.0 (uuid_bytes uuid is)

-- an id before the cells of other kinds
id_of_kinds : (id : TxnId) → IsWritableId id → (more : List Kind) (cells : List Cell) → are_of more cells ≡ true → are_of (done_kinds ++ more) (id_cells id cells) ≡ true
id_of_kinds id is more cells h =
    let number = wide128.below id.uuid is.uuid.0 (uuid_bytes id.uuid is.uuid) in
    rw (lt-ltb id.time (2 ^ 64) is.time, lt-ltb (uuid_number id.uuid) (2 ^ 128) number) h

graphic_ascii : (bytes : List ℕ) → list_all is_key_byte bytes ≡ true → IsAscii bytes
graphic_ascii [] h = IsAscii-nil
graphic_ascii (b ∷ bytes) h =
    let p = and_parts (is_key_byte b) (list_all is_key_byte bytes) h in
    let low = leb-true b 126 (and_parts _ _ p.0).1 in
    IsAscii-cons b bytes (omega arith) (graphic_ascii bytes p.1)

key_is_text : (key : List ℕ) → IsKey key → is_text key ≡ true
key_is_text key limits =
    both (is_utf8 key) (is_count (length key)) (is_utf8-from_IsUtf8 key (IsUtf8-from_ascii key (graphic_ascii key limits.graphic))) (lt-ltb (length key) (2 ^ 32) (omega (arith, limits.short)))

keys_are_text : (keys : List (List ℕ)) → list_all is_key keys ≡ true → list_all is_text keys ≡ true
keys_are_text [] h = refl
keys_are_text (key ∷ keys) h =
    let p = and_parts (is_key key) (list_all is_key keys) h in
    both (is_text key) (list_all is_text keys) (key_is_text key (key_limits key p.0)) (keys_are_text keys p.1)

keys_are_texts : (keys : List (List ℕ)) → AreKeys keys → are_texts keys ≡ true
keys_are_texts keys set =
    both (is_count (length keys) && list_all is_text keys) (ascend keys)
    (both (is_count (length keys)) (list_all is_text keys) (lt-ltb (length keys) (2 ^ 32) (omega (arith, set.few))) (keys_are_text keys set.each)) set.ascending

commit_of_table : (c : Commit) → IsWritableCommit c → are_of commit_kinds (commit_cells c) ≡ true
commit_of_table c is = id_of_kinds c.id is.id (kinds.Texts ∷ []) (Texts c.keys ∷ []) (rw (keys_are_texts c.keys is.keys) refl)

done_of_table : (id : TxnId) → IsWritableId id → are_of done_kinds (id_cells id []) ≡ true
done_of_table id is = id_of_kinds id is [] [] refl

version_of_table : (v : Version) → IsWritableVersion v → are_of version_kinds (version_cells v) ≡ true
version_of_table v is = id_of_kinds v.id is.id (kinds.Text ∷ kinds.Bytes ∷ []) (Text v.key ∷ Bytes v.value ∷ []) (rw (key_is_text v.key is.key, lt-ltb (length v.value) (2 ^ 32) (omega (arith, is.value))) refl)

-- the ids of an origin can be written
writable_reads : (o : Origin) → IsOrigin o → All IsWritableId o.reads
writable_reads o is k d lt =
    let on_time : IsTime (get_or o.reads k d).time = is.reads.timely k d lt in
    record { time = time_below (get_or o.reads k d).time on_time; uuid = is.uuids k d lt }

node_below : (node inc reads : ℕ) → is_origin node inc reads ≡ true → (node ≤ 8) × (inc < 2 ^ 32)
node_below node inc reads h =
    let p = and_parts (leb node 8 && ltb inc (2 ^ 32)) _ h in
    let q = and_parts (leb node 8) (ltb inc (2 ^ 32)) p.0 in
    (leb-true node 8 q.0, ltb-true inc (2 ^ 32) q.1)

record_of_table : (r : Record) → IsWritableRecord r → are_of record_kinds (record_cells r) ≡ true
record_of_table r is =
    let numbers = node_below r.origin.node r.origin.inc (length r.origin.reads) is.origin.limits in
    let reads = reads_are_texts r.origin.reads is.origin.reads.few (writable_reads r.origin is.origin) is.origin.reads.ascending in
    id_of_kinds r.commit.id is.commit.id (kinds.Texts ∷ kinds.U64 ∷ kinds.U64 ∷ kinds.Texts ∷ []) (Texts r.commit.keys ∷ U64 r.origin.node ∷ U64 r.origin.inc ∷ Texts (map id_digits r.origin.reads) ∷ [])
    (rw (keys_are_texts r.commit.keys is.commit.keys, lt-ltb r.origin.node (2 ^ 64) (omega (arith, numbers)), lt-ltb r.origin.inc (2 ^ 64) (omega (arith, numbers)), reads) refl)

-- ---- cells are read again

id_again : (id : TxnId) (rest : List Cell) → IsWritableId id → id_in (id_cells id rest) ≡ Ok (id, rest)
unfolding id_in
id_again id rest is = ap (λ (uuid : List ℕ). Ok (record { time = id.time; uuid = uuid }, rest)) (uuid_again id.uuid is.uuid)

set_again : (keys : List (List ℕ)) → AreKeys keys → checked_set keys ≡ Ok keys
unfolding checked_set
set_again keys set = rw (count_passes keys set, checked_keys-all 0 keys set.each) refl

abbrev checked : Bool → Result Unit RecordFault
checked b = cond b (Ok tt) (Err BadTime)

timely_by : {A : Type 0} (b : Bool) (value : A) → (checked b >>= λ _. Ok value) ≡ cond b (Ok value) (Err BadTime)
timely_by true value = refl
timely_by false value = refl

timely : {A : Type 0} (time : ℕ) (value : A) → (checked_time time >>= λ _. Ok value) ≡ if_timely time value
timely time value = timely_by (is_time time) value

pub timely_is : {A : Type 0} (time : ℕ) (value : A) → IsTime time → if_timely time value ≡ Ok value
timely_is time value h = rw h refl

-- a step on a value that may have no time
after_by : {A B : Type 0} (b : Bool) (x : A) (f : A → Result B RecordFault) (y : B) → f x ≡ Ok y → (cond b (Ok x) (Err BadTime) >>= f) ≡ cond b (Ok y) (Err BadTime)
after_by true x f y e = e
after_by false x f y e = refl

after : {A B : Type 0} (time : ℕ) (x : A) (f : A → Result B RecordFault) (y : B) → f x ≡ Ok y → (if_timely time x >>= f) ≡ if_timely time y
after time x f y e = after_by (is_time time) x f y e

checked_commit-again : (c : Commit) → IsWritableCommit c → checked_commit c.id c.keys ≡ if_timely c.id.time c
unfolding checked_commit
checked_commit-again c is = rw (set_again c.keys is.keys) (timely c.id.time c)

commit_again : (c : Commit) → IsWritableCommit c → commit_in (commit_cells c) ≡ if_timely c.id.time c
unfolding commit_in
commit_again c is = rw (id_again c.id (Texts c.keys ∷ []) is.id) (checked_commit-again c is)

record_again : (r : Record) → IsWritableRecord r → record_in (record_cells r) ≡ if_timely r.commit.id.time r
unfolding record_in checked_record
record_again r is =
    let number : length (map id_digits r.origin.reads) ≡ length r.origin.reads = length-map r.origin.reads id_digits in
    let ids = ids_again r.origin.reads (writable_reads r.origin is.origin) is.origin.reads.timely in
    let few = le-leb (length r.origin.reads) 8 is.origin.reads.few in
    rw (id_again r.commit.id (Texts r.commit.keys ∷ U64 r.origin.node ∷ U64 r.origin.inc ∷ Texts (map id_digits r.origin.reads) ∷ []) is.commit.id, checked_commit-again r.commit is.commit)
    (after r.commit.id.time r.commit _ r (rw (number, is.origin.limits, few, ids) refl))

version_again : (v : Version) → IsWritableVersion v → version_in (version_cells v) ≡ if_timely v.id.time v
unfolding version_in checked_version
version_again v is = rw (id_again v.id (Text v.key ∷ Bytes v.value ∷ []) is.id, key_passes v.key is.key, le-leb (length v.value) 4096 is.value) (timely v.id.time v)

done_again : (id : TxnId) → IsWritableId id → done_in (id_cells id []) ≡ if_timely id.time (Done id)
unfolding done_in
done_again id is = rw (id_again id [] is) (timely id.time (Done id))

-- ---- a whole row

-- the row of a table is laid out as its cells
row_again : (tag : List ℕ) (kinds : List Kind) (cells : List Cell) → length tag ≡ 3 → are_of kinds cells ≡ true → cells_of tag kinds (row_bytes tag cells) ≡ Ok cells
row_again tag kinds cells len h = rw (row_written tag kinds cells len h) refl

first_commit_written : (c : Commit) → IsWritableCommit c → first_commit_of (commit_row c) ≡ if_timely c.id.time c
unfolding first_commit_of
first_commit_written c is = rw (row_again commit_tag commit_kinds (commit_cells c) refl (commit_of_table c is)) (commit_again c is)

pub commit_written : (c : Commit) → IsWritableCommit c → commit_of (commit_row c) ≡ if_timely c.id.time c
unfolding commit_of
commit_written c is = first_commit_written c is

pub record_written : (r : Record) → IsWritableRecord r → record_of (record_row r) ≡ if_timely r.commit.id.time r
unfolding record_of
record_written r is = rw (row_again record_tag record_kinds (record_cells r) refl (record_of_table r is)) (record_again r is)

second_commit_written : (r : Record) → IsWritableRecord r → second_commit_of (record_row r) ≡ if_timely r.commit.id.time r.commit
unfolding second_commit_of
second_commit_written r is = rw (record_written r is) (after r.commit.id.time r (λ whole. Ok whole.commit) r.commit refl)

pub commit_of_record_written : (r : Record) → IsWritableRecord r → commit_of (record_row r) ≡ if_timely r.commit.id.time r.commit
unfolding commit_of
commit_of_record_written r is = second_commit_written r is

-- each spelling of a record of a commit is read as that commit
pub spelled_written : (bytes : List ℕ) (c : Commit) → IsCommit c → IsSpelledRecordOf bytes c → commit_of bytes ≡ Ok c
spelled_written bytes c is (inl first) = ap commit_of first ∙ commit_written c is.0 ∙ timely_is c.id.time c is.1
spelled_written bytes c is (inr second) =
    let whole : Record = record { commit = c; origin = second.0 } in
    ap commit_of second.2 ∙ commit_of_record_written whole (record { commit = is.0; origin = second.1 }) ∙ timely_is c.id.time c is.1

pub version_written : (v : Version) → IsWritableVersion v → version_of (version_row v) ≡ if_timely v.id.time v
unfolding version_of
version_written v is = rw (row_again version_tag version_kinds (version_cells v) refl (version_of_table v is)) (version_again v is)

full_written : (c : Commit) → IsWritableCommit c → full_of (marker_row (Full c)) ≡ if_timely c.id.time (Full c)
unfolding full_of
full_written c is = rw (row_again full_tag commit_kinds (commit_cells c) refl (commit_of_table c is), commit_again c is) (after c.id.time c (λ commit. Ok (Full commit)) (Full c) refl)

done_written : (id : TxnId) → IsWritableId id → done_of (marker_row (Done id)) ≡ if_timely id.time (Done id)
unfolding done_of
done_written id is = rw (row_again done_tag done_kinds (id_cells id []) refl (done_of_table id is)) (done_again id is)

pub marker_written : (m : Marker) → IsWritableMarker m → marker_of (marker_row m) ≡ if_timely (marker_time m) m
unfolding marker_of
marker_written (Full c) is = full_written c is
marker_written (Done id) is = done_written id is

-- ---- no spelling begins another

-- ids with the same cells are the same, and so are the cells after them
ids_apart : (i j : TxnId) (x y : List Cell) → IsWritableId i → IsWritableId j → id_cells i x ≡ id_cells j y → (i ≡ j) × (x ≡ y)
ids_apart i j x y wi wj e =
    let same = sym (id_again i x wi) ∙ ap id_in e ∙ id_again j y wj in
    let both = ok_is (i, x) (j, y) same in
    (ap (λ (z : TxnId × List Cell). z.0) both, ap (λ (z : TxnId × List Cell). z.1) both)

commit_cells_apart : (c d : Commit) → IsWritableCommit c → IsWritableCommit d → commit_cells c ≡ commit_cells d → c ≡ d
commit_cells_apart c d is is' e =
    let p = ids_apart c.id d.id (Texts c.keys ∷ []) (Texts d.keys ∷ []) is.id is'.id e in
    let keys : c.keys ≡ d.keys = texts_apart c.keys d.keys [] [] p.1 in
    ap (λ (id : TxnId). record { id = id; keys = c.keys }) p.0 ∙ ap (λ (keys : List (List ℕ)). record { id = d.id; keys = keys }) keys
  where
    texts_apart : (a b : List (List ℕ)) (x y : List Cell) → Texts a ∷ x ≡ Texts b ∷ y → a ≡ b
    texts_apart a b x y e = cc

pub commits_apart : (c d : Commit) (x y : List ℕ) → IsWritableCommit c → IsWritableCommit d → commit_row c ++ x ≡ commit_row d ++ y → (c ≡ d) × (x ≡ y)
commits_apart c d x y is is' e =
    let p = rows_apart commit_tag commit_kinds (commit_cells c) (commit_cells d) x y refl (commit_of_table c is) (commit_of_table d is') e in
    (commit_cells_apart c d is is' p.0, p.1)

-- the parts of two records whose cells are the same
record RecordsMeet (r s : Record) : Type 0 where
  id : r.commit.id ≡ s.commit.id
  keys : r.commit.keys ≡ s.commit.keys
  node : r.origin.node ≡ s.origin.node
  inc : r.origin.inc ≡ s.origin.inc
  reads : r.origin.reads ≡ s.origin.reads

records_meet : (r s : Record) → IsWritableRecord r → IsWritableRecord s → record_cells r ≡ record_cells s → RecordsMeet r s
records_meet r s is is' e =
    let p = ids_apart r.commit.id s.commit.id (rest r) (rest s) is.commit.id is'.commit.id e in
    let cells = parts r.commit.keys s.commit.keys r.origin.node s.origin.node r.origin.inc s.origin.inc (map id_digits r.origin.reads) (map id_digits s.origin.reads) p.1 in
    record {
      id = p.0;
      keys = cells.0;
      node = cells.1;
      inc = cells.2;
      reads = reads_apart r.origin.reads s.origin.reads (writable_reads r.origin is.origin) (writable_reads s.origin is'.origin) cells.3;
    }
  where
    rest : Record → List Cell
    rest r = Texts r.commit.keys ∷ U64 r.origin.node ∷ U64 r.origin.inc ∷ Texts (map id_digits r.origin.reads) ∷ []

    parts : (k l : List (List ℕ)) (m n i j : ℕ) (a b : List (List ℕ)) → Texts k ∷ U64 m ∷ U64 i ∷ Texts a ∷ [] ≡ Texts l ∷ U64 n ∷ U64 j ∷ Texts b ∷ [] → (k ≡ l) × (m ≡ n) × (i ≡ j) × (a ≡ b)
    parts k l m n i j a b e = (cc, cc, cc, cc)

pub records_apart : (r s : Record) (x y : List ℕ) → IsWritableRecord r → IsWritableRecord s → record_row r ++ x ≡ record_row s ++ y → (r ≡ s) × (x ≡ y)
records_apart r s x y is is' e =
    let p = rows_apart record_tag record_kinds (record_cells r) (record_cells s) x y refl (record_of_table r is) (record_of_table s is') e in
    let m = records_meet r s is is' p.0 in
    let make : TxnId → List (List ℕ) → ℕ → ℕ → List TxnId → Record = λ id keys node inc reads. record { commit = record { id = id; keys = keys }; origin = record { node = node; inc = inc; reads = reads } } in
    (λ i. make (m.id i) (m.keys i) (m.node i) (m.inc i) (m.reads i), p.1)

pub versions_apart : (v w : Version) (x y : List ℕ) → IsWritableVersion v → IsWritableVersion w → version_row v ++ x ≡ version_row w ++ y → (v ≡ w) × (x ≡ y)
versions_apart v w x y is is' e =
    let p = rows_apart version_tag version_kinds (version_cells v) (version_cells w) x y refl (version_of_table v is) (version_of_table w is') e in
    let q = ids_apart v.id w.id (Text v.key ∷ Bytes v.value ∷ []) (Text w.key ∷ Bytes w.value ∷ []) is.id is'.id p.0 in
    let cells = parts v.key w.key v.value w.value q.1 in
    let make : TxnId → List ℕ → List ℕ → Version = λ id key value. record { id = id; key = key; value = value } in
    (λ i. make (q.0 i) (cells.0 i) (cells.1 i), p.1)
  where
    parts : (k l a b : List ℕ) → Text k ∷ Bytes a ∷ [] ≡ Text l ∷ Bytes b ∷ [] → (k ≡ l) × (a ≡ b)
    parts k l a b e = (cc, cc)

tags_differ : (x y : List ℕ) → full_tag ++ x ≡ done_tag ++ y → ⊥
tags_differ x y e =
    let h : ◌≡◌ {A = ℕ} 70 68 = ap (λ (bytes : List ℕ). get_or bytes 1 0) e in
    omega arith

pub markers_apart : (m n : Marker) (x y : List ℕ) → IsWritableMarker m → IsWritableMarker n → marker_row m ++ x ≡ marker_row n ++ y → (m ≡ n) × (x ≡ y)
markers_apart (Full c) (Full d) x y is is' e =
    let p = rows_apart full_tag commit_kinds (commit_cells c) (commit_cells d) x y refl (commit_of_table c is) (commit_of_table d is') e in
    (ap Full (commit_cells_apart c d is is' p.0), p.1)
markers_apart (Done i) (Done j) x y is is' e =
    let p = rows_apart done_tag done_kinds (id_cells i []) (id_cells j []) x y refl (done_of_table i is) (done_of_table j is') e in
    (ap Done (ids_apart i j [] [] is is' p.0).0, p.1)
markers_apart (Full c) (Done j) x y is is' e = absurd (tags_differ _ _ e)
markers_apart (Done i) (Full d) x y is is' e = absurd (tags_differ _ _ (sym e))
