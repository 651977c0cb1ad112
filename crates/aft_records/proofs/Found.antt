-- What is read is spelled so, and keeps the limits.
use Rattle.std.proofs.Common.{◌≡◌, ℕ, Bool, true, false, cond, List, [], ◌∷◌, length, Option, Some, None, Result, Ok, Err, refl, sym, ap, subst, ◌∙◌, inl, inr, ◌⊎◌, arith}
use Rattle.std.specs.Prelude.{IfOk, All}
use Rattle.std.specs.List.{list_all}
use Rattle.std.proofs.lemmas.Bool.{leb-true}
use Rattle.std.proofs.lemmas.List.{length-map}
use Rattle.aft_fields.specs.declared.table.Cell.{Cell}
use Rattle.aft_fields.specs.declared.table.Cell.TheVariants.{U64, Text, Bytes, Texts}
use Rattle.aft_fields.specs.declared.table.Kind.TheVariants as kinds
use Rattle.aft_fields.specs.Kinds.{are_of}
use Rattle.aft_fields.specs.Order.{ascend}
use Rattle.aft_fields.specs.Spelling.{row_bytes}
use Rattle.aft_fields.proofs.Bytes.{IsBytes}
use Rattle.aft_id.specs.declared.txn_id.TxnId.{TxnId}
use Rattle.aft_id.specs.TxnId.{IsUuid}
use Rattle.aft_records.specs.declared.fault.RecordFault.{RecordFault}
use Rattle.aft_records.specs.declared.fault.RecordFault.TheVariants.{BadTime, BadKeys, BadKey, BadOrigin, BadReads, LongValue}
use Rattle.aft_records.specs.declared.stored.Commit.{Commit}
use Rattle.aft_records.specs.declared.stored.Record.{Record}
use Rattle.aft_records.specs.declared.stored.Version.{Version}
use Rattle.aft_records.specs.declared.stored.Marker.{Marker}
use Rattle.aft_records.specs.declared.stored.Marker.TheVariants.{Full, Done}
use Rattle.aft_records.specs.Gives.{◌>>=◌, Gives}
use Rattle.aft_records.specs.Limits.{is_time, is_key, is_key_count, is_origin, is_read_count, is_value_length}
use Rattle.aft_records.specs.Names.{id_digits}
use Rattle.aft_records.specs.ReadIds.{ids_of}
use Rattle.aft_records.specs.Reading.{cells_of, is_tagged, number_in, text_in, bytes_in, texts_in, id_in, checked_time, checked_keys, checked_set, checked_key, checked_value, checked_origin, found_ids, checked_reads, checked_commit, commit_in, checked_record, record_in, checked_version, version_in, done_in, first_commit_of, record_of, second_commit_of, commit_of, version_of, full_of, done_of, marker_of}
use Rattle.aft_records.specs.Records.{IsSpelledRecordOf}
use Rattle.aft_records.specs.Rows.{version_tag, commit_tag, record_tag, full_tag, done_tag, version_kinds, commit_kinds, record_kinds, done_kinds, id_cells, commit_cells, commit_row, record_cells, record_row, version_cells, version_row, marker_row}
use Rattle.aft_records.specs.Stored.{IsWritableId, IsCommit, IsRecord, IsVersion, IsMarker}
use Rattle.aft_records.proofs.Steps.{bind_ok, test_ok, ok_is}
use Rattle.aft_records.proofs.LimitTests.{key_limits, set_limits}
use Rattle.aft_records.proofs.KeyChecks.{all_keys}
use Rattle.aft_records.proofs.ReadIds.{AreIds, ids_found, ascend_as}
use Rattle.aft_records.proofs.RowsFound.{row_is, number_is, text_is, bytes_is, texts_is, next_found, none_left, texts_ascend, id_takes}

-- ---- the limits

set_is : (keys x : List (List ℕ)) → checked_set keys ≡ Ok x → (is_key_count (length keys) ≡ true) × (list_all is_key keys ≡ true) × (keys ≡ x)
unfolding checked_set
set_is keys x e =
    let a = bind_ok (cond (is_key_count (length keys)) (checked_keys 0 keys) (Err BadKeys)) (λ _. Ok keys) x e in
    let g = test_ok (is_key_count (length keys)) BadKeys (checked_keys 0 keys) a.0 a.1 in
    (g.0, all_keys 0 keys g.1, ok_is keys x a.2)

-- a commit that keeps the limits is the one of its id and keys
commit_is : (id : TxnId) (keys : List (List ℕ)) (c : Commit) → IsWritableId id → ascend keys ≡ true → checked_commit id keys ≡ Ok c → IsCommit c × (record { id = id; keys = keys } ≡ c)
unfolding checked_commit
commit_is id keys c writable ascending e =
    let a = bind_ok (checked_time id.time) (λ _. checked_set keys >>= λ set. Ok (record { id = id; keys = set })) c e in
    let b = bind_ok (checked_set keys) (λ set. Ok (record { id = id; keys = set })) c a.2 in
    let timely = (test_ok (is_time id.time) BadTime (Ok tt) a.0 a.1).0 in
    let set = set_is keys b.0 b.1 in
    let made : Commit = record { id = id; keys = keys } in
    let same : made ≡ c = ap (λ (k : List (List ℕ)). record { id = id; keys = k }) set.2 ∙ ok_is (record { id = id; keys = b.0 }) c b.2 in
    (subst IsCommit same (record { id = writable; keys = set_limits keys set.0 set.1 ascending }, timely), same)

-- ---- cells

commit_takes : (cells : List Cell) (c : Commit) → are_of commit_kinds cells ≡ true → commit_in cells ≡ Ok c → IsCommit c × (cells ≡ commit_cells c)
unfolding commit_in
commit_takes cells c h e =
    let a = bind_ok (id_in cells) (λ id. texts_in id.1 >>= λ keys. checked_commit id.0 keys.0) c e in
    let b = bind_ok (texts_in a.0.1) (λ keys. checked_commit a.0.0 keys.0) c a.2 in
    let t = id_takes (kinds.Texts ∷ []) cells a.0 h a.1 in
    let third = texts_is a.0.1 b.0 b.1 in
    let k = next_found kinds.Texts [] a.0.1 (Texts b.0.0) b.0.1 third t.others in
    let i = commit_is a.0.0 b.0.0 c t.writable (texts_ascend b.0.0 k.0) b.2 in
    (i.0, t.parts ∙ ap (id_cells a.0.0) (third ∙ ap (λ (y : List Cell). Texts b.0.0 ∷ y) (none_left b.0.1 k.1)) ∙ ap commit_cells i.1)

found_is : (texts : List (List ℕ)) (ids : List TxnId) → found_ids (ids_of texts) ≡ Ok ids → AreIds texts ids
found_is texts ids e = by_ids (ids_of texts) refl e
  where
    by_ids : (o : Option (List TxnId)) → ids_of texts ≡ o → found_ids o ≡ Ok ids → AreIds texts ids
    by_ids (Some x) is e = ids_found texts ids (is ∙ ap Some (ok_is x ids e))
    by_ids None is e = absurd cc

uuids_of : (ids : List TxnId) → All IsWritableId ids → All (λ id. IsUuid id.uuid) ids
uuids_of ids all k d lt = (all k d lt).uuid

-- a record that keeps the limits is the one of its cells
record_is : (id : TxnId) (keys : List (List ℕ)) (node inc : ℕ) (reads : List (List ℕ)) (r : Record) → IsWritableId id → ascend keys ≡ true → ascend reads ≡ true
    → checked_record id keys node inc reads ≡ Ok r → IsRecord r × (id_cells id (Texts keys ∷ U64 node ∷ U64 inc ∷ Texts reads ∷ []) ≡ record_cells r)
unfolding checked_record
record_is id keys node inc reads r writable keys_ascend reads_ascend e =
    let a = bind_ok (checked_commit id keys) (λ commit. checked_origin node inc (length reads) >>= λ _. checked_reads reads >>= λ ids. Ok (record { commit = commit; origin = record { node = node; inc = inc; reads = ids } })) r e in
    let b = bind_ok (checked_origin node inc (length reads)) (λ _. checked_reads reads >>= λ ids. Ok (record { commit = a.0; origin = record { node = node; inc = inc; reads = ids } })) r a.2 in
    let d = bind_ok (checked_reads reads) (λ ids. Ok (record { commit = a.0; origin = record { node = node; inc = inc; reads = ids } })) r b.2 in
    let commit = commit_is id keys a.0 writable keys_ascend a.1 in
    let limits = (test_ok (is_origin node inc (length reads)) BadOrigin (Ok tt) b.0 b.1).0 in
    let few = test_ok (is_read_count (length reads)) BadReads (found_ids (ids_of reads)) d.0 d.1 in
    let ids = found_is reads d.0 few.1 in
    let number : length d.0 ≡ length reads = sym (length-map d.0 id_digits) ∙ ap length ids.spelled in
    let made : Record = record { commit = a.0; origin = record { node = node; inc = inc; reads = d.0 } } in
    let ascending = sym (ascend_as d.0 ids.writable) ∙ ap ascend ids.spelled ∙ reads_ascend in
    let cells : id_cells id (Texts keys ∷ U64 node ∷ U64 inc ∷ Texts reads ∷ []) ≡ record_cells made =
    ap (λ (c : Commit). id_cells c.id (Texts c.keys ∷ U64 node ∷ U64 inc ∷ Texts reads ∷ [])) commit.1
    ∙ ap (λ (texts : List (List ℕ)). id_cells a.0.id (Texts a.0.keys ∷ U64 node ∷ U64 inc ∷ Texts texts ∷ [])) (sym ids.spelled) in
    subst (λ (y : Record). IsRecord y × (id_cells id (Texts keys ∷ U64 node ∷ U64 inc ∷ Texts reads ∷ []) ≡ record_cells y)) (ok_is made r d.2) (
      (
        record {
          commit = commit.0.0;
          origin = record {
            limits = ap (is_origin node inc) number ∙ limits;
            reads = record { few = omega (arith, number, leb-true (length reads) 8 few.0); timely = ids.timely; ascending = ascending };
            uuids = uuids_of d.0 ids.writable;
          };
        },
        commit.0.1,
      ),
      cells,
    )

record_takes : (cells : List Cell) (r : Record) → are_of record_kinds cells ≡ true → record_in cells ≡ Ok r → IsRecord r × (cells ≡ record_cells r)
unfolding record_in
record_takes cells r h e =
    let a = bind_ok (id_in cells) (λ id. texts_in id.1 >>= λ keys. number_in keys.1 >>= λ node. number_in node.1 >>= λ inc. texts_in inc.1 >>= λ reads. checked_record id.0 keys.0 node.0 inc.0 reads.0) r e in
    let b = bind_ok (texts_in a.0.1) (λ keys. number_in keys.1 >>= λ node. number_in node.1 >>= λ inc. texts_in inc.1 >>= λ reads. checked_record a.0.0 keys.0 node.0 inc.0 reads.0) r a.2 in
    let c = bind_ok (number_in b.0.1) (λ node. number_in node.1 >>= λ inc. texts_in inc.1 >>= λ reads. checked_record a.0.0 b.0.0 node.0 inc.0 reads.0) r b.2 in
    let d = bind_ok (number_in c.0.1) (λ inc. texts_in inc.1 >>= λ reads. checked_record a.0.0 b.0.0 c.0.0 inc.0 reads.0) r c.2 in
    let f = bind_ok (texts_in d.0.1) (λ reads. checked_record a.0.0 b.0.0 c.0.0 d.0.0 reads.0) r d.2 in
    let t = id_takes (kinds.Texts ∷ kinds.U64 ∷ kinds.U64 ∷ kinds.Texts ∷ []) cells a.0 h a.1 in
    let keys_are = texts_is a.0.1 b.0 b.1 in
    let node_is = number_is b.0.1 c.0 c.1 in
    let inc_is = number_is c.0.1 d.0 d.1 in
    let reads_are = texts_is d.0.1 f.0 f.1 in
    let keys = next_found kinds.Texts (kinds.U64 ∷ kinds.U64 ∷ kinds.Texts ∷ []) a.0.1 (Texts b.0.0) b.0.1 keys_are t.others in
    let node = next_found kinds.U64 (kinds.U64 ∷ kinds.Texts ∷ []) b.0.1 (U64 c.0.0) c.0.1 node_is keys.1 in
    let inc = next_found kinds.U64 (kinds.Texts ∷ []) c.0.1 (U64 d.0.0) d.0.1 inc_is node.1 in
    let reads = next_found kinds.Texts [] d.0.1 (Texts f.0.0) f.0.1 reads_are inc.1 in
    let i = record_is a.0.0 b.0.0 c.0.0 d.0.0 f.0.0 r t.writable (texts_ascend b.0.0 keys.0) (texts_ascend f.0.0 reads.0) f.2 in
    let last : d.0.1 ≡ Texts f.0.0 ∷ [] = reads_are ∙ ap (λ (y : List Cell). Texts f.0.0 ∷ y) (none_left f.0.1 reads.1) in
    let others : a.0.1 ≡ Texts b.0.0 ∷ U64 c.0.0 ∷ U64 d.0.0 ∷ Texts f.0.0 ∷ [] =
    keys_are ∙ ap (λ (y : List Cell). Texts b.0.0 ∷ y) (node_is ∙ ap (λ (y : List Cell). U64 c.0.0 ∷ y) (inc_is ∙ ap (λ (y : List Cell). U64 d.0.0 ∷ y) last)) in
    (i.0, t.parts ∙ ap (id_cells a.0.0) others ∙ i.1)

version_is : (id : TxnId) (key value : List ℕ) (v : Version) → IsWritableId id → checked_version id key value ≡ Ok v → IsVersion v × (record { id = id; key = key; value = value } ≡ v)
unfolding checked_version
version_is id key value v writable e =
    let a = bind_ok (checked_time id.time) (λ _. checked_key key >>= λ _. checked_value value >>= λ _. Ok (record { id = id; key = key; value = value })) v e in
    let b = bind_ok (checked_key key) (λ _. checked_value value >>= λ _. Ok (record { id = id; key = key; value = value })) v a.2 in
    let c = bind_ok (checked_value value) (λ _. Ok (record { id = id; key = key; value = value })) v b.2 in
    let timely = (test_ok (is_time id.time) BadTime (Ok tt) a.0 a.1).0 in
    let of_key = key_limits key (test_ok (is_key key) (BadKey 0) (Ok tt) b.0 b.1).0 in
    let short = leb-true (length value) 4096 (test_ok (is_value_length (length value)) LongValue (Ok tt) c.0 c.1).0 in
    let made : Version = record { id = id; key = key; value = value } in
    let same : made ≡ v = ok_is made v c.2 in
    (subst IsVersion same (record { id = writable; key = of_key; value = short }, timely), same)

version_takes : (cells : List Cell) (v : Version) → are_of version_kinds cells ≡ true → version_in cells ≡ Ok v → IsVersion v × (cells ≡ version_cells v)
unfolding version_in
version_takes cells v h e =
    let a = bind_ok (id_in cells) (λ id. text_in id.1 >>= λ key. bytes_in key.1 >>= λ value. checked_version id.0 key.0 value.0) v e in
    let b = bind_ok (text_in a.0.1) (λ key. bytes_in key.1 >>= λ value. checked_version a.0.0 key.0 value.0) v a.2 in
    let c = bind_ok (bytes_in b.0.1) (λ value. checked_version a.0.0 b.0.0 value.0) v b.2 in
    let t = id_takes (kinds.Text ∷ kinds.Bytes ∷ []) cells a.0 h a.1 in
    let key_is = text_is a.0.1 b.0 b.1 in
    let value_is = bytes_is b.0.1 c.0 c.1 in
    let key = next_found kinds.Text (kinds.Bytes ∷ []) a.0.1 (Text b.0.0) b.0.1 key_is t.others in
    let value = next_found kinds.Bytes [] b.0.1 (Bytes c.0.0) c.0.1 value_is key.1 in
    let i = version_is a.0.0 b.0.0 c.0.0 v t.writable c.2 in
    let last : b.0.1 ≡ Bytes c.0.0 ∷ [] = value_is ∙ ap (λ (y : List Cell). Bytes c.0.0 ∷ y) (none_left c.0.1 value.1) in
    (i.0, t.parts ∙ ap (id_cells a.0.0) (key_is ∙ ap (λ (y : List Cell). Text b.0.0 ∷ y) last) ∙ ap version_cells i.1)

done_takes : (cells : List Cell) (m : Marker) → are_of done_kinds cells ≡ true → done_in cells ≡ Ok m → IsMarker m × (row_bytes done_tag cells ≡ marker_row m)
unfolding done_in
done_takes cells m h e =
    let a = bind_ok (id_in cells) (λ id. checked_time id.0.time >>= λ _. Ok (Done id.0)) m e in
    let b = bind_ok (checked_time a.0.0.time) (λ _. Ok (Done a.0.0)) m a.2 in
    let t = id_takes [] cells a.0 h a.1 in
    let timely = (test_ok (is_time a.0.0.time) BadTime (Ok tt) b.0 b.1).0 in
    let parts : cells ≡ id_cells a.0.0 [] = t.parts ∙ ap (id_cells a.0.0) (none_left a.0.1 t.others) in
    subst (λ (y : Marker). IsMarker y × (row_bytes done_tag cells ≡ marker_row y)) (ok_is (Done a.0.0) m b.2) ((t.writable, timely), ap (row_bytes done_tag) parts)

-- ---- bytes

first_commit_found : (bytes : List ℕ) (c : Commit) → IsBytes bytes → first_commit_of bytes ≡ Ok c → IsCommit c × (bytes ≡ commit_row c)
unfolding first_commit_of
first_commit_found bytes c fits e =
    let a = bind_ok (cells_of commit_tag commit_kinds bytes) (λ cells. commit_in cells) c e in
    let row = row_is commit_tag commit_kinds bytes a.0 fits a.1 in
    let t = commit_takes a.0 c row.0 a.2 in
    (t.0, row.1 ∙ ap (row_bytes commit_tag) t.1)

pub record_found : (bytes : List ℕ) (r : Record) → IsBytes bytes → record_of bytes ≡ Ok r → IsRecord r × (bytes ≡ record_row r)
unfolding record_of
record_found bytes r fits e =
    let a = bind_ok (cells_of record_tag record_kinds bytes) (λ cells. record_in cells) r e in
    let row = row_is record_tag record_kinds bytes a.0 fits a.1 in
    let t = record_takes a.0 r row.0 a.2 in
    (t.0, row.1 ∙ ap (row_bytes record_tag) t.1)

second_commit_found : (bytes : List ℕ) (c : Commit) → IsBytes bytes → second_commit_of bytes ≡ Ok c → IsCommit c × IsSpelledRecordOf bytes c
unfolding second_commit_of
second_commit_found bytes c fits e =
    let a = bind_ok (record_of bytes) (λ whole. Ok whole.commit) c e in
    let t = record_found bytes a.0 fits a.1 in
    subst (λ (y : Commit). IsCommit y × IsSpelledRecordOf bytes y) (ok_is a.0.commit c a.2) ((t.0.0.commit, t.0.1), inr (a.0.origin, t.0.0.origin, t.1))

-- which of two ways a test went
chosen : {A : Type 0} (b : Bool) (x y z : A) → cond b x y ≡ z → ((b ≡ true) × (x ≡ z)) ⊎ ((b ≡ false) × (y ≡ z))
chosen true x y z e = inl (refl, e)
chosen false x y z e = inr (refl, e)

pub commit_found : (bytes : List ℕ) (c : Commit) → IsBytes bytes → commit_of bytes ≡ Ok c → IsCommit c × IsSpelledRecordOf bytes c
unfolding commit_of
commit_found bytes c fits e =
    elim (chosen (is_tagged record_tag bytes) (second_commit_of bytes) (first_commit_of bytes) (Ok c) e) [
      | inl second ↦ second_commit_found bytes c fits second.1
      | inr first ↦ (let t = first_commit_found bytes c fits first.1 in (t.0, inl t.1))
    ]

pub version_found : (bytes : List ℕ) (v : Version) → IsBytes bytes → version_of bytes ≡ Ok v → IsVersion v × (bytes ≡ version_row v)
unfolding version_of
version_found bytes v fits e =
    let a = bind_ok (cells_of version_tag version_kinds bytes) (λ cells. version_in cells) v e in
    let row = row_is version_tag version_kinds bytes a.0 fits a.1 in
    let t = version_takes a.0 v row.0 a.2 in
    (t.0, row.1 ∙ ap (row_bytes version_tag) t.1)

full_found : (bytes : List ℕ) (m : Marker) → IsBytes bytes → full_of bytes ≡ Ok m → IsMarker m × (bytes ≡ marker_row m)
unfolding full_of
full_found bytes m fits e =
    let a = bind_ok (cells_of full_tag commit_kinds bytes) (λ cells. commit_in cells >>= λ commit. Ok (Full commit)) m e in
    let b = bind_ok (commit_in a.0) (λ commit. Ok (Full commit)) m a.2 in
    let row = row_is full_tag commit_kinds bytes a.0 fits a.1 in
    let t = commit_takes a.0 b.0 row.0 b.1 in
    subst (λ (y : Marker). IsMarker y × (bytes ≡ marker_row y)) (ok_is (Full b.0) m b.2) (t.0, row.1 ∙ ap (row_bytes full_tag) t.1)

done_found : (bytes : List ℕ) (m : Marker) → IsBytes bytes → done_of bytes ≡ Ok m → IsMarker m × (bytes ≡ marker_row m)
unfolding done_of
done_found bytes m fits e =
    let a = bind_ok (cells_of done_tag done_kinds bytes) (λ cells. done_in cells) m e in
    let row = row_is done_tag done_kinds bytes a.0 fits a.1 in
    let t = done_takes a.0 m row.0 a.2 in
    (t.0, row.1 ∙ t.1)

pub marker_found : (bytes : List ℕ) (m : Marker) → IsBytes bytes → marker_of bytes ≡ Ok m → IsMarker m × (bytes ≡ marker_row m)
unfolding marker_of
marker_found bytes m fits e =
    elim (chosen (is_tagged done_tag bytes) (done_of bytes) (full_of bytes) (Ok m) e) [
      | inl done ↦ done_found bytes m fits done.1
      | inr full ↦ full_found bytes m fits full.1
    ]

-- what a call gave is what the reading found
pub found_by : {A : Type 0} (Good : A → Type 0) (read : Result A RecordFault) (r : Result A RecordFault) → ((x : A) → read ≡ Ok x → Good x) → Gives (λ x. x) r read → IfOk r Good
found_by Good read (Ok x) sound given = sound x given
found_by Good read (Err e) sound given = tt
