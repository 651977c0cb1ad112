-- The texts of a record's reads.
use Rattle.std.proofs.Common.{◌≡◌, ℕ, suc, ◌+◌, ◌/◌, ◌%◌, ◌^◌, ◌<◌, ◌≤◌, Bool, true, false, cond, List, [], ◌∷◌, ◌++◌, length, get_or, slice_index, drop, Option, Some, None, Ok, Err, refl, sym, ap, subst, ◌∙◌, append_assoc, drop-cons, add-one, arith, codes}
use Rattle.std.specs.Prelude.{map, All}
use Rattle.std.specs.Int.{w64, to_be_bytes}
use Rattle.std.specs.List.{list_any, list_all}
use Rattle.std.specs.Ordering.{is_lt}
use Rattle.std.specs.Str.{IsAscii, IsUtf8}
use Rattle.std.proofs.lemmas.Bool.{lt-ltb}
use Rattle.std.proofs.lemmas.List.{append-nil, drop_all, length-append, length-map}
use Rattle.std.proofs.lemmas.List.Elements.{All-head, All-tail, All-nil, All-cons}
use Rattle.std.proofs.lemmas.Str.{IsUtf8-from_ascii, is_utf8-from_IsUtf8}
use Rattle.std.proofs.lemmas.Str.Ascii.{IsAscii-nil, IsAscii-cons}
use Rattle.hex.specs.Hex.{IsBytes, lower_digits, encode_with, encode_lower}
use Rattle.hex.proofs.HexLemmas.{length-encode_with}
use Rattle.aft_id.specs.declared.txn_id.TxnId.{TxnId}
use Rattle.aft_id.specs.TxnId.{IsUuid, id_lt}
use Rattle.aft_fields.specs.Kinds.{is_count, is_text, are_texts}
use Rattle.aft_fields.specs.Order.{follows, ascend_after, ascend}
use Rattle.aft_records.specs.declared.fault.RecordFault.{RecordFault}
use Rattle.aft_records.specs.declared.fault.RecordFault.TheVariants.{BadReads}
use Rattle.aft_records.specs.Gives.{Fails}
use Rattle.aft_records.specs.Limits.{IsTime}
use Rattle.aft_records.specs.NameReading.{◌>>=◌, is_upper, id_of}
use Rattle.aft_records.specs.Names.{id_digits}
use Rattle.aft_records.specs.ReadIds.{read_id_of, ids_of}
use Rattle.aft_records.specs.Reading.{found_id, found_ids}
use Rattle.aft_records.specs.Stored.{IsWritableId, ids_ascend_after, ids_ascend}
use Rattle.aft_records.proofs.Digits.{code_of, digit_spelled}
use Rattle.aft_records.proofs.IdOrder.{id_digits_order}
use Rattle.aft_records.proofs.NameFound.{IdIs, id_found}
use Rattle.aft_records.proofs.NameWritten.{uuid_bytes, time_bytes, id_again, id_low, ids_apart}
use Rattle.aft_records.proofs.Splits.{some_of}
use Rattle.aft_records.proofs.Steps.{fails_as, ok_is, err_is}

abbrev found : {A : Type 0} → A → Option A
found x = Some x

some_is : {A : Type 0} (x y : A) → found x ≡ found y → x ≡ y
some_is x y e = cc

-- ---- reading texts one after the other, as a loop does

-- what was read before, and what is still read
abbrev pub with_front : List TxnId → Option (List TxnId) → Option (List TxnId)
with_front front read = read >>= λ ids. Some (front ++ ids)

pub front_none : (texts : List (List ℕ)) → with_front [] (ids_of texts) ≡ ids_of texts
front_none texts = none (ids_of texts)
  where
    none : (o : Option (List TxnId)) → with_front [] o ≡ o
    none (Some ids) = refl
    none None = refl

regroup : (front : List TxnId) (id : TxnId) (read : Option (List TxnId)) → with_front front (read >>= λ ids. Some (id ∷ ids)) ≡ with_front (front ++ id ∷ []) read
regroup front id (Some ids) = ap Some (simp append_assoc)
regroup front id None = refl

pub id_is : (o : Option TxnId) (id : TxnId) → found_id o ≡ Ok id → o ≡ Some id
id_is (Some x) id e = ap Some (ok_is x id e)
id_is None id e = absurd cc

module _ (front : List TxnId) (texts : List (List ℕ)) (i : ℕ) (text : List ℕ) (total : Option (List TxnId)) where
  at_text : i < length texts → text ≡ get_or texts i text → ids_of (drop i texts) ≡ (read_id_of text >>= λ id. ids_of (drop (i + 1) texts) >>= λ ids. Some (id ∷ ids))
  unfolding ids_of
  at_text lt here = rw (drop-cons texts i text lt, ← here, add-one) refl

  pub goes_on : (id : TxnId) → i < length texts → text ≡ get_or texts i text → read_id_of text ≡ Some id → with_front front (ids_of (drop i texts)) ≡ total
      → with_front (front ++ id ∷ []) (ids_of (drop (i + 1) texts)) ≡ total
  goes_on id lt here h so_far =
      let one : with_front front (ids_of (drop i texts)) ≡ with_front (front ++ id ∷ []) (ids_of (drop (i + 1) texts)) = rw (at_text lt here, h) (regroup front id (ids_of (drop (i + 1) texts))) in
      sym one ∙ so_far

  stops : i < length texts → text ≡ get_or texts i text → with_front front (ids_of (drop i texts)) ≡ total → read_id_of text ≡ None → total ≡ None
  stops lt here so_far h =
      let one : with_front front (ids_of (drop i texts)) ≡ None = rw (at_text lt here, h) refl in
      sym so_far ∙ one

  fails : i < length texts → text ≡ get_or texts i text → with_front front (ids_of (drop i texts)) ≡ total → (e : RecordFault) → found_id (read_id_of text) ≡ Err e → found_ids total ≡ Err e
  fails lt here so_far e h = by_id (read_id_of text) refl h
    where
      by_id : (o : Option TxnId) → read_id_of text ≡ o → found_id o ≡ Err e → found_ids total ≡ Err e
      by_id None is bad = ap found_ids (stops lt here so_far is) ∙ ap (λ (f : RecordFault). Err f) (err_is BadReads e bad)
      by_id (Some id) is bad = absurd cc

  pub ends : (e : RecordFault) → i < length texts → text ≡ get_or texts i text → Fails e (found_id (read_id_of text)) → with_front front (ids_of (drop i texts)) ≡ total → Fails e (found_ids total)
  ends e lt here h so_far = fails_as e (found_id (read_id_of text)) (found_ids total) (fails lt here so_far) h

pub is_done : (front : List TxnId) (texts : List (List ℕ)) (i : ℕ) (total : Option (List TxnId)) → length texts ≤ i → with_front front (ids_of (drop i texts)) ≡ total → total ≡ Some front
unfolding ids_of
is_done front texts i total le so_far =
    let one : with_front front (ids_of (drop i texts)) ≡ Some front = rw (drop_all i texts le) (ap Some (append-nil front)) in
    sym so_far ∙ one

-- ---- what is read is spelled so

low_some : {A : Type 0} (b : Bool) (x : Option A) (y : A) → cond b None x ≡ Some y → (b ≡ false) × (x ≡ Some y)
low_some true x y e = absurd cc
low_some false x y e = (refl, e)

pub read_id_found : (text : List ℕ) (id : TxnId) → read_id_of text ≡ Some id → IdIs text id
read_id_found text id e =
    let g = low_some (list_any is_upper text) (id_of text) id e in
    id_found text id g.0 g.1

-- ids that were read from these texts
pub record AreIds (texts : List (List ℕ)) (ids : List TxnId) : Type 0 where
  pub spelled : map id_digits ids ≡ texts
  pub writable : All IsWritableId ids
  pub timely : All (λ id. IsTime id.time) ids

pub ids_found : (texts : List (List ℕ)) (ids : List TxnId) → ids_of texts ≡ Some ids → AreIds texts ids
unfolding ids_of
ids_found [] ids e = subst (AreIds []) (some_is [] ids e) (record { spelled = refl; writable = All-nil IsWritableId; timely = All-nil (λ (id : TxnId). IsTime id.time) })
ids_found (text ∷ texts) ids e =
    let a = some_of (read_id_of text) (λ id. ids_of texts >>= λ ids. Some (id ∷ ids)) ids e in
    let b = some_of (ids_of texts) (λ ids. Some (a.0 ∷ ids)) ids a.2 in
    let first = read_id_found text a.0 a.1 in
    let others = ids_found texts b.0 b.1 in
    subst (AreIds (text ∷ texts)) (some_is (a.0 ∷ b.0) ids b.2) (record {
      spelled = rw (← first.spelled, others.spelled) refl;
      writable = All-cons IsWritableId a.0 b.0 first.writable others.writable;
      timely = All-cons (λ (id : TxnId). IsTime id.time) a.0 b.0 first.timely others.timely;
    })

-- ---- the texts of ids are texts

code_ascii : (v : ℕ) → v < 16 → code_of v < 128
code_ascii v lt = grind arith

digit_ascii : (v : ℕ) → v < 16 → slice_index lower_digits v < 128
digit_ascii v lt = rw (digit_spelled v lt) (code_ascii v lt)

digits_ascii : (bytes rest : List ℕ) → IsBytes bytes → IsAscii rest → IsAscii (encode_lower bytes ++ rest)
unfolding encode_with
digits_ascii [] rest fits ascii = ascii
digits_ascii (b ∷ bytes) rest fits ascii =
    let byte = fits 0 in
    let others = digits_ascii bytes rest (λ i. fits (suc i)) ascii in
    IsAscii-cons (slice_index lower_digits (b / 16)) (slice_index lower_digits (b % 16) ∷ (encode_lower bytes ++ rest)) (digit_ascii (b / 16) (omega arith))
    (IsAscii-cons (slice_index lower_digits (b % 16)) (encode_lower bytes ++ rest) (digit_ascii (b % 16) (omega arith)) others)

id_utf8 : (id : TxnId) → IsWritableId id → IsUtf8 (id_digits id)
id_utf8 id is =
    let uuid = subst IsAscii (append-nil (encode_lower id.uuid)) (digits_ascii id.uuid [] (uuid_bytes id.uuid is.uuid) IsAscii-nil) in
    IsUtf8-from_ascii (id_digits id) (digits_ascii (to_be_bytes w64 id.time) (codes "-" ++ encode_lower id.uuid) (time_bytes id.time) (IsAscii-cons 45 (encode_lower id.uuid) (omega arith) uuid))

-- the text of an id has 49 bytes
pub id_digits_length : (id : TxnId) → IsUuid id.uuid → length (id_digits id) ≡ 49
id_digits_length id is =
    let time = length-encode_with lower_digits (to_be_bytes w64 id.time) in
    let uuid = length-encode_with lower_digits id.uuid in
    omega (arith, length-append (encode_lower (to_be_bytes w64 id.time)) (codes "-" ++ encode_lower id.uuid), time, uuid, is.0)

id_is_text : (id : TxnId) → IsWritableId id → is_text (id_digits id) ≡ true
id_is_text id is =
    let short : is_count (length (id_digits id)) ≡ true = lt-ltb (length (id_digits id)) (2 ^ 32) (omega (arith, id_digits_length id is.uuid)) in
    rw (is_utf8-from_IsUtf8 (id_digits id) (id_utf8 id is), short) refl

-- bytes that are no text are no read
pub no_text : (bytes : List ℕ) → (IsUtf8 bytes → ⊥) → read_id_of bytes ≡ None
no_text bytes bad = by_id (read_id_of bytes) refl
  where
    by_id : (o : Option TxnId) → read_id_of bytes ≡ o → read_id_of bytes ≡ None
    by_id None is = is
    by_id (Some id) is =
        let read = read_id_found bytes id is in
        absurd (bad (subst IsUtf8 (sym read.spelled) (id_utf8 id read.writable)))

-- ---- and ascend as the ids do

follows_as : (a b : TxnId) → IsWritableId a → IsWritableId b → follows (Some (id_digits a)) (id_digits b) ≡ id_lt a b
follows_as a b is_a is_b = ap is_lt (id_digits_order a b is_a is_b)

ascend_more : (before : TxnId) (ids : List TxnId) → IsWritableId before → All IsWritableId ids → ascend_after (Some (id_digits before)) (map id_digits ids) ≡ ids_ascend_after (Some before) ids
ascend_more before [] first all = refl
ascend_more before (id ∷ ids) first all =
    let is = All-head IsWritableId id ids all in
    rw (follows_as before id first is, ascend_more id ids is (All-tail IsWritableId id ids all)) refl

pub ascend_as : (ids : List TxnId) → All IsWritableId ids → ascend (map id_digits ids) ≡ ids_ascend ids
ascend_as [] all = refl
ascend_as (id ∷ ids) all = ascend_more id ids (All-head IsWritableId id ids all) (All-tail IsWritableId id ids all)

-- ---- what was written is read again

all_texts : (ids : List TxnId) → All IsWritableId ids → list_all is_text (map id_digits ids) ≡ true
all_texts [] all = refl
all_texts (id ∷ ids) all = rw (id_is_text id (All-head IsWritableId id ids all), all_texts ids (All-tail IsWritableId id ids all)) refl

pub reads_are_texts : (ids : List TxnId) → length ids ≤ 8 → All IsWritableId ids → ids_ascend ids ≡ true → are_texts (map id_digits ids) ≡ true
reads_are_texts ids few all ascending =
    let short : is_count (length (map id_digits ids)) ≡ true = lt-ltb (length (map id_digits ids)) (2 ^ 32) (omega (arith, length-map ids id_digits)) in
    rw (short, all_texts ids all, ascend_as ids all) ascending

pub read_id_again : (id : TxnId) → IsWritableId id → IsTime id.time → read_id_of (id_digits id) ≡ Some id
read_id_again id is timely = rw (id_low id is) (id_again id is timely)

pub ids_again : (ids : List TxnId) → All IsWritableId ids → All (λ id. IsTime id.time) ids → ids_of (map id_digits ids) ≡ Some ids
unfolding ids_of
ids_again [] all timely = refl
ids_again (id ∷ ids) all timely =
    let is = All-head IsWritableId id ids all in
    let on_time = All-head (λ (id : TxnId). IsTime id.time) id ids timely in
    rw (id_low id is, id_again id is on_time, ids_again ids (All-tail IsWritableId id ids all) (All-tail (λ (id : TxnId). IsTime id.time) id ids timely)) refl

-- reads with the same texts are the same
pub reads_apart : (a b : List TxnId) → All IsWritableId a → All IsWritableId b → map id_digits a ≡ map id_digits b → a ≡ b
reads_apart [] [] all_a all_b e = refl
reads_apart [] (j ∷ b) all_a all_b e = absurd cc
reads_apart (i ∷ a) [] all_a all_b e = absurd cc
reads_apart (i ∷ a) (j ∷ b) all_a all_b e =
    let head : id_digits i ≡ id_digits j = cc in
    let tail : map id_digits a ≡ map id_digits b = cc in
    let one = ids_apart i j [] [] (All-head IsWritableId i a all_a) (All-head IsWritableId j b all_b) (ap (λ (text : List ℕ). text ++ []) head) in
    let others = reads_apart a b (All-tail IsWritableId i a all_a) (All-tail IsWritableId j b all_b) tail in
    rw (one.0, others) refl
