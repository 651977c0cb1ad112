-- Names of records stand in the order of their UUIDs, and so do the commits of records that stand in the order of their names.
use Rattle.std.proofs.Common.{◌≡◌, ℕ, true, false, Bool, List, [], ◌∷◌, ◌++◌, refl, sym, ap, subst, ◌∙◌, ◌⊎◌, inl, inr, append-nil, append_assoc, arith}
use Rattle.std.specs.Prelude.{Err, IsTrue, Ok, Result, Some, Option, if◌then◌else◌}
use Rattle.std.specs.List.{fold, list_all}
use Rattle.std.specs.Cmp.Lexicographic.{slice_cmp}
use Rattle.std.specs.Ordering.{nat_cmp}
use Rattle.std.specs.Str.{bytes_eq}
use Rattle.std.proofs.lemmas.Bool.{and_parts}
use Rattle.hex.specs.Hex.{encode_lower, encode_with}
use Rattle.aft_id.specs.declared.txn_id.TxnId.{TxnId}
use Rattle.aft_id.specs.TxnId.{IsUuid}
use Rattle.aft_keeper.specs.declared.keeper.Pair.{Pair}
use Rattle.aft_keeper.specs.Contents.{bytes_at, name_lt}
use Rattle.aft_keeper.proofs.Names.{Less-from_name_lt, Less-trans, name_lt-Greater, name_lt-from_Less}
use Rattle.aft_records.specs.declared.fault.RecordFault.{RecordFault}
use Rattle.aft_records.specs.declared.stored.Commit.{Commit}
use Rattle.aft_records.specs.Reading.{commit_of}
use Rattle.aft_records.proofs.Found.{commit_found}
use Rattle.aft_records.proofs.IdOrder.{id_digits_order}
use Rattle.aft_model.specs.Bytes.{are_bytes, is_byte_pair}
use Rattle.aft_model.specs.LegalDoor.{ascends}
use Rattle.aft_model.specs.Readings.{read_under, record_name, records_in}
use Rattle.aft_model.specs.Sound.{recorded}
use Rattle.aft_model.proofs.Histories.{In, in_flat_map}
use Rattle.aft_model.proofs.Lists.{in_snoc}
use Rattle.aft_model.proofs.Sights.{listed_once, read-name, read-one, same_bytes}
use Rattle.aft_lines.specs.BackupCourse.{with_uuid_order}
use Rattle.law_names.proofs.Tests.{bytes_are}

-- ---- names

-- digits of one length stand to each other as the bytes do: those of ids of one time say so
digits_order : (u v : List ℕ) → IsUuid u → IsUuid v → slice_cmp nat_cmp (encode_lower u) (encode_lower v) ≡ slice_cmp nat_cmp u v
unfolding encode_with
digits_order u v is_u is_v = id_digits_order (at_zero u) (at_zero v) (record { time = omega arith; uuid = is_u }) (record { time = omega arith; uuid = is_v })
  where
    at_zero : List ℕ → TxnId
    at_zero uuid = record { time = 0; uuid = uuid }

-- a UUID that isn't below another, by the names of their records
not_below : (u v : List ℕ) → IsUuid u → IsUuid v → IsTrue (name_lt (record_name u) (record_name v)) → name_lt v u ≡ false
not_below u v is_u is_v before = name_lt-Greater v u (sym (digits_order u v is_u is_v) ∙ Less-from_name_lt (record_name u) (record_name v) before)

-- ---- the record that a pair is

record IsRecord (p : Pair) (c : Commit) (commits : List Commit) : Type 0 where
  only : commits ≡ c ∷ []
  named : p.name ≡ record_name c.id.uuid
  uuid : IsUuid c.id.uuid

-- a pair is one record, or none
one_or_none : (p : Pair) → IsTrue (is_byte_pair p) → (records_in p ≡ []) ⊎ ((c : Commit) × IsRecord p c (records_in p))
one_or_none p made = by_read (commit_of p.bytes) refl
  where
    by_name : (c : Commit) → commit_of p.bytes ≡ Ok c → (t : Bool) → bytes_eq p.name (record_name c.id.uuid) ≡ t → ((if t then c ∷ [] else []) ≡ []) ⊎ ((d : Commit) × IsRecord p d (if t then c ∷ [] else []))
    by_name c read true named = inr (c, record { only = refl; named = same_bytes p.name (record_name c.id.uuid) named; uuid = (commit_found p.bytes c (bytes_are p.bytes (and_parts (are_bytes p.name) (are_bytes p.bytes) made).1) read).0.0.id.uuid })
    by_name c read false other = inl refl

    by_read : (r : Result Commit RecordFault) → commit_of p.bytes ≡ r → (read_under p.name (λ (c : Commit). record_name c.id.uuid) r ≡ []) ⊎ ((c : Commit) × IsRecord p c (read_under p.name (λ (c : Commit). record_name c.id.uuid) r))
    by_read (Ok c) read = by_name c read (bytes_eq p.name (record_name c.id.uuid)) refl
    by_read (Err e) read = inl refl

-- ---- pairs that ascend

rest_ascends : (p : Pair) (pairs : List Pair) → IsTrue (ascends (p ∷ pairs)) → IsTrue (ascends pairs)
rest_ascends p [] up = refl
rest_ascends p (q ∷ pairs) up = (and_parts (name_lt p.name q.name) (ascends (q ∷ pairs)) up).1

first_below : (p : Pair) (pairs : List Pair) → IsTrue (ascends (p ∷ pairs)) → (q : Pair) → In q pairs → IsTrue (name_lt p.name q.name)
first_below p [] up q none = absurd none
first_below p (r ∷ pairs) up q (inl is) = subst (λ (s : Pair). IsTrue (name_lt p.name s.name)) (sym is) (and_parts (name_lt p.name r.name) (ascends (r ∷ pairs)) up).0
first_below p (r ∷ pairs) up q (inr later) =
    let parts = and_parts (name_lt p.name r.name) (ascends (r ∷ pairs)) up in
    name_lt-from_Less p.name q.name (Less-trans p.name r.name q.name (Less-from_name_lt p.name r.name parts.0) (Less-from_name_lt r.name q.name (first_below r pairs parts.1 q later)))

-- they have one record of each name
pub one_record : (pairs : List Pair) (c d : Commit) → IsTrue (ascends pairs) → In c (recorded pairs) → In d (recorded pairs) → record_name c.id.uuid ≡ record_name d.id.uuid → c ≡ d
one_record pairs c d up among among' same =
    let p = in_flat_map records_in c pairs among in
    let q = in_flat_map records_in d pairs among' in
    let names : q.0.name ≡ p.0.name = named q.0 d q.2 ∙ sym same ∙ sym (named p.0 c p.2) in
    let bytes : q.0.bytes ≡ p.0.bytes = some_is q.0.bytes p.0.bytes (sym (listed_once q.0 pairs up q.1) ∙ ap (λ (n : List ℕ). bytes_at n pairs) names ∙ listed_once p.0 pairs up p.1) in
    read-one p.0.name (λ (e : Commit). record_name e.id.uuid) (commit_of p.0.bytes) c d p.2
    (subst (λ (n : List ℕ). In d (read_under n (λ (e : Commit). record_name e.id.uuid) (commit_of p.0.bytes))) names (subst (λ (b : List ℕ). In d (read_under q.0.name (λ (e : Commit). record_name e.id.uuid) (commit_of b))) bytes q.2))
  where
    named : (p : Pair) (c : Commit) → In c (records_in p) → p.name ≡ record_name c.id.uuid
    named p c among = read-name p.name (λ (d : Commit). record_name d.id.uuid) (commit_of p.bytes) c among

    some_is : (x y : List ℕ) → (let some : Option (List ℕ) = Some x in some) ≡ Some y → x ≡ y
    some_is x y is = cc

-- ---- and so do their commits

-- a commit that is below none of some others comes behind them
comes_last : (commits : List Commit) (c : Commit) → ((d : Commit) → In d commits → name_lt c.id.uuid d.id.uuid ≡ false) → with_uuid_order commits c ≡ commits ++ c ∷ []
comes_last [] c above = refl
comes_last (d ∷ commits) c above =
    ap (λ (t : Bool). if t then c ∷ d ∷ commits else d ∷ with_uuid_order commits c) (above d (inl refl))
    ∙ ap (λ (cs : List Commit). d ∷ cs) (comes_last commits c (λ e among. above e (inr among)))

-- a commit whose record stands below each of some pairs
abbrev StandsBelow : List Pair → Commit → Type 0
StandsBelow pairs d = IsUuid d.id.uuid × ((p : Pair) → In p pairs → IsTrue (name_lt (record_name d.id.uuid) p.name))

pub in_order : (commits : List Commit) (pairs : List Pair) → IsTrue (list_all is_byte_pair pairs) → IsTrue (ascends pairs) → ((d : Commit) → In d commits → StandsBelow pairs d) → fold with_uuid_order commits (recorded pairs) ≡ commits ++ recorded pairs
in_order commits [] made up below = sym (append-nil commits)
in_order commits (p ∷ pairs) made up below = elim (one_or_none p bytes.0) [
  | inl none ↦
      ap (λ (cs : List Commit). fold with_uuid_order commits (cs ++ recorded pairs)) none
      ∙ in_order commits pairs bytes.1 (rest_ascends p pairs up) (λ d among. behind d (below d among))
      ∙ sym (ap (λ (cs : List Commit). commits ++ (cs ++ recorded pairs)) none)
  | inr one ↦
      ap (λ (cs : List Commit). fold with_uuid_order commits (cs ++ recorded pairs)) one.1.only
      ∙ ap (λ (cs : List Commit). fold with_uuid_order cs (recorded pairs)) (comes_last commits one.0 (λ d among. above one.0 one.1 d (below d among)))
      ∙ in_order (commits ++ one.0 ∷ []) pairs bytes.1 (rest_ascends p pairs up) (longer one.0 one.1)
      ∙ append_assoc commits (one.0 ∷ []) (recorded pairs)
      ∙ sym (ap (λ (cs : List Commit). commits ++ (cs ++ recorded pairs)) one.1.only)
]
  where
    bytes : IsTrue (is_byte_pair p) × IsTrue (list_all is_byte_pair pairs)
    bytes = and_parts (is_byte_pair p) (list_all is_byte_pair pairs) made

    behind : (d : Commit) → StandsBelow (p ∷ pairs) d → StandsBelow pairs d
    behind d stands = (stands.0, λ q i. stands.1 q (inr i))

    above : (c : Commit) → IsRecord p c (records_in p) → (d : Commit) → StandsBelow (p ∷ pairs) d → name_lt c.id.uuid d.id.uuid ≡ false
    above c its d stands = not_below d.id.uuid c.id.uuid stands.0 its.uuid (subst (λ (n : List ℕ). IsTrue (name_lt (record_name d.id.uuid) n)) its.named (stands.1 p (inl refl)))

    longer : (c : Commit) → IsRecord p c (records_in p) → (d : Commit) → In d (commits ++ c ∷ []) → StandsBelow pairs d
    longer c its d i = elim (in_snoc d commits c i) [
      | inl before ↦ behind d (below d before)
      | inr is ↦ subst (StandsBelow pairs) (sym is) (its.uuid, λ q j. subst (λ (n : List ℕ). IsTrue (name_lt n q.name)) its.named (first_below p pairs up q j))
    ]
