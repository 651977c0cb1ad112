-- The UUID and the id that a word is read as.
use Rattle.std.proofs.Common.{Bool, Err, List, None, Ok, Option, Result, Some, [], ap, arith, cond, drop, false, inl, inr, length, nat_lt, refl, sym, take, true, ℕ, ◌&&◌, ◌++◌, ◌+◌, ◌<◌, ◌==◌, ◌^◌, ◌≡◌, ◌∙◌, ◌∷◌}
use Rattle.std.proofs.Math.Seq.{drop-append-add, take-append_seam}
use Rattle.std.specs.Char.{is_ascii_digit}
use Rattle.std.specs.Cmp.Lexicographic.{nat_list_eq_equiv}
use Rattle.std.specs.Fmt.{decimal}
use Rattle.std.specs.List.{after_first, before_first, position_or_len}
use Rattle.std.specs.Prelude.{IfOk, IsOk, ◌↔◌}
use Rattle.std.specs.Result.{MatchResult, result_ok}
use Rattle.std.specs.Str.{all_ascii_digits, bytes_eq}
use Rattle.std.specs.Str.Parse.{digits_value}
use Rattle.std.proofs.lemmas.Bool.{and_from, and_parts, true≢false}
use Rattle.std.proofs.lemmas.Bool.Decides.{nat_tests}
use Rattle.std.proofs.lemmas.Fmt.{decimal_nonempty, digits_decimal, digits_value-decimal}
use Rattle.std.proofs.lemmas.List.Sums.{AllPass-from_list_all, list_all-from_AllPass}
use Rattle.uuid.specs.Text.{lower, parsed}
use Rattle.uuid.proofs.RoundTrips.{parses_hyphenated}
use Rattle.aft_id.specs.declared.fault.IdFault.{IdFault}
use Rattle.aft_id.specs.declared.txn_id.TxnId.{TxnId}
use Rattle.aft_id.specs.TxnId.{IsUuid, id_text, same_id, zero_id}
use Rattle.aft_id.proofs.UuidTexts.{decimal_digits}
use Rattle.aft_model.specs.Bytes.{are_bytes, is_byte, is_uuid}
use Rattle.aft_model.specs.ReplyText.{id_word, uuid_word}
use Rattle.aft_model.proofs.Ids.{same_ids}
use Rattle.aft_model.proofs.Sights.{same_bytes}
use Rattle.aft_reply.specs.Limits.{IsReplyId}
use Rattle.aft_reply.specs.Reading.{id_of, id_written, if_spelled, seeming_id, uuid_of}
use Rattle.aft_reply.specs.declared.fault.ReplyFault.TheVariants.{BadReply}

-- a UUID
pub uuid_of-word : (uuid : List ℕ) → IsUuid uuid → uuid_of (uuid_word uuid) ≡ Ok uuid
uuid_of-word uuid is = rw (sym (parses_hyphenated lower uuid (inl refl) is.0 is.1)) refl

-- what stands before and behind the first `-`, where digits stand before it
first_hyphen : (digits rest : List ℕ) → all_ascii_digits digits ≡ true → position_or_len (λ b. b == 45) (digits ++ 45 ∷ rest) ≡ length digits
first_hyphen [] rest all = refl
first_hyphen (d ∷ digits) rest all =
    let parts = and_parts (is_ascii_digit d) (all_ascii_digits digits) all in
    let other : (d == 45) ≡ false = grind (arith, nat_tests, parts.0) in
    rw other (omega (arith, first_hyphen digits rest parts.1))

time_first : (digits rest : List ℕ) → all_ascii_digits digits ≡ true → before_first (λ b. b == 45) (digits ++ 45 ∷ rest) ≡ digits
time_first digits rest all = ap (λ n. take n (digits ++ 45 ∷ rest)) (first_hyphen digits rest all) ∙ take-append_seam digits (45 ∷ rest)

uuid_behind : (digits rest : List ℕ) → all_ascii_digits digits ≡ true → after_first (λ b. b == 45) (digits ++ 45 ∷ rest) ≡ rest
uuid_behind digits rest all = ap (λ n. drop (n + 1) (digits ++ 45 ∷ rest)) (first_hyphen digits rest all) ∙ drop-append-add digits (45 ∷ rest) 1

-- an id's text seems to be that id
seeming_id-text : (id : TxnId) → IsUuid id.uuid × (id.time < 2 ^ 48) → seeming_id (id_text id) ≡ id
seeming_id-text id is =
    let small : id.time < 2 ^ 64 = omega (arith, is.1) in
    let digits : all_ascii_digits (decimal id.time) ≡ true = digits_decimal decimal_digits id.time small in
    let value : digits_value 10 (decimal id.time) ≡ id.time = digits_value-decimal decimal_digits id.time small in
    rw (time_first (decimal id.time) (uuid_word id.uuid) digits, uuid_behind (decimal id.time) (uuid_word id.uuid) digits, value, sym (parses_hyphenated lower id.uuid (inl refl) is.0.0 is.0.1)) refl

is_uuid-from : (uuid : List ℕ) → IsUuid uuid → is_uuid uuid ≡ true
is_uuid-from uuid is =
    let long : (length uuid == 16) ≡ true = grind (arith, nat_tests, is.0) in
    and_from _ _ long (list_all-from_AllPass is_byte uuid (λ k d within. let small : _ < 256 = is.1 k d within in grind (arith, nat_tests, small)))

is_uuid-to : (uuid : List ℕ) → is_uuid uuid ≡ true → IsUuid uuid
is_uuid-to uuid test =
    let parts = and_parts (length uuid == 16) (are_bytes uuid) test in
    (grind (arith, nat_tests, parts.0), λ k d within. let small : is_byte _ ≡ true = AllPass-from_list_all is_byte uuid parts.1 k d within in grind (arith, nat_tests, small))

some_if : {A : Type 0} (b : Bool) (x : A) → b ≡ true → (cond b (Some x) None) ≡ Some x
some_if b x test = rw test refl

-- an id's text is read as that id
pub id_written-text : (id : TxnId) → IsUuid id.uuid × (id.time < 2 ^ 48) → id_written (id_text id) ≡ Some id
id_written-text id is =
    let small : nat_lt id.time (2 ^ 48) ≡ true = grind (arith, nat_tests, is.1) in
    ap (if_spelled (id_text id)) (seeming_id-text id is)
    ∙ some_if _ id (and_from _ _ (and_from _ _ (nat_list_eq_equiv.refl (id_text id)) small) (is_uuid-from id.uuid is.0))

none_unless : {A : Type 0} (b : Bool) (x : A) → (b ≡ true → ⊥) → None ≡ (cond b (Some x) None)
none_unless true x fails = absurd (fails refl)
none_unless false x fails = refl

-- what reading an id answers
pub id_written-read : (word : List ℕ) (r : Result TxnId IdFault) → IfOk r (λ id. word ≡ id_text id) → IfOk r (λ id. id.time < 2 ^ 48) → IfOk r (λ id. IsUuid id.uuid)
    → ((id : TxnId) → IsUuid id.uuid → id.time < 2 ^ 48 → word ≡ id_text id → r ≡ Ok id) → result_ok r ≡ id_written word
id_written-read word (Ok id) text small bytes reads = sym (rw text (id_written-text id (bytes, small)))
id_written-read word (Err e) text small bytes reads =
    none_unless _ (seeming_id word) (λ test.
    let id = seeming_id word in
    let two = and_parts (bytes_eq (id_text id) word && nat_lt id.time (2 ^ 48)) (is_uuid id.uuid) test in
    let one = and_parts (bytes_eq (id_text id) word) (nat_lt id.time (2 ^ 48)) two.0 in
    let fits : id.time < 2 ^ 48 = grind (arith, nat_tests, one.1) in
    let read : Err e ≡ Ok id = reads id (is_uuid-to id.uuid two.1) fits (sym (same_bytes (id_text id) word one.0)) in
    cc)

-- the text of an id isn't `0`
longer : (id : TxnId) → id.time < 2 ^ 48 → bytes_eq (id_text id) (48 ∷ []) ≡ false
longer id small = two_bytes (decimal id.time) (decimal_nonempty id.time (omega arith))
  where
    two_bytes : (digits : List ℕ) → 0 < length digits → bytes_eq (digits ++ 45 ∷ uuid_word id.uuid) (48 ∷ []) ≡ false
    two_bytes [] some = absurd (omega arith)
    two_bytes (d ∷ []) some = either (d == 48)
      where
        either : (b : Bool) → (b && false) ≡ false
        either true = refl
        either false = refl
    two_bytes (d ∷ next ∷ digits) some = either (d == 48)
      where
        either : (b : Bool) → (b && false) ≡ false
        either true = refl
        either false = refl

-- an id other than the zero id has a time of 1 or more
timed : (id : TxnId) → IsReplyId id → same_id id zero_id ≡ false → nat_lt 0 id.time ≡ true
timed id is test = elim is.2 [
  | inl zero ↦ absurd (true≢false (sym (ap (λ (i : TxnId). same_id i zero_id) zero) ∙ test))
  | inr some ↦ grind (arith, nat_tests, some)
]

id_either_way : (id : TxnId) (zero : Bool) → IsReplyId id → same_id id zero_id ≡ zero → id_of (id_word id) ≡ Ok id
id_either_way id true is test = rw test (ap Ok (sym (same_ids id zero_id test)))
id_either_way id false is test = rw (test, longer id is.1, id_written-text id (is.0, is.1), timed id is test) refl

-- an id
pub id_of-word : (id : TxnId) → IsReplyId id → id_of (id_word id) ≡ Ok id
id_of-word id is = id_either_way id (same_id id zero_id) is refl

-- what parsing a UUID answers
pub uuid_of-parse : {E : Type 0} (word : List ℕ) (r : Result (List ℕ) E) → (IsOk r ↔ ((u : List ℕ) × (parsed word ≡ Some u))) → IfOk r (λ u. Some u ≡ parsed word)
    → MatchResult r (λ u. Ok u ≡ uuid_of word) (λ e. Err BadReply ≡ uuid_of word)
uuid_of-parse word (Ok u) ok bytes = rw (sym bytes) refl
uuid_of-parse {E} word (Err e) ok bytes = either (parsed word) refl
  where
    either : (o : Option (List ℕ)) → parsed word ≡ o → Err BadReply ≡ uuid_of word
    either None is = rw is refl
    either (Some u) is = absurd (false_is (ok.1 (u, is)))
      where
        false_is : false ≡ true → ⊥
        false_is same = cc
