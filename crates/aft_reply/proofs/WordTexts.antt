-- The key, the value and the name that a word is read as.
use Rattle.std.proofs.Common.{Bool, List, Ok, [], arith, false, get_or, length, lit<, nat_eq, nat_le, not, refl, suc, true, zero, ℕ, ◌&&◌, ◌<◌, ◌==◌, ◌≡◌, ◌∷◌}
use Rattle.std.specs.List.{list_all, starts_with}
use Rattle.std.specs.Prelude.{codes}
use Rattle.std.proofs.lemmas.Bool.{and_parts}
use Rattle.std.proofs.lemmas.Bool.Decides.{nat_tests}
use Rattle.hex.proofs.HexLemmas.{decode_of-encode_lower}
use Rattle.aft_records.specs.Limits.{IsKey, is_key_byte}
use Rattle.aft_model.specs.ReplyText.{is_plain, value_word}
use Rattle.aft_reply.specs.Limits.{IsName, IsValue}
use Rattle.aft_reply.specs.Reading.{key_of, name_of, value_of}

-- a key
pub key_of-key : (key : List ℕ) → IsKey key → key_of key ≡ Ok key
key_of-key key is =
    let some : nat_le 1 (length key) ≡ true = grind (arith, nat_tests, is.some) in
    let short : nat_le (length key) 64 ≡ true = grind (arith, nat_tests, is.short) in
    rw (some, short, is.graphic) refl

-- a damaged name
pub name_of-name : (name : List ℕ) → IsName name → name_of name ≡ Ok name
name_of-name name is =
    let some : (length name == 0) ≡ false = grind (arith, nat_tests, is.0) in
    rw (some, is.1) refl

bytes_everywhere : (value : List ℕ) → IsValue value → (i : ℕ) → get_or value i 0 < 256
bytes_everywhere [] is i = lit< tt
bytes_everywhere (b ∷ value) is zero = is 0 0 (omega arith)
bytes_everywhere (b ∷ value) is (suc i) = bytes_everywhere value (λ k d within. is (suc k) d (omega arith)) i

not_starting : (b : Bool) → not b ≡ true → b ≡ false
not_starting true is = cc
not_starting false is = refl

value_either_way : (value : List ℕ) (plain : Bool) → IsValue value → is_plain value ≡ plain → value_of (value_word value) ≡ Ok value
value_either_way value true is test =
    let parts = and_parts (not (length value == 0) && list_all is_key_byte value) (not (starts_with nat_eq value (codes "#"))) test in
    rw (test, not_starting (starts_with nat_eq value (codes "#")) parts.1) refl
value_either_way value false is test = rw (test, decode_of-encode_lower value (bytes_everywhere value is)) refl

-- a value
pub value_of-word : (value : List ℕ) → IsValue value → value_of (value_word value) ≡ Ok value
value_of-word value is = value_either_way value (is_plain value) is refl
