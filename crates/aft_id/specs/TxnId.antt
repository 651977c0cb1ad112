-- Ids of transactions, their order and their text.
use Rattle.std.specs.Prelude.{ℕ, ◌≡◌, ◌<◌, ◌==◌, ◌&&◌, ◌++◌, ◌∷◌, Bool, List, All, length}
use Rattle.std.specs.Fmt.{decimal}
use Rattle.std.specs.Int.{w128, to_be_bytes, from_be_bytes}
use Rattle.std.specs.Ordering.{nat_cmp, ordering_then, is_lt}
use Rattle.std.specs.Cmp.Lexicographic.{slice_cmp}
use Rattle.std.specs.Str.{bytes_eq}
use Rattle.std.specs.declared.cmp.Ordering.{Ordering}
use Rattle.uuid.specs.Text.{hyphen, hyphenated_text, lower}
use Rattle.aft_id.specs.declared.txn_id.TxnId.{TxnId}

-- the id at which an absent key is read
abbrev pub zero_id : TxnId
zero_id = record { time = 0; uuid = to_be_bytes w128 0 }

-- the bytes of a UUID: sixteen, 0 to 255 each
abbrev pub IsUuid : List ℕ → Type 0
IsUuid bytes = (length bytes ≡ 16) × All (λ b. b < 256) bytes

-- the 128-bit number of a UUID, whose first byte is the highest
abbrev pub uuid_number : List ℕ → ℕ
uuid_number bytes = from_be_bytes w128 bytes

-- ids are ordered by time, and those of one time by the bytes of their UUIDs, the first of them the highest
abbrev pub id_cmp : TxnId → TxnId → Ordering
id_cmp a b = ordering_then (nat_cmp a.time b.time) (slice_cmp nat_cmp a.uuid b.uuid)

-- whether an id is below another
abbrev pub id_lt : TxnId → TxnId → Bool
id_lt a b = is_lt (id_cmp a b)

-- whether two ids are the same
abbrev pub same_id : TxnId → TxnId → Bool
same_id a b = a.time == b.time && bytes_eq a.uuid b.uuid

-- an id as text: its time in decimal digits, `-`, and its UUID hyphenated in lower case
abbrev pub id_text : TxnId → List ℕ
id_text id = decimal id.time ++ hyphen ∷ hyphenated_text lower id.uuid
