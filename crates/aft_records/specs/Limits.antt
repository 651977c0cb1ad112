-- The limits of keys, write sets, values and times.
use Rattle.std.specs.Prelude.{ℕ, ◌≤◌, ◌^◌, ◌==◌, Bool, ◌&&◌, if◌then◌else◌, nat_le, nat_lt, List, length, IsTrue}
use Rattle.std.specs.List.{list_all}
use Rattle.aft_fields.specs.Order.{ascend}

-- whether a time is 1 to 2^48 - 1 milliseconds
abbrev pub is_time : ℕ → Bool
is_time time = nat_le 1 time && nat_lt time (2 ^ 48)

-- a time within its limit
abbrev pub IsTime : ℕ → Type 0
IsTime time = IsTrue (is_time time)

-- whether a byte may stand in a key: 33 to 126
abbrev pub is_key_byte : ℕ → Bool
is_key_byte b = nat_le 33 b && nat_le b 126

-- whether the bytes are a key's: 1 to 64 of them
abbrev pub is_key : List ℕ → Bool
is_key bytes = nat_le 1 (length bytes) && nat_le (length bytes) 64 && list_all is_key_byte bytes

-- what the bytes of a key are
pub record IsKey (bytes : List ℕ) : Type 0 where
  pub some : 1 ≤ length bytes
  pub short : length bytes ≤ 64
  pub graphic : IsTrue (list_all is_key_byte bytes)

-- whether a write set may have so many keys: 1 to 32
abbrev pub is_key_count : ℕ → Bool
is_key_count n = nat_le 1 n && nat_le n 32

-- what the keys of a write set are
pub record AreKeys (keys : List (List ℕ)) : Type 0 where
  pub some : 1 ≤ length keys
  pub few : length keys ≤ 32
  pub each : IsTrue (list_all is_key keys)
  pub ascending : IsTrue (ascend keys)

-- whether a record may come from this node and incarnation with so many reads: the office, which is node 0, has
-- incarnation 0 and read nothing, and the nodes 1 to 8 count their incarnations from 1
abbrev pub is_origin : ℕ → ℕ → ℕ → Bool
is_origin node inc reads = nat_le node 8 && nat_lt inc (2 ^ 32) && (if node == 0 then inc == 0 && reads == 0 else nat_le 1 inc)

-- whether a record may name so many reads: at most 8
abbrev pub is_read_count : ℕ → Bool
is_read_count n = nat_le n 8

-- whether a value may have so many bytes: at most 4,096
abbrev pub is_value_length : ℕ → Bool
is_value_length n = nat_le n 4096
