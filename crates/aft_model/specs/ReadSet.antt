-- What a transaction has read: pairs of key and id.
use Rattle.std.specs.Prelude.{Bool, List, None, Option, Some, [], if◌then◌else◌, ℕ, ◌∷◌, ◌≡◌}
use Rattle.std.specs.List.{list_any}
use Rattle.std.specs.Map.{lookup}
use Rattle.std.specs.Ordering.{is_eq, nat_cmp}
use Rattle.std.specs.Cmp.Lexicographic.{slice_cmp}
use Rattle.std.specs.Str.{bytes_eq}
use Rattle.aft_id.specs.TxnId.{id_cmp, same_id}
use Rattle.aft_id.specs.declared.txn_id.TxnId.{TxnId}
use Rattle.aft_model.specs.declared.read_set.ReadPair.{ReadPair}

-- the id at which a key was read
abbrev pub read_at : List ℕ → List ReadPair → Option TxnId
read_at key [] = None
read_at key (pair ∷ pairs) = if bytes_eq key pair.key then Some pair.id else read_at key pairs

-- whether some key was read at an id
abbrev pub has_read : TxnId → List ReadPair → Bool
has_read id pairs = list_any (λ pair. same_id id pair.id) pairs

-- no key stands in two pairs
abbrev pub HasEachKeyOnce : List ReadPair → Type 0
HasEachKeyOnce [] = Unit {0}
HasEachKeyOnce (pair ∷ pairs) = (read_at pair.key pairs ≡ None) × HasEachKeyOnce pairs

-- the id that an index has of a key
abbrev pub id_of : List ℕ → List (List ℕ × TxnId) → Option TxnId
id_of key ids = lookup (λ k. is_eq (slice_cmp nat_cmp key k)) ids

-- whether an index has an id
abbrev pub is_seen : TxnId → List TxnId → Bool
is_seen id seen = list_any (λ k. is_eq (id_cmp id k)) seen

-- each key stands once, and an index has of each key and of each id what the pairs have
pub record IsIndexed (pairs : List ReadPair) (ids : List (List ℕ × TxnId)) (seen : List TxnId) : Type 0 where
  pub once : HasEachKeyOnce pairs
  pub at_keys : (key : List ℕ) → id_of key ids ≡ read_at key pairs
  pub at_ids : (id : TxnId) → is_seen id seen ≡ has_read id pairs
