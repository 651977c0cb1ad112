-- What names, texts and UUIDs are made of: bytes. A history of the door has nothing else in it.
use Rattle.std.specs.Prelude.{List, Bool, IsTrue, length, nat_lt, true, ℕ, ◌&&◌, ◌==◌}
use Rattle.std.specs.List.{list_all}
use Rattle.aft_keeper.specs.declared.keeper.KeeperAnswer.{KeeperAnswer}
use Rattle.aft_keeper.specs.declared.keeper.KeeperAnswer.TheVariants.{Found, Page}
use Rattle.aft_keeper.specs.declared.keeper.KeeperCall.{KeeperCall}
use Rattle.aft_keeper.specs.declared.keeper.KeeperCall.TheVariants.{Delete, Get, Put, Scan}
use Rattle.aft_keeper.specs.declared.keeper.Pair.{Pair}
use Rattle.aft_model.specs.declared.door.DoorAct.{DoorAct}
use Rattle.aft_model.specs.declared.door.DoorAct.TheVariants.{Call, Claim, GiveUp, Release}
use Rattle.aft_model.specs.declared.door.DoorEntry.{DoorEntry}

-- whether a number is a byte
abbrev pub is_byte : ℕ → Bool
is_byte n = nat_lt n 256

-- whether a text is made of bytes
abbrev pub are_bytes : List ℕ → Bool
are_bytes text = list_all is_byte text

-- whether a UUID is sixteen bytes
abbrev pub is_uuid : List ℕ → Bool
is_uuid uuid = length uuid == 16 && are_bytes uuid

-- whether a pair is made of bytes
abbrev pub is_byte_pair : Pair → Bool
is_byte_pair pair = are_bytes pair.name && are_bytes pair.bytes

-- whether a call asks with bytes alone
abbrev pub asks_bytes : KeeperCall → Bool
asks_bytes (Get name) = are_bytes name
asks_bytes (Put name bytes) = are_bytes name && are_bytes bytes
asks_bytes (Delete name) = are_bytes name
asks_bytes (Scan prefix after limit) = are_bytes prefix && are_bytes after

-- whether an answer has bytes alone
abbrev pub answers_bytes : KeeperAnswer → Bool
answers_bytes (Found bytes) = are_bytes bytes
answers_bytes (Page pairs) = list_all is_byte_pair pairs
answers_bytes answer = true

-- whether an act has bytes alone
abbrev pub acts_bytes : DoorAct → Bool
acts_bytes (Call node inc asked answer) = asks_bytes asked && answers_bytes answer
acts_bytes (Claim uuid node inc) = is_uuid uuid
acts_bytes (Release uuid node inc) = is_uuid uuid
acts_bytes (GiveUp node inc id) = is_uuid id.uuid
acts_bytes act = true

-- whether each name, each stored text and each UUID of a history is made of bytes
abbrev pub has_bytes : List DoorEntry → Bool
has_bytes history = list_all (λ entry. acts_bytes entry.act) history

-- a history that is made of bytes
abbrev pub HasBytes : List DoorEntry → Type 0
HasBytes history = IsTrue (has_bytes history)
