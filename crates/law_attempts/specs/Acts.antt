-- The acts of one attempt.
use Rattle.std.specs.Prelude.{Bool, List, None, Option, Some, [], false, if◌then◌else◌, suc, zero, ℕ, ◌&&◌, ◌++◌, ◌∷◌}
use Rattle.std.specs.List.{fold}
use Rattle.std.specs.Str.{bytes_eq}
use Rattle.aft_model.specs.declared.caller.Attempt.{Attempt}
use Rattle.aft_model.specs.declared.node.NodeAct.{NodeAct}
use Rattle.aft_model.specs.declared.node.NodeAct.TheVariants.{Admit, Begin, Doubt, End, Leave, Lost, Put, Select, Settle, Start, Stored, Unadmit, Value}
use Rattle.aft_model.specs.declared.node.NodeEntry.{NodeEntry}
use Rattle.aft_model.specs.Attempts.{same_attempt}

-- the first so many attempts of an incarnation of a node
abbrev pub first_attempts : ℕ → ℕ → ℕ → List Attempt
first_attempts node inc zero = []
first_attempts node inc (suc count) = first_attempts node inc count ++ record { node = node; inc = inc; number = suc count } ∷ []

-- whether an act is one of this attempt
abbrev pub acts_on : Attempt → NodeAct → Bool
acts_on a (Admit b uuid) = same_attempt a b
acts_on a (Begin b) = same_attempt a b
acts_on a (Unadmit b) = same_attempt a b
acts_on a (Put b key value) = same_attempt a b
acts_on a (Select b key picked) = same_attempt a b
acts_on a (Value b key id place kept) = same_attempt a b
acts_on a (Lost b key id) = same_attempt a b
acts_on a (Start b now c) = same_attempt a b
acts_on a (Settle b) = same_attempt a b
acts_on a (Leave b) = same_attempt a b
acts_on a (Stored b c) = same_attempt a b
acts_on a (Doubt b) = same_attempt a b
acts_on a (End b) = same_attempt a b
acts_on a act = false

-- whether an act begins this attempt, or starts it
abbrev pub begins : Attempt → NodeAct → Bool
begins a (Begin b) = same_attempt a b
begins a act = false

abbrev pub starts : Attempt → NodeAct → Bool
starts a (Start b now c) = same_attempt a b
starts a act = false

-- how often a part begins an attempt, and starts it
abbrev pub times_begun : Attempt → List NodeEntry → ℕ
times_begun a part = fold (λ count entry. if begins a entry.act then suc count else count) 0 part

abbrev pub times_started : Attempt → List NodeEntry → ℕ
times_started a part = fold (λ count entry. if starts a entry.act then suc count else count) 0 part

-- the value of a key that an attempt has put after an act
abbrev pub value_after : Attempt → List ℕ → Option (List ℕ) → NodeAct → Option (List ℕ)
value_after a key before (Put b put value) = if same_attempt a b && bytes_eq key put then Some value else before
value_after a key before act = before

-- the last value that an attempt put under a key in a part
abbrev pub last_value : Attempt → List ℕ → List NodeEntry → Option (List ℕ)
last_value a key part = fold (λ before entry. value_after a key before entry.act) None part
