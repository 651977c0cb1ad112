-- What a sink has taken after a write.
use Rattle.std.specs.Prelude.{ℕ, ◌≡◌, List, ◌++◌, take, Option, None, Some, Result, Ok, Err, IsSomeAnd}
use Rattle.aft_keeper.specs.declared.sink.SinkFault.{SinkFault}
use Rattle.aft_keeper.specs.declared.sink.SinkFault.TheVariants.{Failed, Memory}

-- the whole piece, or where writing failed some first part of it, or for want of memory nothing
abbrev pub Gains : {T : Type 0} → List ℕ → List ℕ → Result T SinkFault → List ℕ → Type 0
Gains piece old (Ok x) new = new ≡ old ++ piece
Gains piece old (Err Failed) new = (n : ℕ) × (new ≡ old ++ take n piece)
Gains piece old (Err Memory) new = new ≡ old

-- the same where the bytes are told; what isn't told stays so
abbrev pub Takes : {T : Type 0} → List ℕ → Option (List ℕ) → Result T SinkFault → Option (List ℕ) → Type 0
Takes piece None result new = new ≡ None
Takes piece (Some old) result new = IsSomeAnd new (Gains piece old result)
