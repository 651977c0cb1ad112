-- What a call gives against what a reading on lists answers: want of memory is the one free answer.
use Rattle.std.specs.Prelude.{◌≡◌, Result, Ok, Err}
use Rattle.aft_fields.specs.declared.fault.FieldFault.{FieldFault}
use Rattle.aft_fields.specs.declared.fault.FieldFault.TheVariants.{Memory}

infixl 10 ◌>>=◌
-- the second step, if the first gave a value
abbrev pub ◌>>=◌ : {A B : Type 0} → Result A FieldFault → (A → Result B FieldFault) → Result B FieldFault
(Ok x) >>= f = f x
(Err e) >>= f = Err e

-- a call failed as the reading does, or memory ran out
abbrev pub Fails : {Y : Type 0} → FieldFault → Result Y FieldFault → Type 0
Fails Memory read = Unit {0}
Fails e read = read ≡ Err e

-- what a call returned, seen by view, is what the reading answers, unless memory ran out
abbrev pub Gives : {X Y : Type 0} → (X → Y) → Result X FieldFault → Result Y FieldFault → Type 0
Gives view (Ok x) read = read ≡ Ok (view x)
Gives view (Err e) read = Fails e read
