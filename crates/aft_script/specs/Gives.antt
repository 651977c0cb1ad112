-- What a call gives against what a reading function answers: want of memory is the one free answer.
use Rattle.std.specs.Prelude.{◌≡◌, Err, Ok, Result}
use Rattle.aft_script.specs.declared.fault.LineFault.{LineFault}
use Rattle.aft_script.specs.declared.fault.Refusal.{Refusal}
use Rattle.aft_script.specs.declared.fault.Refusal.TheVariants.{Fault, Memory}
use Rattle.aft_script.specs.declared.fault.ScriptFault.{ScriptFault}
use Rattle.aft_script.specs.declared.fault.ScriptFault.TheVariants as script

infixl 10 ◌>>=◌
-- the second step, if the first gave a value
abbrev pub ◌>>=◌ : {A B : Type 0} → Result A LineFault → (A → Result B LineFault) → Result B LineFault
(Ok x) >>= f = f x
(Err e) >>= f = Err e

-- a call failed as the reading does, or memory ran out
abbrev pub Fails : {X : Type 0} → Refusal → Result X LineFault → Type 0
Fails (Fault fault) read = read ≡ Err fault
Fails Memory read = Unit {0}

-- what a call returned is what the reading answers, unless memory ran out
abbrev pub Gives : {X : Type 0} → Result X Refusal → Result X LineFault → Type 0
Gives (Ok x) read = read ≡ Ok x
Gives (Err e) read = Fails e read

-- a call failed as the reading of a script or an order does, or memory ran out
abbrev pub Refuses : {X : Type 0} → ScriptFault → Result X ScriptFault → Type 0
Refuses (script.Line number fault) read = read ≡ Err (script.Line number fault)
Refuses (script.Word number) read = read ≡ Err (script.Word number)
Refuses script.Memory read = Unit {0}

-- what a call returned, seen by view, is what the reading answers, unless memory ran out
abbrev pub Reads : {X Y : Type 0} → (X → Y) → Result X ScriptFault → Result Y ScriptFault → Type 0
Reads view (Ok x) read = read ≡ Ok (view x)
Reads view (Err e) read = Refuses e read
