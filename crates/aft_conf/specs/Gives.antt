-- What a call gives against what a reading function answers: want of memory is the one free answer.
use Rattle.std.specs.Prelude.{◌≡◌, Result, Ok, Err}
use Rattle.aft_conf.specs.declared.fault.ConfFault.{ConfFault}
use Rattle.aft_conf.specs.declared.fault.ConfFault.TheVariants.{BadKey, Memory, NotToml}

-- a call failed as the reading does, or memory ran out
abbrev pub Fails : {X : Type 0} → ConfFault → Result X ConfFault → Type 0
Fails Memory read = Unit {0}
Fails NotToml read = read ≡ Err NotToml
Fails (BadKey name) read = read ≡ Err (BadKey name)

-- what a call returned is what the reading answers, unless memory ran out
abbrev pub Gives : {X : Type 0} → Result X ConfFault → Result X ConfFault → Type 0
Gives (Ok x) read = read ≡ Ok x
Gives (Err e) read = Fails e read
