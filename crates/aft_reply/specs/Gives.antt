-- What a call gives against what a reading function answers: want of memory is the one free answer.
use Rattle.std.specs.Prelude.{◌≡◌, Err, Ok, Result}
use Rattle.aft_reply.specs.declared.fault.ReplyFault.{ReplyFault}
use Rattle.aft_reply.specs.declared.fault.ReplyFault.TheVariants.{BadReply, Memory}

infixl 10 ◌>>=◌
-- the second step, if the first gave a value
abbrev pub ◌>>=◌ : {A B : Type 0} → Result A ReplyFault → (A → Result B ReplyFault) → Result B ReplyFault
(Ok x) >>= f = f x
(Err e) >>= f = Err e

-- a call failed as the reading does, or memory ran out
abbrev pub Fails : {X : Type 0} → ReplyFault → Result X ReplyFault → Type 0
Fails BadReply read = read ≡ Err BadReply
Fails Memory read = Unit {0}

-- what a call returned is what the reading answers, unless memory ran out
abbrev pub Gives : {X : Type 0} → Result X ReplyFault → Result X ReplyFault → Type 0
Gives (Ok x) read = read ≡ Ok x
Gives (Err e) read = Fails e read

-- what a call returned, seen by view, is what the reading answers
abbrev pub Reads : {X Y : Type 0} → (X → Y) → Result X ReplyFault → Result Y ReplyFault → Type 0
Reads view (Ok x) read = read ≡ Ok (view x)
Reads view (Err e) read = read ≡ Err e

-- what a call returned, seen by view, is what the reading answers, unless memory ran out
abbrev pub GivesBy : {X Y : Type 0} → (X → Y) → Result X ReplyFault → Result Y ReplyFault → Type 0
GivesBy view (Ok x) read = read ≡ Ok (view x)
GivesBy view (Err e) read = Fails e read
