-- The steps of a reading that did not fail.
use Rattle.std.proofs.Common.{◌≡◌, Bool, true, false, cond, Result, Ok, Err, refl}
use Rattle.aft_records.specs.declared.fault.RecordFault.{RecordFault}
use Rattle.aft_records.specs.declared.fault.RecordFault.TheVariants as faults
use Rattle.aft_records.specs.Gives.{◌>>=◌, Fails}

-- the value of a step that did not fail
pub bind_ok : {A B : Type 0} (r : Result A RecordFault) (f : A → Result B RecordFault) (y : B) → (r >>= f) ≡ Ok y → (x : A) × (r ≡ Ok x) × (f x ≡ Ok y)
bind_ok (Ok x) f y e = (x, refl, e)
bind_ok (Err d) f y e = absurd cc

-- a test that did not fail
pub test_ok : {A : Type 0} (b : Bool) (d : RecordFault) (r : Result A RecordFault) (y : A) → cond b r (Err d) ≡ Ok y → (b ≡ true) × (r ≡ Ok y)
test_ok true d r y e = (refl, e)
test_ok false d r y e = absurd cc

abbrev done : {A : Type 0} → A → Result A RecordFault
done x = Ok x

-- a value that a reading gave is the only one
pub ok_is : {A : Type 0} (x y : A) → done x ≡ done y → x ≡ y
ok_is x y e = cc

-- a whole fails as a part of it does
pub fails_as : {A B : Type 0} (e : RecordFault) (part : Result A RecordFault) (whole : Result B RecordFault) → ((f : RecordFault) → part ≡ Err f → whole ≡ Err f) → Fails e part → Fails e whole
fails_as faults.Memory part whole passes h = tt
fails_as (faults.Field f) part whole passes h = passes (faults.Field f) h
fails_as faults.BadTime part whole passes h = passes faults.BadTime h
fails_as faults.BadKeys part whole passes h = passes faults.BadKeys h
fails_as (faults.BadKey index) part whole passes h = passes (faults.BadKey index) h
fails_as faults.BadOrigin part whole passes h = passes faults.BadOrigin h
fails_as faults.BadReads part whole passes h = passes faults.BadReads h
fails_as faults.LongValue part whole passes h = passes faults.LongValue h

abbrev failed : {A : Type 0} → RecordFault → Result A RecordFault
failed e = Err e

-- a fault that a reading gave is the only one
pub err_is : {A : Type 0} (d e : RecordFault) → failed {A = A} d ≡ failed e → d ≡ e
err_is d e h = cc
