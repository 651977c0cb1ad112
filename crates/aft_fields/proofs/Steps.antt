-- The steps of a reading.
use Rattle.std.proofs.Common.{◌≡◌, Bool, true, false, cond, Result, Ok, Err, refl}
use Rattle.aft_fields.specs.declared.fault.FieldFault.{FieldFault}
use Rattle.aft_fields.specs.declared.fault.FieldFault.TheVariants as faults
use Rattle.aft_fields.specs.Gives.{◌>>=◌, Fails}

-- the value of a step that did not fail
pub bind_ok : {A B : Type 0} (r : Result A FieldFault) (f : A → Result B FieldFault) (y : B) → (r >>= f) ≡ Ok y → (x : A) × (r ≡ Ok x) × (f x ≡ Ok y)
bind_ok (Ok x) f y e = (x, refl, e)
bind_ok (Err d) f y e = absurd cc

-- a test that did not fail
pub test_ok : {A : Type 0} (b : Bool) (d : FieldFault) (r : Result A FieldFault) (y : A) → cond b r (Err d) ≡ Ok y → (b ≡ true) × (r ≡ Ok y)
test_ok true d r y e = (refl, e)
test_ok false d r y e = absurd cc

-- a test that did not fail, where it fails on yes
pub test_no : {A : Type 0} (b : Bool) (d : FieldFault) (x y : A) → cond b (Err d) (Ok x) ≡ Ok y → (b ≡ false) × (x ≡ y)
test_no true d x y e = absurd cc
test_no false d x y e = (refl, cc)

abbrev done : {A : Type 0} → A → Result A FieldFault
done x = Ok x

-- a value that a reading gave is the only one
pub ok_is : {A : Type 0} (x y : A) → done x ≡ done y → x ≡ y
ok_is x y e = cc

-- a whole fails as a part of it does
pub fails_as : {A B : Type 0} (e : FieldFault) (part : Result A FieldFault) (whole : Result B FieldFault) → ((f : FieldFault) → part ≡ Err f → whole ≡ Err f) → Fails e part → Fails e whole
fails_as faults.Memory part whole passes h = tt
fails_as (faults.Short at) part whole passes h = passes (faults.Short at) h
fails_as faults.Tag part whole passes h = passes faults.Tag h
fails_as (faults.NotUtf8 field) part whole passes h = passes (faults.NotUtf8 field) h
fails_as (faults.Unsorted field) part whole passes h = passes (faults.Unsorted field) h
fails_as (faults.Spare at) part whole passes h = passes (faults.Spare at) h
