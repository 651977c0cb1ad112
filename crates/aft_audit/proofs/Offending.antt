-- Nothing offends exactly where the pairs are sound.
use Rattle.std.proofs.Common.{◌≡◌, ℕ, suc, arith, Bool, true, false, List, [], ◌∷◌, refl, sym, ap, ◌∙◌}
use Rattle.std.specs.Prelude.{Err, IfOk, None, Ok, Option, Result, Some, if◌then◌else◌, is_none, length, nat_eq}
use Rattle.std.specs.List.{fold}
use Rattle.std.proofs.lemmas.Bool.{ne_eqb}
use Rattle.aft_keeper.specs.Contents.{name_lt}
use Rattle.aft_keeper.specs.declared.keeper.Pair.{Pair}
use Rattle.aft_model.specs.Sound.{first_offender, is_sound, lesser, offenders}

never_none : (least : List ℕ) (names : List (List ℕ)) → fold lesser (Some least) names ≡ None → ⊥
never_none least [] none = absurd (cc)
never_none least (name ∷ names) none = cases (name_lt name least) none (never_none name names) (never_none least names)
  where
    cases : (t : Bool) → fold lesser (if t then Some name else Some least) names ≡ None → (fold lesser (Some name) names ≡ None → ⊥) → (fold lesser (Some least) names ≡ None → ⊥) → ⊥
    cases true none' new old = new none'
    cases false none' new old = old none'

none_names : (names : List (List ℕ)) → is_none (fold lesser None names) ≡ nat_eq (length names) 0
none_names [] = refl
none_names (name ∷ names) = cases (fold lesser (Some name) names) refl ∙ sym (ne_eqb (suc (length names)) 0 (λ e. let no : ⊥ = omega arith in no))
  where
    cases : (o : Option (List ℕ)) → fold lesser (Some name) names ≡ o → is_none o ≡ false
    cases None is = absurd (never_none name names is)
    cases (Some least) is = refl

-- nothing offends exactly where the pairs are sound
pub none_sound : (pairs : List Pair) → is_none (first_offender pairs) ≡ is_sound pairs
none_sound pairs = none_names (offenders pairs)

-- so what is found tells both
pub sound_too : {E : Type 0} (found : Result (Option (List ℕ)) E) (pairs : List Pair) → IfOk found (λ name. name ≡ first_offender pairs) → IfOk found (λ name. is_none name ≡ is_sound pairs)
sound_too (Ok name) pairs first = ap is_none first ∙ none_sound pairs
sound_too (Err e) pairs first = tt
