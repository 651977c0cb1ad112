-- When a text is a time.
use Rattle.std.proofs.Common.{◌≡◌, ◌≢◌, ℕ, true, false, List, [], ◌∷◌, get_or, Result, Ok, Err, is_ok, refl, sym}
use Rattle.std.specs.Str.{all_ascii_digits}
use Rattle.std.specs.Str.Parse.{ParsesUnsigned}
use Rattle.std.proofs.lemmas.Bool.{and_from, and_parts, lt-ltb, ltb-true, false_from_ne_true}
use Rattle.std.proofs.lemmas.Str.Parse.{IsNumeralModel, numerals_by_fold, tells_all_ascii_digits, parse_plain}
use Rattle.aft_run.specs.Words.{number_on, is_time}

digits : IsNumeralModel (λ ds. all_ascii_digits ds ≡ true) (number_on 0)
digits = numerals_by_fold _ tells_all_ascii_digits number_on (record { empty = λ n. refl; more = λ n c cs h. refl })

-- a text with a plus in front is no time
pub is_time-plus : (bs : List ℕ) → get_or bs 0 0 ≡ 43 → is_time bs ≡ false
is_time-plus [] e = refl
is_time-plus (c ∷ cs) e = rw e refl

-- a text with no plus in front is read exactly where it is a time
pub is_ok-time : {E : Type 0} (bs : List ℕ) (r : Result ℕ E) → ParsesUnsigned 64 10 bs r → get_or bs 0 0 ≢ 43 → is_ok r ≡ is_time bs
is_ok-time {E = E} bs (Ok x) h ne =
    let p = parse_plain digits {E = E} 64 bs (Ok x) h ne in
    sym (and_from _ _ (and_from _ _ p.0.0 (lt-ltb _ _ p.0.1)) (lt-ltb _ _ p.0.2))
is_ok-time {E = E} bs (Err e) h ne =
    let p = parse_plain digits {E = E} 64 bs (Err e) h ne in
    sym (false_from_ne_true (is_time bs) (λ t.
    let a = and_parts _ _ t in
    let b = and_parts _ _ a.0 in
    p (b.0, ltb-true _ _ b.1, ltb-true _ _ a.1)))
