-- Beginnings of one history.
use Rattle.std.proofs.Common.{◌≡◌, ◌≤◌, Bool, true, false, List, [], ◌∷◌, ◌++◌, length, sym, refl, ap, ◌∙◌, arith, append_assoc, length-append}
use Rattle.std.specs.Prelude.{nat_lt}
use Rattle.std.proofs.lemmas.Bool.Decides.{nat_tests}
use mathlib.Core.List.{IsPrefix}
use Rattle.aft_chron.specs.Standing.{pick, longer}

module _ {E : Type 0} where
  pub begins_itself : (xs : List E) → IsPrefix xs xs
  begins_itself [] = ([], refl)
  begins_itself (x ∷ xs) = let rest : IsPrefix xs xs = begins_itself xs in (rest.0, ap (λ l. x ∷ l) rest.1)

  pub begins_longer : (xs ys zs : List E) → IsPrefix xs ys → IsPrefix xs (ys ++ zs)
  begins_longer xs ys zs p = (p.0 ++ zs, sym (append_assoc xs p.0 zs) ∙ ap (λ l. l ++ zs) p.1)

  pub begins_length : (xs ys : List E) → IsPrefix xs ys → length xs ≤ length ys
  begins_length xs ys p = omega (arith, length-append xs p.0, ap length p.1)

  pub begins_whole : (xs ys : List E) → IsPrefix xs ys → length ys ≤ length xs → xs ≡ ys
  begins_whole [] [] p le = refl
  begins_whole [] (y ∷ ys) p le = absurd (omega arith)
  begins_whole (x ∷ xs) [] p le = absurd (cc (p.1))
  begins_whole (x ∷ xs) (y ∷ ys) p le = let rest : xs ≡ ys = begins_whole xs ys (p.0, cc (p.1)) (omega arith) in cc (p.1, rest)

  -- of two beginnings of one history the longer is one
  pub longer_begins : (xs ys log : List E) → IsPrefix xs log → IsPrefix ys log → IsPrefix (longer xs ys) log
  longer_begins xs ys log p q = chosen (nat_lt (length xs) (length ys))
    where
      chosen : (b : Bool) → IsPrefix (pick b xs ys) log
      chosen true = q
      chosen false = p

  -- what begins both begins the longer
  pub begins_both : (opening xs ys : List E) → IsPrefix opening xs → IsPrefix opening ys → IsPrefix opening (longer xs ys)
  begins_both opening xs ys p q = chosen (nat_lt (length xs) (length ys))
    where
      chosen : (b : Bool) → IsPrefix opening (pick b xs ys)
      chosen true = q
      chosen false = p

  -- of two beginnings of one history the shorter begins the longer
  pub begins_between : (xs ys log : List E) → IsPrefix xs log → IsPrefix ys log → length xs ≤ length ys → IsPrefix xs ys
  begins_between [] ys log p q le = (ys, refl)
  begins_between (x ∷ xs) [] log p q le = absurd (omega arith)
  begins_between (x ∷ xs) (y ∷ ys) [] p q le = absurd (cc (p.1))
  begins_between (x ∷ xs) (y ∷ ys) (z ∷ zs) p q le = let rest : IsPrefix xs ys = begins_between xs ys zs (p.0, cc (p.1)) (q.0, cc (q.1)) (omega arith) in (rest.0, cc (p.1, q.1, rest.1))

  -- two beginnings of one history both begin the longer of them
  pub both_begin : (xs ys log : List E) → IsPrefix xs log → IsPrefix ys log → IsPrefix xs (longer xs ys) × IsPrefix ys (longer xs ys)
  both_begin xs ys log p q = chosen (nat_lt (length xs) (length ys)) refl
    where
      chosen : (b : Bool) → nat_lt (length xs) (length ys) ≡ b → IsPrefix xs (pick b xs ys) × IsPrefix ys (pick b xs ys)
      chosen true e = (begins_between xs ys log p q (grind (arith, nat_tests)), begins_itself ys)
      chosen false e = (begins_itself xs, begins_between ys xs log q p (grind (arith, nat_tests)))

  pub longer_least : (xs ys : List E) → (length xs ≤ length (longer xs ys)) × (length ys ≤ length (longer xs ys))
  longer_least xs ys = chosen (nat_lt (length xs) (length ys)) refl
    where
      chosen : (b : Bool) → nat_lt (length xs) (length ys) ≡ b → (length xs ≤ length (pick b xs ys)) × (length ys ≤ length (pick b xs ys))
      chosen true e = (grind (arith, nat_tests), omega arith)
      chosen false e = (omega arith, grind (arith, nat_tests))
