-- Steps of the loops over buffered writes.
use Rattle.std.proofs.Common.{◌≡◌, ℕ, ◌+◌, ◌<◌, Bool, true, false, cond, List, [], ◌∷◌, ◌++◌, length, get_or, take, drop, map, set, drop-cons, add-one, Some, refl, sym, ap, ◌∙◌, arith, suc, zero, append_assoc}
use Rattle.std.specs.Prelude.{if◌then◌else◌, insert}
use Rattle.std.specs.Ordering.{nat_cmp, is_eq, is_lt}
use Rattle.std.specs.declared.cmp.Ordering.{Ordering}
use Rattle.std.proofs.lemmas.Map.Text.{is_eq-slice_cmp}
use Rattle.std.specs.Cmp.Lexicographic.{slice_cmp}
use Rattle.std.specs.Str.{bytes_eq}
use Rattle.std.proofs.lemmas.List.{map-append, take_more, drop_all}
use Rattle.aft_model.specs.Attempts as model
use Rattle.aft_model.specs.Attempts.{buffered, with_write}
use Rattle.aft_txn.specs.declared.buffer.Write.{Write}
use Rattle.aft_txn.specs.Buffer.{as_write, write_of}

-- whether a name is below another
abbrev name_lt : List ℕ → List ℕ → Bool
name_lt a b = is_lt (slice_cmp nat_cmp a b)

-- what the writes from a place on have is what the one there has, or else those behind it
pub buffered-drop : (key : List ℕ) (writes : List Write) (i : ℕ) (write : Write) → i < length writes → write ≡ get_or writes i write
    → buffered key (map as_write (drop i writes)) ≡ cond (bytes_eq key write.key) (Some write.value) (buffered key (map as_write (drop (i + 1) writes)))
buffered-drop key writes i write h e = rw (drop-cons writes i write h, ← e, add-one) refl

set-parts : (xs : List Write) (i : ℕ) (y : Write) → i < length xs → set xs i y ≡ take i xs ++ y ∷ drop (suc i) xs
set-parts [] i y h = absurd (omega arith)
set-parts (x ∷ xs) zero y h = refl
set-parts (x ∷ xs) (suc i) y h = ap (λ rest. x ∷ rest) (set-parts xs i y (omega arith))

module _ (key value : List ℕ) (writes : List Write) (i : ℕ) (write : Write) (within : i < length writes) (at : write ≡ get_or writes i write) where
  -- the write goes into what is left from this place on
  abbrev gone_by : List model.Write
  gone_by = map as_write (take i writes) ++ with_write (as_write (write_of key value)) (map as_write (drop i writes))

  here : drop i writes ≡ write ∷ drop (suc i) writes
  here = drop-cons writes i write within ∙ ap (λ (w : Write). w ∷ drop (suc i) writes) (sym at)

  abbrev step : Bool → Bool → List model.Write
  step same less =
      if same then as_write (write_of key value) ∷ map as_write (drop (suc i) writes)
      else if less then as_write (write_of key value) ∷ as_write write ∷ map as_write (drop (suc i) writes)
      else as_write write ∷ with_write (as_write (write_of key value)) (map as_write (drop (suc i) writes))

  stepped : (same less : Bool) → bytes_eq key write.key ≡ same → name_lt key write.key ≡ less → gone_by ≡ map as_write (take i writes) ++ step same less
  stepped same less is_same is_less =
      ap (λ rest. map as_write (take i writes) ++ with_write (as_write (write_of key value)) (map as_write rest)) here
      ∙ ap (λ t. map as_write (take i writes) ++ step t (name_lt key write.key)) is_same
      ∙ ap (λ t. map as_write (take i writes) ++ step same t) is_less

  pub goes_by : bytes_eq key write.key ≡ false → name_lt key write.key ≡ false
      → gone_by ≡ map as_write (take (i + 1) writes) ++ with_write (as_write (write_of key value)) (map as_write (drop (i + 1) writes))
  goes_by other above =
      let rest : List model.Write = with_write (as_write (write_of key value)) (map as_write (drop (suc i) writes)) in
      let front : take (i + 1) writes ≡ take i writes ++ write ∷ [] = take_more writes i write within ∙ ap (λ (w : Write). take i writes ++ w ∷ []) (sym at) in
      stepped false false other above
      ∙ sym (append_assoc (map as_write (take i writes)) (as_write write ∷ []) rest)
      ∙ ap (λ parts. parts ++ rest) (sym (map-append as_write (take i writes) (write ∷ [])))
      ∙ ap (λ parts. map as_write parts ++ rest) (sym front)
      ∙ ap (λ n. map as_write (take (i + 1) writes) ++ with_write (as_write (write_of key value)) (map as_write (drop n writes))) (sym (add-one i))

  pub replaces_here : bytes_eq key write.key ≡ true → gone_by ≡ map as_write (set writes i (write_of key value))
  replaces_here same =
      stepped true (name_lt key write.key) same refl
      ∙ sym (map-append as_write (take i writes) (write_of key value ∷ drop (suc i) writes))
      ∙ ap (map as_write) (sym (set-parts writes i (write_of key value) within))

  pub inserts_here : bytes_eq key write.key ≡ false → name_lt key write.key ≡ true → gone_by ≡ map as_write (insert writes i (write_of key value))
  inserts_here other below =
      stepped false true other below
      ∙ sym (map-append as_write (take i writes) (write_of key value ∷ write ∷ drop (suc i) writes))
      ∙ ap (λ rest. map as_write (take i writes ++ write_of key value ∷ rest)) (sym here)

-- behind all writes
pub inserts_last : (key value : List ℕ) (writes : List Write) (i : ℕ) → i ≡ length writes
    → map as_write (take i writes) ++ with_write (as_write (write_of key value)) (map as_write (drop i writes)) ≡ map as_write (insert writes i (write_of key value))
inserts_last key value writes i is =
    let none : drop i writes ≡ [] = drop_all i writes (omega (arith, is)) in
    ap (λ rest. map as_write (take i writes) ++ with_write (as_write (write_of key value)) (map as_write rest)) none
    ∙ sym (map-append as_write (take i writes) (write_of key value ∷ []))
    ∙ ap (λ rest. map as_write (take i writes ++ write_of key value ∷ rest)) (sym none)

-- a key that stands to another so is the same, below it or above it
pub compared : (key other : List ℕ) (o : Ordering) → slice_cmp nat_cmp key other ≡ o → (bytes_eq key other ≡ is_eq o) × (name_lt key other ≡ is_lt o)
compared key other o is = (sym (is_eq-slice_cmp key other) ∙ ap is_eq is, ap is_lt is)
