-- What an act makes of the rows of attempts.
use Rattle.std.proofs.Common.{◌≡◌, ℕ, ◌≤◌, Bool, true, false, not, List, [], ◌∷◌, ◌++◌, refl, sym, ap, subst, ◌∙◌, inl, inr, arith}
use Rattle.std.specs.Prelude.{IsFalse, if◌then◌else◌, filter, map, suc, zero}
use Rattle.aft_model.specs.declared.caller.Attempt.{Attempt}
use Rattle.aft_model.specs.declared.node.NodeEntry.{NodeEntry}
use Rattle.aft_model.specs.declared.read_set.ReadPair.{ReadPair}
use Rattle.aft_model.specs.declared.node.NodeAct.{NodeAct}
use Rattle.aft_model.specs.Attempts.{AttemptState, Row, Write, attempt_after, attempt_state, buffer_after, is_gone, open_after, reads_after, row_of, uuid_after}
use Rattle.aft_model.proofs.Histories.{In}
use Rattle.aft_model.proofs.Lists.{in_snoc}
use Rattle.aft_model.proofs.Pins.{There, attempt_state-snoc, reads-snoc}
use Rattle.law_attempts.specs.Acts.{acts_on, first_attempts}
use Rattle.law_attempts.proofs.Acts.{buffer-snoc, buffer_left, open-snoc, open_left, reads_left, state_left, uuid-snoc, uuid_left}
use Rattle.law_attempts.proofs.Standing.{first_within}

-- ---- lists in which each number stands once

-- no number stands in two attempts
abbrev pub Distinct : List Attempt → Type 0
Distinct [] = Unit {0}
Distinct (x ∷ xs) = ((y : Attempt) → In y xs → y.number ≡ x.number → ⊥) × Distinct xs

distinct_snoc : (xs : List Attempt) (b : Attempt) → Distinct xs → ((y : Attempt) → In y xs → y.number ≡ b.number → ⊥) → Distinct (xs ++ b ∷ [])
distinct_snoc [] b once apart = (λ y among same. among, tt)
distinct_snoc (x ∷ xs) b once apart = (
  λ y among same. elim (in_snoc y xs b among) [ inl was ↦ once.0 y was same | inr is ↦ apart x (inl refl) (sym same ∙ ap (λ (z : Attempt). z.number) is) ],
  distinct_snoc xs b once.1 (λ y among same. apart y (inr among) same),
)

pub first_distinct : (node inc count : ℕ) → Distinct (first_attempts node inc count)
first_distinct node inc zero = tt
first_distinct node inc (suc count) =
    distinct_snoc (first_attempts node inc count) (record { node = node; inc = inc; number = suc count }) (first_distinct node inc count)
    (λ y among same. let least : y.number ≤ count = (first_within node inc count y among).2 in absurd (omega arith))

-- the rows of those attempts of a list that are there
abbrev rows_in : List NodeEntry → List Attempt → List Row
rows_in part xs = map (row_of part) (filter (λ a. not (is_gone (attempt_state a part))) xs)

module _ (part after : List NodeEntry) where
  -- an attempt has the same row, if it is there
  abbrev pub Same : Attempt → Type 0
  Same x = (attempt_state x after ≡ attempt_state x part) × (row_of after x ≡ row_of part x)

  -- one attempt more in front
  in_front_of : (x : Attempt) (xs : List Attempt) (rest : List Row) (p : List NodeEntry) → rows_in p xs ≡ rest → rows_in p (x ∷ xs) ≡ (if not (is_gone (attempt_state x p)) then row_of p x ∷ rest else rest)
  in_front_of x xs rest p is = cases (not (is_gone (attempt_state x p)))
    where
      cases : (t : Bool) → map (row_of p) (if t then x ∷ filter (λ a. not (is_gone (attempt_state a p))) xs else filter (λ a. not (is_gone (attempt_state a p))) xs) ≡ (if t then row_of p x ∷ rest else rest)
      cases true = ap (λ (l : List Row). row_of p x ∷ l) is
      cases false = is

  pub all_same : (xs : List Attempt) → ((x : Attempt) → In x xs → Same x) → rows_in after xs ≡ rows_in part xs
  all_same [] each = refl
  all_same (x ∷ xs) each =
      let here = each x (inl refl) in
      in_front_of x xs (rows_in part xs) after (all_same xs (λ y among. each y (inr among)))
      ∙ (ap (λ (state : AttemptState). if not (is_gone state) then row_of after x ∷ rows_in part xs else rows_in part xs) here.0
      ∙ (ap (λ (row : Row). if not (is_gone (attempt_state x part)) then row ∷ rows_in part xs else rows_in part xs) here.1
      ∙ sym (in_front_of x xs (rows_in part xs) part refl)))

  -- all others of the list have the same rows
  abbrev Others : Attempt → List Attempt → Type 0
  Others b xs = (x : Attempt) → In x xs → (x.number ≡ b.number → ⊥) → Same x

  module _ (b : Attempt) (there : There (attempt_state b part)) where
    -- the rows of a list that begins with it, and those of one that begins with another
    own_front : (xs : List Attempt) → rows_in part (b ∷ xs) ≡ row_of part b ∷ rows_in part xs
    own_front xs = in_front_of b xs (rows_in part xs) part refl ∙ ap (λ t. if not t then row_of part b ∷ rows_in part xs else rows_in part xs) there

    module _ (on : List Row → List Row) (at_own : (xs : List Row) → on (row_of part b ∷ xs) ≡ (if not (is_gone (attempt_state b after)) then row_of after b ∷ xs else xs))
        (at_other : (x : Attempt) (xs : List Row) → (x.number ≡ b.number → ⊥) → on (row_of part x ∷ xs) ≡ row_of part x ∷ on xs) where
      -- what is done to its row is done to the rows
      pub one_row : (xs : List Attempt) → Distinct xs → Others b xs → In b xs → rows_in after xs ≡ on (rows_in part xs)
      one_row [] once others among = absurd among
      one_row (x ∷ xs) once others (inl is) =
          subst (λ (y : Attempt). rows_in after (y ∷ xs) ≡ on (rows_in part (y ∷ xs))) is
          (in_front_of b xs (rows_in part xs) after
          (all_same xs (λ y later. others y (inr later) (λ same. once.0 y later (same ∙ ap (λ (z : Attempt). z.number) is))))
          ∙ (sym (at_own (rows_in part xs)) ∙ ap on (sym (own_front xs))))
      one_row (x ∷ xs) once others (inr later) =
          let apart : x.number ≡ b.number → ⊥ = λ same. once.0 b later (sym same) in
          let here = others x (inl refl) apart in
          in_front_of x xs (on (rows_in part xs)) after (one_row xs once.1 (λ y among. others y (inr among)) later)
          ∙ (ap (λ (state : AttemptState). if not (is_gone state) then row_of after x ∷ on (rows_in part xs) else on (rows_in part xs)) here.0
          ∙ (ap (λ (row : Row). if not (is_gone (attempt_state x part)) then row ∷ on (rows_in part xs) else on (rows_in part xs)) here.1
          ∙ (cases (not (is_gone (attempt_state x part))) apart ∙ ap on (sym (in_front_of x xs (rows_in part xs) part refl)))))
        where
          cases : (t : Bool) → (x.number ≡ b.number → ⊥) → (if t then row_of part x ∷ on (rows_in part xs) else on (rows_in part xs)) ≡ on (if t then row_of part x ∷ rows_in part xs else rows_in part xs)
          cases true apart = sym (at_other x (rows_in part xs) apart)
          cases false apart = refl

-- ---- one row

-- all of an attempt after an act
abbrev pub row_after : Attempt → NodeAct → Row → Row
row_after a act row = record {
  number = row.number;
  uuid = uuid_after a row.uuid act;
  state = attempt_after a row.state act;
  writes = buffer_after a row.writes act;
  pairs = reads_after a row.pairs act;
  fetching = open_after a row.fetching act;
}

abbrev row_with : ℕ → List ℕ → AttemptState → List Write → List ReadPair → ℕ → Row
row_with n u s w p f = record { number = n; uuid = u; state = s; writes = w; pairs = p; fetching = f }

row_equal : (n : ℕ) (u u' : List ℕ) (s s' : AttemptState) (w w' : List Write) (p p' : List ReadPair) (f f' : ℕ) → u ≡ u' → s ≡ s' → w ≡ w' → p ≡ p' → f ≡ f' → row_with n u s w p f ≡ row_with n u' s' w' p' f'
row_equal n u u' s s' w w' p p' f f' a b c d e = cc

pub row-snoc : (a : Attempt) (part : List NodeEntry) (entry : NodeEntry) → row_of (part ++ entry ∷ []) a ≡ row_after a entry.act (row_of part a)
row-snoc a part entry =
    row_equal a.number _ _ _ _ _ _ _ _ _ _ (uuid-snoc a part entry) (attempt_state-snoc a part entry) (buffer-snoc a part entry) (reads-snoc a part entry) (open-snoc a part entry)

pub row_left : (a : Attempt) (act : NodeAct) (row : Row) → IsFalse (acts_on a act) → row_after a act row ≡ row
row_left a act row other =
    row_equal row.number _ _ _ _ _ _ _ _ _ _ (uuid_left a row.uuid act other) (state_left a row.state act other) (buffer_left a row.writes act other) (reads_left a row.pairs act other) (open_left a row.fetching act other)

-- an attempt that an act isn't one of
pub same_row : (a : Attempt) (part : List NodeEntry) (entry : NodeEntry) → IsFalse (acts_on a entry.act) → Same part (part ++ entry ∷ []) a
same_row a part entry other = (
  attempt_state-snoc a part entry ∙ state_left a (attempt_state a part) entry.act other,
  row-snoc a part entry ∙ row_left a entry.act (row_of part a) other,
)
