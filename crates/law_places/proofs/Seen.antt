-- What was seen of the door's history stays so when that grows.
use Rattle.std.proofs.Common.{◌≡◌, ℕ, zero, suc, ◌+◌, ◌≤◌, Bool, true, false, cond, not, ◌||◌, inl, inr, List, [], ◌∷◌, ◌++◌, refl, sym, ap, subst, ◌∙◌, leb, arith}
use Rattle.std.specs.Prelude.{IsTrue, take, length, if◌then◌else◌}
use Rattle.std.specs.List.{before_first, list_any, position_or_len}
use Rattle.std.proofs.lemmas.Bool.{and_parts, and_from, or_cases, leb-true, le-leb, false≢true}
use Rattle.std.proofs.lemmas.List.{take-append-le, length-append}
use Rattle.aft_model.specs.declared.door.DoorEntry.{DoorEntry}
use Rattle.aft_model.specs.declared.node.NodeEntry.{NodeEntry}
use Rattle.aft_model.specs.declared.office.OfficeEntry.{OfficeEntry}
use Rattle.aft_model.specs.DoorKnowledge.{is_open, opens}
use Rattle.aft_model.specs.History.{each_after}
use Rattle.aft_model.specs.NodeSights.{has_seen, is_seen_node, may_come_at}
use Rattle.aft_model.specs.Office.{heard, heard_from, is_backed, is_legal_beside, may_come_beside}
use Rattle.aft_records.specs.Commits.{ids_of}
use Rattle.aft_model.specs.Committed.{committed}

-- a rule that entries keep, where each that keeps it keeps another
each_kept : {A : Type 0} (rule other : List A → A → Bool) → ((before : List A) (x : A) → IsTrue (rule before x) → IsTrue (other before x)) → (before xs : List A) → IsTrue (each_after rule before xs) → IsTrue (each_after other before xs)
each_kept rule other keeps before [] each = refl
each_kept rule other keeps before (x ∷ xs) each =
    let parts = and_parts (rule before x) (each_after rule (before ++ x ∷ []) xs) each in
    and_from _ _ (keeps before x parts.0) (each_kept rule other keeps (before ++ x ∷ []) xs parts.1)

-- what stands before the first that passes a test, with one more in front
before_first-cons : {A : Type 0} (p : A → Bool) (x : A) (xs : List A) → before_first p (x ∷ xs) ≡ (if p x then [] else x ∷ before_first p xs)
before_first-cons p x xs = by_test (p x)
  where
    one_more : (n : ℕ) → take (1 + n) (x ∷ xs) ≡ x ∷ take n xs
    one_more n = ap (λ k. take k (x ∷ xs)) (let e : 1 + n ≡ suc n = omega arith in e)

    by_test : (t : Bool) → take (cond (not t) (1 + position_or_len p xs) 0) (x ∷ xs) ≡ (if t then [] else x ∷ before_first p xs)
    by_test true = refl
    by_test false = one_more (position_or_len p xs)

module _ (door more : List DoorEntry) where
  longer : (front : ℕ) → IsTrue (leb front (length door)) → IsTrue (leb front (length (door ++ more)))
  longer front within = (let le = leb-true front (length door) within in le-leb front (length (door ++ more)) (omega (arith, length-append door more)))

  same_seen : (front : ℕ) → IsTrue (leb front (length door)) → take front (door ++ more) ≡ take front door
  same_seen front within = take-append-le front door more (leb-true front (length door) within)

  node_keeps : (node : ℕ) (before : List NodeEntry) (entry : NodeEntry) → IsTrue (may_come_at node door before entry) → IsTrue (may_come_at node (door ++ more) before entry)
  node_keeps node before entry may =
      let parts = and_parts (leb entry.front (length door)) (has_seen node (take entry.front door) entry.by before entry.act entry.answer) may in
      and_from _ _ (longer entry.front parts.0) (subst (λ (seen : List DoorEntry). IsTrue (has_seen node seen entry.by before entry.act entry.answer)) (sym (same_seen entry.front parts.0)) parts.1)

  pub node_stays : (node : ℕ) (history : List NodeEntry) → IsTrue (is_seen_node node door history) → IsTrue (is_seen_node node (door ++ more) history)
  node_stays node history seen = each_kept (may_come_at node door) (may_come_at node (door ++ more)) (node_keeps node) [] history seen

  -- where the door is open, what came before that is the same
  abbrev is_opening : DoorEntry → Bool
  is_opening entry = opens entry.act

  opened_before : (xs : List DoorEntry) → IsTrue (list_any is_opening xs) → before_first is_opening (xs ++ more) ≡ before_first is_opening xs
  opened_before [] opened = absurd (false≢true opened)
  opened_before (x ∷ xs) opened = before_first-cons is_opening x (xs ++ more) ∙ cases (opened_before xs) (is_opening x) refl opened ∙ sym (before_first-cons is_opening x xs)
    where
      cases : (IsTrue (list_any is_opening xs) → before_first is_opening (xs ++ more) ≡ before_first is_opening xs) → (t : Bool) → is_opening x ≡ t → IsTrue (is_opening x || list_any is_opening xs)
          → (if is_opening x then [] else x ∷ before_first is_opening (xs ++ more)) ≡ (if is_opening x then [] else x ∷ before_first is_opening xs)
      cases rest true is opened' =
          ap (λ t. if t then [] else x ∷ before_first is_opening (xs ++ more)) is ∙ sym (ap (λ t. if t then [] else x ∷ before_first is_opening xs) is)
      cases rest false is opened' =
          let later : IsTrue (list_any is_opening xs) = elim (or_cases (is_opening x) (list_any is_opening xs) opened') [ inl here ↦ absurd (false≢true (sym is ∙ here)) | inr more_of ↦ more_of ] in
          ap (λ (l : List DoorEntry). if is_opening x then [] else x ∷ l) (rest later)

  same_heard : IsTrue (is_open door) → (office : List OfficeEntry) → heard (door ++ more) office ≡ heard door office
  same_heard opened office = ap (λ (before : List DoorEntry). heard_from (ids_of (committed before)) office) (opened_before door opened)

  office_keeps : IsTrue (is_open door) → (before : List OfficeEntry) (entry : OfficeEntry) → IsTrue (may_come_beside door before entry) → IsTrue (may_come_beside (door ++ more) before entry)
  office_keeps opened before entry may =
      let parts = and_parts (leb entry.front (length door)) (is_backed (take entry.front door) (heard door before) entry.by entry.act) may in
      and_from _ _ (longer entry.front parts.0)
      (subst (λ known. IsTrue (is_backed (take entry.front (door ++ more)) known entry.by entry.act)) (sym (same_heard opened before))
      (subst (λ (seen : List DoorEntry). IsTrue (is_backed seen (heard door before) entry.by entry.act)) (sym (same_seen entry.front parts.0)) parts.1))

  pub office_stays : (office : List OfficeEntry) → IsTrue (is_open door) → IsTrue (is_legal_beside door office) → IsTrue (is_legal_beside (door ++ more) office)
  office_stays office opened legal = each_kept (may_come_beside door) (may_come_beside (door ++ more)) (office_keeps opened) [] office legal

-- who has seen more has seen what others had, and more
pub grows : {A : Type 0} (front later : ℕ) (xs : List A) → front ≤ later → (more : List A) × (take later xs ≡ take front xs ++ more)
grows zero later xs le = (take later xs, refl)
grows (suc front) zero xs le = absurd (omega arith)
grows (suc front) (suc later) [] le = ([], refl)
grows {A} (suc front) (suc later) (x ∷ xs) le = let rest = grows front later xs (omega arith) in (rest.0, ap (λ (l : List A). x ∷ l) rest.1)
