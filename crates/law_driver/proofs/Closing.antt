-- What a line did last at its node, as others and it do more.
use Rattle.std.proofs.Common.{◌≡◌, ◌≤◌, ◌<◌, ◌+◌, ℕ, suc, Bool, true, false, not, List, [], ◌∷◌, ◌++◌, refl, ap, ◌∙◌, ◌⊎◌, inl, inr, eqb, arith}
use Rattle.std.specs.Prelude.{IsFalse, IsTrue, None, Option, Some, if◌then◌else◌, length, map}
use Rattle.std.specs.List.{fold, list_all}
use Rattle.std.proofs.lemmas.Bool.{and_parts, eqb-false, not-true}
use Rattle.std.proofs.lemmas.List.Sums.{fold-append}
use Rattle.aft_model.specs.declared.caller.By.{By}
use Rattle.aft_model.specs.declared.door.DoorAct.{DoorAct}
use Rattle.aft_model.specs.declared.node.NodeAct.{NodeAct}
use Rattle.aft_model.specs.declared.node.NodeEntry.{NodeEntry}
use Rattle.aft_model.specs.ScanRun.{same_line}
use Rattle.aft_lines.specs.Turns.{AtDoor, AtNode, Turn}
use Rattle.aft_node.specs.Closing.{last_own}
use Rattle.law_accounts.specs.Adding.{numbered_in, with_entry_in}
use Rattle.law_driver.specs.Driven.{act_behind, last_act}

-- ---- the history of a number

-- with an entry more in it, if there is one
pub numbered_more : {A : Type 0} (number first : ℕ) (x : A) (lists : List (List A)) → first ≤ number → number < first + length lists → numbered_in number first (with_entry_in number x first lists) ≡ numbered_in number first lists ++ x ∷ []
numbered_more number first x [] low high = absurd (omega arith)
numbered_more {A} number first x (xs ∷ lists) low high = cases (eqb first number) refl (λ is. numbered_more number (suc first) x lists (above first number low (eqb-false first number is)) (omega arith))
  where
    above : (a b : ℕ) → a ≤ b → (a ≡ b → ⊥) → suc a ≤ b
    above a b le apart = grind arith

    cases : (t : Bool) → eqb first number ≡ t → (eqb first number ≡ false → numbered_in number (suc first) (with_entry_in number x (suc first) lists) ≡ numbered_in number (suc first) lists ++ x ∷ [])
        → numbered_in number first (if t then (xs ++ x ∷ []) ∷ lists else xs ∷ with_entry_in number x (suc first) lists) ≡ (if t then xs else numbered_in number (suc first) lists) ++ x ∷ []
    cases true is rest = ap (λ (b : Bool). if b then xs ++ x ∷ [] else numbered_in number (suc first) lists) is
    cases false is rest = ap (λ (b : Bool). if b then xs else numbered_in number (suc first) (with_entry_in number x (suc first) lists)) is ∙ rest is

-- with one more in any: it has that, or none more
pub numbered_either : {A : Type 0} (number other first : ℕ) (x : A) (lists : List (List A)) → (numbered_in number first (with_entry_in other x first lists) ≡ numbered_in number first lists ++ x ∷ []) ⊎ (numbered_in number first (with_entry_in other x first lists) ≡ numbered_in number first lists)
numbered_either number other first x [] = inr refl
numbered_either {A} number other first x (xs ∷ lists) = cases (eqb first other) (eqb first number) refl (numbered_either number other (suc first) x lists)
  where
    cases : (t b : Bool) → eqb first number ≡ b
        → (numbered_in number (suc first) (with_entry_in other x (suc first) lists) ≡ numbered_in number (suc first) lists ++ x ∷ []) ⊎ (numbered_in number (suc first) (with_entry_in other x (suc first) lists) ≡ numbered_in number (suc first) lists)
        → (numbered_in number first (if t then (xs ++ x ∷ []) ∷ lists else xs ∷ with_entry_in other x (suc first) lists) ≡ (if b then xs else numbered_in number (suc first) lists) ++ x ∷ [])
        ⊎ (numbered_in number first (if t then (xs ++ x ∷ []) ∷ lists else xs ∷ with_entry_in other x (suc first) lists) ≡ (if b then xs else numbered_in number (suc first) lists))
    cases true true is rest = inl (ap (λ (b : Bool). if b then xs ++ x ∷ [] else numbered_in number (suc first) lists) is)
    cases true false is rest = inr (ap (λ (b : Bool). if b then xs ++ x ∷ [] else numbered_in number (suc first) lists) is)
    cases false true is rest = inr (ap (λ (b : Bool). if b then xs else numbered_in number (suc first) (with_entry_in other x (suc first) lists)) is)
    cases false false is (inl more) = inl (ap (λ (b : Bool). if b then xs else numbered_in number (suc first) (with_entry_in other x (suc first) lists)) is ∙ more)
    cases false false is (inr same) = inr (ap (λ (b : Bool). if b then xs else numbered_in number (suc first) (with_entry_in other x (suc first) lists)) is ∙ same)

-- ---- the last act

abbrev own_step : By → Option NodeAct → NodeEntry → Option NodeAct
own_step by before entry = if same_line by entry.by then Some entry.act else before

pub last_with_own : (by : By) (history : List NodeEntry) (entry : NodeEntry) → IsTrue (same_line by entry.by) → last_own by (history ++ entry ∷ []) ≡ Some entry.act
last_with_own by history entry own = fold-append (own_step by) None history (entry ∷ []) ∙ ap (λ (b : Bool). if b then Some entry.act else last_own by history) own

pub last_with_other : (by : By) (history : List NodeEntry) (entry : NodeEntry) → IsFalse (same_line by entry.by) → last_own by (history ++ entry ∷ []) ≡ last_own by history
last_with_other by history entry other = fold-append (own_step by) None history (entry ∷ []) ∙ ap (λ (b : Bool). if b then Some entry.act else last_own by history) other

pub act_at_node : (line : List Turn) (node : ℕ) (before : List NodeEntry) (entry : NodeEntry) → last_act (line ++ AtNode node before entry ∷ []) ≡ Some entry.act
act_at_node line node before entry = fold-append act_behind None line (AtNode node before entry ∷ [])

pub act_at_door : (line : List Turn) (place : ℕ) (act : DoorAct) → last_act (line ++ AtDoor place act ∷ []) ≡ last_act line
act_at_door line place act = fold-append act_behind None line (AtDoor place act ∷ [])

-- of a line that has made nothing there is none
last_none : (by : By) (history : List NodeEntry) → IsTrue (list_all (λ (b : By). not (same_line by b)) (map (λ (e : NodeEntry). e.by) history)) → last_own by history ≡ None
last_none by history none = go history None none
  where
    go : (rest : List NodeEntry) (before : Option NodeAct) → IsTrue (list_all (λ (b : By). not (same_line by b)) (map (λ (e : NodeEntry). e.by) rest)) → fold (own_step by) before rest ≡ before
    go [] before none = refl
    go (entry ∷ rest) before none =
        let parts = and_parts (not (same_line by entry.by)) (list_all (λ (b : By). not (same_line by b)) (map (λ (e : NodeEntry). e.by) rest)) none in
        ap (λ (b : Bool). fold (own_step by) (if b then Some entry.act else before) rest) (not-true (same_line by entry.by) parts.0) ∙ go rest before parts.1

pub none_at_number : (by : By) (number first : ℕ) (nodes : List (List NodeEntry)) → IsTrue (list_all (list_all (λ (b : By). not (same_line by b))) (map (map (λ (e : NodeEntry). e.by)) nodes)) → last_own by (numbered_in number first nodes) ≡ None
none_at_number by number first [] none = refl
none_at_number by number first (history ∷ nodes) none =
    let parts = and_parts (list_all (λ (b : By). not (same_line by b)) (map (λ (e : NodeEntry). e.by) history)) (list_all (list_all (λ (b : By). not (same_line by b))) (map (map (λ (e : NodeEntry). e.by)) nodes)) none in
    cases (eqb first number) (last_none by history parts.0) (none_at_number by number (suc first) nodes parts.1)
  where
    cases : (t : Bool) → last_own by history ≡ None → last_own by (numbered_in number (suc first) nodes) ≡ None → last_own by (if t then history else numbered_in number (suc first) nodes) ≡ None
    cases true own rest = own
    cases false own rest = rest
