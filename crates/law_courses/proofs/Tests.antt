-- Tests put together, and ends of a line whose test passes where another does.
use Rattle.std.proofs.Common.{◌≡◌, ℕ, Bool, true, false, ◌&&◌, ◌||◌, List, [], ◌∷◌, refl, sym, inl, inr}
use Rattle.std.specs.Prelude.{IsTrue, Option}
use Rattle.std.proofs.lemmas.Bool.{and_parts, and_from, or_cases, or_left, or_right}
use Rattle.aft_model.specs.declared.node.NodeAct.{NodeAct}
use Rattle.aft_model.specs.declared.reply.Reply.{Reply}
use Rattle.aft_model.specs.NodeState.{node_state}
use Rattle.aft_lines.specs.CourseWords.{Ends, answers_down, closes, ends_at_node, tells_no_memory, tells_refused}
use Rattle.aft_lines.specs.Turns.{AtDoor, AtNode, AtOffice, Turn}

pub and_comm : (a b : Bool) → (a && b) ≡ (b && a)
and_comm true true = refl
and_comm true false = refl
and_comm false true = refl
and_comm false false = refl

pub and_true : (a : Bool) → (a && true) ≡ a
and_true true = refl
and_true false = refl

pub and_false : (a : Bool) → (a && false) ≡ false
and_false true = refl
and_false false = refl

pub or_false : (a : Bool) → (a || false) ≡ a
or_false true = refl
or_false false = refl

pub and_assoc : (a b c : Bool) → ((a && b) && c) ≡ (a && (b && c))
and_assoc true b c = refl
and_assoc false b c = refl

-- a test beside one that passes only where it does
pub or_absorbed : (a b : Bool) → (IsTrue b → IsTrue a) → (a || b) ≡ a
or_absorbed true b within = refl
or_absorbed false true within = sym (within refl)
or_absorbed false false within = refl

-- an end by a test that passes only where another does
pub ends_within : (ends : Ends) (node inc : ℕ) (few many : NodeAct → Option Reply → Bool) → ((act : NodeAct) (answer : Option Reply) → IsTrue (few act answer) → IsTrue (many act answer)) → (line : List Turn)
    → IsTrue (ends_at_node node (closes ends inc few) line) → IsTrue (ends_at_node node (closes ends inc many) line)
ends_within ends node inc few many within [] is = is
ends_within ends node inc few many within (AtDoor place act ∷ line) is = is
ends_within ends node inc few many within (AtOffice before entry ∷ line) is = is
ends_within ends node inc few many within (AtNode at before entry ∷ turn ∷ line) is = is
ends_within ends node inc few many within (AtNode at before entry ∷ []) is =
    let parts = and_parts _ (closes ends inc few (node_state before) entry) is in
    and_from _ _ parts.0 (elim (or_cases (few entry.act entry.answer) (answers_down entry.act entry.answer && ends.is_left inc (node_state before)) parts.1) [
      | inl passed ↦ or_left _ _ (within entry.act entry.answer passed)
      | inr down ↦ or_right _ _ down
    ])

pub no_memory_refused : (answer : Option Reply) → IsTrue (tells_no_memory answer) → IsTrue (tells_refused answer)
no_memory_refused answer is = or_right _ _ is
