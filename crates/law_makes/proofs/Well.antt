-- Steps that are a command's: the turn is one that its lines make, and the position one that they come to.
use Rattle.std.proofs.Common.{◌≡◌, ℕ, Bool, true, false, ◌&&◌, not, eqb, List, [], ◌∷◌, refl, sym, subst}
use Rattle.std.specs.Prelude.{IsTrue, Err, Ok, Option, Result, Some, None, if◌then◌else◌}
use Rattle.std.specs.Str.{bytes_eq}
use Rattle.std.proofs.lemmas.Bool.{and_parts, and_from}
use Rattle.aft_records.specs.declared.fault.RecordFault.{RecordFault}
use Rattle.aft_model.specs.declared.caller.Attempt.{Attempt}
use Rattle.aft_model.specs.declared.node.NodeAct.{NodeAct}
use Rattle.aft_model.specs.declared.node.NodeEntry.{NodeEntry}
use Rattle.aft_model.specs.declared.reply.Reply.{Reply}
use Rattle.aft_model.specs.NodeState.{node_state}
use Rattle.aft_model.specs.Readings.{read_under}
use Rattle.aft_model.proofs.Sights.{same_bytes}
use Rattle.aft_lines.specs.Advance.{closed_by, or_at, shut_out_by}
use Rattle.aft_lines.specs.CourseWords.{Ends, answers_down, caller_of, ends_shut_out}
use Rattle.aft_lines.specs.Progress.{IsOver, Progress, Stopped}
use Rattle.aft_lines.specs.Turns.{AtDoor, AtNode, AtOffice, Turn}
use Rattle.aft_lines.specs.Makes.{is_under}

-- names that are the same begin with the same prefixes
pub under_same : (prefix name other : List ℕ) → IsTrue (bytes_eq name other) → IsTrue (is_under prefix name) → IsTrue (is_under prefix other)
under_same prefix name other same is = subst (λ (n : List ℕ). IsTrue (is_under prefix n)) (same_bytes name other same) is

-- what reads under a name begins as the names of its kind
pub reads_under : {A : Type 0} (prefix name : List ℕ) (its_name : A → List ℕ) (read : Result A RecordFault) (test : List A → Bool) → test [] ≡ false → ((x : A) → IsTrue (is_under prefix (its_name x))) → IsTrue (test (read_under name its_name read)) → IsTrue (is_under prefix name)
reads_under prefix name its_name (Err e) test none so is = absurd (cc)
reads_under {A} prefix name its_name (Ok x) test none so is = cases (bytes_eq name (its_name x)) refl is
  where
    cases : (same : Bool) → bytes_eq name (its_name x) ≡ same → IsTrue (test (if same then x ∷ [] else [])) → IsTrue (is_under prefix name)
    cases true e found = subst (λ (n : List ℕ). IsTrue (is_under prefix n)) (sym (same_bytes name (its_name x) e)) (so x)
    cases false e found = absurd (cc)

module _ (made : Turn → Bool) (comes : Progress → Bool) where
  -- whether a step is so, if it leads somewhere
  abbrev pub is_well : Turn → Option Progress → Bool
  is_well turn None = true
  is_well turn (Some position) = made turn && comes position

  pub well : (turn : Turn) (position : Progress) → IsTrue (made turn) → IsTrue (comes position) → IsTrue (is_well turn (Some position))
  well turn position made_so comes_so = and_from _ _ made_so comes_so

  pub well_if : (turn : Turn) (position : Progress) (passed : Bool) → (IsTrue passed → IsTrue (made turn)) → IsTrue (comes position) → IsTrue (is_well turn (if passed then Some position else None))
  well_if turn position true made_so comes_so = and_from _ _ (made_so refl) comes_so
  well_if turn position false made_so comes_so = refl

  pub well_or : (turn : Turn) (one other : Option Progress) → IsTrue (is_well turn one) → IsTrue (is_well turn other) → IsTrue (is_well turn (or_at one other))
  well_or turn (Some position) other one_so other_so = one_so
  well_or turn None other one_so other_so = other_so

  module _ (over : IsTrue (comes IsOver)) (stopped : (a : Attempt) → IsTrue (comes (Stopped a)))
      (down : (node : ℕ) (before : List NodeEntry) (entry : NodeEntry) → IsTrue (answers_down entry.act entry.answer) → IsTrue (made (AtNode node before entry)))
      (ends : Ends) (a : Attempt) (test : NodeAct → Option Reply → Bool)
      (passes : (node : ℕ) (before : List NodeEntry) (entry : NodeEntry) → IsTrue (test entry.act entry.answer) → IsTrue (made (AtNode node before entry))) where
    closing : (node : ℕ) (before : List NodeEntry) (entry : NodeEntry) (here passed left : Bool) → (IsTrue passed → IsTrue (made (AtNode node before entry))) → (IsTrue left → IsTrue (made (AtNode node before entry)))
        → IsTrue (is_well (AtNode node before entry) (if not here then None else if passed then Some IsOver else if left then Some (Stopped a) else None))
    closing node before entry false passed left by_test by_down = refl
    closing node before entry true true left by_test by_down = and_from _ _ (by_test refl) over
    closing node before entry true false true by_test by_down = and_from _ _ (by_down refl) (stopped a)
    closing node before entry true false false by_test by_down = refl

    pub well_closed : (turn : Turn) → IsTrue (is_well turn (closed_by ends a test turn))
    well_closed (AtDoor place act) = refl
    well_closed (AtOffice before entry) = refl
    well_closed (AtNode node before entry) =
        closing node before entry (eqb a.node node) (test entry.act entry.answer) (answers_down entry.act entry.answer && ends.is_left a.inc (node_state before))
        (passes node before entry) (λ is. down node before entry (and_parts (answers_down entry.act entry.answer) (ends.is_left a.inc (node_state before)) is).0)

    pub well_shut : (turn : Turn) → IsTrue (is_well turn (shut_out_by ends a test turn))
    well_shut turn = guarded (ends_shut_out ends (caller_of a) (turn ∷ []))
      where
        guarded : (shut : Bool) → IsTrue (is_well turn (if shut then closed_by ends a test turn else None))
        guarded true = well_closed turn
        guarded false = refl
