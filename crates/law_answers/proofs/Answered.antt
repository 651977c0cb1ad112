-- What a trace answers a line is what the last of its turns answered, where that one alone answers.
use Rattle.std.proofs.Common.{◌≡◌, ◌++◌, ℕ, zero, suc, Bool, true, false, not, List, [], ◌∷◌, refl, ap, ◌∙◌, inl, inr, ◌⊎◌, arith}
use Rattle.std.specs.Prelude.{IsTrue, Option, Some, None, if◌then◌else◌, is_some}
use Rattle.std.specs.List.{Contains, cons_option, filter_map, flat_map, fold}
use Rattle.std.proofs.lemmas.Bool.{and_parts, false≢true}
use Rattle.aft_model.specs.declared.caller.By.{By}
use Rattle.aft_model.specs.declared.node.NodeEntry.{NodeEntry}
use Rattle.aft_model.specs.declared.office.OfficeEntry.{OfficeEntry}
use Rattle.aft_model.specs.declared.reply.Reply.{Reply}
use Rattle.aft_model.specs.ScanRun.{same_line}
use Rattle.aft_lines.specs.Asked.{Ran}
use Rattle.aft_lines.specs.FinishedText.{answer_to, answers_of}
use Rattle.aft_lines.specs.LineCourse.{answers_last}
use Rattle.aft_lines.specs.Turns.{AtNode, AtOffice, Turn, answer_in, door_turns, node_turns, nodes_turns, office_turns, precedes, turns, with_turn}
use Rattle.law_answers.specs.Courses.{last_answer}

module _ (reply : Reply) where
  -- some turn answers this
  abbrev pub Says : List Turn → Type 0
  Says [] = ⊥
  Says (turn ∷ line) = (answer_in turn ≡ Some reply) ⊎ Says line

  -- some reply is this
  abbrev Among : List Reply → Type 0
  Among [] = ⊥
  Among (other ∷ replies) = (other ≡ reply) ⊎ Among replies

  among : (replies : List Reply) → Contains replies reply → Among replies
  among [] (k, lt, e) = absurd (omega arith)
  among (other ∷ replies) (zero, lt, e) = inl e
  among (other ∷ replies) (suc k, lt, e) = inr (among replies (k, omega arith, e))

  among_either : (some more : List Reply) → Among (some ++ more) → Among some ⊎ Among more
  among_either [] more is = inr is
  among_either (other ∷ some) more (inl is) = inl (inl is)
  among_either (other ∷ some) more (inr is) = elim (among_either some more is) [
    | inl here ↦ inl (inr here)
    | inr there ↦ inr there
  ]

  says_left : (some more : List Turn) → Says some → Says (some ++ more)
  says_left [] more says = absurd says
  says_left (turn ∷ some) more (inl e) = inl e
  says_left (turn ∷ some) more (inr says) = inr (says_left some more says)

  says_right : (some more : List Turn) → Says more → Says (some ++ more)
  says_right [] more says = says
  says_right (turn ∷ some) more says = inr (says_right some more says)

  -- a turn that is put in order among others
  says_with : (line : List Turn) (turn : Turn) → (answer_in turn ≡ Some reply) ⊎ Says line → Says (with_turn line turn)
  says_with [] turn says = says
  says_with (other ∷ line) turn says = cases (precedes turn other) says (λ so. says_with line turn so)
    where
      cases : (first : Bool) → (answer_in turn ≡ Some reply) ⊎ ((answer_in other ≡ Some reply) ⊎ Says line) → ((answer_in turn ≡ Some reply) ⊎ Says line → Says (with_turn line turn)) → Says (if first then turn ∷ other ∷ line else other ∷ with_turn line turn)
      cases true says more = says
      cases false (inl e) more = inr (more (inl e))
      cases false (inr (inl e)) more = inl e
      cases false (inr (inr says)) more = inr (more (inr says))

  says_sorted : (more line : List Turn) → Says line ⊎ Says more → Says (fold with_turn line more)
  says_sorted [] line (inl says) = says
  says_sorted [] line (inr says) = absurd says
  says_sorted (turn ∷ more) line (inl says) = says_sorted more (with_turn line turn) (inl (says_with line turn (inr says)))
  says_sorted (turn ∷ more) line (inr (inl e)) = says_sorted more (with_turn line turn) (inl (says_with line turn (inl e)))
  says_sorted (turn ∷ more) line (inr (inr says)) = says_sorted more (with_turn line turn) (inr says)

  one_says : (own : Bool) (answer : Option Reply) (turn : Turn) (replies : List Reply) (rest : List Turn) → answer_in turn ≡ answer → (Among replies → Says rest) → Among (cons_option (if own then answer else None) replies) → Says ((if own then turn ∷ [] else []) ++ rest)
  one_says true (Some other) turn replies rest e more (inl is) = inl (e ∙ ap (λ (r : Reply). Some r) is)
  one_says true (Some other) turn replies rest e more (inr is) = inr (more is)
  one_says true None turn replies rest e more is = inr (more is)
  one_says false answer turn replies rest e more is = more is

  module _ (by : By) where
    node_says : (node : ℕ) (before history : List NodeEntry) → Among (filter_map (λ (entry : NodeEntry). answer_to by entry.by entry.answer) history) → Says (node_turns by node before history)
    node_says node before [] is = is
    node_says node before (entry ∷ history) is =
        one_says (same_line by entry.by) entry.answer (AtNode node before entry) (filter_map (λ (entry : NodeEntry). answer_to by entry.by entry.answer) history) (node_turns by node (before ++ entry ∷ []) history) refl (λ more. node_says node (before ++ entry ∷ []) history more) is

    nodes_say : (node : ℕ) (histories : List (List NodeEntry)) → Among (flat_map (λ (history : List NodeEntry). filter_map (λ (entry : NodeEntry). answer_to by entry.by entry.answer) history) histories) → Says (nodes_turns by node histories)
    nodes_say node [] is = is
    nodes_say node (history ∷ histories) is = elim (among_either (filter_map (λ (entry : NodeEntry). answer_to by entry.by entry.answer) history) (flat_map (λ (history : List NodeEntry). filter_map (λ (entry : NodeEntry). answer_to by entry.by entry.answer) history) histories) is) [
      | inl here ↦ says_left (node_turns by node [] history) (nodes_turns by (suc node) histories) (node_says node [] history here)
      | inr there ↦ says_right (node_turns by node [] history) (nodes_turns by (suc node) histories) (nodes_say (suc node) histories there)
    ]

    office_says : (before office : List OfficeEntry) → Among (filter_map (λ (entry : OfficeEntry). answer_to by entry.by entry.answer) office) → Says (office_turns by before office)
    office_says before [] is = is
    office_says before (entry ∷ office) is =
        one_says (same_line by entry.by) entry.answer (AtOffice before entry) (filter_map (λ (entry : OfficeEntry). answer_to by entry.by entry.answer) office) (office_turns by (before ++ entry ∷ []) office) refl (λ more. office_says (before ++ entry ∷ []) office more) is

    -- an answer of a trace to a line is that of one of its turns
    pub answered : (ran : Ran) → Contains (answers_of by ran) reply → Says (turns by ran.trace)
    answered ran answers =
        says_sorted (nodes_turns by 1 ran.trace.nodes ++ door_turns by 0 ran.trace.door ++ office_turns by [] ran.trace.office) []
        (inr (elim (among_either (flat_map (λ (history : List NodeEntry). filter_map (λ (entry : NodeEntry). answer_to by entry.by entry.answer) history) ran.trace.nodes) (filter_map (λ (entry : OfficeEntry). answer_to by entry.by entry.answer) ran.trace.office) (among (answers_of by ran) answers)) [
          | inl here ↦ says_left (nodes_turns by 1 ran.trace.nodes ++ door_turns by 0 ran.trace.door) (office_turns by [] ran.trace.office) (says_left (nodes_turns by 1 ran.trace.nodes) (door_turns by 0 ran.trace.door) (nodes_say 1 ran.trace.nodes here))
          | inr there ↦ says_right (nodes_turns by 1 ran.trace.nodes ++ door_turns by 0 ran.trace.door) (office_turns by [] ran.trace.office) (office_says [] ran.trace.office there)
        ]))

  silent : (answer : Option Reply) → answer ≡ Some reply → IsTrue (not (is_some answer)) → ⊥
  silent (Some other) e is = false≢true is
  silent None e is = absurd (cc e)

  -- where the last turn answers and no other, it is that one's
  pub last_said : (line : List Turn) → IsTrue (answers_last line) → Says line → last_answer line ≡ Some reply
  last_said [] last says = absurd says
  last_said (turn ∷ []) last (inl e) = e
  last_said (turn ∷ []) last (inr says) = absurd says
  last_said (turn ∷ next ∷ line) last (inl e) = absurd (silent (answer_in turn) e (and_parts (not (is_some (answer_in turn))) (answers_last (next ∷ line)) last).0)
  last_said (turn ∷ next ∷ line) last (inr says) = last_said (next ∷ line) (and_parts (not (is_some (answer_in turn))) (answers_last (next ∷ line)) last).1 says
