-- A line whose last turn alone answers has one answer in the histories: that turn's.
use Rattle.std.proofs.Common.{Bool, List, [], ap, append-nil, false, not, refl, suc, sym, true, ℕ, ◌++◌, ◌∙◌, ◌∷◌, ◌≡◌}
use Rattle.std.specs.Prelude.{IsTrue, None, Option, Some, if◌then◌else◌, is_some}
use Rattle.std.specs.List.{cons_option, filter_map, flat_map, fold}
use Rattle.std.proofs.lemmas.Bool.{and_parts, false≢true}
use Rattle.std.proofs.lemmas.List.Elements.{filter_map-append}
use Rattle.aft_model.specs.declared.caller.By.{By}
use Rattle.aft_model.specs.declared.door.DoorEntry.{DoorEntry}
use Rattle.aft_model.specs.declared.node.NodeEntry.{NodeEntry}
use Rattle.aft_model.specs.declared.office.OfficeEntry.{OfficeEntry}
use Rattle.aft_model.specs.declared.reply.Reply.{Reply}
use Rattle.aft_model.specs.ScanRun.{same_line}
use Rattle.aft_lines.specs.Asked.{Ran}
use Rattle.aft_lines.specs.FinishedText.{answer_to, answers_of}
use Rattle.aft_lines.specs.LineCourse.{answers_last}
use Rattle.aft_lines.specs.Turns.{AtDoor, AtNode, AtOffice, Turn, answer_in, door_turns, node_turns, nodes_turns, office_turns, precedes, turns, with_turn}
use Rattle.law_steps.specs.OneList.{entries_of}
use Rattle.law_accounts.specs.Account.{last_answer}

-- what some turns answered
abbrev said : List Turn → List Reply
said line = filter_map answer_in line

-- ---- the last turn's

-- answers that are one alone, which is the last turn's
pub record OneAnswer (replies : List Reply) (last : Option Reply) : Type 0 where
  pub reply : Reply
  pub alone : replies ≡ reply ∷ []
  pub is_last : last ≡ Some reply

last_said : (line : List Turn) → IsTrue (answers_last line) → OneAnswer (said line) (last_answer line)
last_said [] is = absurd (false≢true is)
last_said (turn ∷ []) is = it_alone (answer_in turn) is
  where
    it_alone : (answer : Option Reply) → IsTrue (is_some answer) → OneAnswer (cons_option answer []) answer
    it_alone None none = absurd (false≢true none)
    it_alone (Some reply) some = record { reply = reply; alone = refl; is_last = refl }
last_said (turn ∷ next ∷ line) is =
    let parts = and_parts (not (is_some (answer_in turn))) (answers_last (next ∷ line)) is in
    behind (answer_in turn) parts.0 (last_said (next ∷ line) parts.1)
  where
    behind : (answer : Option Reply) → IsTrue (not (is_some answer)) → OneAnswer (said (next ∷ line)) (last_answer (next ∷ line)) → OneAnswer (cons_option answer (said (next ∷ line))) (last_answer (next ∷ line))
    behind None silent one = one
    behind (Some reply) silent one = absurd (false≢true silent)

-- ---- turns that are put in order

-- where two lists have one answer at most, in front of them as between them
moved : (answer most : Option Reply) (xs ys : List Reply) → cons_option answer xs ++ ys ≡ cons_option most [] → xs ++ cons_option answer ys ≡ cons_option most []
moved None most xs ys is = is
moved (Some reply) most [] ys is = is
moved (Some reply) None (x ∷ xs) ys is = absurd (cc)
moved (Some reply) (Some one) (x ∷ xs) ys is = absurd (cc)

with_said : (line : List Turn) (turn : Turn) (rest : List Reply) (most : Option Reply) → said (with_turn line turn) ++ rest ≡ cons_option most [] → said line ++ cons_option (answer_in turn) rest ≡ cons_option most []
with_said [] turn rest most is = moved (answer_in turn) most [] rest is
with_said (other ∷ line) turn rest most is = cases (precedes turn other) (λ less. with_said line turn rest less) is
  where
    behind : (answer most : Option Reply) (xs ys xs' ys' : List Reply) → ((less : Option Reply) → xs ++ ys ≡ cons_option less [] → xs' ++ ys' ≡ cons_option less []) → cons_option answer xs ++ ys ≡ cons_option most [] → cons_option answer xs' ++ ys' ≡ cons_option most []
    behind None most xs ys xs' ys' same is = same most is
    behind (Some reply) None xs ys xs' ys' same is = absurd (cc)
    behind (Some reply) (Some one) xs ys xs' ys' same is =
        let none : xs ++ ys ≡ [] = cc in
        let first : reply ≡ one = cc in
        ap (λ (l : List Reply). reply ∷ l) (same None none) ∙ ap (λ (r : Reply). r ∷ []) first

    cases : (first : Bool) → ((less : Option Reply) → said (with_turn line turn) ++ rest ≡ cons_option less [] → said line ++ cons_option (answer_in turn) rest ≡ cons_option less [])
        → said (if first then turn ∷ other ∷ line else other ∷ with_turn line turn) ++ rest ≡ cons_option most [] → said (other ∷ line) ++ cons_option (answer_in turn) rest ≡ cons_option most []
    cases true same before = moved (answer_in turn) most (said (other ∷ line)) rest before
    cases false same before = behind (answer_in other) most (said (with_turn line turn)) rest (said line) (cons_option (answer_in turn) rest) same before

sorted_said : (before line : List Turn) (most : Option Reply) → said (fold with_turn before line) ≡ cons_option most [] → said before ++ said line ≡ cons_option most []
sorted_said before [] most is = append-nil (said before) ∙ is
sorted_said before (turn ∷ line) most is = with_said before turn (said line) most (sorted_said (with_turn before turn) line most is)

-- ---- the histories'

module _ (by : By) where
  own_said : (own : Bool) (turn : Turn) (line : List Turn) (replies : List Reply) → said line ≡ replies → said ((if own then turn ∷ [] else []) ++ line) ≡ cons_option (if own then answer_in turn else None) replies
  own_said true turn line replies is = ap (cons_option (answer_in turn)) is
  own_said false turn line replies is = is

  node_said : (node : ℕ) (before history : List NodeEntry) → said (node_turns by node before history) ≡ filter_map (λ (entry : NodeEntry). answer_to by entry.by entry.answer) history
  node_said node before [] = refl
  node_said node before (entry ∷ history) =
      own_said (same_line by entry.by) (AtNode node before entry) (node_turns by node (before ++ entry ∷ []) history) (filter_map (λ (e : NodeEntry). answer_to by e.by e.answer) history) (node_said node (before ++ entry ∷ []) history)

  office_said : (before office : List OfficeEntry) → said (office_turns by before office) ≡ filter_map (λ (entry : OfficeEntry). answer_to by entry.by entry.answer) office
  office_said before [] = refl
  office_said before (entry ∷ office) =
      own_said (same_line by entry.by) (AtOffice before entry) (office_turns by (before ++ entry ∷ []) office) (filter_map (λ (e : OfficeEntry). answer_to by e.by e.answer) office) (office_said (before ++ entry ∷ []) office)

  door_said : (place : ℕ) (door : List DoorEntry) → said (door_turns by place door) ≡ []
  door_said place [] = refl
  door_said place (entry ∷ door) = silent (same_line by entry.by) (door_said (suc place) door)
    where
      silent : (own : Bool) → said (door_turns by (suc place) door) ≡ [] → said ((if own then AtDoor place entry.act ∷ [] else []) ++ door_turns by (suc place) door) ≡ []
      silent true none = none
      silent false none = none

  nodes_said : (node : ℕ) (histories : List (List NodeEntry)) → said (nodes_turns by node histories) ≡ flat_map (λ (history : List NodeEntry). filter_map (λ (entry : NodeEntry). answer_to by entry.by entry.answer) history) histories
  nodes_said node [] = refl
  nodes_said node (history ∷ histories) = rw (filter_map-append, node_said node [] history, nodes_said (suc node) histories)

  entries_said : (ran : Ran) → said (entries_of by ran.trace) ≡ answers_of by ran
  entries_said ran = rw (filter_map-append answer_in (nodes_turns by 1 ran.trace.nodes ++ door_turns by 0 ran.trace.door) (office_turns by [] ran.trace.office), filter_map-append answer_in (nodes_turns by 1 ran.trace.nodes) (door_turns by 0 ran.trace.door), nodes_said 1 ran.trace.nodes, door_said 0 ran.trace.door, office_said [] ran.trace.office, append-nil)

  -- the answers of the histories to a line whose last turn alone answers
  pub one_answer : (ran : Ran) → IsTrue (answers_last (turns by ran.trace)) → OneAnswer (answers_of by ran) (last_answer (turns by ran.trace))
  one_answer ran is =
      let last = last_said (turns by ran.trace) is in
      record { reply = last.reply; alone = sym (entries_said ran) ∙ sorted_said [] (entries_of by ran.trace) (Some last.reply) last.alone; is_last = last.is_last }
