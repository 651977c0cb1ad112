-- What a legal trace says of each of its lines: it keeps its course, its turns keep the rules, stand at its node, carry its words and speak of its attempt, and each answer has its cause.
use Rattle.std.proofs.Common.{◌≡◌, ◌++◌, ℕ, Bool, true, false, eqb, ◌&&◌, ◌||◌, not, List, [], ◌∷◌, length, refl, sym, subst, ◌∙◌, arith, append_assoc, append-nil}
use Rattle.std.specs.Prelude.{IsTrue, Option, if◌then◌else◌, suc}
use Rattle.std.specs.List.{Contains, fold, list_all}
use Rattle.std.proofs.lemmas.Bool.{and_from, and_parts, false≢true}
use Rattle.std.proofs.lemmas.List.Elements.{All-contains, All-contains_itself, All-weaker}
use Rattle.std.proofs.lemmas.List.Folds.{list_all-append}
use Rattle.std.proofs.lemmas.List.Sums.{AllPass-from_list_all, list_all-from_AllPass}
use Rattle.aft_model.specs.declared.caller.By.{By}
use Rattle.aft_model.specs.declared.door.DoorEntry.{DoorEntry}
use Rattle.aft_model.specs.declared.node.NodeEntry.{NodeEntry}
use Rattle.aft_model.specs.declared.office.OfficeEntry.{OfficeEntry}
use Rattle.aft_model.specs.declared.reply.Reply.{Reply}
use Rattle.aft_model.specs.declared.script.Command.{Command}
use Rattle.aft_model.specs.declared.script.Command.TheVariants as commands
use Rattle.aft_model.specs.declared.script.Line.{Line}
use Rattle.aft_model.specs.History.{each_after}
use Rattle.aft_model.specs.LegalNode.{is_legal_node, may_follow_at}
use Rattle.aft_model.specs.NodeSights.{is_seen_node}
use Rattle.aft_model.specs.Office.{is_legal_alone, is_legal_beside, may_be_next}
use Rattle.aft_model.specs.ScanRun.{same_line}
use Rattle.aft_lines.specs.Asked.{Asked, Ran}
use Rattle.aft_lines.specs.Causes.{ExactlyCaused, cause, comes_exactly, may_leave_out, same_but_holders, yields_to}
use Rattle.aft_lines.specs.FinishedText.{answers_of, line_of}
use Rattle.aft_lines.specs.LegalTrace.{LegalTrace, act_at, are_legal_nodes}
use Rattle.aft_lines.specs.LineCourse.{answers_last}
use Rattle.aft_lines.specs.LineView.{LineView}
use Rattle.aft_lines.specs.Lines.{lines}
use Rattle.aft_lines.specs.Turns.{AtDoor, AtNode, AtOffice, Turn, door_turns, node_turns, nodes_turns, office_turns, precedes, with_turn}
use Rattle.aft_lines.specs.Views.{LeavesOutNothing, each_view, view_of}
use Rattle.law_answers.specs.Courses.{carries_its_words, comes_behind_legal, is_behind_legal, is_legal_turn, keeps_its_course, keeps_rules, reads_clock_in, reads_its_clock, speaks_of_its_attempt, stands_at_its_node}
use Rattle.law_answers.proofs.Aborts.{aborts_exact}
use Rattle.law_answers.proofs.Answered.{answered, last_said}
use Rattle.law_answers.proofs.Announcements.{announcements_exact}
use Rattle.law_answers.proofs.Backups.{backups_exact}
use Rattle.law_answers.proofs.Begins.{begins_exact}
use Rattle.law_answers.proofs.Collects.{collects_exact}
use Rattle.law_answers.proofs.Crashes.{crashes_exact}
use Rattle.law_answers.proofs.Deliveries.{deliveries_exact}
use Rattle.law_answers.proofs.Endings.{commits_exact}
use Rattle.law_answers.proofs.Forgets.{forgets_exact}
use Rattle.law_answers.proofs.Gets.{gets_exact}
use Rattle.law_answers.proofs.Locals.{locals_exact}
use Rattle.law_answers.proofs.Managers.{managers_exact}
use Rattle.law_answers.proofs.Orphans.{orphans_exact}
use Rattle.law_answers.proofs.Puts.{puts_exact}
use Rattle.law_answers.proofs.Starts.{starts_exact}

-- an element of a list whose elements all pass a test passes it
passes : {A : Type 0} (test : A → Bool) (xs : List A) (x : A) → IsTrue (list_all test xs) → Contains xs x → IsTrue (test x)
passes test xs x all among = All-contains (λ y. IsTrue (test y)) xs x (AllPass-from_list_all test xs all) among

-- one entry more, which follows the history before it
each_after_more : {A : Type 0} (rule : List A → A → Bool) (before xs : List A) (x : A) → IsTrue (each_after rule before xs) → IsTrue (rule (before ++ xs) x) → IsTrue (each_after rule before (xs ++ x ∷ []))
each_after_more rule before [] x passed last = and_from _ _ (subst (λ h. IsTrue (rule h x)) (append-nil before) last) refl
each_after_more rule before (y ∷ ys) x passed last =
    let parts = and_parts (rule before y) (each_after rule (before ++ y ∷ []) ys) passed in
    and_from _ _ parts.0 (each_after_more rule (before ++ y ∷ []) ys x parts.1 (subst (λ h. IsTrue (rule h x)) (sym (append_assoc before (y ∷ []) ys)) last))

-- ---- turns that keep the rules

-- what all of two lists pass, both together pass
all_both : (test : Turn → Bool) (some more : List Turn) → IsTrue (list_all test some) → IsTrue (list_all test more) → IsTrue (list_all test (some ++ more))
all_both test some more a b = list_all-append test some more ∙ and_from _ _ a b

-- a turn that is put in order among others
all_with : (test : Turn → Bool) (line : List Turn) (turn : Turn) → IsTrue (list_all test line) → IsTrue (test turn) → IsTrue (list_all test (with_turn line turn))
all_with test [] turn all is = and_from _ _ is refl
all_with test (other ∷ line) turn all is = cases (precedes turn other) (all_with test line turn (and_parts (test other) (list_all test line) all).1 is)
  where
    cases : (first : Bool) → IsTrue (list_all test (with_turn line turn)) → IsTrue (list_all test (if first then turn ∷ other ∷ line else other ∷ with_turn line turn))
    cases true rest = and_from _ _ is all
    cases false rest = and_from _ _ (and_parts (test other) (list_all test line) all).0 rest

all_sorted : (test : Turn → Bool) (more line : List Turn) → IsTrue (list_all test line) → IsTrue (list_all test more) → IsTrue (list_all test (fold with_turn line more))
all_sorted test [] line all is = all
all_sorted test (turn ∷ more) line all is = (let parts = and_parts (test turn) (list_all test more) is in all_sorted test more (with_turn line turn) (all_with test line turn all parts.0) parts.1)

module _ (capacity : ℕ) (by : By) where
  one_more : (own : Bool) (turn : Turn) (rest : List Turn) → IsTrue (is_legal_turn capacity turn) → IsTrue (list_all (is_legal_turn capacity) rest) → IsTrue (list_all (is_legal_turn capacity) ((if own then turn ∷ [] else []) ++ rest))
  one_more true turn rest is all = and_from _ _ is all
  one_more false turn rest is all = all

  of_node : (node : ℕ) (before history : List NodeEntry) → IsTrue (each_after (may_follow_at node capacity) before history) → IsTrue (list_all (is_legal_turn capacity) (node_turns by node before history))
  of_node node before [] legal = refl
  of_node node before (entry ∷ history) legal =
      let parts = and_parts (may_follow_at node capacity before entry) (each_after (may_follow_at node capacity) (before ++ entry ∷ []) history) legal in
      one_more (same_line by entry.by) (AtNode node before entry) (node_turns by node (before ++ entry ∷ []) history) parts.0 (of_node node (before ++ entry ∷ []) history parts.1)

  -- turns at a node come behind legal histories of it
  one_behind : (own : Bool) (turn : Turn) (rest : List Turn) → IsTrue (is_behind_legal capacity turn) → IsTrue (list_all (is_behind_legal capacity) rest) → IsTrue (list_all (is_behind_legal capacity) ((if own then turn ∷ [] else []) ++ rest))
  one_behind true turn rest is all = and_from _ _ is all
  one_behind false turn rest is all = all

  behind_node : (node : ℕ) (before history : List NodeEntry) → IsTrue (is_legal_node node capacity before) → IsTrue (each_after (may_follow_at node capacity) before history) → IsTrue (list_all (is_behind_legal capacity) (node_turns by node before history))
  behind_node node before [] sofar legal = refl
  behind_node node before (entry ∷ history) sofar legal =
      let parts = and_parts (may_follow_at node capacity before entry) (each_after (may_follow_at node capacity) (before ++ entry ∷ []) history) legal in
      one_behind (same_line by entry.by) (AtNode node before entry) (node_turns by node (before ++ entry ∷ []) history) sofar
      (behind_node node (before ++ entry ∷ []) history (each_after_more (may_follow_at node capacity) [] before entry sofar parts.0) parts.1)

  behind_nodes : (node : ℕ) (door : List DoorEntry) (histories : List (List NodeEntry)) → IsTrue (are_legal_nodes node capacity door histories) → IsTrue (list_all (is_behind_legal capacity) (nodes_turns by node histories))
  behind_nodes node door [] legal = refl
  behind_nodes node door (history ∷ histories) legal =
      let parts = and_parts (is_legal_node node capacity history && is_seen_node node door history) (are_legal_nodes (suc node) capacity door histories) legal in
      all_both (is_behind_legal capacity) (node_turns by node [] history) (nodes_turns by (suc node) histories)
      (behind_node node [] history refl (and_parts (is_legal_node node capacity history) (is_seen_node node door history) parts.0).0) (behind_nodes (suc node) door histories parts.1)

  behind_door : (place : ℕ) (door : List DoorEntry) → IsTrue (list_all (is_behind_legal capacity) (door_turns by place door))
  behind_door place [] = refl
  behind_door place (entry ∷ door) = one_behind (same_line by entry.by) (AtDoor place entry.act) (door_turns by (suc place) door) refl (behind_door (suc place) door)

  behind_office : (before office : List OfficeEntry) → IsTrue (list_all (is_behind_legal capacity) (office_turns by before office))
  behind_office before [] = refl
  behind_office before (entry ∷ office) = one_behind (same_line by entry.by) (AtOffice before entry) (office_turns by (before ++ entry ∷ []) office) refl (behind_office (before ++ entry ∷ []) office)

  of_nodes : (node : ℕ) (door : List DoorEntry) (histories : List (List NodeEntry)) → IsTrue (are_legal_nodes node capacity door histories) → IsTrue (list_all (is_legal_turn capacity) (nodes_turns by node histories))
  of_nodes node door [] legal = refl
  of_nodes node door (history ∷ histories) legal =
      let parts = and_parts (is_legal_node node capacity history && is_seen_node node door history) (are_legal_nodes (suc node) capacity door histories) legal in
      all_both (is_legal_turn capacity) (node_turns by node [] history) (nodes_turns by (suc node) histories)
      (of_node node [] history (and_parts (is_legal_node node capacity history) (is_seen_node node door history) parts.0).0) (of_nodes (suc node) door histories parts.1)

  of_door : (place : ℕ) (door : List DoorEntry) → IsTrue (list_all (is_legal_turn capacity) (door_turns by place door))
  of_door place [] = refl
  of_door place (entry ∷ door) = one_more (same_line by entry.by) (AtDoor place entry.act) (door_turns by (suc place) door) refl (of_door (suc place) door)

  of_office : (before office : List OfficeEntry) → IsTrue (each_after may_be_next before office) → IsTrue (list_all (is_legal_turn capacity) (office_turns by before office))
  of_office before [] legal = refl
  of_office before (entry ∷ office) legal =
      let parts = and_parts (may_be_next before entry) (each_after may_be_next (before ++ entry ∷ []) office) legal in
      one_more (same_line by entry.by) (AtOffice before entry) (office_turns by (before ++ entry ∷ []) office) parts.0 (of_office (before ++ entry ∷ []) office parts.1)

-- ---- turns that read the clock

module _ (clock : Option ℕ) (by : By) where
  one_timed : (own : Bool) (turn : Turn) (rest : List Turn) → IsTrue (reads_clock_in clock turn) → IsTrue (list_all (reads_clock_in clock) rest) → IsTrue (list_all (reads_clock_in clock) ((if own then turn ∷ [] else []) ++ rest))
  one_timed true turn rest is all = and_from _ _ is all
  one_timed false turn rest is all = all

  timed_node : (node : ℕ) (before history : List NodeEntry) → IsTrue (list_all (λ (entry : NodeEntry). act_at clock entry.act) history) → IsTrue (list_all (reads_clock_in clock) (node_turns by node before history))
  timed_node node before [] all = refl
  timed_node node before (entry ∷ history) all =
      let parts = and_parts (act_at clock entry.act) (list_all (λ (entry : NodeEntry). act_at clock entry.act) history) all in
      one_timed (same_line by entry.by) (AtNode node before entry) (node_turns by node (before ++ entry ∷ []) history) parts.0 (timed_node node (before ++ entry ∷ []) history parts.1)

  timed_nodes : (node : ℕ) (histories : List (List NodeEntry)) → IsTrue (list_all (λ (history : List NodeEntry). list_all (λ (entry : NodeEntry). act_at clock entry.act) history) histories) → IsTrue (list_all (reads_clock_in clock) (nodes_turns by node histories))
  timed_nodes node [] all = refl
  timed_nodes node (history ∷ histories) all =
      let parts = and_parts (list_all (λ (entry : NodeEntry). act_at clock entry.act) history) (list_all (λ (history : List NodeEntry). list_all (λ (entry : NodeEntry). act_at clock entry.act) history) histories) all in
      all_both (reads_clock_in clock) (node_turns by node [] history) (nodes_turns by (suc node) histories) (timed_node node [] history parts.0) (timed_nodes (suc node) histories parts.1)

  timed_door : (place : ℕ) (door : List DoorEntry) → IsTrue (list_all (reads_clock_in clock) (door_turns by place door))
  timed_door place [] = refl
  timed_door place (entry ∷ door) = one_timed (same_line by entry.by) (AtDoor place entry.act) (door_turns by (suc place) door) refl (timed_door (suc place) door)

  timed_office : (before office : List OfficeEntry) → IsTrue (list_all (reads_clock_in clock) (office_turns by before office))
  timed_office before [] = refl
  timed_office before (entry ∷ office) = one_timed (same_line by entry.by) (AtOffice before entry) (office_turns by (before ++ entry ∷ []) office) refl (timed_office (before ++ entry ∷ []) office)

-- ---- lines of a legal trace

module _ (asked : Asked) (ran : Ran) (legal : LegalTrace asked ran) (line : Line) where
  abbrev view : LineView
  view = view_of asked ran line

  rules : IsTrue (keeps_rules view)
  rules =
      all_sorted (is_legal_turn asked.settings.cache) (nodes_turns (line_of line) 1 ran.trace.nodes ++ door_turns (line_of line) 0 ran.trace.door ++ office_turns (line_of line) [] ran.trace.office) [] refl
      (all_both (is_legal_turn asked.settings.cache) (nodes_turns (line_of line) 1 ran.trace.nodes ++ door_turns (line_of line) 0 ran.trace.door) (office_turns (line_of line) [] ran.trace.office)
      (all_both (is_legal_turn asked.settings.cache) (nodes_turns (line_of line) 1 ran.trace.nodes) (door_turns (line_of line) 0 ran.trace.door)
      (of_nodes asked.settings.cache (line_of line) 1 ran.trace.door ran.trace.nodes legal.nodes) (of_door asked.settings.cache (line_of line) 0 ran.trace.door))
      (of_office asked.settings.cache (line_of line) [] ran.trace.office (and_parts (is_legal_alone ran.trace.office) (is_legal_beside ran.trace.door ran.trace.office) legal.office).0))

  behind : IsTrue (comes_behind_legal view)
  behind =
      all_sorted (is_behind_legal asked.settings.cache) (nodes_turns (line_of line) 1 ran.trace.nodes ++ door_turns (line_of line) 0 ran.trace.door ++ office_turns (line_of line) [] ran.trace.office) [] refl
      (all_both (is_behind_legal asked.settings.cache) (nodes_turns (line_of line) 1 ran.trace.nodes ++ door_turns (line_of line) 0 ran.trace.door) (office_turns (line_of line) [] ran.trace.office)
      (all_both (is_behind_legal asked.settings.cache) (nodes_turns (line_of line) 1 ran.trace.nodes) (door_turns (line_of line) 0 ran.trace.door)
      (behind_nodes asked.settings.cache (line_of line) 1 ran.trace.door ran.trace.nodes legal.nodes) (behind_door asked.settings.cache (line_of line) 0 ran.trace.door))
      (behind_office asked.settings.cache (line_of line) [] ran.trace.office))

  timed : IsTrue (reads_its_clock view)
  timed =
      all_sorted (reads_clock_in asked.clock) (nodes_turns (line_of line) 1 ran.trace.nodes ++ door_turns (line_of line) 0 ran.trace.door ++ office_turns (line_of line) [] ran.trace.office) [] refl
      (all_both (reads_clock_in asked.clock) (nodes_turns (line_of line) 1 ran.trace.nodes ++ door_turns (line_of line) 0 ran.trace.door) (office_turns (line_of line) [] ran.trace.office)
      (all_both (reads_clock_in asked.clock) (nodes_turns (line_of line) 1 ran.trace.nodes) (door_turns (line_of line) 0 ran.trace.door)
      (timed_nodes asked.clock (line_of line) 1 ran.trace.nodes legal.clock) (timed_door asked.clock (line_of line) 0 ran.trace.door)) (timed_office asked.clock (line_of line) [] ran.trace.office))

  module _ (asks : Contains (lines asked) line) where
    each : (test : LineView → Bool) → IsTrue (each_view test asked ran) → IsTrue (test view)
    each test all = passes (λ (l : Line). test (view_of asked ran l)) (lines asked) line all asks

    course : IsTrue (keeps_its_course view)
    course = each keeps_its_course legal.courses

    caused : (reply : Reply) → Contains (answers_of (line_of line) ran) reply → IsTrue (cause view reply)
    caused reply answers = passes (cause view) (answers_of (line_of line) ran) reply (passes (λ (l : Line). list_all (cause (view_of asked ran l)) (answers_of (line_of l) ran)) (lines asked) line legal.causes asks) answers

    by_command : (command : Command) → view.command ≡ command → (reply : Reply) → Contains (answers_of (line_of line) ran) reply → ExactlyCaused view reply
    by_command (commands.Begin uuid node) e reply answers = begins_exact uuid node view reply e course rules (each carries_its_words legal.words) behind (caused reply answers)
    by_command (commands.Put key value) e reply answers = puts_exact key value view reply e course (caused reply answers)
    by_command (commands.Get key) e reply answers = gets_exact key view reply e course rules (each carries_its_words legal.words) (each speaks_of_its_attempt legal.attempts) (caused reply answers)
    by_command commands.Commit e reply answers =
        commits_exact view reply e course rules (each speaks_of_its_attempt legal.attempts) timed
        (last_said reply view.turns (and_parts (answers_last view.turns) _ course).0 (answered reply (line_of line) ran answers)) (caused reply answers)
    by_command commands.Abort e reply answers = aborts_exact view reply e course rules (each speaks_of_its_attempt legal.attempts) (caused reply answers)
    by_command (commands.Crash node) e reply answers = crashes_exact node view reply e course (caused reply answers)
    by_command (commands.Start node) e reply answers = starts_exact node view reply e course rules (each stands_at_its_node legal.places) (caused reply answers)
    by_command (commands.Announce node) e reply answers = announcements_exact node view reply e course (caused reply answers)
    by_command (commands.Deliver node) e reply answers = deliveries_exact node view reply e course (caused reply answers)
    by_command (commands.Local node) e reply answers = locals_exact node view reply e course (caused reply answers)
    by_command commands.Manager e reply answers = managers_exact view reply e course (caused reply answers)
    by_command (commands.Forget uuid node) e reply answers = forgets_exact uuid node view reply e course rules (each carries_its_words legal.words) (caused reply answers)
    by_command commands.Collect e reply answers = collects_exact view reply e course rules (caused reply answers)
    by_command commands.Backup e reply answers = backups_exact view reply e course (caused reply answers)
    by_command (commands.Orphans key) e reply answers = orphans_exact key view reply e course (caused reply answers)

pub legal_exact : (asked : Asked) (ran : Ran) (line : Line) (reply : Reply) → LegalTrace asked ran → Contains (lines asked) line → Contains (answers_of (line_of line) ran) reply → ExactlyCaused (view_of asked ran line) reply
legal_exact asked ran line reply legal asks answers = by_command asked ran legal line asks line.order refl reply answers

-- a list passes a test where each of its elements does
all_pass : {A : Type 0} (test : A → Bool) (xs : List A) → ((x : A) → Contains xs x → IsTrue (test x)) → IsTrue (list_all test xs)
all_pass test xs each = list_all-from_AllPass test xs (All-weaker (Contains xs) (λ x. IsTrue (test x)) each xs (All-contains_itself xs))

pub legal_leaves_nothing : (asked : Asked) (ran : Ran) → LegalTrace asked ran → LeavesOutNothing asked ran
legal_leaves_nothing asked ran legal other =
    all_pass (λ (line : Line). list_all (λ (reply : Reply). may_leave_out (view_of asked ran line) reply other) (answers_of (line_of line) ran)) (lines asked)
    (λ line asks. all_pass (λ (reply : Reply). may_leave_out (view_of asked ran line) reply other) (answers_of (line_of line) ran) (λ reply answers. legal_exact asked ran line reply legal asks answers other))

-- a list of one has one
one_there : {A : Type 0} (xs : List A) → IsTrue (eqb (length xs) 1) → (x : A) × Contains xs x
one_there [] is = absurd (false≢true is)
one_there (x ∷ xs) is = (x, (0, omega arith, refl))

-- what may be left out, and comes exactly where its cause is, is left out rightly where it is the reply, or yields to it
left_so : (exact caused same yields : Bool) → IsTrue exact → IsTrue caused → IsTrue ((not (exact && caused) || same) || yields) → IsTrue (same || yields)
left_so true true same yields is its left = left
left_so true false same yields is its left = absurd (false≢true its)
left_so false caused same yields is its left = absurd (false≢true is)

pub caused_answered : (asked : Asked) (ran : Ran) (line : Line) (other : Reply) → LegalTrace asked ran → Contains (lines asked) line → IsTrue (comes_exactly other) → IsTrue (cause (view_of asked ran line) other)
    → (reply : Reply) × Contains (answers_of (line_of line) ran) reply × IsTrue (same_but_holders reply other || yields_to reply)
caused_answered asked ran line other legal asks exact caused =
    let its = one_there (answers_of (line_of line) ran) (passes (λ (l : Line). eqb (length (answers_of (line_of l) ran)) 1) (lines asked) line legal.answers asks) in
    (its.0, its.1, left_so (comes_exactly other) (cause (view_of asked ran line) other) (same_but_holders its.0 other) (yields_to its.0) exact caused (legal_exact asked ran line its.0 legal asks its.1 other))
