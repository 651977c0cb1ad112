-- A get of a legal trace over an honest store answers neither that a version is missing nor that one is damaged.
use Rattle.std.proofs.Common.{◌≡◌, ◌≤◌, ◌<◌, ◌+◌, ℕ, suc, Bool, ◌&&◌, not, List, [], ◌∷◌, ◌++◌, refl, sym, ap, subst, ◌∙◌, ◌⊎◌, inl, inr, append_assoc, length, map, eqb, arith}
use Rattle.std.specs.Prelude.{IsTrue, IsFalse, None, Option, Some, filter, if◌then◌else◌}
use Rattle.std.specs.List.{Contains, list_all, list_any}
use Rattle.std.specs.Str.{bytes_eq}
use Rattle.std.proofs.lemmas.Bool.{and_parts, false≢true, not-true, or_cases, true≢false}
use Rattle.aft_id.specs.TxnId.{same_id}
use Rattle.aft_id.specs.declared.txn_id.TxnId.{TxnId}
use Rattle.aft_keeper.specs.declared.keeper.KeeperAnswer.{KeeperAnswer}
use Rattle.aft_keeper.specs.declared.keeper.KeeperAnswer.TheVariants.{Absent, Found}
use Rattle.aft_keeper.specs.declared.keeper.KeeperCall.TheVariants as calls
use Rattle.aft_keeper.specs.declared.keeper.Pair.{Pair}
use Rattle.aft_records.specs.declared.stored.Version.{Version}
use Rattle.aft_model.specs.declared.caller.Attempt.{Attempt}
use Rattle.aft_model.specs.declared.caller.By.{By}
use Rattle.aft_model.specs.declared.choice.Picked.TheVariants as picked
use Rattle.aft_model.specs.declared.door.DoorAct.{DoorAct}
use Rattle.aft_model.specs.declared.door.DoorAct.TheVariants.{Call}
use Rattle.aft_model.specs.declared.door.DoorEntry.{DoorEntry}
use Rattle.aft_model.specs.declared.node.NodeAct.{NodeAct}
use Rattle.aft_model.specs.declared.node.NodeAct.TheVariants as acts
use Rattle.aft_model.specs.declared.node.NodeEntry.{NodeEntry}
use Rattle.aft_model.specs.declared.reply.Reply.{Reply}
use Rattle.aft_model.specs.declared.reply.Reply.TheVariants as replies
use Rattle.aft_model.specs.declared.script.Command.{Command}
use Rattle.aft_model.specs.declared.script.Command.TheVariants as commands
use Rattle.aft_model.specs.declared.script.Line.{Line}
use Rattle.aft_model.specs.Attempts.{ends_fetch, same_attempt}
use Rattle.aft_model.specs.DoorKnowledge.{finds_absent}
use Rattle.aft_model.specs.Evidence.{pairs_in, shown_pairs}
use Rattle.aft_model.specs.History.{first_of}
use Rattle.aft_model.specs.Honest.{Honest}
use Rattle.aft_model.specs.Membership.{Incarnation, incarnation, same_incarnation}
use Rattle.aft_model.specs.NodeState.{NodeState, node_state}
use Rattle.aft_model.specs.Readings.{has_reading, markers_in, records_in, version_name, versions_in}
use Rattle.aft_model.proofs.Histories.{In, all_at, any_found, each_after_split, in_flat_map}
use Rattle.aft_model.proofs.Ids.{same_ids}
use Rattle.aft_model.proofs.Lists.{all_from, in_filter, in_map}
use Rattle.aft_model.proofs.OneCommit.{same_who}
use Rattle.aft_model.proofs.Pins.{same_attempts}
use Rattle.aft_model.proofs.Sights.{bytes_eq-refl, same_bytes}
use Rattle.aft_lines.specs.Asked.{Asked, Ran}
use Rattle.aft_lines.specs.Causes.{cause}
use Rattle.aft_lines.specs.CausesReads.{found_nothing, of_get, picks}
use Rattle.aft_lines.specs.CausesScans.{damage_for, damaged_names, is_damage, is_of_another, is_too_many_records_caused, is_written_name}
use Rattle.aft_lines.specs.CourseWords.{Ends, answers_down, caller_of, closes, ends_at_node, is_over, tells_down}
use Rattle.aft_lines.specs.FinishedText.{answers_of, line_of}
use Rattle.aft_lines.specs.GetCourse.{ends_get, fetch_course, get_after, get_course, loses}
use Rattle.aft_lines.specs.Headline.{tells_loss}
use Rattle.aft_lines.specs.LegalTrace.{LegalTrace}
use Rattle.aft_lines.specs.LineCourse.{answers_last, follows_course}
use Rattle.aft_lines.specs.LineView.{LineView, door_entries, door_entry_in, ends_of, fixed_for}
use Rattle.aft_lines.specs.Lines.{lines, node_numbers}
use Rattle.aft_lines.specs.Turns.{AtDoor, AtNode, AtOffice, Turn, turns}
use Rattle.aft_lines.specs.Views.{view_of}
use Rattle.law_answers.proofs.Answered.{answered, last_said}
use Rattle.law_answers.specs.Courses.{last_answer}
use Rattle.law_attempts.proofs.Newest.{acts_of_own}
use Rattle.law_boots.specs.Beside.{Beside}
use Rattle.law_boots.proofs.Again.{Opens, open_rule}
use Rattle.law_boots.proofs.Nodes.{begins}
use Rattle.law_effects.specs.Effects.{Shows, effect_of, sight_effect}
use Rattle.law_fetches.specs.Ends.{EndsFetch}
use Rattle.law_fetches.proofs.There.{shown_there}
use Rattle.law_claims.proofs.Scenes.{same_by}
use Rattle.law_held.proofs.Between.{between, stands_between}
use Rattle.law_held.proofs.Fetches.{ends_acts}
use Rattle.law_held.proofs.OpenFetches.{fetches_are_open}
use Rattle.law_promise.proofs.Doors.{lawful_door}
use Rattle.law_runs.specs.Runs.{Goes}
use Rattle.law_runs.proofs.LegalRuns.{legal_goes}
use Rattle.law_gets.proofs.Stands.{history_of, stands}
use Rattle.law_gets.proofs.Values.{backs_here}

-- ---- the turns of a get that asked the door

-- its pick, its get there, and its end
record Course (place : ℕ) (act : DoorAct) (line : List Turn) : Type 0 where
  attempt : Attempt
  key : List ℕ
  id : TxnId
  answer : KeeperAnswer
  asks : act ≡ Call attempt.node attempt.inc (calls.Get (version_name key id)) answer
  first : Turn
  node : ℕ
  before : List NodeEntry
  end : NodeEntry
  parts : line ≡ first ∷ AtDoor place act ∷ AtNode node before end ∷ []
  ends : IsTrue (ends_get attempt key id place end.act end.answer) ⊎ IsTrue (answers_down end.act end.answer)

-- where one turn at a node is left
record Last (node : ℕ) (test : NodeState → NodeEntry → Bool) (line : List Turn) : Type 0 where
  at : ℕ
  before : List NodeEntry
  entry : NodeEntry
  is : line ≡ AtNode at before entry ∷ []
  passes : IsTrue (test (node_state before) entry)

last_of : (node : ℕ) (test : NodeState → NodeEntry → Bool) (line : List Turn) → IsTrue (ends_at_node node test line) → Last node test line
last_of node test (AtNode at before entry ∷ []) is = record { at = at; before = before; entry = entry; is = refl; passes = (and_parts (eqb node at) (test (node_state before) entry) is).1 }
last_of node test line is = absurd (false≢true is)

no_door : (place : ℕ) (act : DoorAct) (node : ℕ) (before : List NodeEntry) (entry : NodeEntry) → AtDoor place act ≡ AtNode node before entry → ⊥
no_door place act node before entry is = cc

door_alone : (place : ℕ) (act : DoorAct) (node : ℕ) (test : NodeState → NodeEntry → Bool) (line : List Turn) → Last node test line → In (AtDoor place act) line → ⊥
door_alone place act node test line last among = nowhere (subst (In (AtDoor place act)) last.is among)
  where
    nowhere : In (AtDoor place act) (AtNode last.at last.before last.entry ∷ []) → ⊥
    nowhere (inl here) = no_door place act last.at last.before last.entry here
    nowhere (inr none) = none

over_none : (line : List Turn) (x : Turn) → IsTrue (is_over line) → In x line → ⊥
over_none [] x over among = among
over_none (turn ∷ line) x over among = false≢true over

module _ (ends : Ends) (place : ℕ) (act : DoorAct) where
  asked_door : (a : Attempt) (key : List ℕ) (id : TxnId) (p : ℕ) (node inc : ℕ) (name : List ℕ) (answer : KeeperAnswer) (line : List Turn) (first : Turn) → IsTrue (same_incarnation (caller_of a) (incarnation node inc)) → IsTrue (bytes_eq (version_name key id) name)
      → Last a.node (closes ends a.inc (ends_get a key id p)) line → AtDoor place act ≡ AtDoor p (Call node inc (calls.Get name) answer) → Course place act (first ∷ AtDoor p (Call node inc (calls.Get name) answer) ∷ line)
  asked_door a key id p node inc name answer line first caller named last same =
      let its_place : place ≡ p = cc in
      let its_act : act ≡ Call node inc (calls.Get name) answer = cc in
      let who : incarnation a.node a.inc ≡ incarnation node inc = same_who (caller_of a) (incarnation node inc) caller in
      record {
        attempt = a;
        key = key;
        id = id;
        answer = answer;
        asks = its_act ∙ (ap (λ (w : Incarnation). Call w.node w.inc (calls.Get name) answer) (sym who) ∙ ap (λ (n : List ℕ). Call a.node a.inc (calls.Get n) answer) (sym (same_bytes (version_name key id) name named)));
        first = first;
        node = last.at;
        before = last.before;
        end = last.entry;
        parts = ap (λ (l : List Turn). first ∷ AtDoor p (Call node inc (calls.Get name) answer) ∷ l) last.is ∙ ap (λ (t : Turn). first ∷ t ∷ AtNode last.at last.before last.entry ∷ []) (sym same);
        ends = elim (or_cases (ends_get a key id p last.entry.act last.entry.answer) (answers_down last.entry.act last.entry.answer && ends.is_left a.inc (node_state last.before)) last.passes) [
          | inl it ↦ inl (subst (λ (q : ℕ). IsTrue (ends_get a key id q last.entry.act last.entry.answer)) (sym its_place) it)
          | inr down ↦ inr (and_parts (answers_down last.entry.act last.entry.answer) (ends.is_left a.inc (node_state last.before)) down).0
        ];
      }

  by_fetch : (a : Attempt) (key : List ℕ) (id : TxnId) (line : List Turn) (first : Turn) → IsTrue (fetch_course ends a key id line) → In (AtDoor place act) line → Course place act (first ∷ line)
  by_fetch a key id (AtDoor p (Call node inc (calls.Get name) answer) ∷ line) first is among =
      let parts = and_parts (same_incarnation (caller_of a) (incarnation node inc) && bytes_eq (version_name key id) name) (ends_at_node a.node (closes ends a.inc (ends_get a key id p)) line) is in
      let both = and_parts (same_incarnation (caller_of a) (incarnation node inc)) (bytes_eq (version_name key id) name) parts.0 in
      let last = last_of a.node (closes ends a.inc (ends_get a key id p)) line parts.1 in
      elim among [
        | inl here ↦ asked_door a key id p node inc name answer line first both.0 both.1 last here
        | inr later ↦ absurd (door_alone place act a.node (closes ends a.inc (ends_get a key id p)) line last later)
      ]
  by_fetch a key id line first is among = absurd (door_alone place act a.node (closes ends a.inc (loses a key id)) line (last_of a.node (closes ends a.inc (loses a key id)) line is) among)

  by_pick : (pick : NodeAct) (line : List Turn) (first : Turn) → IsTrue (get_after ends pick line) → In (AtDoor place act) line → Course place act (first ∷ line)
  by_pick acts.Nothing line first is among = absurd (over_none line (AtDoor place act) is among)
  by_pick (acts.Select a key (picked.Fetch id)) line first is among = by_fetch a key id line first is among
  by_pick (acts.Select a key pick) line first is among = absurd (over_none line (AtDoor place act) is among)
  by_pick pick line first is among = absurd (false≢true is)

  course_of : (line : List Turn) → IsTrue (get_course ends line) → In (AtDoor place act) line → Course place act line
  course_of (AtNode node before entry ∷ line) is (inl here) = absurd (no_door place act node before entry here)
  course_of (AtNode node before entry ∷ line) is (inr later) = by_pick entry.act line (AtNode node before entry) is later
  course_of line is among = absurd (false≢true is)

-- ---- an end that ends a fetch

ends_so : (a : Attempt) (key : List ℕ) (id : TxnId) (place : ℕ) (act : NodeAct) (answer : Option Reply) → IsTrue (ends_get a key id place act answer) → EndsFetch a key id act × IsTrue (ends_fetch a act)
ends_so a key id place (acts.Value b got at found kept) answer is =
    let three = (and_parts (same_attempt a b && bytes_eq key got && same_id id at) (eqb place found) is).0 in
    let parts = and_parts (same_attempt a b && bytes_eq key got) (same_id id at) three in
    let both = and_parts (same_attempt a b) (bytes_eq key got) parts.0 in
    (inl (found, kept, ap (λ (x : Attempt). acts.Value x got at found kept) (sym (same_attempts a b both.0)) ∙ (ap (λ (k : List ℕ). acts.Value a k at found kept) (sym (same_bytes key got both.1)) ∙ ap (λ (i : TxnId). acts.Value a key i found kept) (sym (same_ids id at parts.1)))), both.0)
ends_so a key id place (acts.Lost b got at) answer is =
    let parts = and_parts (same_attempt a b && bytes_eq key got) (same_id id at) is in
    let both = and_parts (same_attempt a b) (bytes_eq key got) parts.0 in
    (inr (ap (λ (x : Attempt). acts.Lost x got at) (sym (same_attempts a b both.0)) ∙ (ap (λ (k : List ℕ). acts.Lost a k at) (sym (same_bytes key got both.1)) ∙ ap (λ (i : TxnId). acts.Lost a key i) (sym (same_ids id at parts.1)))), both.0)
ends_so a key id place act answer is = absurd (false≢true is)

-- ---- answers

contains : {A : Type 0} (x : A) (xs : List A) → In x xs → Contains xs x
contains x [] among = absurd among
contains x (y ∷ xs) (inl here) = (0, omega arith, sym here)
contains x (y ∷ xs) (inr later) = (let rest = contains x xs later in (suc rest.0, omega arith, rest.2))

-- who answers alone that the node is down tells of no loss
not_down : (act : NodeAct) (answer : Option Reply) (reply : Reply) → IsTrue (answers_down act answer) → answer ≡ Some reply → IsFalse (tells_down (Some reply)) → ⊥
not_down acts.Nothing answer reply is same other = true≢false (sym (subst (λ (o : Option Reply). IsTrue (tells_down o)) same is) ∙ other)
not_down act answer reply is same other = false≢true is

-- a version that is read is a reading of its pair
reads_so : (pair : Pair) (v : Version) → In v (versions_in pair) → IsFalse (has_reading pair) → ⊥
reads_so pair v among unread = true≢false (sym (some_read (length (records_in pair)) (length (markers_in pair)) (versions_in pair) among) ∙ unread)
  where
    some_read : (m n : ℕ) (vs : List Version) → In v vs → IsTrue (not (eqb (m + n + length vs) 0))
    some_read m n [] none = absurd none
    some_read m n (w ∷ vs) there = grind arith

-- ---- a get of a legal trace

module _ (asked : Asked) (ran : Ran) (legal : LegalTrace asked ran) (honest : Honest ran.trace.door) (line : Line) (listed : In line (lines asked)) (key : List ℕ) (gets : line.order ≡ commands.Get key) where
  abbrev view : LineView
  view = view_of asked ran line

  abbrev its : List Turn
  its = turns (line_of line) ran.trace

  goes : Goes asked ran
  goes = legal_goes asked ran legal

  keeps : IsTrue (answers_last its) × IsTrue (follows_course line.order (node_numbers asked.settings) (ends_of view) its)
  keeps = and_parts (answers_last its) (follows_course line.order (node_numbers asked.settings) (ends_of view) its)
      (all_at (λ (k : Line). answers_last (turns (line_of k) ran.trace) && follows_course k.order (node_numbers asked.settings) (ends_of (view_of asked ran k)) (turns (line_of k) ran.trace)) line (lines asked) listed legal.courses)

  follows : IsTrue (get_course (ends_of view) its)
  follows = subst (λ (c : Command). IsTrue (follows_course c (node_numbers asked.settings) (ends_of view) its)) gets keeps.1

  module _ (reply : Reply) (among : In reply (answers_of (line_of line) ran)) (other : IsFalse (tells_down (Some reply))) where
    said : last_answer its ≡ Some reply
    said = last_said reply its keeps.0 (answered reply (line_of line) ran (contains reply (answers_of (line_of line) ran) among))

    module _ (place : ℕ) (act : DoorAct) (there : In (AtDoor place act) its) where
      course : Course place act its
      course = course_of (ends_of view) place act its follows there

      -- its end ends a fetch
      ended : IsTrue (ends_get course.attempt course.key course.id place course.end.act course.end.answer)
      ended = elim course.ends [
        | inl it ↦ it
        | inr down ↦ absurd (not_down course.end.act course.end.answer reply down (ap last_answer (sym course.parts) ∙ said) other)
      ]

      -- so what its get was shown is the version
      is_shown : (outcome : Option (List ℕ)) → effect_of (version_name course.key course.id) act ≡ Shows outcome → (bytes : List ℕ) × (v : Version) × (outcome ≡ Some bytes) × In v (versions_in (record { name = version_name course.key course.id; bytes = bytes }))
      is_shown outcome shows =
          let end = stands ran.trace (line_of line) (AtNode course.node course.before course.end) (subst (In (AtNode course.node course.before course.end)) (sym course.parts) (inr (inr (inl refl)))) in
          let door = stands ran.trace (line_of line) (AtDoor place act) there in
          let by : line_of line ≡ course.end.by = same_by (line_of line) course.end.by end.2 in
          let both = ends_so course.attempt course.key course.id place course.end.act course.end.answer ended in
          let history = history_of asked.settings.cache ran.trace.door course.node 1 ran.trace.nodes course.before course.end end.0 (omega arith) goes.nodes (fetches_are_open asked ran goes) end.1 in
          let longer : course.before ++ course.end ∷ end.0 ≡ (course.before ++ course.end ∷ []) ++ end.0 = sym (append_assoc course.before (course.end ∷ []) end.0) in
          let beside = subst (Beside course.node asked.settings.cache ran.trace.door) longer history.1 in
          let opens : Opens (course.before ++ course.end ∷ []) = (each_after_split open_rule [] (course.before ++ course.end ∷ []) end.0 (subst Opens longer history.2)).0 in
          let backs = backs_here asked ran goes course.node ((course.before ++ course.end ∷ []) ++ end.0) (end.1 ∙ longer) in
          let own = acts_of_own course.node asked.settings.cache course.attempt course.before course.end (begins course.node asked.settings.cache ran.trace.door (course.before ++ course.end ∷ []) end.0 beside).legal (ends_acts course.attempt course.end.act both.1) in
          let here = subst (λ (b : By). In (AtDoor place act) (turns b ran.trace)) by there in
          let ahead = (between asked ran goes course.node course.before course.end end.0 end.1 course.attempt both.1 place act here).ahead in
          let found = shown_there course.node asked.settings.cache history.0 ran.trace.door (lawful_door asked ran goes honest) course.before end.0 course.end beside backs opens course.attempt course.key course.id both.0 door.0 door.2 door.1 door.3
          (λ e inside mine picks. subst (λ (n : ℕ). e.front ≤ n) (sym door.4) (stands_between asked ran goes course.node course.before course.end end.0 end.1 course.attempt both.1 e inside mine course.key course.id picks place act here).0)
          (subst (λ (n : ℕ). n < course.end.front) (sym door.4) ahead) course.answer (door.5 ∙ (course.asks ∙ ap (λ (n : ℕ). Call n course.attempt.inc (calls.Get (version_name course.key course.id)) course.answer) own.0))
          outcome (ap (effect_of (version_name course.key course.id)) door.5 ∙ shows) in
          (found.1.bytes, found.1.version, found.2, found.1.reads)

      asked_name : (name : List ℕ) (outcome : Option (Option (List ℕ))) → sight_effect (if bytes_eq name name then outcome else None) ≡ sight_effect outcome
      asked_name name outcome = ap (λ (t : Bool). sight_effect (if t then outcome else None)) (bytes_eq-refl name)

      -- it isn't absent
      not_absent : (who : Incarnation) (name : List ℕ) → IsTrue (finds_absent who name act) → ⊥
      not_absent who name finds = by_answer course.answer course.asks
        where
          by_answer : (answer : KeeperAnswer) → act ≡ Call course.attempt.node course.attempt.inc (calls.Get (version_name course.key course.id)) answer → ⊥
          by_answer Absent is =
              let shown = is_shown None (ap (effect_of (version_name course.key course.id)) is ∙ asked_name (version_name course.key course.id) (Some None)) in
              absurd (let no : None ≡ Some shown.0 = shown.2 in cc)
          by_answer answer is = false≢true (subst (λ (x : DoorAct). IsTrue (finds_absent who name x)) is finds)

      -- and isn't damaged
      not_damaged : (pair : Pair) → In pair (pairs_in act) → IsFalse (has_reading pair) → ⊥
      not_damaged pair listed_it unread = by_answer course.answer course.asks
        where
          by_answer : (answer : KeeperAnswer) → act ≡ Call course.attempt.node course.attempt.inc (calls.Get (version_name course.key course.id)) answer → ⊥
          by_answer (Found bytes) is =
              let shown = is_shown (Some bytes) (ap (effect_of (version_name course.key course.id)) is ∙ asked_name (version_name course.key course.id) (Some (Some bytes))) in
              let same : bytes ≡ shown.0 = (let both : Some bytes ≡ Some shown.0 = shown.2 in cc) in
              reads_so (record { name = version_name course.key course.id; bytes = bytes }) shown.1 (subst (λ (b : List ℕ). In shown.1 (versions_in (record { name = version_name course.key course.id; bytes = b }))) (sym same) shown.3)
              (subst (λ (p : Pair). IsFalse (has_reading p)) (one_pair (subst (λ (x : DoorAct). In pair (pairs_in x)) is listed_it)) unread)
            where
              one_pair : In pair (record { name = version_name course.key course.id; bytes = bytes } ∷ []) → pair ≡ record { name = version_name course.key course.id; bytes = bytes }
              one_pair (inl here) = here
              one_pair (inr none) = absurd none
          by_answer answer is = none (subst (λ (x : DoorAct). In pair (pairs_in x)) is listed_it)
            where
              none : In pair (pairs_in (Call course.attempt.node course.attempt.inc (calls.Get (version_name course.key course.id)) answer)) → ⊥
              none there_it = there_it

    -- an entry of the line at the door is one of its turns there
    its_entry : (e : DoorEntry) → In e (door_entries view) → (place : ℕ) × In (AtDoor place e.act) its
    its_entry e inside = (let turn = in_flat_map (door_entry_in (line_of line)) e its inside in by_turn turn.0 turn.1 turn.2)
      where
        by_turn : (turn : Turn) → In turn its → In e (door_entry_in (line_of line) turn) → (place : ℕ) × In (AtDoor place e.act) its
        by_turn (AtDoor place act) there (inl same) = (place, subst (λ (x : DoorAct). In (AtDoor place x) its) (sym (ap (λ (d : DoorEntry). d.act) same)) there)
        by_turn (AtDoor place act) there (inr none) = absurd none
        by_turn (AtNode node before entry) there none = absurd none
        by_turn (AtOffice before entry) there none = absurd none

    caused : IsTrue (cause view reply)
    caused = all_at (cause view) reply (answers_of (line_of line) ran) among (all_at (λ (l : Line). list_all (cause (view_of asked ran l)) (answers_of (line_of l) ran)) line (lines asked) listed legal.causes)

  -- it misses no version
  misses_none : (id : TxnId) → In (replies.Missing id) (answers_of (line_of line) ran) → ⊥
  misses_none id among = by_get line.order view.hold.attempt (and_parts (picks (picked.Fetch id) view) (found_nothing id view) (caused (replies.Missing id) among refl)).1
    where
      by_get : (command : Command) (held : Option Attempt) → IsTrue (of_get (λ a k. list_any (λ (entry : DoorEntry). finds_absent (caller_of a) (version_name k id) entry.act) (door_entries view)) command held) → ⊥
      by_get (commands.Get k) (Some a) is =
          let e = any_found (λ (entry : DoorEntry). finds_absent (caller_of a) (version_name k id) entry.act) (door_entries view) is in
          let at = its_entry (replies.Missing id) among refl e.0 e.1 in
          not_absent (replies.Missing id) among refl at.0 e.0.act at.1 (caller_of a) (version_name k id) e.2
      by_get command held is = false≢true is

  -- and is shown no damage
  damages_none : (name : List ℕ) → In (replies.Damaged name) (answers_of (line_of line) ran) → ⊥
  damages_none name among = some_name (damaged_names view) refl (and_parts (is_written_name name (first_of (damaged_names view))) (not (is_too_many_records_caused view)) (caused (replies.Damaged name) among refl)).0
    where
      by_order : (command : Command) → command ≡ commands.Get key → (e : DoorEntry) (n : List ℕ) → In n (damage_for command (fixed_for command view) e) → In n (map (λ (p : Pair). p.name) (filter (is_damage None) (shown_pairs e)))
      by_order command is e n inside = subst (λ (c : Command). In n (damage_for c (fixed_for c view) e)) is inside

      damage : (n : List ℕ) → In n (damaged_names view) → ⊥
      damage n inside =
          let e = in_flat_map (damage_for line.order (fixed_for line.order view)) n (door_entries view) inside in
          let at = its_entry (replies.Damaged name) among refl e.0 e.1 in
          let pair = in_map (λ (p : Pair). p.name) n (filter (is_damage None) (shown_pairs e.0)) (by_order line.order gets e.0 n e.2) in
          let spoilt = in_filter (is_damage None) pair.0 (shown_pairs e.0) pair.1 in
          elim (or_cases (not (has_reading pair.0)) (is_of_another None pair.0) spoilt.1) [
            | inl unread ↦ not_damaged (replies.Damaged name) among refl at.0 e.0.act at.1 pair.0 spoilt.0 (not-true (has_reading pair.0) unread)
            | inr another ↦ false≢true another
          ]

      some_name : (names : List (List ℕ)) → damaged_names view ≡ names → IsTrue (is_written_name name (first_of names)) → ⊥
      some_name [] is written = false≢true written
      some_name (n ∷ names) is written = damage n (subst (In n) (sym is) (inl refl))

  tells_none : (reply : Reply) → In reply (answers_of (line_of line) ran) → IsTrue (not (tells_loss (Some reply)))
  tells_none (replies.Missing id) among = absurd (misses_none id among)
  tells_none (replies.Damaged name) among = absurd (damages_none name among)
  tells_none reply among = refl

  -- so none of its answers tells of a loss
  pub loses_none : IsTrue (list_all (λ reply. not (tells_loss (Some reply))) (answers_of (line_of line) ran))
  loses_none = all_from (λ (reply : Reply). not (tells_loss (Some reply))) (answers_of (line_of line) ran) tells_none
