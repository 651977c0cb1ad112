-- What a line's view reads of a run whose door's history grows by entries of others.
use Rattle.std.proofs.Common.{◌≡◌, ◌≤◌, ◌++◌, ℕ, suc, Bool, true, false, ◌&&◌, not, eqb, List, [], ◌∷◌, length, take, refl, sym, ap, ◌∙◌, inl, inr, arith}
use Rattle.std.specs.Prelude.{IsTrue, Option, Some, None, filter, if◌then◌else◌, nat_le, nat_lt}
use Rattle.std.specs.List.{fold, last_or, list_all}
use Rattle.std.proofs.lemmas.Bool.{and_from, and_parts, cases_Bool, eq-eqb, eqb-true, le-leb, ltb-true, not-true}
use Rattle.std.proofs.lemmas.List.{take-append-le}
use Rattle.aft_model.specs.declared.caller.By.{By}
use Rattle.aft_model.specs.declared.caller.Hold.{Hold}
use Rattle.aft_model.specs.declared.door.DoorEntry.{DoorEntry}
use Rattle.aft_model.specs.declared.script.Line.{Line}
use Rattle.aft_model.specs.NodeSights.{is_fenced}
use Rattle.aft_model.specs.Opening.{opening}
use Rattle.aft_model.specs.ScanRun.{same_line}
use Rattle.aft_lines.specs.Asked.{Asked, Ran}
use Rattle.aft_lines.specs.FinishedText.{line_of}
use Rattle.aft_lines.specs.LinePosts.{posts_of}
use Rattle.aft_lines.specs.LineView.{LineView, ends_of}
use Rattle.aft_lines.specs.Lines.{attempt_of, begins, begun_at, earlier_lines, hold_after, last_begin, lines, whole_order}
use Rattle.aft_lines.specs.Turns.{AtDoor, Turn, door_turns, end_front, nodes_turns, office_turns, turns, with_turn}
use Rattle.aft_lines.specs.Views.{answered_front, line_before, ran_earlier, view_of}
use Rattle.law_grows.specs.Reach.{SameWithin, comes_behind, grown, with_more}

-- ---- the ends of a line

pub ends_same : (view : LineView) (more : List DoorEntry) → SameWithin (length view.seen) (ends_of view) (ends_of (with_more view more))
ends_same view more = record {
  seen = λ place low. sym (take-append-le place view.seen more low);
  shut_out = λ who front low. ap (λ (h : List DoorEntry). is_fenced who h) (sym (take-append-le front view.seen more low));
  left = refl;
}

pub kept_same : (view : LineView) (more : List DoorEntry) → (ends_of view).is_kept ≡ (ends_of (with_more view more)).is_kept
kept_same view more = refl

-- ---- lists

pub kept_by : {A : Type 0} (keep test : A → Bool) (xs : List A) → IsTrue (list_all test xs) → IsTrue (list_all test (filter keep xs))
kept_by keep test [] so = refl
kept_by keep test (x ∷ xs) so = (let parts = and_parts (test x) (list_all test xs) so in cases (keep x) parts.0 (kept_by keep test xs parts.1))
  where
    cases : (kept : Bool) → IsTrue (test x) → IsTrue (list_all test (filter keep xs)) → IsTrue (list_all test (if kept then x ∷ filter keep xs else filter keep xs))
    cases true one rest = and_from _ _ one rest
    cases false one rest = rest

pub kept_so : {A : Type 0} (test : A → Bool) (xs : List A) → IsTrue (list_all test (filter test xs))
kept_so test [] = refl
kept_so test (x ∷ xs) = cases (test x) refl (kept_so test xs)
  where
    cases : (kept : Bool) → test x ≡ kept → IsTrue (list_all test (filter test xs)) → IsTrue (list_all test (if kept then x ∷ filter test xs else filter test xs))
    cases true one rest = and_from _ _ one rest
    cases false one rest = rest

-- what is so of what is there
abbrev pub if_there : (Line → Bool) → Option Line → Bool
if_there test None = true
if_there test (Some line) = test line

pub last_so : (test : Line → Bool) (xs : List Line) (before : Option Line) → IsTrue (if_there test before) → IsTrue (list_all test xs) → IsTrue (if_there test (last_or before xs))
last_so test [] before so all = so
last_so test (x ∷ xs) before so all = (let parts = and_parts (test x) (list_all test xs) all in last_so test xs (Some x) parts.0 parts.1)

module _ (line : Line) where
  -- whether a line is of the same client, and before it
  abbrev is_earlier : Line → Bool
  is_earlier other = eqb other.client line.client && nat_lt other.number line.number

  -- an entry that comes behind is of no line up to this one
  stranger : (client number : ℕ) (entry : DoorEntry) → client ≡ line.client → number ≤ line.number → IsTrue (comes_behind line entry) → same_line (record { client = client; line = number }) entry.by ≡ false
  stranger client number entry its low so = elim (cases_Bool (same_line (record { client = client; line = number }) entry.by)) [
    | inl same ↦
        let parts = and_parts (eqb client entry.by.client) (eqb number entry.by.line) same in
        let one = eqb-true client entry.by.client parts.0 in
        let two = eqb-true number entry.by.line parts.1 in
        let own = eq-eqb entry.by.client line.client (sym one ∙ its) in
        let up : nat_le entry.by.line line.number ≡ true = le-leb entry.by.line line.number (omega arith) in
        let no = not-true (eqb entry.by.client line.client && nat_le entry.by.line line.number) (and_parts (not (same_line opening entry.by)) (not (eqb entry.by.client line.client && nat_le entry.by.line line.number)) so).1 in
        absurd (never (sym no ∙ and_from (eqb entry.by.client line.client) (nat_le entry.by.line line.number) own up))
    | inr other ↦ other
  ]
    where
      never : false ≡ true → ⊥
      never x = (cc)

  no_opening : (entry : DoorEntry) → IsTrue (comes_behind line entry) → same_line opening entry.by ≡ false
  no_opening entry so = not-true (same_line opening entry.by) (and_parts (not (same_line opening entry.by)) (not (eqb entry.by.client line.client && nat_le entry.by.line line.number)) so).0

  module _ (ran : Ran) (more : List DoorEntry) (behind : IsTrue (list_all (comes_behind line) more)) where
    module _ (by : By) (strange : (entry : DoorEntry) → IsTrue (comes_behind line entry) → same_line by entry.by ≡ false) where
      none_of : (place : ℕ) (entries : List DoorEntry) → IsTrue (list_all (comes_behind line) entries) → door_turns by place entries ≡ []
      none_of place [] so = refl
      none_of place (entry ∷ entries) so =
          let parts = and_parts (comes_behind line entry) (list_all (comes_behind line) entries) so in
          ap (λ (b : Bool). (if b then AtDoor place entry.act ∷ [] else []) ++ door_turns by (suc place) entries) (strange entry parts.0) ∙ none_of (suc place) entries parts.1

      door_same : (place : ℕ) (door : List DoorEntry) → door_turns by place (door ++ more) ≡ door_turns by place door
      door_same place [] = none_of place more behind
      door_same place (entry ∷ door) = ap (λ (l : List Turn). (if same_line by entry.by then AtDoor place entry.act ∷ [] else []) ++ l) (door_same (suc place) door)

      turns_same : turns by (grown ran more).trace ≡ turns by ran.trace
      turns_same = ap (λ (l : List Turn). fold with_turn [] (nodes_turns by 1 ran.trace.nodes ++ l ++ office_turns by [] ran.trace.office)) (door_same 0 ran.trace.door)

    own_same : turns (line_of line) (grown ran more).trace ≡ turns (line_of line) ran.trace
    own_same = turns_same (line_of line) (λ entry so. stranger line.client line.number entry refl (omega arith) so)

    earlier_same : (other : Line) → IsTrue (is_earlier other) → turns (line_of other) (grown ran more).trace ≡ turns (line_of other) ran.trace
    earlier_same other so =
        let parts = and_parts (eqb other.client line.client) (nat_lt other.number line.number) so in
        let its = eqb-true other.client line.client parts.0 in
        let low = ltb-true other.number line.number parts.1 in
        turns_same (line_of other) (λ entry is. stranger other.client other.number entry its (omega arith) is)

    hold_same : (begin : Option Line) → IsTrue (if_there is_earlier begin) → hold_after (grown ran more).trace begin ≡ hold_after ran.trace begin
    hold_same None so = refl
    hold_same (Some begin) so = ap (λ (l : List Turn). record { node = begun_at begin.order; attempt = attempt_of l }) (earlier_same begin so)

    since_same : (before : Option Line) → IsTrue (if_there is_earlier before) → answered_front (grown ran more).trace before ≡ answered_front ran.trace before
    since_same None so = ap (λ (l : List Turn). end_front l) (turns_same opening no_opening)
    since_same (Some before) so = ap (λ (l : List Turn). end_front l) (earlier_same before so)

    -- a view by what it reads of the run's trace
    abbrev built : Asked → Hold → List Turn → ℕ → List DoorEntry → LineView
    built asked hold its since seen = record {
      by = line_of line;
      command = line.order;
      hold = hold;
      settings = asked.settings;
      clock = asked.clock;
      turns = its;
      posts = posts_of (line_of line) line.order ran.mail;
      since = since;
      seen = seen;
      nodes = ran.trace.nodes;
      before = ran_earlier line (whole_order asked);
    }

    abbrev made : Asked → Hold → List Turn → ℕ → LineView
    made asked hold its since = built asked hold its since (take (end_front its) (ran.trace.door ++ more))

    pub view_same : (asked : Asked) → end_front (turns (line_of line) ran.trace) ≤ length ran.trace.door → view_of asked (grown ran more) line ≡ view_of asked ran line
    view_same asked low =
        ap (λ (h : Hold). made asked h (turns (line_of line) (grown ran more).trace) (answered_front (grown ran more).trace (line_before (lines asked) line))) (hold_same (last_begin (lines asked) line) (last_so is_earlier (filter (λ other. begins other.order) (earlier_lines (lines asked) line)) None refl (kept_by (λ other. begins other.order) is_earlier (earlier_lines (lines asked) line) (kept_so is_earlier (lines asked)))))
        ∙ ap (λ (l : List Turn). made asked (hold_after ran.trace (last_begin (lines asked) line)) l (answered_front (grown ran more).trace (line_before (lines asked) line))) own_same
        ∙ ap (λ (n : ℕ). made asked (hold_after ran.trace (last_begin (lines asked) line)) (turns (line_of line) ran.trace) n) (since_same (line_before (lines asked) line) (last_so is_earlier (earlier_lines (lines asked) line) None refl (kept_so is_earlier (lines asked))))
        ∙ ap (λ (h : List DoorEntry). built asked (hold_after ran.trace (last_begin (lines asked) line)) (turns (line_of line) ran.trace) (answered_front ran.trace (line_before (lines asked) line)) h) (take-append-le (end_front (turns (line_of line) ran.trace)) ran.trace.door more low)
