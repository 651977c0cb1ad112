-- Times within a line: a node's history parts at a time into what had been made by then and what came later.
use Rattle.std.specs.Prelude.{List, Bool, None, Option, Some, [], false, is_none, length, nat_le, nat_lt, not, suc, take, true, ℕ, ◌&&◌, ◌++◌, ◌-◌, ◌==◌, ◌||◌, ◌∷◌}
use Rattle.std.specs.List.{fold, list_all, list_any}
use Rattle.aft_records.specs.declared.stored.Commit.{Commit}
use Rattle.aft_records.specs.Superseded.{is_superseded}
use Rattle.aft_model.specs.declared.caller.By.{By}
use Rattle.aft_model.specs.declared.node.NodeEntry.{NodeEntry}
use Rattle.aft_model.specs.Known.{holds_id, known_in}
use Rattle.aft_model.specs.NodeState.{Service, service}
use Rattle.aft_model.specs.Opening.{opening}
use Rattle.aft_model.specs.ScanRun.{same_line}
use Rattle.aft_lines.specs.Turns.{AtDoor, AtNode, AtOffice, Turn}

-- a span of a line: whose line it is; the lines that ran before it, where lines run whole; how much of the door's history there was at least where the span began, and at most where it ended
pub record Span : Type 0 where
  pub by : By
  pub before : Option (List By)
  pub from : ℕ
  pub till : ℕ

-- whether a line ran before this one, where lines run whole
abbrev pub ran_before : By → Option (List By) → Bool
ran_before by None = false
ran_before by (Some lines) = list_any (same_line by) lines

-- whether an entry was made before a span: at the opening, by a line that ran before, or where less of the door's history had been seen
abbrev pub is_made_before : Span → NodeEntry → Bool
is_made_before span entry = same_line opening entry.by || ran_before entry.by span.before || nat_lt entry.front span.from

-- whether an entry may have been made before a span's end: no more of the door's history had been seen, and where lines run whole it isn't of one that ran after
abbrev pub may_be_made_by_then : Span → NodeEntry → Bool
may_be_made_by_then span entry =
    nat_le entry.front span.till && (is_none span.before || same_line opening entry.by || same_line span.by entry.by || ran_before entry.by span.before)

-- whether a history parts at a time within a span: its first entries may have been made by then, and the others weren't made before it
abbrev pub parts_within : Span → List NodeEntry → List NodeEntry → Bool
parts_within span earlier later = list_all (may_be_made_by_then span) earlier && list_all (λ entry. not (is_made_before span entry)) later

-- whether a history parts so that both parts pass a test
abbrev pub some_parting : (List NodeEntry → List NodeEntry → Bool) → List NodeEntry → List NodeEntry → Bool
some_parting test earlier [] = test earlier []
some_parting test earlier (entry ∷ later) = test earlier (entry ∷ later) || some_parting test (earlier ++ entry ∷ []) later

-- whether a history, at some time within a span, has a service that passes a test, or none
abbrev pub at_some_time : Span → (Option Service → Bool) → List NodeEntry → Bool
at_some_time span test history = some_parting (λ earlier later. parts_within span earlier later && test (service earlier)) [] history

-- whether a node need not give a commit up: it doesn't serve, holds on to the commit, or knows none that supersede it
abbrev pub need_not_give_up : Commit → Option Service → Bool
need_not_give_up c None = true
need_not_give_up c (Some serving) = holds_id c.id serving || not (is_superseded c (known_in serving))

-- the same as an incarnation: it serves as another, or need not give it up
abbrev pub need_not_give_up_as : ℕ → Commit → Option Service → Bool
need_not_give_up_as inc c None = true
need_not_give_up_as inc c (Some serving) = not (inc == serving.inc) || need_not_give_up c (Some serving)

-- ---- where a line stands

-- how much of the door's history there was at least behind a turn
abbrev pub moment_behind : Turn → ℕ
moment_behind (AtDoor place act) = suc place
moment_behind (AtNode node before entry) = entry.front
moment_behind (AtOffice before entry) = entry.front

-- how much of it there was at most before a turn
abbrev pub moment_before : Turn → ℕ
moment_before (AtDoor place act) = place
moment_before (AtNode node before entry) = entry.front
moment_before (AtOffice before entry) = entry.front

-- the same behind some turns, and before some
abbrev pub moment_behind_all : List Turn → ℕ
moment_behind_all line = fold (λ before turn. moment_behind turn) 0 line

abbrev pub moment_before_all : List Turn → ℕ
moment_before_all [] = 0
moment_before_all (turn ∷ line) = moment_before turn

-- the turns of a line before a rest of it
abbrev pub turns_before : List Turn → List Turn → List Turn
turns_before rest line = take (length line - length rest) line

-- the span of a line between two rests of it
abbrev pub span_between : By → Option (List By) → List Turn → List Turn → List Turn → Span
span_between by before line begun asked = record { by = by; before = before; from = moment_behind_all (turns_before begun line); till = moment_before_all asked }
