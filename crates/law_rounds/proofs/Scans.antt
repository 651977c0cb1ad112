-- A scan on its way, as its course says it and as its positions do.
use Rattle.std.proofs.Common.{◌≡◌, ◌-◌, ◌++◌, ℕ, Bool, true, false, ◌&&◌, eqb, List, [], ◌∷◌, length, take, refl, sym, ap, ◌∙◌, arith, length-append}
use Rattle.std.specs.Prelude.{Option, Some, None, if◌then◌else◌}
use Rattle.std.specs.Str.{bytes_eq}
use Rattle.aft_keeper.specs.declared.keeper.KeeperAnswer.TheVariants.{Page}
use Rattle.aft_keeper.specs.declared.keeper.KeeperCall.TheVariants.{Scan}
use Rattle.aft_keeper.specs.declared.keeper.Pair.{Pair}
use Rattle.aft_model.specs.declared.caller.Attempt.{Attempt}
use Rattle.aft_model.specs.declared.door.DoorAct.{DoorAct}
use Rattle.aft_model.specs.declared.door.DoorAct.TheVariants.{Call}
use Rattle.aft_model.specs.Membership.{Incarnation, incarnation, same_incarnation}
use Rattle.aft_model.specs.ScanRun.{next_after, page_limit}
use Rattle.aft_lines.specs.Advance.{GoesOn, HasEnded, behind_answer, behind_name, paged_by, place_of, scanned_by}
use Rattle.aft_lines.specs.Advance as advances
use Rattle.aft_lines.specs.BackupCourse.{last_door_place}
use Rattle.aft_lines.specs.Partings.{turns_before}
use Rattle.aft_lines.specs.Progress.{IsOver, Progress, Stopped, has_ended}
use Rattle.aft_lines.specs.ScanCourse.{ScanLimit, Scanned, behind_good_page, scanned_from, stopped_at, stops_at}
use Rattle.aft_lines.specs.Turns.{AtDoor, Turn}
use Rattle.law_courses.proofs.Ends.{led}
use Rattle.law_rounds.specs.Left.{place_before, scan_at}

-- ---- rests of a line

-- a rest of a line: what stands at its end
abbrev pub Suffix : List Turn → List Turn → Type 0
Suffix rest line = (before : List Turn) × (line ≡ before ++ rest)

with_turn : (turn : Turn) (rest line : List Turn) → Suffix rest line → Suffix rest (turn ∷ line)
with_turn turn rest line behind = (turn ∷ behind.0, ap (λ (l : List Turn). turn ∷ l) behind.1)

all_left : (line : List Turn) → Suffix line line
all_left line = ([], refl)

take_front : (before rest : List Turn) → take (length before) (before ++ rest) ≡ before
take_front [] rest = refl
take_front (turn ∷ before) rest = ap (λ (l : List Turn). turn ∷ l) (take_front before rest)

-- the turns before a rest are those that stand before it
pub before_rest : (before rest : List Turn) → turns_before rest (before ++ rest) ≡ before
before_rest before rest =
    let e : length (before ++ rest) - length rest ≡ length before = omega (arith, length-append {A = Turn}) in
    ap (λ (n : ℕ). take n (before ++ rest)) e ∙ take_front before rest

-- behind one turn at the door the last place is its place
place_at : (place here : ℕ) (act : DoorAct) (line : List Turn) → place_before place line (AtDoor here act ∷ line) ≡ here
place_at place here act line = ap (λ (l : List Turn). last_door_place place l) (before_rest (AtDoor here act ∷ []) line)

-- and what comes behind it goes on from there
place_behind : (place here : ℕ) (act : DoorAct) (rest line : List Turn) → Suffix rest line → place_before place rest (AtDoor here act ∷ line) ≡ place_before here rest line
place_behind place here act rest line behind =
    ap (λ (l : List Turn). place_before place rest (AtDoor here act ∷ l)) behind.1
    ∙ ap (λ (l : List Turn). last_door_place place l) (before_rest (AtDoor here act ∷ behind.0) rest)
    ∙ sym (ap (λ (l : List Turn). place_before here rest l) behind.1 ∙ ap (λ (l : List Turn). last_door_place here l) (before_rest behind.0 rest))

-- ---- what a scan consumes

module _ (limit : ScanLimit) (who : Incarnation) (prefix : List ℕ) where
  -- whether a call is the next page's
  abbrev pub is_own : List ℕ → ℕ → ℕ → List ℕ → List ℕ → ℕ → Bool
  is_own after node inc scanned begins most = same_incarnation who (incarnation node inc) && bytes_eq prefix scanned && bytes_eq after begins && eqb most page_limit

  -- what is left of a page's turn: its tests, what was listed with it, and the rest of the run from a name on
  abbrev pub page_left : Bool → Bool → Option (List ℕ) → List Pair → List Pair → Turn → List Turn → Scanned
  page_left own stops next listed more turn line =
      if own then (if stops then stopped_at more line else behind_good_page more next (λ name. scanned_from limit who prefix name more line) line) else stopped_at listed (turn ∷ line)

  pub suffix : (after : List ℕ) (listed : List Pair) (line : List Turn) → Suffix (scanned_from limit who prefix after listed line).behind line
  suffix after listed (AtDoor place (Call node inc (Scan scanned begins most) (Page pairs)) ∷ line) =
      parts (is_own after node inc scanned begins most) (stops_at limit listed pairs) (next_after (record { after = after; listed = pairs })) (λ name. suffix name (listed ++ pairs) line)
    where
      parts : (own stops : Bool) (next : Option (List ℕ)) → ((name : List ℕ) → Suffix (scanned_from limit who prefix name (listed ++ pairs) line).behind line)
          → Suffix (page_left own stops next listed (listed ++ pairs) (AtDoor place (Call node inc (Scan scanned begins most) (Page pairs))) line).behind (AtDoor place (Call node inc (Scan scanned begins most) (Page pairs)) ∷ line)
      parts true true next go_on = with_turn (AtDoor place (Call node inc (Scan scanned begins most) (Page pairs))) line line (all_left line)
      parts true false None go_on = with_turn (AtDoor place (Call node inc (Scan scanned begins most) (Page pairs))) line line (all_left line)
      parts true false (Some name) go_on = with_turn (AtDoor place (Call node inc (Scan scanned begins most) (Page pairs))) (scanned_from limit who prefix name (listed ++ pairs) line).behind line (go_on name)
      parts false stops next go_on = all_left (AtDoor place (Call node inc (Scan scanned begins most) (Page pairs)) ∷ line)
  suffix after listed (AtDoor place (Call node inc (Scan scanned begins most) answer) ∷ line) = parts (is_own after node inc scanned begins most)
    where
      parts : (own : Bool) → Suffix (if own then stopped_at listed line else stopped_at listed (AtDoor place (Call node inc (Scan scanned begins most) answer) ∷ line)).behind (AtDoor place (Call node inc (Scan scanned begins most) answer) ∷ line)
      parts true = with_turn (AtDoor place (Call node inc (Scan scanned begins most) answer)) line line (all_left line)
      parts false = all_left (AtDoor place (Call node inc (Scan scanned begins most) answer) ∷ line)
  suffix after listed line = all_left line

-- ---- a scan's positions

-- a scan whose positions lead on so: a step from them is a page or another turn; and what is left is what is left behind it, at its end and at a turn that is no page
pub record IsScanning (step : Progress → Turn → Option Progress) (over : (turn : Turn) → step IsOver turn ≡ None) (stopped : (a : Attempt) (turn : Turn) → step (Stopped a) turn ≡ None) (limit : ScanLimit) (who : Incarnation) (prefix : List ℕ)
    (then_at : ℕ → advances.Scan → Progress) (otherwise : Turn → Option Progress) (left : ℕ → Scanned → Bool) : Type 0 where
  pub pages : (place : ℕ) (after : List ℕ) (listed : List Pair) (turn : Turn)
      → step (then_at place (GoesOn (scan_at limit who prefix after listed))) turn ≡ paged_by (then_at (place_of turn)) (scanned_by (scan_at limit who prefix after listed) turn) (otherwise turn)
  pub goes_on : (place : ℕ) (after : List ℕ) (listed : List Pair) → has_ended (then_at place (GoesOn (scan_at limit who prefix after listed))) ≡ false
  pub ended : (place : ℕ) (after : List ℕ) (listed : List Pair) (whole : Bool) (line : List Turn)
      → led step over stopped (Some (then_at place (HasEnded whole (scan_at limit who prefix after listed)))) line ≡ left place (record { listed = listed; is_whole = whole; behind = line })
  pub no_turn : (place : ℕ) (listed : List Pair) → left place (stopped_at listed []) ≡ false
  pub other : (place : ℕ) (listed : List Pair) (turn : Turn) (line : List Turn) → led step over stopped (otherwise turn) line ≡ left place (stopped_at listed (turn ∷ line))

module _ (step : Progress → Turn → Option Progress) (over : (turn : Turn) → step IsOver turn ≡ None) (stopped : (a : Attempt) (turn : Turn) → step (Stopped a) turn ≡ None) (limit : ScanLimit) (who : Incarnation) (prefix : List ℕ)
    (then_at : ℕ → advances.Scan → Progress) (otherwise : Turn → Option Progress) (left : ℕ → Scanned → Bool) (is : IsScanning step over stopped limit who prefix then_at otherwise left) where
  abbrev at : Option Progress → List Turn → Bool
  at position line = led step over stopped position line

  -- what is left, with the place of the last page
  abbrev left_with : ℕ → List Turn → Scanned → Bool
  left_with place line pages = left (place_before place pages.behind line) pages

  pub scanning : (place : ℕ) (after : List ℕ) (listed : List Pair) (line : List Turn) → at (Some (then_at place (GoesOn (scan_at limit who prefix after listed)))) line ≡ left_with place line (scanned_from limit who prefix after listed line)
  scanning place after listed [] = is.goes_on place after listed ∙ sym (is.no_turn (place_before place [] []) listed)
  scanning place after listed (AtDoor here (Call node inc (Scan scanned begins most) (Page pairs)) ∷ line) =
      ap (λ (p : Option Progress). at p line) (is.pages place after listed (AtDoor here (Call node inc (Scan scanned begins most) (Page pairs))))
      ∙ parts (is_own limit who prefix after node inc scanned begins most) (stops_at limit listed pairs) (next_after (record { after = after; listed = pairs })) (λ name. scanning here name (listed ++ pairs) line)
    where
      parts : (own stops : Bool) (next : Option (List ℕ))
          → ((name : List ℕ) → at (Some (then_at here (GoesOn (scan_at limit who prefix name (listed ++ pairs))))) line ≡ left_with here line (scanned_from limit who prefix name (listed ++ pairs) line))
          → at (paged_by (then_at here) (if own then (if stops then HasEnded false (scan_at limit who prefix [] (listed ++ pairs)) else behind_name (scan_at limit who prefix after listed) pairs next) ∷ [] else [])
          (otherwise (AtDoor here (Call node inc (Scan scanned begins most) (Page pairs))))) line
          ≡ left_with place (AtDoor here (Call node inc (Scan scanned begins most) (Page pairs)) ∷ line) (page_left limit who prefix own stops next listed (listed ++ pairs) (AtDoor here (Call node inc (Scan scanned begins most) (Page pairs))) line)
      parts true true next go_on =
          is.ended here [] (listed ++ pairs) false line
          ∙ ap (λ (p : ℕ). left p (stopped_at (listed ++ pairs) line)) (sym (place_at place here (Call node inc (Scan scanned begins most) (Page pairs)) line))
      parts true false None go_on =
          is.ended here [] (listed ++ pairs) true line
          ∙ ap (λ (p : ℕ). left p (record { listed = listed ++ pairs; is_whole = true; behind = line })) (sym (place_at place here (Call node inc (Scan scanned begins most) (Page pairs)) line))
      parts true false (Some name) go_on =
          go_on name
          ∙ ap (λ (p : ℕ). left p (scanned_from limit who prefix name (listed ++ pairs) line))
          (sym (place_behind place here (Call node inc (Scan scanned begins most) (Page pairs)) (scanned_from limit who prefix name (listed ++ pairs) line).behind line (suffix limit who prefix name (listed ++ pairs) line)))
      parts false stops next go_on = is.other _ listed (AtDoor here (Call node inc (Scan scanned begins most) (Page pairs))) line
  scanning place after listed (AtDoor here (Call node inc (Scan scanned begins most) answer) ∷ line) =
      ap (λ (p : Option Progress). at p line) (is.pages place after listed (AtDoor here (Call node inc (Scan scanned begins most) answer)))
      ∙ parts (is_own limit who prefix after node inc scanned begins most)
    where
      parts : (own : Bool) → at (paged_by (then_at here) (if own then HasEnded false (scan_at limit who prefix after listed) ∷ [] else []) (otherwise (AtDoor here (Call node inc (Scan scanned begins most) answer)))) line
          ≡ left_with place (AtDoor here (Call node inc (Scan scanned begins most) answer) ∷ line) (if own then stopped_at listed line else stopped_at listed (AtDoor here (Call node inc (Scan scanned begins most) answer) ∷ line))
      parts true =
          is.ended here after listed false line
          ∙ ap (λ (p : ℕ). left p (stopped_at listed line)) (sym (place_at place here (Call node inc (Scan scanned begins most) answer) line))
      parts false = is.other _ listed (AtDoor here (Call node inc (Scan scanned begins most) answer)) line
  scanning place after listed (turn ∷ line) =
      ap (λ (p : Option Progress). at p line) (is.pages place after listed turn) ∙ is.other (place_before place (turn ∷ line) (turn ∷ line)) listed turn line
