-- The turns of a scan run, and of an opening that was refused, only read.
use Rattle.std.proofs.Common.{Bool, List, [], eqb, false, inl, inr, refl, true, ℕ, ◌&&◌, ◌++◌, ◌∷◌}
use Rattle.std.specs.Prelude.{IsTrue, None, Option, Some, if◌then◌else◌}
use Rattle.std.specs.List.{list_all}
use Rattle.std.specs.Str.{bytes_eq}
use Rattle.std.proofs.lemmas.Bool.{and_parts, false≢true, or_cases}
use Rattle.aft_keeper.specs.declared.keeper.Pair.{Pair}
use Rattle.aft_model.specs.Membership.{Incarnation, incarnation, same_incarnation}
use Rattle.aft_model.specs.ScanRun.{next_after, page_limit}
use Rattle.aft_model.specs.Sound.{records_prefix}
use Rattle.aft_lines.specs.CourseWords.{is_over}
use Rattle.aft_lines.specs.OpeningCourse.{boot_scan_so_far, boots_so_far}
use Rattle.aft_lines.specs.ScanCourse.{ScanLimit, Scanned, behind_good_page, behind_page, names_limit, scanned, scanned_from, stopped_at, stops_at}
use Rattle.aft_lines.specs.Turns.{AtDoor, Turn}
use Rattle.law_runs.proofs.Reading.{reads_alone}
use Rattle.aft_model.specs.declared.door.DoorAct.TheVariants as doors
use Rattle.aft_keeper.specs.declared.keeper.KeeperCall.TheVariants as calls
use Rattle.aft_keeper.specs.declared.keeper.KeeperAnswer.TheVariants as answers

abbrev pub AllRead : List Turn → Type 0
AllRead line = IsTrue (list_all reads_alone line)

-- a scan run that reads behind its pages reads all along
module _ (most : ScanLimit) (who : Incarnation) (prefix : List ℕ) where
  pages_read : (after : List ℕ) (listed : List Pair) (line : List Turn) → AllRead (scanned_from most who prefix after listed line).behind → AllRead line
  pages_read after listed (AtDoor place (doors.Call node inc (calls.Scan scan begins limit) (answers.Page pairs)) ∷ line) read =
      cases (same_incarnation who (incarnation node inc) && bytes_eq prefix scan && bytes_eq after begins && eqb limit page_limit) (λ next. pages_read next (listed ++ pairs) line) read
    where
      goes : ((next : List ℕ) → AllRead (scanned_from most who prefix next (listed ++ pairs) line).behind → AllRead line) → (next : Option (List ℕ)) → AllRead (behind_good_page (listed ++ pairs) next (λ n. scanned_from most who prefix n (listed ++ pairs) line) line).behind → AllRead line
      goes rest None read' = read'
      goes rest (Some next) read' = rest next read'

      stops : ((next : List ℕ) → AllRead (scanned_from most who prefix next (listed ++ pairs) line).behind → AllRead line) → (stop : Bool) (next : Option (List ℕ)) → AllRead (if stop then stopped_at (listed ++ pairs) line else behind_good_page (listed ++ pairs) next (λ n. scanned_from most who prefix n (listed ++ pairs) line) line).behind → AllRead line
      stops rest true next read' = read'
      stops rest false next read' = goes rest next read'

      cases : (own : Bool) → ((next : List ℕ) → AllRead (scanned_from most who prefix next (listed ++ pairs) line).behind → AllRead line) → AllRead (if own then behind_page most listed pairs (next_after (record { after = after; listed = pairs })) (λ n. scanned_from most who prefix n (listed ++ pairs) line) line else stopped_at listed (AtDoor place (doors.Call node inc (calls.Scan scan begins limit) (answers.Page pairs)) ∷ line)).behind
          → AllRead (AtDoor place (doors.Call node inc (calls.Scan scan begins limit) (answers.Page pairs)) ∷ line)
      cases true rest read' = stops rest (stops_at most listed pairs) (next_after (record { after = after; listed = pairs })) read'
      cases false rest read' = read'
  pages_read after listed (AtDoor place (doors.Call node inc (calls.Scan scan begins limit) answer) ∷ line) read =
      cases (same_incarnation who (incarnation node inc) && bytes_eq prefix scan && bytes_eq after begins && eqb limit page_limit) read
    where
      cases : (own : Bool) → AllRead (if own then stopped_at listed line else stopped_at listed (AtDoor place (doors.Call node inc (calls.Scan scan begins limit) answer) ∷ line)).behind → AllRead (AtDoor place (doors.Call node inc (calls.Scan scan begins limit) answer) ∷ line)
      cases true read' = read'
      cases false read' = read'
  pages_read after listed line read = read

over_read : (line : List Turn) → IsTrue (is_over line) → AllRead line
over_read [] is = refl
over_read (turn ∷ line) is = absurd (false≢true is)

behind_scan : (go_on : List Turn → Bool) → ((line : List Turn) → IsTrue (go_on line) → AllRead line) → (pages : Scanned) → IsTrue (boot_scan_so_far go_on pages) → AllRead pages.behind
behind_scan go_on rest pages is = elim (or_cases (is_over pages.behind) (pages.is_whole && go_on pages.behind) is) [
  | inl over ↦ over_read pages.behind over
  | inr more ↦ rest pages.behind (and_parts pages.is_whole (go_on pages.behind) more).1
]

pub boots_read : (nodes : List ℕ) (line : List Turn) → IsTrue (boots_so_far nodes line) → AllRead line
boots_read [] [] is = refl
boots_read (node ∷ nodes) [] is = refl
boots_read (node ∷ nodes) (AtDoor place (doors.Up at inc) ∷ line) is =
    pages_read names_limit (incarnation node inc) records_prefix [] [] line
    (behind_scan (boots_so_far nodes) (boots_read nodes) (scanned names_limit (incarnation node inc) records_prefix line) (and_parts (eqb node at && eqb inc 1) (boot_scan_so_far (boots_so_far nodes) (scanned names_limit (incarnation node inc) records_prefix line)) is).1)
boots_read nodes line is = absurd (false≢true is)
