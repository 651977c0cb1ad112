-- The opening and the starts bring no copier up.
use Rattle.std.proofs.Common.{Bool, List, [], not, ap, arith, eqb, false, inl, inr, refl, subst, sym, true, ℕ, ◌&&◌, ◌++◌, ◌+◌, ◌<◌, ◌||◌, ◌∙◌, ◌∷◌, ◌≡◌, ◌≤◌, ◌⊎◌}
use Rattle.aft_keeper.specs.declared.keeper.Pair.{Pair}
use Rattle.aft_lines.specs.CourseWords.{is_over}
use Rattle.aft_lines.specs.OpeningCourse.{boot_begins, boot_end_begins, boot_end_course, boot_scan_begins, boot_up_begins, boots_begin, is_boot, opening_begins}
use Rattle.aft_lines.specs.ScanCourse.{ScanLimit, Scanned, behind_good_page, behind_page, names_limit, scanned, scanned_from, stopped_at, stops_at}
use Rattle.aft_lines.specs.Turns.{AtDoor, AtNode, AtOffice, Turn}
use Rattle.aft_model.proofs.OneCommit.{same_who}
use Rattle.aft_model.proofs.Histories.{In, all_at}
use Rattle.aft_model.specs.DoorKnowledge.{opens}
use Rattle.aft_model.specs.Membership.{Incarnation, incarnation, same_incarnation}
use Rattle.aft_model.specs.ScanRun.{next_after, page_limit}
use Rattle.aft_model.specs.Sound.{records_prefix}
use Rattle.aft_model.specs.declared.door.DoorAct.{DoorAct}
use Rattle.aft_model.specs.declared.node.NodeAct.{NodeAct}
use Rattle.aft_model.specs.declared.node.NodeEntry.{NodeEntry}
use Rattle.law_turns.specs.Order.{moments_ascend}
use Rattle.std.proofs.lemmas.Bool.{and_from, and_parts, not-true, false≢true, or_cases, true≢false}
use Rattle.std.specs.List.{fold, list_all}
use Rattle.std.specs.Prelude.{IsFalse, IsTrue, None, Option, Some, if◌then◌else◌}
use Rattle.std.specs.Str.{bytes_eq}
use Rattle.aft_keeper.specs.declared.keeper.KeeperAnswer.{KeeperAnswer}
use Rattle.aft_model.specs.declared.script.Command.TheVariants as commands
use Rattle.aft_model.specs.declared.door.DoorAct.TheVariants as doors
use Rattle.aft_model.specs.declared.node.NodeAct.TheVariants as acts
use Rattle.aft_keeper.specs.declared.keeper.KeeperCall.TheVariants as calls
use Rattle.aft_keeper.specs.declared.keeper.KeeperAnswer.TheVariants as answers
use Rattle.aft_lines.specs.Advance.{GoesOn, HasEnded, Scan, advance, advanced, behind_answer, behind_boot_page, behind_name, boot_paged, booted_by, if_so, leads_to, paged_by, scan_of, started_with, with_page}
use Rattle.aft_lines.specs.BackupCourse.{copier}
use Rattle.aft_lines.specs.CourseWords.{Ends, closes, ends_at_node}
use Rattle.aft_lines.specs.LineCourse.{ends_boot}
use Rattle.aft_lines.specs.Progress.{BootScan, BootScanned, IsOver, MustComeUp, Progress, Scanning, Stopped, has_ended}
use Rattle.law_runs.proofs.Walks.{from_nowhere}
use Rattle.law_runs.proofs.Opening.{head_least, tail_ascends}
use Rattle.law_held.specs.Copies.{comes_low}

abbrev AllLow : List Turn → Type 0
AllLow line = IsTrue (list_all comes_low line)

-- ---- boots of the opening

-- a scan run brings nobody up
module _ (most : ScanLimit) (who : Incarnation) (prefix : List ℕ) where
  pages_low : (after : List ℕ) (listed : List Pair) (line : List Turn) → AllLow (scanned_from most who prefix after listed line).behind → AllLow line
  pages_low after listed (AtDoor place (doors.Call node inc (calls.Scan scan begins limit) (answers.Page pairs)) ∷ line) low =
      cases (same_incarnation who (incarnation node inc) && bytes_eq prefix scan && bytes_eq after begins && eqb limit page_limit) (λ next. pages_low next (listed ++ pairs) line) low
    where
      goes : ((next : List ℕ) → AllLow (scanned_from most who prefix next (listed ++ pairs) line).behind → AllLow line) → (next : Option (List ℕ)) → AllLow (behind_good_page (listed ++ pairs) next (λ n. scanned_from most who prefix n (listed ++ pairs) line) line).behind → AllLow line
      goes rest None so = so
      goes rest (Some next) so = rest next so

      stops : ((next : List ℕ) → AllLow (scanned_from most who prefix next (listed ++ pairs) line).behind → AllLow line) → (stop : Bool) (next : Option (List ℕ)) → AllLow (if stop then stopped_at (listed ++ pairs) line else behind_good_page (listed ++ pairs) next (λ n. scanned_from most who prefix n (listed ++ pairs) line) line).behind → AllLow line
      stops rest true next so = so
      stops rest false next so = goes rest next so

      cases : (own : Bool) → ((next : List ℕ) → AllLow (scanned_from most who prefix next (listed ++ pairs) line).behind → AllLow line) → AllLow (if own then behind_page most listed pairs (next_after (record { after = after; listed = pairs })) (λ n. scanned_from most who prefix n (listed ++ pairs) line) line else stopped_at listed (AtDoor place (doors.Call node inc (calls.Scan scan begins limit) (answers.Page pairs)) ∷ line)).behind
          → AllLow (AtDoor place (doors.Call node inc (calls.Scan scan begins limit) (answers.Page pairs)) ∷ line)
      cases true rest so = stops rest (stops_at most listed pairs) (next_after (record { after = after; listed = pairs })) so
      cases false rest so = so
  pages_low after listed (AtDoor place (doors.Call node inc (calls.Scan scan begins limit) answer) ∷ line) low =
      cases (same_incarnation who (incarnation node inc) && bytes_eq prefix scan && bytes_eq after begins && eqb limit page_limit) low
    where
      cases : (own : Bool) → AllLow (if own then stopped_at listed line else stopped_at listed (AtDoor place (doors.Call node inc (calls.Scan scan begins limit) answer) ∷ line)).behind → AllLow (AtDoor place (doors.Call node inc (calls.Scan scan begins limit) answer) ∷ line)
      cases true so = so
      cases false so = so
  pages_low after listed line low = low

over_low : (line : List Turn) → IsTrue (is_over line) → AllLow line
over_low [] is = refl
over_low (turn ∷ line) is = absurd (false≢true is)

module _ (go_on : List Turn → Bool) (rest : (line : List Turn) → IsTrue (go_on line) → AllLow line) where
  served_low : (who : Incarnation) (line : List Turn) → IsTrue (boot_end_course who go_on line) → AllLow line
  served_low who (AtNode node before entry ∷ line) is = rest line (and_parts (eqb node who.node && is_boot who.inc entry.act) (go_on line) is).1
  served_low who line is = absurd (false≢true is)

  scan_low : (who : Incarnation) (line : List Turn) → IsTrue (boot_scan_begins who go_on (scanned names_limit who records_prefix line)) → AllLow line
  scan_low who line is = pages_low names_limit who records_prefix [] [] line (cases (scanned names_limit who records_prefix line) is)
    where
      ended : (left : List Turn) → IsTrue (is_over left || boot_end_course who go_on left) → AllLow left
      ended left is' = elim (or_cases (is_over left) (boot_end_course who go_on left) is') [ inl over ↦ over_low left over | inr served ↦ served_low who left served ]

      by_whole : (whole : Bool) (left : List Turn) → IsTrue (if whole then boot_end_begins who go_on left else is_over left) → AllLow left
      by_whole true left is' = ended left is'
      by_whole false left is' = over_low left is'

      cases : (pages : Scanned) → IsTrue (boot_scan_begins who go_on pages) → AllLow pages.behind
      cases pages is' = by_whole pages.is_whole pages.behind is'

  up_low : (who : Incarnation) (line : List Turn) → IsFalse (eqb who.node copier) → IsTrue (boot_up_begins who go_on line) → AllLow line
  up_low who [] low is = refl
  up_low who (AtDoor place (doors.Up node inc) ∷ line) low is =
      let parts = and_parts (same_incarnation who (incarnation node inc)) (boot_scan_begins who go_on (scanned names_limit who records_prefix line)) is in
      and_from (not (eqb node copier)) (list_all comes_low line) (ap not (subst (λ (w : Incarnation). IsFalse (eqb w.node copier)) (same_who who (incarnation node inc) parts.0) low)) (scan_low who line parts.1)
  up_low who line low is = absurd (false≢true is)

  boot_low : (node : ℕ) (act : NodeAct) (line : List Turn) → IsFalse (eqb node copier) → IsTrue (boot_begins node go_on act line) → AllLow line
  boot_low node (acts.Booting inc) line low is = up_low (incarnation node inc) line low is
  boot_low node act line low is = absurd (false≢true is)

boots_low : (nodes : List ℕ) (line : List Turn) → IsTrue (list_all (λ (n : ℕ). not (eqb n copier)) nodes) → IsTrue (boots_begin nodes line) → AllLow line
boots_low [] [] low is = refl
boots_low (node ∷ nodes) [] low is = refl
boots_low (node ∷ nodes) (AtNode at before entry ∷ line) low is =
    let parts = and_parts (not (eqb node copier)) (list_all (λ (n : ℕ). not (eqb n copier)) nodes) low in
    boot_low (boots_begin nodes) (λ l so. boots_low nodes l parts.1 so) node entry.act line (not-true (eqb node copier) parts.0) (and_parts (eqb node at) (boot_begins node (boots_begin nodes) entry.act line) is).1
boots_low nodes line low is = absurd (false≢true is)

-- whoever comes up behind the opening of the door is no copier
pub begins_low : (nodes : List ℕ) (line : List Turn) → IsTrue (list_all (λ (n : ℕ). not (eqb n copier)) nodes) → IsTrue (moments_ascend line) → IsTrue (opening_begins nodes line) → (q p m j : ℕ) → In (AtDoor q doors.Opened) line → In (AtDoor p (doors.Up m j)) line → q < p → IsFalse (eqb m copier)
begins_low nodes [] low up is q p m j opened comes less = absurd opened
begins_low nodes (AtDoor place act ∷ line) low up is q p m j opened comes less =
    cases (opens act) refl is opened comes (λ so there later. begins_low nodes line low (tail_ascends (AtDoor place act) line up) so q p m j there later less)
  where
    act_in : Turn → DoorAct
    act_in (AtDoor n a) = a
    act_in turn = doors.Opened

    place_in : Turn → ℕ
    place_in (AtDoor n a) = n
    place_in turn = 0

    cases : (b : Bool) → opens act ≡ b → IsTrue (if b then boots_begin nodes line else opening_begins nodes line) → In (AtDoor q doors.Opened) (AtDoor place act ∷ line) → In (AtDoor p (doors.Up m j)) (AtDoor place act ∷ line)
        → (IsTrue (opening_begins nodes line) → In (AtDoor q doors.Opened) line → In (AtDoor p (doors.Up m j)) line → IsFalse (eqb m copier)) → IsFalse (eqb m copier)
    cases true at so there (inl e) rest = absurd (false≢true (ap (λ (t : Turn). opens (act_in t)) e ∙ at))
    cases true at so there (inr later) rest = not-true (eqb m copier) (all_at comes_low (AtDoor p (doors.Up m j)) line later (boots_low nodes line low so))
    cases false at so (inl e) later rest = absurd (true≢false (ap (λ (t : Turn). opens (act_in t)) e ∙ at))
    cases false at so (inr there) (inl e) rest =
        (let same : p ≡ place = ap place_in e in
        let least : place + place + 1 ≤ q + q + 1 = head_least (AtDoor place act) line up (AtDoor q doors.Opened) there in
        absurd (omega arith))
    cases false at so (inr there) (inr later) rest = rest so there later
begins_low nodes line low up is q p m j opened comes less = absurd (false≢true is)

-- ---- starts

-- the incarnation that a start is to bring up, or has
abbrev pub starts_at : Progress → Option Incarnation
starts_at (MustComeUp who) = Some who
starts_at (BootScan scan) = Some scan.who
starts_at (BootScanned who whole) = Some who
starts_at position = None

-- whether whoever comes up by a turn is this one
abbrev pub as_up : Incarnation → Turn → Bool
as_up who (AtDoor place (doors.Up node inc)) = same_incarnation who (incarnation node inc)
as_up who turn = true

-- behind a turn it goes on with this incarnation, or the line is over
abbrev OnIf : Incarnation → Turn → Option Progress → Type 0
OnIf who turn None = Unit {0}
OnIf who turn (Some q) = IsTrue (as_up who turn) × ((starts_at q ≡ Some who) ⊎ IsTrue (has_ended q))

module _ (ends : Ends) where
  booted_on : (w who : Incarnation) (whole : Bool) (turn : Turn) → OnIf w turn (booted_by ends who whole turn)
  booted_on w who whole (AtNode at before entry) = cases (ends_at_node who.node (closes ends who.inc (ends_boot who.inc whole)) (AtNode at before entry ∷ []))
    where
      cases : (b : Bool) → OnIf w (AtNode at before entry) (if_so b IsOver)
      cases true = (refl, inr refl)
      cases false = tt
  booted_on w who whole (AtDoor place act) = tt
  booted_on w who whole (AtOffice before entry) = tt

  -- a page's scan is by the same caller
  abbrev caller_in : Scan → Incarnation
  caller_in (GoesOn scan) = scan.who
  caller_in (HasEnded whole scan) = scan.who

  name_on : (scan : Scanning) (pairs : List Pair) (next : Option (List ℕ)) → caller_in (behind_name scan pairs next) ≡ scan.who
  name_on scan pairs None = refl
  name_on scan pairs (Some next) = refl

  answer_on : (scan : Scanning) (answer : KeeperAnswer) → caller_in (behind_answer scan answer) ≡ scan.who
  answer_on scan (answers.Page pairs) = cases (stops_at scan.limit scan.listed pairs) (next_after (record { after = scan.after; listed = pairs }))
    where
      cases : (b : Bool) (next : Option (List ℕ)) → caller_in (if b then HasEnded false (with_page scan [] pairs) else behind_name scan pairs next) ≡ scan.who
      cases true next = refl
      cases false next = name_on scan pairs next
  answer_on scan answer = refl

  page_on : (scan : Scan) → starts_at (behind_boot_page scan) ≡ Some (caller_in scan)
  page_on (GoesOn scan) = refl
  page_on (HasEnded whole scan) = refl

  paged_on : (w : Incarnation) (scan : Scanning) (turn : Turn) → scan.who ≡ w → OnIf w turn (boot_paged ends scan turn)
  paged_on w scan (AtDoor place (doors.Call at inc (calls.Scan prefix after limit) answer)) is = cases (same_incarnation scan.who (incarnation at inc) && bytes_eq scan.prefix prefix && bytes_eq scan.after after && eqb limit page_limit)
    where
      cases : (b : Bool) → OnIf w (AtDoor place (doors.Call at inc (calls.Scan prefix after limit) answer)) (paged_by behind_boot_page (if b then behind_answer scan answer ∷ [] else []) (booted_by ends scan.who false (AtDoor place (doors.Call at inc (calls.Scan prefix after limit) answer))))
      cases true = (refl, inl (page_on (behind_answer scan answer) ∙ ap (λ (x : Incarnation). Some x) (answer_on scan answer ∙ is)))
      cases false = tt
  paged_on w scan turn is = booted_on w scan.who false turn

  come_up_on : (home : ℕ) (nodes : List ℕ) (w : Incarnation) (turn : Turn) → OnIf w turn (advance (commands.Start home) nodes ends (MustComeUp w) turn)
  come_up_on home nodes w (AtDoor place (doors.Up at inc)) = cases (same_incarnation w (incarnation at inc)) refl
    where
      cases : (b : Bool) → same_incarnation w (incarnation at inc) ≡ b → OnIf w (AtDoor place (doors.Up at inc)) (if_so b (BootScan (scan_of names_limit w records_prefix)))
      cases true same = (same, inl refl)
      cases false other = tt
  come_up_on home nodes w turn = paged_on w (scan_of names_limit w records_prefix) turn refl

  inside : (x y : Incarnation) → Some x ≡ Some y → x ≡ y
  inside x y e = cc

  start_on : (home : ℕ) (nodes : List ℕ) (w : Incarnation) (position : Progress) (turn : Turn) → starts_at position ≡ Some w → OnIf w turn (advance (commands.Start home) nodes ends position turn)
  start_on home nodes w (MustComeUp one) turn at = subst (λ (x : Incarnation). OnIf w turn (advance (commands.Start home) nodes ends (MustComeUp x) turn)) (sym (inside one w at)) (come_up_on home nodes w turn)
  start_on home nodes w (BootScan scan) turn at = paged_on w scan turn (inside scan.who w at)
  start_on home nodes w (BootScanned one whole) turn at = booted_on w one whole turn
  start_on home nodes w position turn at = absurd (let e : None ≡ Some w = at in cc)

  ended_none : (home : ℕ) (nodes : List ℕ) (position : Progress) (turn : Turn) → IsTrue (has_ended position) → advance (commands.Start home) nodes ends position turn ≡ None
  ended_none home nodes IsOver turn is = refl
  ended_none home nodes (Stopped a) turn is = refl
  ended_none home nodes position turn is = absurd (false≢true is)

  module _ (home : ℕ) (nodes : List ℕ) where
    abbrev go : Progress → Turn → Option Progress
    go = advance (commands.Start home) nodes ends

    -- what its later turns bring up, and where they lead
    walk_as : (w : Incarnation) (line : List Turn) (position p : Progress) → (starts_at position ≡ Some w) ⊎ IsTrue (has_ended position) → fold (advanced go) (Some position) line ≡ Some p → IsTrue (list_all (as_up w) line) × ((starts_at p ≡ Some w) ⊎ IsTrue (has_ended p))
    walk_as w [] position p on e = (refl, subst (λ (x : Progress). (starts_at x ≡ Some w) ⊎ IsTrue (has_ended x)) (same_inside position p e) on)
      where
        same_inside : (x y : Progress) → Some x ≡ Some y → x ≡ y
        same_inside x y s = cc
    walk_as w (turn ∷ line) position p (inr over) e = absurd (from_nowhere go line p (subst (λ (o : Option Progress). fold (advanced go) o line ≡ Some p) (ended_none home nodes position turn over) e))
    walk_as w (turn ∷ line) position p (inl on) e = next (go position turn) (start_on home nodes w position turn on) (λ q so e'. walk_as w line q p so e') e
      where
        next : (o : Option Progress) → OnIf w turn o → ((q : Progress) → (starts_at q ≡ Some w) ⊎ IsTrue (has_ended q) → fold (advanced go) (Some q) line ≡ Some p → IsTrue (list_all (as_up w) line) × ((starts_at p ≡ Some w) ⊎ IsTrue (has_ended p))) → fold (advanced go) o line ≡ Some p
            → IsTrue (list_all (as_up w) (turn ∷ line)) × ((starts_at p ≡ Some w) ⊎ IsTrue (has_ended p))
        next None so rest e' = absurd (from_nowhere go line p e')
        next (Some q) so rest e' = (let more = rest q so.1 e' in (and_from (as_up w turn) (list_all (as_up w) line) so.0 more.0, more.1))

    over_alone : (line : List Turn) (p : Progress) → fold (advanced go) (Some IsOver) line ≡ Some p → (line ≡ []) × IsTrue (has_ended p)
    over_alone [] p e = (refl, subst (λ (x : Progress). IsTrue (has_ended x)) (over_is p e) refl)
      where
        over_is : (x : Progress) → Some IsOver ≡ Some x → IsOver ≡ x
        over_is x s = cc
    over_alone (turn ∷ line) p e = absurd (from_nowhere go line p e)

    -- its first turn begins to boot an incarnation, which alone it brings up; or it is over
    pub start_first : (at : ℕ) (history : List NodeEntry) (entry : NodeEntry) (line : List Turn) (p : Progress) → leads_to (commands.Start home) nodes ends (AtNode at history entry ∷ line) ≡ Some p
        → ((inc : ℕ) × (entry.act ≡ acts.Booting inc) × IsTrue (list_all (as_up (incarnation at inc)) line) × ((starts_at p ≡ Some (incarnation at inc)) ⊎ IsTrue (has_ended p))) ⊎ (line ≡ []) × IsTrue (has_ended p)
    start_first at history entry line p e = by_act entry.act refl e
      where
        by_act : (act : NodeAct) → entry.act ≡ act → fold (advanced go) (started_with at act) line ≡ Some p → ((inc : ℕ) × (entry.act ≡ acts.Booting inc) × IsTrue (list_all (as_up (incarnation at inc)) line) × ((starts_at p ≡ Some (incarnation at inc)) ⊎ IsTrue (has_ended p))) ⊎ (line ≡ []) × IsTrue (has_ended p)
        by_act acts.Nothing its e' = inr (over_alone line p e')
        by_act (acts.Booting inc) its e' = (let walked = walk_as (incarnation at inc) line (MustComeUp (incarnation at inc)) p (inl refl) e' in inl (inc, its, walked.0, walked.1))
        by_act act its e' = absurd (from_nowhere go line p e')

    as_low : (w : Incarnation) (line : List Turn) → IsFalse (eqb w.node copier) → IsTrue (list_all (as_up w) line) → AllLow line
    as_low w [] low all = refl
    as_low w (turn ∷ line) low all =
        let parts = and_parts (as_up w turn) (list_all (as_up w) line) all in
        and_from (comes_low turn) (list_all comes_low line) (here turn parts.0) (as_low w line low parts.1)
      where
        here : (t : Turn) → IsTrue (as_up w t) → IsTrue (comes_low t)
        here (AtDoor place (doors.Up node inc)) is = ap not (subst (λ (x : Incarnation). IsFalse (eqb x.node copier)) (same_who w (incarnation node inc) is) low)
        here t is = refl

    -- a start brings no copier up, if its first turn is at another node
    pub start_low : (line : List Turn) (p : Progress) → leads_to (commands.Start home) nodes ends line ≡ Some p → ((at : ℕ) (history : List NodeEntry) (entry : NodeEntry) → In (AtNode at history entry) line → IsFalse (eqb at copier)) → AllLow line
    start_low [] p e nodes_low = refl
    start_low (AtDoor place act ∷ line) p e nodes_low = absurd (from_nowhere go line p e)
    start_low (AtOffice history entry ∷ line) p e nodes_low = absurd (from_nowhere go line p e)
    start_low (AtNode at history entry ∷ line) p e nodes_low = elim (start_first at history entry line p e) [
      | inr over ↦ subst AllLow (sym over.0) refl
      | inl boot ↦ as_low (incarnation at boot.0) line (nodes_low at history entry (inl refl)) boot.2
    ]
