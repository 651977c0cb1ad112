-- The turns of the opening, as far as it is on its way, only read and boot.
use Rattle.std.proofs.Common.{Bool, List, [], ap, append_assoc, arith, eqb, false, inl, inr, leb, length, length-append, refl, subst, suc, sym, true, ℕ, ◌&&◌, ◌++◌, ◌+◌, ◌<◌, ◌||◌, ◌∙◌, ◌∷◌, ◌≡◌, ◌≤◌, ◌⊎◌}
use Rattle.aft_keeper.specs.declared.keeper.Pair.{Pair}
use Rattle.aft_lines.specs.CourseWords.{is_over}
use Rattle.aft_lines.specs.OpeningCourse.{boot_begins, boot_end_begins, boot_end_course, boot_scan_begins, boot_up_begins, boots_begin, is_boot, opening_begins}
use Rattle.aft_lines.specs.ScanCourse.{ScanLimit, Scanned, behind_good_page, behind_page, names_limit, scanned, scanned_from, stopped_at, stops_at}
use Rattle.aft_lines.specs.Turns.{AtDoor, AtNode, AtOffice, Turn, door_turns, moment, node_turns, nodes_turns, office_turns, turns}
use Rattle.aft_model.proofs.Histories.{In, any_found, any_from, each_after_kept, each_after_split, in_append, in_back, in_front}
use Rattle.aft_model.specs.DoorKnowledge.{is_open, opens}
use Rattle.aft_model.specs.History.{each_after}
use Rattle.aft_model.specs.LegalDoor.{Legal, is_answered, is_legal, may_come, may_follow}
use Rattle.aft_model.specs.Membership.{Incarnation, incarnation, same_incarnation}
use Rattle.aft_model.specs.Opening.{may_open, may_read, opening}
use Rattle.aft_model.specs.ScanRun.{next_after, page_limit, same_line}
use Rattle.aft_model.specs.Sound.{records_prefix}
use Rattle.aft_model.specs.declared.caller.By.{By}
use Rattle.aft_model.specs.declared.door.DoorAct.{DoorAct}
use Rattle.aft_model.specs.declared.door.DoorEntry.{DoorEntry}
use Rattle.aft_model.specs.declared.node.NodeAct.{NodeAct}
use Rattle.aft_model.specs.declared.node.NodeEntry.{NodeEntry}
use Rattle.aft_model.specs.declared.office.OfficeEntry.{OfficeEntry}
use Rattle.aft_model.specs.declared.trace.Trace.{Trace}
use Rattle.law_runs.proofs.Members.{in_turns, turns_in}
use Rattle.law_runs.proofs.Reading.{is_of_boot, may_read_alone, reads_alone}
use Rattle.law_steps.specs.OneList.{entries_of}
use Rattle.law_turns.proofs.Sorting.{sorted_ascends}
use Rattle.law_turns.specs.Order.{moments_ascend}
use Rattle.std.proofs.lemmas.Bool.{and_from, and_parts, false≢true, leb-true, or_cases, true≢false}
use Rattle.std.specs.List.{list_all}
use Rattle.std.specs.Prelude.{IsFalse, IsTrue, None, Option, Some, if◌then◌else◌}
use Rattle.std.specs.Str.{bytes_eq}
use Rattle.aft_model.specs.declared.door.DoorAct.TheVariants as doors
use Rattle.aft_model.specs.declared.node.NodeAct.TheVariants as acts
use Rattle.aft_keeper.specs.declared.keeper.KeeperCall.TheVariants as calls
use Rattle.aft_keeper.specs.declared.keeper.KeeperAnswer.TheVariants as answers

abbrev AllRead : List Turn → Type 0
AllRead line = IsTrue (list_all reads_alone line)

-- ---- boots

-- a scan run that reads behind its pages reads all along
module _ (most : ScanLimit) (who : Incarnation) (prefix : List ℕ) where
  pages_read : (after : List ℕ) (listed : List Pair) (line : List Turn) → AllRead (scanned_from most who prefix after listed line).behind → AllRead line
  pages_read after listed (AtDoor place (doors.Call node inc (calls.Scan scan begins limit) (answers.Page pairs)) ∷ line) read =
      cases (same_incarnation who (incarnation node inc) && bytes_eq prefix scan && bytes_eq after begins && eqb limit page_limit) (λ next. pages_read next (listed ++ pairs) line) read
    where
      goes : ((next : List ℕ) → AllRead (scanned_from most who prefix next (listed ++ pairs) line).behind → AllRead line) → (next : Option (List ℕ)) → AllRead (behind_good_page (listed ++ pairs) next (λ n. scanned_from most who prefix n (listed ++ pairs) line) line).behind → AllRead line
      goes rest None read' = read'
      goes rest (Some next) read' = rest next read'

      stops : ((next : List ℕ) → AllRead (scanned_from most who prefix next (listed ++ pairs) line).behind → AllRead line) → (stop : Bool) (next : Option (List ℕ)) → AllRead (if stop then stopped_at (listed ++ pairs) line else behind_good_page (listed ++ pairs) next (λ n. scanned_from most who prefix n (listed ++ pairs) line) line).behind → AllRead line
      stops rest true next read' = read'
      stops rest false next read' = goes rest next read'

      cases : (own : Bool) → ((next : List ℕ) → AllRead (scanned_from most who prefix next (listed ++ pairs) line).behind → AllRead line) → AllRead (if own then behind_page most listed pairs (next_after (record { after = after; listed = pairs })) (λ n. scanned_from most who prefix n (listed ++ pairs) line) line else stopped_at listed (AtDoor place (doors.Call node inc (calls.Scan scan begins limit) (answers.Page pairs)) ∷ line)).behind
          → AllRead (AtDoor place (doors.Call node inc (calls.Scan scan begins limit) (answers.Page pairs)) ∷ line)
      cases true rest read' = stops rest (stops_at most listed pairs) (next_after (record { after = after; listed = pairs })) read'
      cases false rest read' = read'
  pages_read after listed (AtDoor place (doors.Call node inc (calls.Scan scan begins limit) answer) ∷ line) read =
      cases (same_incarnation who (incarnation node inc) && bytes_eq prefix scan && bytes_eq after begins && eqb limit page_limit) read
    where
      cases : (own : Bool) → AllRead (if own then stopped_at listed line else stopped_at listed (AtDoor place (doors.Call node inc (calls.Scan scan begins limit) answer) ∷ line)).behind → AllRead (AtDoor place (doors.Call node inc (calls.Scan scan begins limit) answer) ∷ line)
      cases true read' = read'
      cases false read' = read'
  pages_read after listed line read = read

over_read : (line : List Turn) → IsTrue (is_over line) → AllRead line
over_read [] is = refl
over_read (turn ∷ line) is = absurd (false≢true is)

module _ (go_on : List Turn → Bool) (rest : (line : List Turn) → IsTrue (go_on line) → AllRead line) where
  served_read : (who : Incarnation) (line : List Turn) → IsTrue (boot_end_course who go_on line) → AllRead line
  served_read who (AtNode node before entry ∷ line) is =
      let parts = and_parts (eqb node who.node && is_boot who.inc entry.act) (go_on line) is in
      and_from (is_of_boot entry.act) (list_all reads_alone line) (boots entry.act (and_parts (eqb node who.node) (is_boot who.inc entry.act) parts.0).1) (rest line parts.1)
    where
      boots : (act : NodeAct) → IsTrue (is_boot who.inc act) → IsTrue (is_of_boot act)
      boots (acts.Boot inc commits) it = refl
      boots act it = absurd (false≢true it)
  served_read who line is = absurd (false≢true is)

  scan_read : (who : Incarnation) (line : List Turn) → IsTrue (boot_scan_begins who go_on (scanned names_limit who records_prefix line)) → AllRead line
  scan_read who line is = pages_read names_limit who records_prefix [] [] line (cases (scanned names_limit who records_prefix line) is)
    where
      ended : (left : List Turn) → IsTrue (is_over left || boot_end_course who go_on left) → AllRead left
      ended left is' = elim (or_cases (is_over left) (boot_end_course who go_on left) is') [ inl over ↦ over_read left over | inr served ↦ served_read who left served ]

      by_whole : (whole : Bool) (left : List Turn) → IsTrue (if whole then boot_end_begins who go_on left else is_over left) → AllRead left
      by_whole true left is' = ended left is'
      by_whole false left is' = over_read left is'

      cases : (pages : Scanned) → IsTrue (boot_scan_begins who go_on pages) → AllRead pages.behind
      cases pages is' = by_whole pages.is_whole pages.behind is'

  up_read : (who : Incarnation) (line : List Turn) → IsTrue (boot_up_begins who go_on line) → AllRead line
  up_read who [] is = refl
  up_read who (AtDoor place (doors.Up node inc) ∷ line) is = scan_read who line (and_parts (same_incarnation who (incarnation node inc)) (boot_scan_begins who go_on (scanned names_limit who records_prefix line)) is).1
  up_read who line is = absurd (false≢true is)

  boot_read : (node : ℕ) (act : NodeAct) (line : List Turn) → IsTrue (boot_begins node go_on act line) → IsTrue (is_of_boot act) × AllRead line
  boot_read node (acts.Booting inc) line is = (refl, up_read (incarnation node inc) line is)
  boot_read node act line is = absurd (false≢true is)

boots_read : (nodes : List ℕ) (line : List Turn) → IsTrue (boots_begin nodes line) → AllRead line
boots_read [] [] is = refl
boots_read (node ∷ nodes) [] is = refl
boots_read (node ∷ nodes) (AtNode at before entry ∷ line) is =
    let both = boot_read (boots_begin nodes) (boots_read nodes) node entry.act line (and_parts (eqb node at) (boot_begins node (boots_begin nodes) entry.act line) is).1 in
    and_from (is_of_boot entry.act) (list_all reads_alone line) both.0 both.1
boots_read nodes line is = absurd (false≢true is)

-- ---- what comes before the door is open

-- the door is opened by the line at an earlier place
abbrev OpenedBefore : ℕ → List Turn → Type 0
OpenedBefore place line = (p : ℕ) × (p < place) × In (AtDoor p doors.Opened) line

pub tail_ascends : (turn : Turn) (line : List Turn) → IsTrue (moments_ascend (turn ∷ line)) → IsTrue (moments_ascend line)
tail_ascends turn [] up = refl
tail_ascends turn (next ∷ line) up = (and_parts (leb (moment turn) (moment next)) (moments_ascend (next ∷ line)) up).1

pub head_least : (turn : Turn) (line : List Turn) → IsTrue (moments_ascend (turn ∷ line)) → (x : Turn) → In x line → moment turn ≤ moment x
head_least turn [] up x among = absurd among
head_least turn (next ∷ line) up x among = cases (λ later. head_least next line (tail_ascends turn (next ∷ line) up) x later) among
  where
    first : moment turn ≤ moment next
    first = leb-true (moment turn) (moment next) (and_parts (leb (moment turn) (moment next)) (moments_ascend (next ∷ line)) up).0

    cases : (In x line → moment next ≤ moment x) → In x (next ∷ line) → moment turn ≤ moment x
    cases rest (inl is) = subst (λ (t : Turn). moment turn ≤ moment t) (sym is) first
    cases rest (inr later) = (let more = rest later in let begins = first in omega arith)

begins_read : (nodes : List ℕ) (line : List Turn) → IsTrue (moments_ascend line) → ((place : ℕ) (act : DoorAct) → In (AtDoor place act) line → IsTrue (reads_alone (AtDoor place act)) ⊎ OpenedBefore place line) → IsTrue (opening_begins nodes line) → AllRead line
begins_read nodes [] up each is = refl
begins_read nodes (AtDoor place act ∷ line) up each is = cases (λ each' is'. begins_read nodes line (tail_ascends (AtDoor place act) line up) each' is') (opens act) refl is
  where
    opened : (a : DoorAct) → IsTrue (opens a) → IsTrue (reads_alone (AtDoor place a))
    opened doors.Opened it = refl
    opened a it = absurd (false≢true it)

    not_this : IsFalse (opens act) → (p : ℕ) → AtDoor p doors.Opened ≡ AtDoor place act → ⊥
    not_this other p same = true≢false (ap (λ (t : Turn). opens (act_in t)) same ∙ other)
      where
        act_in : Turn → DoorAct
        act_in (AtDoor q a) = a
        act_in t = doors.Opened

    first : IsFalse (opens act) → IsTrue (reads_alone (AtDoor place act)) ⊎ OpenedBefore place (AtDoor place act ∷ line) → IsTrue (reads_alone (AtDoor place act))
    first other (inl reads) = reads
    first other (inr (p, less, inl same)) = absurd (not_this other p same)
    first other (inr (p, less, inr later)) = absurd (let least = head_least (AtDoor place act) line up (AtDoor p doors.Opened) later in let lt = less in omega arith)

    rest : IsFalse (opens act) → (q : ℕ) (a : DoorAct) → IsTrue (reads_alone (AtDoor q a)) ⊎ OpenedBefore q (AtDoor place act ∷ line) → IsTrue (reads_alone (AtDoor q a)) ⊎ OpenedBefore q line
    rest other q a (inl reads) = inl reads
    rest other q a (inr (p, less, inl same)) = absurd (not_this other p same)
    rest other q a (inr (p, less, inr later)) = inr (p, less, later)

    cases : (((q : ℕ) (a : DoorAct) → In (AtDoor q a) line → IsTrue (reads_alone (AtDoor q a)) ⊎ OpenedBefore q line) → IsTrue (opening_begins nodes line) → AllRead line) → (b : Bool) → opens act ≡ b → IsTrue (if b then boots_begin nodes line else opening_begins nodes line) → AllRead (AtDoor place act ∷ line)
    cases more true it is' = and_from (reads_alone (AtDoor place act)) (list_all reads_alone line) (opened act it) (boots_read nodes line is')
    cases more false other is' =
        and_from (reads_alone (AtDoor place act)) (list_all reads_alone line) (first other (each place act (inl refl)))
        (more (λ q a among. rest other q a (each q a (inr among))) is')
begins_read nodes line up each is = absurd (false≢true is)

-- ---- as a history

door_turns-append : (by : By) (place : ℕ) (door more : List DoorEntry) → door_turns by place (door ++ more) ≡ door_turns by place door ++ door_turns by (place + length door) more
door_turns-append by place [] more = ap (λ n. door_turns by n more) (let e : place ≡ place + 0 = omega arith in e)
door_turns-append by place (entry ∷ door) more =
    ap (λ (l : List Turn). (if same_line by entry.by then AtDoor place entry.act ∷ [] else []) ++ l)
    (door_turns-append by (suc place) door more ∙ ap (λ n. door_turns by (suc place) door ++ door_turns by n more) (let e : suc place + length door ≡ place + suc (length door) = omega arith in e))
    ∙ sym (append_assoc (if same_line by entry.by then AtDoor place entry.act ∷ [] else []) (door_turns by (suc place) door) (door_turns by (place + suc (length door)) more))

door_turns-behind : (by : By) (door more : List DoorEntry) → door_turns by 0 (door ++ more) ≡ door_turns by 0 door ++ door_turns by (length door) more
door_turns-behind by door more = door_turns-append by 0 door more ∙ ap (λ n. door_turns by 0 door ++ door_turns by n more) (let e : 0 + length door ≡ length door = omega arith in e)

abbrev IfOpen : List DoorEntry → Type 0
IfOpen history = IsTrue (is_open history) → OpenedBefore (length history) (door_turns opening 0 history)

opened_on : (history : List DoorEntry) (x : DoorEntry) → IsTrue (may_follow history x) → IfOpen history → IfOpen (history ++ x ∷ [])
opened_on history x rule was now = cases (is_open history) refl (and_parts (is_answered x.act) (if is_open history then may_come history x.act else may_open history x) rule).1
  where
    long : length (history ++ x ∷ []) ≡ length history + 1
    long = length-append history (x ∷ [])

    here : IsTrue (same_line opening x.by) → IsTrue (opens x.act) → In (AtDoor (length history) doors.Opened) (door_turns opening (length history) (x ∷ []))
    here own it = subst (λ (b : Bool). In (AtDoor (length history) doors.Opened) ((if b then AtDoor (length history) x.act ∷ [] else []) ++ [])) (sym own) (inl (ap (AtDoor (length history)) (is_it x.act it)))
      where
        is_it : (a : DoorAct) → IsTrue (opens a) → doors.Opened ≡ a
        is_it doors.Opened t = refl
        is_it a t = absurd (false≢true t)

    grown : OpenedBefore (length history) (door_turns opening 0 history) → OpenedBefore (length (history ++ x ∷ [])) (door_turns opening 0 (history ++ x ∷ []))
    grown (p, less, among) =
        (p, (let e = long in omega arith), subst (λ (l : List Turn). In (AtDoor p doors.Opened) l) (sym (door_turns-behind opening history (x ∷ []))) (in_front (AtDoor p doors.Opened) (door_turns opening 0 history) (door_turns opening (length history) (x ∷ [])) among))

    last : IsFalse (is_open history) → IsTrue (opens x.act)
    last closed = elim (in_any (any_found (λ (e : DoorEntry). opens e.act) (history ++ x ∷ []) now)) [ inl before ↦ absurd (true≢false (sym before ∙ closed)) | inr it ↦ it ]
      where
        in_any : (e : DoorEntry) × In e (history ++ x ∷ []) × IsTrue (opens e.act) → IsTrue (is_open history) ⊎ IsTrue (opens x.act)
        in_any (e, among, it) = elim (in_append e history (x ∷ []) among) [
          | inl before ↦ inl (any_from (λ (d : DoorEntry). opens d.act) e history before it)
          | inr (inl is) ↦ inr (subst (λ (d : DoorEntry). IsTrue (opens d.act)) is it)
          | inr (inr none) ↦ absurd none
        ]

    cases : (b : Bool) → is_open history ≡ b → IsTrue (if b then may_come history x.act else may_open history x) → OpenedBefore (length (history ++ x ∷ [])) (door_turns opening 0 (history ++ x ∷ []))
    cases true opened rule' = grown (was opened)
    cases false closed rule' = (
      length history,
      (let e = long in omega arith),
      subst (λ (l : List Turn). In (AtDoor (length history) doors.Opened) l) (sym (door_turns-behind opening history (x ∷ [])))
          (in_back (AtDoor (length history) doors.Opened) (door_turns opening 0 history) (door_turns opening (length history) (x ∷ [])) (here (and_parts (same_line opening x.by) (may_read history x.act) rule').0 (last closed))),
    )

opened_before : (history : List DoorEntry) → Legal history → IfOpen history
opened_before history legal = each_after_kept may_follow IfOpen (λ h x so rule was. opened_on h x rule was) [] history legal (λ none. absurd (false≢true none))

-- each of its turns at the door reads, or stands behind the open door
door_turn_reads : (trace : Trace) (before door : List DoorEntry) → before ++ door ≡ trace.door → Legal trace.door → (place : ℕ) (act : DoorAct) → In (AtDoor place act) (door_turns opening (length before) door)
    → IsTrue (reads_alone (AtDoor place act)) ⊎ OpenedBefore place (door_turns opening 0 trace.door)
door_turn_reads trace before [] is legal place act among = absurd among
door_turn_reads trace before (entry ∷ door) is legal place act among =
    elim (in_append (AtDoor place act) (if same_line opening entry.by then AtDoor (length before) entry.act ∷ [] else []) (door_turns opening (suc (length before)) door) among) [
      | inl here ↦ at_here (same_line opening entry.by) here
      | inr later ↦ door_turn_reads trace (before ++ entry ∷ []) door (append_assoc before (entry ∷ []) door ∙ is) legal place act
          (subst (λ (n : ℕ). In (AtDoor place act) (door_turns opening n door)) (let e : suc (length before) ≡ length (before ++ entry ∷ []) = (let g = length-append before (entry ∷ []) in omega arith) in e) later)
    ]
  where
    split : IsTrue (is_legal (before ++ entry ∷ door))
    split = subst (λ (h : List DoorEntry). IsTrue (is_legal h)) (sym is) legal

    rule : IsTrue (may_follow before entry)
    rule = (and_parts (may_follow before entry) (each_after may_follow (before ++ entry ∷ []) door) (each_after_split may_follow [] before (entry ∷ door) split).1).0

    by_open : (b : Bool) → is_open before ≡ b → IsTrue (if b then may_come before entry.act else may_open before entry) → IsTrue (reads_alone (AtDoor (length before) entry.act)) ⊎ OpenedBefore (length before) (door_turns opening 0 trace.door)
    by_open true opened rule' = inr (grown (opened_before before (each_after_split may_follow [] before (entry ∷ door) split).0 opened))
      where
        grown : OpenedBefore (length before) (door_turns opening 0 before) → OpenedBefore (length before) (door_turns opening 0 trace.door)
        grown (p, less, there) = (
          p,
          less,
          subst (λ (d : List DoorEntry). In (AtDoor p doors.Opened) (door_turns opening 0 d)) is
              (subst (λ (l : List Turn). In (AtDoor p doors.Opened) l) (sym (door_turns-behind opening before (entry ∷ door))) (in_front (AtDoor p doors.Opened) (door_turns opening 0 before) (door_turns opening (length before) (entry ∷ door)) there)),
        )
    by_open false closed rule' = inl (may_read_alone before (length before) entry.act (and_parts (same_line opening entry.by) (may_read before entry.act) rule').1)

    is_so : IsTrue (reads_alone (AtDoor (length before) entry.act)) ⊎ OpenedBefore (length before) (door_turns opening 0 trace.door)
    is_so = by_open (is_open before) refl (and_parts (is_answered entry.act) (if is_open before then may_come before entry.act else may_open before entry) rule).1

    at_here : (b : Bool) → In (AtDoor place act) (if b then AtDoor (length before) entry.act ∷ [] else []) → IsTrue (reads_alone (AtDoor place act)) ⊎ OpenedBefore place (door_turns opening 0 trace.door)
    at_here true (inl same) = carried same is_so
      where
        place_in : Turn → ℕ
        place_in (AtDoor q a) = q
        place_in t = 0

        carried : AtDoor place act ≡ AtDoor (length before) entry.act → IsTrue (reads_alone (AtDoor (length before) entry.act)) ⊎ OpenedBefore (length before) (door_turns opening 0 trace.door) → IsTrue (reads_alone (AtDoor place act)) ⊎ OpenedBefore place (door_turns opening 0 trace.door)
        carried e (inl reads) = inl (subst (λ (t : Turn). IsTrue (reads_alone t)) (sym e) reads)
        carried e (inr was) = inr (subst (λ (n : ℕ). OpenedBefore n (door_turns opening 0 trace.door)) (sym (ap place_in e)) was)
    at_here true (inr none) = absurd none
    at_here false none = absurd none

-- a turn at the door is an entry there
at_door_turn : (by : By) (trace : Trace) (place : ℕ) (act : DoorAct) → In (AtDoor place act) (entries_of by trace) → In (AtDoor place act) (door_turns by 0 trace.door)
at_door_turn by trace place act among = elim (in_append (AtDoor place act) (nodes_turns by 1 trace.nodes ++ door_turns by 0 trace.door) (office_turns by [] trace.office) among) [
  | inl more ↦ elim (in_append (AtDoor place act) (nodes_turns by 1 trace.nodes) (door_turns by 0 trace.door) more) [
    | inl node ↦ absurd (not_nodes 1 trace.nodes node)
    | inr door ↦ door
  ]
  | inr office ↦ absurd (not_office [] trace.office office)
]
  where
    place_of_turn : Turn → Bool
    place_of_turn (AtDoor q a) = true
    place_of_turn t = false

    not_node : (node : ℕ) (before history : List NodeEntry) → In (AtDoor place act) (node_turns by node before history) → ⊥
    not_node node before [] none = none
    not_node node before (entry ∷ history) there = elim (in_append (AtDoor place act) (if same_line by entry.by then AtNode node before entry ∷ [] else []) (node_turns by node (before ++ entry ∷ []) history) there) [
      | inl here ↦ at_here (same_line by entry.by) here
      | inr later ↦ not_node node (before ++ entry ∷ []) history later
    ]
      where
        at_here : (b : Bool) → In (AtDoor place act) (if b then AtNode node before entry ∷ [] else []) → ⊥
        at_here true (inl is) = true≢false (ap place_of_turn is)
        at_here true (inr none) = none
        at_here false none = none

    not_nodes : (node : ℕ) (histories : List (List NodeEntry)) → In (AtDoor place act) (nodes_turns by node histories) → ⊥
    not_nodes node [] none = none
    not_nodes node (history ∷ histories) there = elim (in_append (AtDoor place act) (node_turns by node [] history) (nodes_turns by (suc node) histories) there) [
      | inl here ↦ not_node node [] history here
      | inr later ↦ not_nodes (suc node) histories later
    ]

    not_office : (before office : List OfficeEntry) → In (AtDoor place act) (office_turns by before office) → ⊥
    not_office before [] none = none
    not_office before (entry ∷ office) there = elim (in_append (AtDoor place act) (if same_line by entry.by then AtOffice before entry ∷ [] else []) (office_turns by (before ++ entry ∷ []) office) there) [
      | inl here ↦ at_here (same_line by entry.by) here
      | inr later ↦ not_office (before ++ entry ∷ []) office later
    ]
      where
        at_here : (b : Bool) → In (AtDoor place act) (if b then AtOffice before entry ∷ [] else []) → ⊥
        at_here true (inl is) = true≢false (ap place_of_turn is)
        at_here true (inr none) = none
        at_here false none = none

pub opening_reads : (nodes : List ℕ) (trace : Trace) → Legal trace.door → IsTrue (opening_begins nodes (turns opening trace)) → IsTrue (list_all reads_alone (turns opening trace))
opening_reads nodes trace legal begins = begins_read nodes (turns opening trace) (sorted_ascends [] (entries_of opening trace) refl) each begins
  where
    each : (place : ℕ) (act : DoorAct) → In (AtDoor place act) (turns opening trace) → IsTrue (reads_alone (AtDoor place act)) ⊎ OpenedBefore place (turns opening trace)
    each place act among = elim (door_turn_reads trace [] trace.door refl legal place act (at_door_turn opening trace place act (turns_in opening trace (AtDoor place act) among))) [
      | inl reads ↦ inl reads
      | inr (p, less, there) ↦ inr (
        p,
        less,
        in_turns opening trace (AtDoor p doors.Opened)
            (in_front (AtDoor p doors.Opened) (nodes_turns opening 1 trace.nodes ++ door_turns opening 0 trace.door) (office_turns opening [] trace.office) (in_back (AtDoor p doors.Opened) (nodes_turns opening 1 trace.nodes) (door_turns opening 0 trace.door) there)),
      )
    ]
