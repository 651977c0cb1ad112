-- Whoever comes up was begun to boot by its line.
use Rattle.std.proofs.Common.{Bool, List, [], ap, arith, eqb, false, inl, inr, refl, subst, sym, true, ℕ, ◌&&◌, ◌++◌, ◌+◌, ◌<◌, ◌||◌, ◌∙◌, ◌∷◌, ◌≡◌, ◌≤◌, ◌⊎◌}
use Rattle.aft_keeper.specs.declared.keeper.Pair.{Pair}
use Rattle.aft_lines.specs.CourseWords.{is_over}
use Rattle.aft_lines.specs.OpeningCourse.{boot_begins, boot_end_begins, boot_end_course, boot_scan_begins, boot_up_begins, boots_begin, is_boot, opening_begins}
use Rattle.aft_lines.specs.ScanCourse.{ScanLimit, Scanned, behind_good_page, behind_page, names_limit, scanned, scanned_from, stopped_at, stops_at}
use Rattle.aft_lines.specs.Turns.{AtDoor, AtNode, AtOffice, Turn, moment}
use Rattle.aft_model.proofs.OneCommit.{same_who}
use Rattle.aft_model.proofs.Histories.{In, all_at, any_found, any_from, in_back}
use Rattle.aft_model.proofs.Lists.{in_snoc}
use Rattle.aft_model.specs.History.{each_after}
use Rattle.aft_model.specs.DoorKnowledge.{opens}
use Rattle.aft_model.specs.Membership.{Incarnation, incarnation, same_incarnation}
use Rattle.aft_model.specs.ScanRun.{next_after, page_limit}
use Rattle.aft_model.specs.Sound.{records_prefix}
use Rattle.aft_model.specs.declared.door.DoorAct.{DoorAct}
use Rattle.aft_model.specs.declared.node.NodeAct.{NodeAct}
use Rattle.aft_model.specs.declared.node.NodeEntry.{NodeEntry}
use Rattle.law_turns.specs.Order.{moments_ascend}
use Rattle.std.proofs.lemmas.Bool.{and_from, and_parts, eq-eqb, false≢true, or_cases, true≢false}
use Rattle.std.specs.List.{list_any}
use Rattle.std.specs.Prelude.{IsTrue, None, Option, Some, if◌then◌else◌}
use Rattle.std.specs.Str.{bytes_eq}
use Rattle.aft_model.specs.declared.script.Command.TheVariants as commands
use Rattle.aft_model.specs.declared.door.DoorAct.TheVariants as doors
use Rattle.aft_model.specs.declared.node.NodeAct.TheVariants as acts
use Rattle.aft_keeper.specs.declared.keeper.KeeperCall.TheVariants as calls
use Rattle.aft_keeper.specs.declared.keeper.KeeperAnswer.TheVariants as answers
use Rattle.aft_lines.specs.Advance.{advance, leads_to}
use Rattle.aft_lines.specs.CourseWords.{Ends}
use Rattle.aft_lines.specs.Progress.{IsOver, NotBegun, Progress, Stopped, has_ended}
use Rattle.law_runs.proofs.Walks.{from_nowhere}
use Rattle.law_runs.proofs.Opening.{head_least, tail_ascends}
use Rattle.law_held.proofs.Boots.{begins_boot}
use Rattle.law_held.proofs.Low.{as_up, start_first, starts_at}

-- whether a turn begins to boot an incarnation of a node
abbrev pub boots_in : ℕ → ℕ → Turn → Bool
boots_in node inc (AtNode at history entry) = eqb node at && begins_boot inc entry.act
boots_in node inc turn = false

-- whether whoever comes up by a turn was begun to boot by one before it
abbrev is_begun : List Turn → Turn → Bool
is_begun before (AtDoor place (doors.Up node inc)) = list_any (boots_in node inc) before
is_begun before turn = true

-- so of each of some turns, whatever stands before them
abbrev Begun : List Turn → Type 0
Begun line = (before : List Turn) → IsTrue (each_after is_begun before line)

-- ---- boots of the opening

module _ (most : ScanLimit) (who : Incarnation) (prefix : List ℕ) where
  pages_begun : (after : List ℕ) (listed : List Pair) (line : List Turn) → Begun (scanned_from most who prefix after listed line).behind → Begun line
  pages_begun after listed (AtDoor place (doors.Call node inc (calls.Scan scan begins limit) (answers.Page pairs)) ∷ line) begun =
      cases (same_incarnation who (incarnation node inc) && bytes_eq prefix scan && bytes_eq after begins && eqb limit page_limit) (λ next. pages_begun next (listed ++ pairs) line) begun
    where
      goes : ((next : List ℕ) → Begun (scanned_from most who prefix next (listed ++ pairs) line).behind → Begun line) → (next : Option (List ℕ)) → Begun (behind_good_page (listed ++ pairs) next (λ n. scanned_from most who prefix n (listed ++ pairs) line) line).behind → Begun line
      goes rest None so = so
      goes rest (Some next) so = rest next so

      stops : ((next : List ℕ) → Begun (scanned_from most who prefix next (listed ++ pairs) line).behind → Begun line) → (stop : Bool) (next : Option (List ℕ)) → Begun (if stop then stopped_at (listed ++ pairs) line else behind_good_page (listed ++ pairs) next (λ n. scanned_from most who prefix n (listed ++ pairs) line) line).behind → Begun line
      stops rest true next so = so
      stops rest false next so = goes rest next so

      cases : (own : Bool) → ((next : List ℕ) → Begun (scanned_from most who prefix next (listed ++ pairs) line).behind → Begun line) → Begun (if own then behind_page most listed pairs (next_after (record { after = after; listed = pairs })) (λ n. scanned_from most who prefix n (listed ++ pairs) line) line else stopped_at listed (AtDoor place (doors.Call node inc (calls.Scan scan begins limit) (answers.Page pairs)) ∷ line)).behind
          → Begun (AtDoor place (doors.Call node inc (calls.Scan scan begins limit) (answers.Page pairs)) ∷ line)
      cases true rest so = λ before. stops rest (stops_at most listed pairs) (next_after (record { after = after; listed = pairs })) so (before ++ AtDoor place (doors.Call node inc (calls.Scan scan begins limit) (answers.Page pairs)) ∷ [])
      cases false rest so = so
  pages_begun after listed (AtDoor place (doors.Call node inc (calls.Scan scan begins limit) answer) ∷ line) begun =
      cases (same_incarnation who (incarnation node inc) && bytes_eq prefix scan && bytes_eq after begins && eqb limit page_limit) begun
    where
      cases : (own : Bool) → Begun (if own then stopped_at listed line else stopped_at listed (AtDoor place (doors.Call node inc (calls.Scan scan begins limit) answer) ∷ line)).behind → Begun (AtDoor place (doors.Call node inc (calls.Scan scan begins limit) answer) ∷ line)
      cases true so = λ before. so (before ++ AtDoor place (doors.Call node inc (calls.Scan scan begins limit) answer) ∷ [])
      cases false so = so
  pages_begun after listed line begun = begun

over_begun : (line : List Turn) → IsTrue (is_over line) → Begun line
over_begun [] is = λ before. refl
over_begun (turn ∷ line) is = absurd (false≢true is)

module _ (go_on : List Turn → Bool) (rest : (line : List Turn) → IsTrue (go_on line) → Begun line) where
  served_begun : (who : Incarnation) (line : List Turn) → IsTrue (boot_end_course who go_on line) → Begun line
  served_begun who (AtNode node history entry ∷ line) is = λ before. rest line (and_parts (eqb node who.node && is_boot who.inc entry.act) (go_on line) is).1 (before ++ AtNode node history entry ∷ [])
  served_begun who line is = absurd (false≢true is)

  scan_begun : (who : Incarnation) (line : List Turn) → IsTrue (boot_scan_begins who go_on (scanned names_limit who records_prefix line)) → Begun line
  scan_begun who line is = pages_begun names_limit who records_prefix [] [] line (cases (scanned names_limit who records_prefix line) is)
    where
      ended : (left : List Turn) → IsTrue (is_over left || boot_end_course who go_on left) → Begun left
      ended left is' = elim (or_cases (is_over left) (boot_end_course who go_on left) is') [ inl over ↦ over_begun left over | inr served ↦ served_begun who left served ]

      by_whole : (whole : Bool) (left : List Turn) → IsTrue (if whole then boot_end_begins who go_on left else is_over left) → Begun left
      by_whole true left is' = ended left is'
      by_whole false left is' = over_begun left is'

      cases : (pages : Scanned) → IsTrue (boot_scan_begins who go_on pages) → Begun pages.behind
      cases pages is' = by_whole pages.is_whole pages.behind is'

  up_begun : (who : Incarnation) (line : List Turn) → IsTrue (boot_up_begins who go_on line) → (before : List Turn) → IsTrue (list_any (boots_in who.node who.inc) before) → IsTrue (each_after is_begun before line)
  up_begun who [] is before boots = refl
  up_begun who (AtDoor place (doors.Up node inc) ∷ line) is before boots =
      let parts = and_parts (same_incarnation who (incarnation node inc)) (boot_scan_begins who go_on (scanned names_limit who records_prefix line)) is in
      and_from (list_any (boots_in node inc) before) (each_after is_begun (before ++ AtDoor place (doors.Up node inc) ∷ []) line)
      (subst (λ (w : Incarnation). IsTrue (list_any (boots_in w.node w.inc) before)) (same_who who (incarnation node inc) parts.0) boots) (scan_begun who line parts.1 (before ++ AtDoor place (doors.Up node inc) ∷ []))
  up_begun who line is before boots = absurd (false≢true is)

  boot_begun : (node at : ℕ) (history : List NodeEntry) (entry : NodeEntry) (act : NodeAct) → entry.act ≡ act → (line : List Turn) → IsTrue (eqb node at) → IsTrue (boot_begins node go_on act line) → (before : List Turn) → IsTrue (each_after is_begun (before ++ AtNode at history entry ∷ []) line)
  boot_begun node at history entry (acts.Booting inc) its line same is before =
      up_begun (incarnation node inc) line is (before ++ AtNode at history entry ∷ [])
      (any_from (boots_in node inc) (AtNode at history entry) (before ++ AtNode at history entry ∷ []) (in_back (AtNode at history entry) before (AtNode at history entry ∷ []) (inl refl))
      (and_from (eqb node at) (begins_boot inc entry.act) same (subst (λ (a : NodeAct). IsTrue (begins_boot inc a)) (sym its) (eq-eqb inc inc refl))))
  boot_begun node at history entry act its line same is before = absurd (false≢true is)

boots_begun : (nodes : List ℕ) (line : List Turn) → IsTrue (boots_begin nodes line) → Begun line
boots_begun [] [] is = λ before. refl
boots_begun (node ∷ nodes) [] is = λ before. refl
boots_begun (node ∷ nodes) (AtNode at history entry ∷ line) is =
    let parts = and_parts (eqb node at) (boot_begins node (boots_begin nodes) entry.act line) is in
    λ before. boot_begun (boots_begin nodes) (λ l so. boots_begun nodes l so) node at history entry entry.act refl line parts.0 parts.1 before
boots_begun nodes line is = absurd (false≢true is)

-- ---- a turn before another

-- a turn that begins to boot an incarnation, no later than a moment
abbrev pub BootBefore : ℕ → ℕ → Turn → List Turn → Type 0
BootBefore node inc up line = (y : Turn) × IsTrue (boots_in node inc y) × In y line × (moment y ≤ moment up)

found_begun : (before line : List Turn) → IsTrue (each_after is_begun before line) → IsTrue (moments_ascend line) → (q n i : ℕ) → In (AtDoor q (doors.Up n i)) line → ((y : Turn) × IsTrue (boots_in n i y) × In y before) ⊎ BootBefore n i (AtDoor q (doors.Up n i)) line
found_begun before [] so up q n i none = absurd none
found_begun before (t ∷ line) so up q n i (inl is) =
    let rule = (and_parts (is_begun before t) (each_after is_begun (before ++ t ∷ []) line) so).0 in
    let found = any_found (boots_in n i) before (subst (λ (x : Turn). IsTrue (is_begun before x)) (sym is) rule) in
    inl (found.0, found.2, found.1)
found_begun before (t ∷ line) so up q n i (inr later) = elim (found_begun (before ++ t ∷ []) line (and_parts (is_begun before t) (each_after is_begun (before ++ t ∷ []) line) so).1 (tail_ascends t line up) q n i later) [
  | inr it ↦ inr (it.0, it.1, inr it.2, it.3)
  | inl old ↦ elim (in_snoc old.0 before t old.2) [
    | inl there ↦ inl (old.0, old.1, there)
    | inr is ↦ inr (t, subst (λ (y : Turn). IsTrue (boots_in n i y)) is old.1, inl refl, head_least t line up (AtDoor q (doors.Up n i)) later)
  ]
]

-- whoever comes up behind the opening of the door, by the opening, was begun to boot by it
pub opening_begun : (nodes : List ℕ) (line : List Turn) → IsTrue (moments_ascend line) → IsTrue (opening_begins nodes line) → (q p m j : ℕ) → In (AtDoor q doors.Opened) line → In (AtDoor p (doors.Up m j)) line → q < p → BootBefore m j (AtDoor p (doors.Up m j)) line
opening_begun nodes [] up is q p m j opened comes less = absurd opened
opening_begun nodes (AtDoor place act ∷ line) up is q p m j opened comes less =
    cases (opens act) refl is opened comes (λ so there later. opening_begun nodes line (tail_ascends (AtDoor place act) line up) so q p m j there later less)
  where
    act_in : Turn → DoorAct
    act_in (AtDoor n a) = a
    act_in turn = doors.Opened

    place_in : Turn → ℕ
    place_in (AtDoor n a) = n
    place_in turn = 0

    further : BootBefore m j (AtDoor p (doors.Up m j)) line → BootBefore m j (AtDoor p (doors.Up m j)) (AtDoor place act ∷ line)
    further it = (it.0, it.1, inr it.2, it.3)

    in_line : ((y : Turn) × IsTrue (boots_in m j y) × In y []) ⊎ BootBefore m j (AtDoor p (doors.Up m j)) line → BootBefore m j (AtDoor p (doors.Up m j)) line
    in_line (inl none) = absurd none.2
    in_line (inr it) = it

    cases : (b : Bool) → opens act ≡ b → IsTrue (if b then boots_begin nodes line else opening_begins nodes line) → In (AtDoor q doors.Opened) (AtDoor place act ∷ line) → In (AtDoor p (doors.Up m j)) (AtDoor place act ∷ line)
        → (IsTrue (opening_begins nodes line) → In (AtDoor q doors.Opened) line → In (AtDoor p (doors.Up m j)) line → BootBefore m j (AtDoor p (doors.Up m j)) line) → BootBefore m j (AtDoor p (doors.Up m j)) (AtDoor place act ∷ line)
    cases true at so there (inl e) rest = absurd (false≢true (ap (λ (t : Turn). opens (act_in t)) e ∙ at))
    cases true at so there (inr later) rest = further (in_line (found_begun [] line (boots_begun nodes line so []) (tail_ascends (AtDoor place act) line up) p m j later))
    cases false at so (inl e) later rest = absurd (true≢false (ap (λ (t : Turn). opens (act_in t)) e ∙ at))
    cases false at so (inr there) (inl e) rest =
        (let same : p ≡ place = ap place_in e in
        let least : place + place + 1 ≤ q + q + 1 = head_least (AtDoor place act) line up (AtDoor q doors.Opened) there in
        absurd (omega arith))
    cases false at so (inr there) (inr later) rest = further (rest so there later)
opening_begun nodes line up is q p m j opened comes less = absurd (false≢true is)

-- ---- starts

-- whoever comes up by a start was begun to boot by its first turn
pub start_begun : (ends : Ends) (home : ℕ) (nodes : List ℕ) (line : List Turn) (p : Progress) → leads_to (commands.Start home) nodes ends line ≡ Some p → IsTrue (moments_ascend line) → (q n i : ℕ) → In (AtDoor q (doors.Up n i)) line → BootBefore n i (AtDoor q (doors.Up n i)) line
start_begun ends home nodes [] p e up q n i none = absurd none
start_begun ends home nodes (AtDoor place act ∷ line) p e up q n i there = absurd (from_nowhere (advance (commands.Start home) nodes ends) line p e)
start_begun ends home nodes (AtOffice history entry ∷ line) p e up q n i there = absurd (from_nowhere (advance (commands.Start home) nodes ends) line p e)
start_begun ends home nodes (AtNode at history entry ∷ line) p e up q n i (inl is) = absurd (cc)
start_begun ends home nodes (AtNode at history entry ∷ line) p e up q n i (inr later) = elim (start_first ends home nodes at history entry line p e) [
  | inr over ↦ absurd (subst (λ (l : List Turn). In (AtDoor q (doors.Up n i)) l) over.0 later)
  | inl boot ↦
      let same : incarnation at boot.0 ≡ incarnation n i = same_who (incarnation at boot.0) (incarnation n i) (all_at (as_up (incarnation at boot.0)) (AtDoor q (doors.Up n i)) line later boot.2) in
      (AtNode at history entry, subst (λ (w : Incarnation). IsTrue (boots_in w.node w.inc (AtNode at history entry))) same (its at history entry boot.0 boot.1), inl refl, head_least (AtNode at history entry) line up (AtDoor q (doors.Up n i)) later)
]
  where
    its : (a : ℕ) (h : List NodeEntry) (x : NodeEntry) (inc : ℕ) → x.act ≡ acts.Booting inc → IsTrue (boots_in a inc (AtNode a h x))
    its a h x inc act = and_from (eqb a a) (begins_boot inc x.act) (eq-eqb a a refl) (subst (λ (b : NodeAct). IsTrue (begins_boot inc b)) (sym act) (eq-eqb inc inc refl))

-- and so was whomever a start is to bring up
pub start_at : (ends : Ends) (home : ℕ) (nodes : List ℕ) (line : List Turn) (p : Progress) → leads_to (commands.Start home) nodes ends line ≡ Some p → (who : Incarnation) → starts_at p ≡ Some who → (y : Turn) × IsTrue (boots_in who.node who.inc y) × In y line
start_at ends home nodes [] p e who at = absurd (none_first p e at)
  where
    none_first : (x : Progress) → Some NotBegun ≡ Some x → starts_at x ≡ Some who → ⊥
    none_first x s a = (let same : NotBegun ≡ x = cc in let n : None ≡ Some who = ap starts_at same ∙ a in cc)
start_at ends home nodes (AtDoor place act ∷ line) p e who at = absurd (from_nowhere (advance (commands.Start home) nodes ends) line p e)
start_at ends home nodes (AtOffice history entry ∷ line) p e who at = absurd (from_nowhere (advance (commands.Start home) nodes ends) line p e)
start_at ends home nodes (AtNode node history entry ∷ line) p e who at = elim (start_first ends home nodes node history entry line p e) [
  | inr over ↦ absurd (ended p over.1 at)
  | inl boot ↦ elim boot.3 [
    | inr over ↦ absurd (ended p over at)
    | inl starts ↦ (AtNode node history entry, subst (λ (w : Incarnation). IsTrue (boots_in w.node w.inc (AtNode node history entry))) (inside (incarnation node boot.0) who (sym starts ∙ at)) (its node history entry boot.0 boot.1), inl refl)
  ]
]
  where
    inside : (x y : Incarnation) → Some x ≡ Some y → x ≡ y
    inside x y s = cc

    ended : (x : Progress) → IsTrue (has_ended x) → starts_at x ≡ Some who → ⊥
    ended IsOver over a = (let n : None ≡ Some who = a in cc)
    ended (Stopped b) over a = (let n : None ≡ Some who = a in cc)
    ended x over a = false≢true over

    its : (a : ℕ) (h : List NodeEntry) (x : NodeEntry) (inc : ℕ) → x.act ≡ acts.Booting inc → IsTrue (boots_in a inc (AtNode a h x))
    its a h x inc act = and_from (eqb a a) (begins_boot inc x.act) (eq-eqb a a refl) (subst (λ (b : NodeAct). IsTrue (begins_boot inc b)) (sym act) (eq-eqb inc inc refl))
