-- A start, and the opening, end at each node only a boot that they began by their turn before there.
use Rattle.std.proofs.Common.{◌≡◌, ℕ, Bool, true, false, ◌&&◌, ◌||◌, List, [], ◌∷◌, ◌++◌, refl, sym, ap, subst, ◌∙◌, inl, inr, eqb, append_assoc}
use Rattle.std.specs.Prelude.{IsTrue, None, Option, Some, filter, if◌then◌else◌}
use Rattle.std.specs.List.{fold}
use Rattle.std.proofs.lemmas.Bool.{and_from, and_parts, eq-eqb, eqb-true, false≢true, or_cases}
use Rattle.aft_keeper.specs.declared.keeper.KeeperAnswer.TheVariants.{Page}
use Rattle.aft_keeper.specs.declared.keeper.KeeperCall.TheVariants.{Scan}
use Rattle.aft_keeper.specs.declared.keeper.Pair.{Pair}
use Rattle.aft_model.specs.declared.door.DoorAct.TheVariants.{Call, Up}
use Rattle.aft_model.specs.declared.node.NodeAct.{NodeAct}
use Rattle.aft_model.specs.declared.node.NodeAct.TheVariants as acts
use Rattle.aft_model.specs.declared.node.NodeEntry.{NodeEntry}
use Rattle.aft_model.specs.declared.script.Command.TheVariants as commands
use Rattle.aft_model.specs.DoorKnowledge.{opens}
use Rattle.aft_model.specs.Membership.{Incarnation, incarnation, same_incarnation}
use Rattle.aft_model.specs.ScanRun.{next_after}
use Rattle.aft_model.specs.Sound.{records_prefix}
use Rattle.aft_lines.specs.Advance.{advance, advanced, leads_to, started_with}
use Rattle.aft_lines.specs.CourseWords.{Ends, is_over}
use Rattle.aft_lines.specs.OpeningCourse.{boot_begins, boot_end_begins, boot_end_course, boot_scan_begins, boot_up_begins, boots_begin, is_boot, opening_begins}
use Rattle.aft_lines.specs.Progress.{Progress, has_ended}
use Rattle.aft_lines.specs.ScanCourse.{ScanLimit, Scanned, names_limit, scanned, scanned_from, stopped_at, stops_at}
use Rattle.aft_lines.specs.Turns.{AtDoor, AtNode, AtOffice, Turn}
use Rattle.aft_node.specs.Closing.{act_passes, opens_boot}
use Rattle.law_turns.specs.Order.{is_at_node}
use Rattle.law_rounds.proofs.Scans.{is_own, page_left}
use Rattle.law_runs.proofs.Come.{leads_before}
use Rattle.law_runs.proofs.Walks.{from_nowhere}
use Rattle.law_held.proofs.Low.{start_first, starts_at}
use Rattle.law_driven_starts.specs.Starts.{ends_boot_of, ends_own_at}
use Rattle.law_driven_starts.proofs.Courses.{none_behind, one_ends}

-- whether each boot that some turns end at a node was begun by the turn before it there, behind one that did this
abbrev pub end_own_from : ℕ → Option NodeAct → List Turn → Bool
end_own_from node last [] = true
end_own_from node last (AtDoor place act ∷ line) = end_own_from node last line
end_own_from node last (AtOffice before entry ∷ line) = end_own_from node last line
end_own_from node last (AtNode at before entry ∷ line) = if eqb at node then ends_own_at last entry.act && end_own_from node (Some entry.act) line else end_own_from node last line

module _ (node : ℕ) where
  -- turns elsewhere make no difference
  pub end_own-filter : (last : Option NodeAct) (line : List Turn) → end_own_from node last (filter (is_at_node node) line) ≡ end_own_from node last line
  end_own-filter last [] = refl
  end_own-filter last (AtDoor place act ∷ line) = end_own-filter last line
  end_own-filter last (AtOffice before entry ∷ line) = end_own-filter last line
  end_own-filter last (AtNode at before entry ∷ line) = cases (eqb at node) refl (end_own-filter (Some entry.act) line) (end_own-filter last line)
    where
      cases : (b : Bool) → eqb at node ≡ b → end_own_from node (Some entry.act) (filter (is_at_node node) line) ≡ end_own_from node (Some entry.act) line → end_own_from node last (filter (is_at_node node) line) ≡ end_own_from node last line
          → end_own_from node last (if b then AtNode at before entry ∷ filter (is_at_node node) line else filter (is_at_node node) line) ≡ (if b then ends_own_at last entry.act && end_own_from node (Some entry.act) line else end_own_from node last line)
      cases true is here elsewhere =
          ap (λ (b : Bool). if b then ends_own_at last entry.act && end_own_from node (Some entry.act) (filter (is_at_node node) line) else end_own_from node last (filter (is_at_node node) line)) is
          ∙ ap (λ (b : Bool). ends_own_at last entry.act && b) here
      cases false is here elsewhere = elsewhere

  began_it : (number at inc j : ℕ) (first : NodeAct) → first ≡ acts.Booting inc → IsTrue (eqb at node) → IsTrue (same_incarnation (incarnation number inc) (incarnation at j)) → IsTrue (act_passes (opens_boot j) (if eqb number node then Some first else None))
  began_it number at inc j first began here same =
      let parts = and_parts (eqb number at) (eqb inc j) same in
      subst (λ (b : Bool). IsTrue (act_passes (opens_boot j) (if b then Some first else None))) (sym (eq-eqb number node (eqb-true number at parts.0 ∙ eqb-true at node here)))
      (subst (λ (act : NodeAct). IsTrue (opens_boot j act)) (sym began) (eq-eqb j inc (sym (eqb-true inc j parts.1))))

  -- what a turn ends, where that is what a first turn began
  first_began : (number at inc : ℕ) (first act : NodeAct) → first ≡ acts.Booting inc → IsTrue (eqb at node) → IsTrue (ends_boot_of (incarnation number inc) at act) → IsTrue (ends_own_at (if eqb number node then Some first else None) act)
  first_began number at inc first (acts.Boot j commits) began here its = began_it number at inc j first began here its
  first_began number at inc first (acts.BootStopped j) began here its = began_it number at inc j first began here its
  first_began number at inc first act began here its = refl

  -- ---- a start

  module _ (ends : Ends) (home : ℕ) (nodes : List ℕ) where
    abbrev go : Progress → Turn → Option Progress
    go = advance (commands.Start home) nodes ends

    -- behind its last turn none comes
    nothing_more : (q p : Progress) (line : List Turn) → IsTrue (has_ended q) → fold (advanced go) (Some q) line ≡ Some p → line ≡ []
    nothing_more q p [] over e = refl
    nothing_more q p (turn ∷ line) over e = absurd (by_next (go q turn) refl e)
      where
        by_next : (o : Option Progress) → go q turn ≡ o → fold (advanced go) o line ≡ Some p → ⊥
        by_next None is e' = from_nowhere go line p e'
        by_next (Some r) is e' = none_behind ends home nodes q r turn over is

    -- its first turn ends none
    first_ends_none : (number : ℕ) (act : NodeAct) (line : List Turn) (p : Progress) → fold (advanced go) (started_with number act) line ≡ Some p → IsTrue (ends_own_at None act)
    first_ends_none number acts.Nothing line p e = refl
    first_ends_none number (acts.Booting inc) line p e = refl
    first_ends_none number act line p e = absurd (from_nowhere go line p e)

    module _ (number : ℕ) (start : List NodeEntry) (first : NodeEntry) where
      -- what its first turn did at the node, if it is there
      abbrev did_first : Option NodeAct
      did_first = if eqb number node then Some first.act else None

      -- a turn at a node behind it is the last
      at_turn : (mid : List Turn) (at : ℕ) (before : List NodeEntry) (entry : NodeEntry) (line : List Turn) (q p : Progress) → leads_to (commands.Start home) nodes ends (AtNode number start first ∷ mid) ≡ Some q → fold (advanced go) (Some q) (AtNode at before entry ∷ line) ≡ Some p
          → IsTrue (end_own_from node did_first (AtNode at before entry ∷ line))
      at_turn mid at before entry line q p led e = elim (start_first ends home nodes number start first mid q led) [
        | inr over ↦ ended over.1
        | inl boot ↦ elim boot.3 [
          | inr over ↦ ended over
          | inl starts ↦ by_next boot.0 boot.1 starts (go q (AtNode at before entry)) refl e
        ]
      ]
        where
          no_cons : (turn : Turn) (more : List Turn) → turn ∷ more ≡ [] → ⊥
          no_cons turn more is = cc

          ended : IsTrue (has_ended q) → IsTrue (end_own_from node did_first (AtNode at before entry ∷ line))
          ended over = absurd (no_cons (AtNode at before entry) line (nothing_more q p (AtNode at before entry ∷ line) over e))

          alone : (inc : ℕ) → first.act ≡ acts.Booting inc → IsTrue (ends_boot_of (incarnation number inc) at entry.act) → (b : Bool) → eqb at node ≡ b → IsTrue (if b then ends_own_at did_first entry.act && true else true)
          alone inc began its true here = and_from (ends_own_at did_first entry.act) true (first_began number at inc first.act entry.act began here its) refl
          alone inc began its false elsewhere = refl

          by_next : (inc : ℕ) → first.act ≡ acts.Booting inc → starts_at q ≡ Some (incarnation number inc) → (o : Option Progress) → go q (AtNode at before entry) ≡ o → fold (advanced go) o line ≡ Some p → IsTrue (end_own_from node did_first (AtNode at before entry ∷ line))
          by_next inc began starts None is e' = absurd (from_nowhere go line p e')
          by_next inc began starts (Some r) is e' =
              let one = one_ends ends home nodes (incarnation number inc) q r at before entry starts is in
              subst (λ (l : List Turn). IsTrue (end_own_from node did_first (AtNode at before entry ∷ l))) (sym (nothing_more r p line one.1 e')) (alone inc began one.0 (eqb at node) refl)

      walk : (mid line : List Turn) (p : Progress) → leads_to (commands.Start home) nodes ends (AtNode number start first ∷ (mid ++ line)) ≡ Some p → IsTrue (end_own_from node did_first line)
      walk mid [] p e = refl
      walk mid (AtDoor place act ∷ line) p e = walk (mid ++ AtDoor place act ∷ []) line p (ap (λ (l : List Turn). leads_to (commands.Start home) nodes ends (AtNode number start first ∷ l)) (append_assoc mid (AtDoor place act ∷ []) line) ∙ e)
      walk mid (AtOffice before entry ∷ line) p e = walk (mid ++ AtOffice before entry ∷ []) line p (ap (λ (l : List Turn). leads_to (commands.Start home) nodes ends (AtNode number start first ∷ l)) (append_assoc mid (AtOffice before entry ∷ []) line) ∙ e)
      walk mid (AtNode at before entry ∷ line) p e =
          let was = leads_before (commands.Start home) nodes ends (AtNode number start first ∷ mid) (AtNode at before entry ∷ line) p e in
          at_turn mid at before entry line was.0 p was.1 was.2

    pub start_own : (line : List Turn) (p : Progress) → leads_to (commands.Start home) nodes ends line ≡ Some p → IsTrue (end_own_from node None line)
    start_own [] p e = refl
    start_own (AtDoor place act ∷ line) p e = absurd (from_nowhere go line p e)
    start_own (AtOffice before entry ∷ line) p e = absurd (from_nowhere go line p e)
    start_own (AtNode number start first ∷ line) p e = cases (eqb number node) (walk number start first [] line p e)
      where
        cases : (b : Bool) → IsTrue (end_own_from node (if b then Some first.act else None) line) → IsTrue (if b then ends_own_at None first.act && end_own_from node (Some first.act) line else end_own_from node None line)
        cases true rest = and_from (ends_own_at None first.act) (end_own_from node (Some first.act) line) (first_ends_none number first.act line p e) rest
        cases false rest = rest

  -- ---- the opening

  module _ (limit : ScanLimit) (who : Incarnation) (prefix : List ℕ) (last : Option NodeAct) where
    -- a scan run makes no difference
    pages_own : (after : List ℕ) (listed : List Pair) (line : List Turn) → end_own_from node last (scanned_from limit who prefix after listed line).behind ≡ end_own_from node last line
    pages_own after listed (AtDoor place (Call at inc (Scan begins from most) (Page pairs)) ∷ line) =
        parts (is_own limit who prefix after at inc begins from most) (stops_at limit listed pairs) (next_after (record { after = after; listed = pairs })) (λ name. pages_own name (listed ++ pairs) line)
      where
        parts : (own stops : Bool) (next : Option (List ℕ)) → ((name : List ℕ) → end_own_from node last (scanned_from limit who prefix name (listed ++ pairs) line).behind ≡ end_own_from node last line)
            → end_own_from node last (page_left limit who prefix own stops next listed (listed ++ pairs) (AtDoor place (Call at inc (Scan begins from most) (Page pairs))) line).behind ≡ end_own_from node last line
        parts true true next go_on = refl
        parts true false None go_on = refl
        parts true false (Some name) go_on = go_on name
        parts false stops next go_on = refl
    pages_own after listed (AtDoor place (Call at inc (Scan begins from most) answer) ∷ line) = parts (is_own limit who prefix after at inc begins from most)
      where
        parts : (own : Bool) → end_own_from node last (if own then stopped_at listed line else stopped_at listed (AtDoor place (Call at inc (Scan begins from most) answer) ∷ line)).behind ≡ end_own_from node last line
        parts true = refl
        parts false = refl
    pages_own after listed line = refl

  over_own : (last : Option NodeAct) (line : List Turn) → IsTrue (is_over line) → IsTrue (end_own_from node last line)
  over_own last [] is = refl
  over_own last (turn ∷ line) is = absurd (false≢true is)

  module _ (go_on : List Turn → Bool) (rest : (last : Option NodeAct) (line : List Turn) → IsTrue (go_on line) → IsTrue (end_own_from node last line)) (last : Option NodeAct) where
    -- what was done last at the node, behind the first turn of a boot
    abbrev begun : Incarnation → Option NodeAct
    begun who = if eqb who.node node then Some (acts.Booting who.inc) else last

    boots_its : (who : Incarnation) (act : NodeAct) → eqb who.node node ≡ true → IsTrue (is_boot who.inc act) → IsTrue (ends_own_at (begun who) act)
    boots_its who (acts.Boot inc commits) there boot = subst (λ (b : Bool). IsTrue (act_passes (opens_boot inc) (if b then Some (acts.Booting who.inc) else last))) (sym there) (eq-eqb inc who.inc (sym (eqb-true who.inc inc boot)))
    boots_its who act there boot = absurd (false≢true boot)

    served_own : (who : Incarnation) (line : List Turn) → IsTrue (boot_end_course who go_on line) → IsTrue (end_own_from node (begun who) line)
    served_own who (AtNode at before entry ∷ line) is =
        let parts = and_parts (eqb at who.node && is_boot who.inc entry.act) (go_on line) is in
        let here = and_parts (eqb at who.node) (is_boot who.inc entry.act) parts.0 in
        cases (eqb at node) refl here.0 here.1 parts.1
      where
        cases : (b : Bool) → eqb at node ≡ b → IsTrue (eqb at who.node) → IsTrue (is_boot who.inc entry.act) → IsTrue (go_on line) → IsTrue (if b then ends_own_at (begun who) entry.act && end_own_from node (Some entry.act) line else end_own_from node (begun who) line)
        cases true there same boot more =
            and_from (ends_own_at (begun who) entry.act) (end_own_from node (Some entry.act) line)
            (boots_its who entry.act (eq-eqb who.node node (sym (eqb-true at who.node same) ∙ eqb-true at node there)) boot) (rest (Some entry.act) line more)
        cases false elsewhere same boot more = rest (begun who) line more
    served_own who line is = absurd (false≢true is)

    scan_own : (who : Incarnation) (line : List Turn) → IsTrue (boot_scan_begins who go_on (scanned names_limit who records_prefix line)) → IsTrue (end_own_from node (begun who) line)
    scan_own who line is = subst (λ (b : Bool). IsTrue b) (pages_own names_limit who records_prefix (begun who) [] [] line) (cases (scanned names_limit who records_prefix line) is)
      where
        ended : (left : List Turn) → IsTrue (is_over left || boot_end_course who go_on left) → IsTrue (end_own_from node (begun who) left)
        ended left is' = elim (or_cases (is_over left) (boot_end_course who go_on left) is') [ inl over ↦ over_own (begun who) left over | inr served ↦ served_own who left served ]

        by_whole : (whole : Bool) (left : List Turn) → IsTrue (if whole then boot_end_begins who go_on left else is_over left) → IsTrue (end_own_from node (begun who) left)
        by_whole true left is' = ended left is'
        by_whole false left is' = over_own (begun who) left is'

        cases : (pages : Scanned) → IsTrue (boot_scan_begins who go_on pages) → IsTrue (end_own_from node (begun who) pages.behind)
        cases pages is' = by_whole pages.is_whole pages.behind is'

    up_own : (who : Incarnation) (line : List Turn) → IsTrue (boot_up_begins who go_on line) → IsTrue (end_own_from node (begun who) line)
    up_own who [] is = refl
    up_own who (AtDoor place (Up at inc) ∷ line) is = scan_own who line (and_parts (same_incarnation who (incarnation at inc)) (boot_scan_begins who go_on (scanned names_limit who records_prefix line)) is).1
    up_own who line is = absurd (false≢true is)

    boot_own : (home at : ℕ) (history : List NodeEntry) (entry : NodeEntry) (act : NodeAct) → entry.act ≡ act → (line : List Turn) → IsTrue (eqb home at) → IsTrue (boot_begins home go_on act line) → IsTrue (end_own_from node last (AtNode at history entry ∷ line))
    boot_own home at history entry (acts.Booting inc) began line same is = cases (eqb at node) refl
      where
        behind : (b : Bool) → eqb at node ≡ b → IsTrue (end_own_from node (if b then Some entry.act else last) line)
        behind b there =
            subst (λ (o : Option NodeAct). IsTrue (end_own_from node o line))
            (ap (λ (t : Bool). if t then Some (acts.Booting inc) else last) (ap (λ (n : ℕ). eqb n node) (eqb-true home at same) ∙ there) ∙ ap (λ (a : NodeAct). if b then Some a else last) (sym began))
            (up_own (incarnation home inc) line is)

        cases : (b : Bool) → eqb at node ≡ b → IsTrue (if b then ends_own_at last entry.act && end_own_from node (Some entry.act) line else end_own_from node last line)
        cases true there = and_from (ends_own_at last entry.act) (end_own_from node (Some entry.act) line) (subst (λ (a : NodeAct). IsTrue (ends_own_at last a)) (sym began) refl) (behind true there)
        cases false elsewhere = behind false elsewhere
    boot_own home at history entry act began line same is = absurd (false≢true is)

  boots_own : (nodes : List ℕ) (line : List Turn) → IsTrue (boots_begin nodes line) → (last : Option NodeAct) → IsTrue (end_own_from node last line)
  boots_own [] [] is last = refl
  boots_own (home ∷ nodes) [] is last = refl
  boots_own (home ∷ nodes) (AtNode at history entry ∷ line) is last =
      let parts = and_parts (eqb home at) (boot_begins home (boots_begin nodes) entry.act line) is in
      boot_own (boots_begin nodes) (λ other l so. boots_own nodes l so other) last home at history entry entry.act refl line parts.0 parts.1
  boots_own nodes line is last = absurd (false≢true is)

  pub opening_own : (nodes : List ℕ) (line : List Turn) → IsTrue (opening_begins nodes line) → IsTrue (end_own_from node None line)
  opening_own nodes [] is = refl
  opening_own nodes (AtDoor place act ∷ line) is = cases (opens act) (λ so. opening_own nodes line so) is
    where
      cases : (b : Bool) → (IsTrue (opening_begins nodes line) → IsTrue (end_own_from node None line)) → IsTrue (if b then boots_begin nodes line else opening_begins nodes line) → IsTrue (end_own_from node None line)
      cases true reads so = boots_own nodes line so None
      cases false reads so = reads so
  opening_own nodes line is = absurd (false≢true is)
