-- The beginnings of an opening.
use Rattle.std.proofs.Common.{◌≡◌, ◌++◌, ℕ, Bool, true, false, ◌&&◌, ◌||◌, eqb, List, [], ◌∷◌, refl, sym, subst, inl, inr, ◌⊎◌}
use Rattle.std.specs.Prelude.{IsTrue, Option, Some, None, if◌then◌else◌}
use Rattle.std.proofs.lemmas.Bool.{and_from, and_parts, or_right}
use Rattle.aft_keeper.specs.declared.keeper.KeeperAnswer.TheVariants.{Page}
use Rattle.aft_keeper.specs.declared.keeper.KeeperCall.TheVariants.{Scan}
use Rattle.aft_keeper.specs.declared.keeper.Pair.{Pair}
use Rattle.aft_model.specs.declared.door.DoorAct.TheVariants.{Call, Up}
use Rattle.aft_model.specs.declared.node.NodeAct.{NodeAct}
use Rattle.aft_model.specs.declared.node.NodeAct.TheVariants.{Booting}
use Rattle.aft_model.specs.DoorKnowledge.{opens}
use Rattle.aft_model.specs.Membership.{Incarnation, incarnation, same_incarnation}
use Rattle.aft_model.specs.ScanRun.{next_after}
use Rattle.aft_model.specs.Sound.{records_prefix}
use Rattle.aft_lines.specs.CourseWords.{is_over}
use Rattle.aft_lines.specs.OpeningCourse.{boot_begins, boot_course, boot_end_begins, boot_end_course, boot_scan_begins, boot_scan_course, boot_scan_so_far, boot_up_begins, boot_up_course, boots_begin, boots_course, boots_so_far, is_boot, opening_begins, opening_course, opens_so_far}
use Rattle.aft_lines.specs.ScanCourse.{ScanLimit, Scanned, names_limit, scanned, scanned_from, stopped_at, stops_at}
use Rattle.aft_lines.specs.Turns.{AtDoor, AtNode, AtOffice, Turn}
use Rattle.law_rounds.proofs.Scans.{is_own, page_left}

-- ---- a scan that goes on behind some turns

-- a scan with more turns behind it
abbrev with_rest : Scanned → List Turn → Scanned
with_rest pages rest = record { listed = pages.listed; is_whole = pages.is_whole; behind = pages.behind ++ rest }

-- a scan of some turns is on its way, or it has ended, and then it is that of these turns and more
abbrev OnItsWay : Scanned → Scanned → List Turn → Type 0
OnItsWay pages longer rest = ((pages.is_whole ≡ false) × (pages.behind ≡ [])) ⊎ (longer ≡ with_rest pages rest)

module _ (limit : ScanLimit) (who : Incarnation) (prefix : List ℕ) (rest : List Turn) where
  pub on_its_way : (after : List ℕ) (listed : List Pair) (line : List Turn) → OnItsWay (scanned_from limit who prefix after listed line) (scanned_from limit who prefix after listed (line ++ rest)) rest
  on_its_way after listed [] = inl (refl, refl)
  on_its_way after listed (AtDoor place (Call node inc (Scan begins from most) (Page pairs)) ∷ line) =
      parts (is_own limit who prefix after node inc begins from most) (stops_at limit listed pairs) (next_after (record { after = after; listed = pairs })) (λ name. on_its_way name (listed ++ pairs) line)
    where
      parts : (own stops : Bool) (next : Option (List ℕ)) → ((name : List ℕ) → OnItsWay (scanned_from limit who prefix name (listed ++ pairs) line) (scanned_from limit who prefix name (listed ++ pairs) (line ++ rest)) rest)
          → OnItsWay (page_left limit who prefix own stops next listed (listed ++ pairs) (AtDoor place (Call node inc (Scan begins from most) (Page pairs))) line)
          (page_left limit who prefix own stops next listed (listed ++ pairs) (AtDoor place (Call node inc (Scan begins from most) (Page pairs))) (line ++ rest)) rest
      parts true true next go_on = inr refl
      parts true false None go_on = inr refl
      parts true false (Some name) go_on = go_on name
      parts false stops next go_on = inr refl
  on_its_way after listed (AtDoor place (Call node inc (Scan begins from most) answer) ∷ line) = parts (is_own limit who prefix after node inc begins from most)
    where
      parts : (own : Bool) → OnItsWay (if own then stopped_at listed line else stopped_at listed (AtDoor place (Call node inc (Scan begins from most) answer) ∷ line))
          (if own then stopped_at listed (line ++ rest) else stopped_at listed (AtDoor place (Call node inc (Scan begins from most) answer) ∷ (line ++ rest))) rest
      parts true = inr refl
      parts false = inr refl
  on_its_way after listed (turn ∷ line) = inr refl

-- ---- boots

-- a test that what came before passes too
abbrev Begins : (List Turn → Bool) → (List Turn → Bool) → List Turn → Type 0
Begins long short rest = (line : List Turn) → IsTrue (long (line ++ rest)) → IsTrue (short line)

module _ (rest : List Turn) where
  serves_before : (who : Incarnation) (go_on : List Turn → Bool) → Begins go_on go_on rest → (turn : Turn) (line : List Turn) → IsTrue (boot_end_course who go_on (turn ∷ (line ++ rest))) → IsTrue (boot_end_course who go_on (turn ∷ line))
  serves_before who go_on before (AtDoor place act) line is = absurd (cc)
  serves_before who go_on before (AtOffice earlier entry) line is = absurd (cc)
  serves_before who go_on before (AtNode node earlier entry) line is =
      let parts = and_parts (eqb node who.node && is_boot who.inc entry.act) (go_on (line ++ rest)) is in and_from _ _ parts.0 (before line parts.1)

  ends_before : (who : Incarnation) (go_on : List Turn → Bool) → Begins go_on go_on rest → (whole : Bool) (line : List Turn)
      → IsTrue (if whole then boot_end_begins who go_on (line ++ rest) else is_over (line ++ rest)) → IsTrue (if whole then boot_end_begins who go_on line else is_over line)
  ends_before who go_on before true [] is = refl
  ends_before who go_on before false [] is = refl
  ends_before who go_on before true (turn ∷ line) is = serves_before who go_on before turn line is
  ends_before who go_on before false (turn ∷ line) is = absurd (cc)

  scans_before : (who : Incarnation) (go_on : List Turn → Bool) → Begins go_on go_on rest → (pages longer : Scanned) → OnItsWay pages longer rest → IsTrue (boot_scan_begins who go_on longer) → IsTrue (boot_scan_begins who go_on pages)
  scans_before who go_on before pages longer (inl cut) is = subst (λ (b : Bool). IsTrue (if b then boot_end_begins who go_on pages.behind else is_over pages.behind)) (sym cut.0) (subst (λ (l : List Turn). IsTrue (is_over l)) (sym cut.1) refl)
  scans_before who go_on before pages longer (inr same) is = ends_before who go_on before pages.is_whole pages.behind (subst (λ (s : Scanned). IsTrue (boot_scan_begins who go_on s)) same is)

  ups_before : (who : Incarnation) (go_on : List Turn → Bool) → Begins go_on go_on rest → Begins (boot_up_begins who go_on) (boot_up_begins who go_on) rest
  ups_before who go_on before [] is = refl
  ups_before who go_on before (AtDoor place (Up node inc) ∷ line) is =
      let parts = and_parts (same_incarnation who (incarnation node inc)) (boot_scan_begins who go_on (scanned names_limit who records_prefix (line ++ rest))) is in
      and_from _ _ parts.0 (scans_before who go_on before (scanned names_limit who records_prefix line) (scanned names_limit who records_prefix (line ++ rest)) (on_its_way names_limit who records_prefix rest [] [] line) parts.1)
  ups_before who go_on before (turn ∷ line) is = absurd (cc)

  boot_before : (node : ℕ) (go_on : List Turn → Bool) → Begins go_on go_on rest → (act : NodeAct) → Begins (boot_begins node go_on act) (boot_begins node go_on act) rest
  boot_before node go_on before (Booting inc) line is = ups_before (incarnation node inc) go_on before line is
  boot_before node go_on before act line is = absurd (cc)

  boots_before : (nodes : List ℕ) → Begins (boots_begin nodes) (boots_begin nodes) rest
  boots_before nodes [] is = refl
  boots_before [] (turn ∷ line) is = absurd (cc)
  boots_before (node ∷ nodes) (AtDoor place act ∷ line) is = absurd (cc)
  boots_before (node ∷ nodes) (AtOffice earlier entry ∷ line) is = absurd (cc)
  boots_before (node ∷ nodes) (AtNode at earlier entry ∷ line) is =
      let parts = and_parts (eqb node at) (boot_begins node (boots_begin nodes) entry.act (line ++ rest)) is in and_from _ _ parts.0 (boot_before node (boots_begin nodes) (boots_before nodes) entry.act line parts.1)

  pub opening_before : (nodes : List ℕ) (line : List Turn) → IsTrue (opening_begins nodes (line ++ rest)) → IsTrue (opening_begins nodes line)
  opening_before nodes [] is = refl
  opening_before nodes (AtNode node earlier entry ∷ line) is = absurd (cc)
  opening_before nodes (AtOffice earlier entry ∷ line) is = absurd (cc)
  opening_before nodes (AtDoor place act ∷ line) is = cases (opens act) (boots_before nodes line) (opening_before nodes line) is
    where
      cases : (opened : Bool) → (IsTrue (boots_begin nodes (line ++ rest)) → IsTrue (boots_begin nodes line)) → (IsTrue (opening_begins nodes (line ++ rest)) → IsTrue (opening_begins nodes line))
          → IsTrue (if opened then boots_begin nodes (line ++ rest) else opening_begins nodes (line ++ rest)) → IsTrue (if opened then boots_begin nodes line else opening_begins nodes line)
      cases true boots reads so = boots so
      cases false boots reads so = reads so

  -- ---- an opening that was refused

  refused_end : (go_on : List Turn → Bool) → Begins go_on go_on rest → (whole : Bool) (line : List Turn) → IsTrue (is_over (line ++ rest) || whole && go_on (line ++ rest)) → IsTrue (is_over line || whole && go_on line)
  refused_end go_on before whole [] is = refl
  refused_end go_on before whole (turn ∷ line) is = (let parts = and_parts whole (go_on (turn ∷ (line ++ rest))) is in and_from _ _ parts.0 (before (turn ∷ line) parts.1))

  refused_scan : (go_on : List Turn → Bool) → Begins go_on go_on rest → (pages longer : Scanned) → OnItsWay pages longer rest → IsTrue (boot_scan_so_far go_on longer) → IsTrue (boot_scan_so_far go_on pages)
  refused_scan go_on before pages longer (inl cut) is = subst (λ (l : List Turn). IsTrue (is_over l || pages.is_whole && go_on l)) (sym cut.1) refl
  refused_scan go_on before pages longer (inr same) is = refused_end go_on before pages.is_whole pages.behind (subst (λ (s : Scanned). IsTrue (boot_scan_so_far go_on s)) same is)

  refused_boots : (nodes : List ℕ) → Begins (boots_so_far nodes) (boots_so_far nodes) rest
  refused_boots nodes [] is = refl
  refused_boots [] (turn ∷ line) is = absurd (cc)
  refused_boots (node ∷ nodes) (AtDoor place (Up at inc) ∷ line) is =
      let parts = and_parts (eqb node at && eqb inc 1) (boot_scan_so_far (boots_so_far nodes) (scanned names_limit (incarnation node inc) records_prefix (line ++ rest))) is in
      and_from _ _ parts.0
      (refused_scan (boots_so_far nodes) (refused_boots nodes) (scanned names_limit (incarnation node inc) records_prefix line) (scanned names_limit (incarnation node inc) records_prefix (line ++ rest)) (on_its_way names_limit (incarnation node inc) records_prefix rest [] [] line) parts.1)
  refused_boots (node ∷ nodes) (turn ∷ line) is = absurd (cc)

  pub refused_before : (nodes : List ℕ) (line : List Turn) → IsTrue (opens_so_far nodes (line ++ rest)) → IsTrue (opens_so_far nodes line)
  refused_before nodes [] is = refl
  refused_before nodes (AtNode node earlier entry ∷ line) is = absurd (cc)
  refused_before nodes (AtOffice earlier entry ∷ line) is = absurd (cc)
  refused_before nodes (AtDoor place act ∷ line) is = cases (opens act) (refused_boots nodes line) (refused_before nodes line) is
    where
      cases : (opened : Bool) → (IsTrue (boots_so_far nodes (line ++ rest)) → IsTrue (boots_so_far nodes line)) → (IsTrue (opens_so_far nodes (line ++ rest)) → IsTrue (opens_so_far nodes line))
          → IsTrue (if opened then boots_so_far nodes (line ++ rest) else opens_so_far nodes (line ++ rest)) → IsTrue (if opened then boots_so_far nodes line else opens_so_far nodes line)
      cases true boots reads so = boots so
      cases false boots reads so = reads so

-- ---- a whole opening

whole_end : (who : Incarnation) (go_on begins : List Turn → Bool) → ((line : List Turn) → IsTrue (go_on line) → IsTrue (begins line)) → (line : List Turn) → IsTrue (boot_end_course who go_on line) → IsTrue (boot_end_course who begins line)
whole_end who go_on begins so [] is = absurd (cc)
whole_end who go_on begins so (AtDoor place act ∷ line) is = absurd (cc)
whole_end who go_on begins so (AtOffice before entry ∷ line) is = absurd (cc)
whole_end who go_on begins so (AtNode node before entry ∷ line) is = (let parts = and_parts (eqb node who.node && is_boot who.inc entry.act) (go_on line) is in and_from _ _ parts.0 (so line parts.1))

whole_scan : (who : Incarnation) (go_on begins : List Turn → Bool) → ((line : List Turn) → IsTrue (go_on line) → IsTrue (begins line)) → (whole : Bool) (line : List Turn) → IsTrue (whole && boot_end_course who go_on line) → IsTrue (if whole then boot_end_begins who begins line else is_over line)
whole_scan who go_on begins so true line is = or_right _ _ (whole_end who go_on begins so line is)
whole_scan who go_on begins so false line is = absurd (cc)

whole_up : (who : Incarnation) (go_on begins : List Turn → Bool) → ((line : List Turn) → IsTrue (go_on line) → IsTrue (begins line)) → (line : List Turn) → IsTrue (boot_up_course who go_on line) → IsTrue (boot_up_begins who begins line)
whole_up who go_on begins so [] is = refl
whole_up who go_on begins so (AtDoor place (Up node inc) ∷ line) is =
    let parts = and_parts (same_incarnation who (incarnation node inc)) (boot_scan_course who go_on (scanned names_limit who records_prefix line)) is in
    and_from _ _ parts.0 (whole_scan who go_on begins so (scanned names_limit who records_prefix line).is_whole (scanned names_limit who records_prefix line).behind parts.1)
whole_up who go_on begins so (turn ∷ line) is = absurd (cc)

whole_boot : (node : ℕ) (go_on begins : List Turn → Bool) → ((line : List Turn) → IsTrue (go_on line) → IsTrue (begins line)) → (act : NodeAct) (line : List Turn) → IsTrue (boot_course node go_on act line) → IsTrue (boot_begins node begins act line)
whole_boot node go_on begins so (Booting inc) line is = whole_up (incarnation node inc) go_on begins so line is
whole_boot node go_on begins so act line is = absurd (cc)

whole_boots : (nodes : List ℕ) (line : List Turn) → IsTrue (boots_course nodes line) → IsTrue (boots_begin nodes line)
whole_boots nodes [] is = refl
whole_boots [] (turn ∷ line) is = absurd (cc)
whole_boots (node ∷ nodes) (AtDoor place act ∷ line) is = absurd (cc)
whole_boots (node ∷ nodes) (AtOffice before entry ∷ line) is = absurd (cc)
whole_boots (node ∷ nodes) (AtNode at before entry ∷ line) is =
    let parts = and_parts (eqb node at) (boot_course node (boots_course nodes) entry.act line) is in and_from _ _ parts.0 (whole_boot node (boots_course nodes) (boots_begin nodes) (whole_boots nodes) entry.act line parts.1)

pub whole_opening : (nodes : List ℕ) (line : List Turn) → IsTrue (opening_course nodes line) → IsTrue (opening_begins nodes line)
whole_opening nodes [] is = refl
whole_opening nodes (AtNode node before entry ∷ line) is = absurd (cc)
whole_opening nodes (AtOffice before entry ∷ line) is = absurd (cc)
whole_opening nodes (AtDoor place act ∷ line) is = cases (opens act) (whole_boots nodes line) (whole_opening nodes line) is
  where
    cases : (opened : Bool) → (IsTrue (boots_course nodes line) → IsTrue (boots_begin nodes line)) → (IsTrue (opening_course nodes line) → IsTrue (opening_begins nodes line))
        → IsTrue (if opened then boots_course nodes line else opening_course nodes line) → IsTrue (if opened then boots_begin nodes line else opening_begins nodes line)
    cases true boots reads so = boots so
    cases false boots reads so = reads so
