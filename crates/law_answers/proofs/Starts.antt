-- What a start is answered: that the node serves or boots already, or what came of the boot that it began.
use Rattle.std.proofs.Common.{◌≡◌, ◌++◌, ℕ, Bool, true, false, eqb, ◌&&◌, not, List, [], ◌∷◌, length, refl, sym, ap, subst, ◌∙◌, inl, inr, arith}
use Rattle.std.specs.Prelude.{IsTrue, Option, Some, None, if◌then◌else◌}
use Rattle.std.proofs.lemmas.Bool.{and_from, and_parts, and_right, eqb-true, false_from_ne_true, false≢true, not-true, or_right}
use Rattle.aft_model.specs.declared.caller.By.{By}
use Rattle.aft_model.specs.declared.door.DoorAct.TheVariants.{Up}
use Rattle.aft_model.specs.declared.node.NodeAct.{NodeAct}
use Rattle.aft_model.specs.declared.node.NodeAct.TheVariants.{Booting}
use Rattle.aft_model.specs.declared.node.NodeEntry.{NodeEntry}
use Rattle.aft_model.specs.declared.reply.Reply.{Reply}
use Rattle.aft_model.specs.declared.reply.Reply.TheVariants as replies
use Rattle.aft_model.specs.declared.script.Command.TheVariants.{Start}
use Rattle.aft_model.specs.History.{first_of}
use Rattle.aft_model.specs.LegalNode.{may_be_done, may_follow_at}
use Rattle.aft_model.specs.Membership.{Incarnation, incarnation, same_incarnation}
use Rattle.aft_model.specs.NodeRules.{may_begin_boot}
use Rattle.aft_model.specs.NodeState.{IsBooting, IsDown, IsServing, NodeState, in_service, newest, node_state, service, service_in}
use Rattle.aft_model.specs.Replies.{is_silent}
use Rattle.aft_model.specs.ScanRun.{ScanPage, is_scan_run, same_line, scan_pages}
use Rattle.aft_model.specs.Sound.{records_prefix}
use Rattle.aft_lines.specs.Causes.{ExactlyCaused, cause}
use Rattle.aft_lines.specs.CausesNodes.{begins_boot, is_boot_running}
use Rattle.aft_lines.specs.CourseWords.{Ends, closes, ends_at_node}
use Rattle.aft_lines.specs.LineCourse.{ends_boot, scan_course, start_after, start_course, up_course}
use Rattle.aft_lines.specs.LineView.{LineView, ends_of}
use Rattle.aft_lines.specs.ScanCourse.{names_limit, scanned}
use Rattle.aft_lines.specs.Turns.{AtDoor, AtNode, AtOffice, Turn}
use Rattle.law_answers.specs.Courses.{keeps_its_course, keeps_rules, stands_at_its_node}
use Rattle.law_answers.proofs.Faults.{damage_told, failed_so, many_told, otherwise_told, told_faults}
use Rattle.law_answers.proofs.Scans.{Fair, damaged, entries, fails, many, not_ended, records_fair, run_of}
use Rattle.law_answers.proofs.Served.{never_served}
use Rattle.law_answers.proofs.Settled.{Settles, by_turns_and, with_turns}

-- ---- a start that answers at once

abbrev told_state : ℕ → NodeState → Option Reply
told_state asked (IsServing serving) = Some (replies.IsUp asked serving.inc)
told_state asked (IsBooting inc true) = Some (replies.IsBooting asked inc)
told_state asked state = None

up_so : (asked node inc : ℕ) (state : NodeState) → IsTrue (eqb node asked && in_service (λ serving. eqb inc serving.inc) (service_in state)) → Some (replies.IsUp node inc) ≡ told_state asked state
up_so asked node inc (IsServing serving) is =
    let parts = and_parts (eqb node asked) (eqb inc serving.inc) is in
    let n : node ≡ asked = eqb-true node asked parts.0 in
    let i : inc ≡ serving.inc = eqb-true inc serving.inc parts.1 in
    cc
up_so asked node inc IsDown is = absurd (false≢true (and_parts (eqb node asked) false is).1)
up_so asked node inc (IsBooting booting running) is = absurd (false≢true (and_parts (eqb node asked) false is).1)

booting_so : (asked node inc : ℕ) (state : NodeState) → IsTrue (eqb node asked && is_boot_running inc state) → Some (replies.IsBooting node inc) ≡ told_state asked state
booting_so asked node inc (IsBooting booting true) is =
    let parts = and_parts (eqb node asked) (eqb inc booting && true) is in
    let n : node ≡ asked = eqb-true node asked parts.0 in
    let i : inc ≡ booting = eqb-true inc booting (and_parts (eqb inc booting) true parts.1).0 in
    cc
booting_so asked node inc (IsBooting booting false) is = absurd (false≢true (and_parts (eqb inc booting) false (and_parts (eqb node asked) (eqb inc booting && false) is).1).1)
booting_so asked node inc IsDown is = absurd (false≢true (and_parts (eqb node asked) false is).1)
booting_so asked node inc (IsServing serving) is = absurd (false≢true (and_parts (eqb node asked) false is).1)

module _ (view : LineView) (asked node : ℕ) (before : List NodeEntry) (entry : NodeEntry) where
  alone_settles : ((inc : ℕ) → begins_boot inc entry.act ≡ false) → Settles (with_turns view (Start asked) (AtNode node before entry ∷ [])) (told_state asked (node_state before))
  alone_settles none (replies.IsUp which inc) caused = inr (up_so asked which inc (node_state before) caused)
  alone_settles none (replies.IsBooting which inc) caused = inr (booting_so asked which inc (node_state before) caused)
  alone_settles none (replies.Started which inc) caused =
      let a = and_parts _ true caused in
      let b = and_parts _ true a.0 in
      let c = and_parts (eqb which asked && begins_boot inc entry.act) _ b.0 in
      absurd (false≢true (sym (none inc) ∙ (and_parts (eqb which asked) (begins_boot inc entry.act) c.0).1))
  alone_settles none (replies.NodeDown which inc) caused = inl refl
  alone_settles none replies.Committing caused = absurd (never_served view.hold.attempt (service before) caused)
  alone_settles none replies.NoMemory caused = inl refl
  alone_settles none reply caused = absurd (false≢true caused)

-- ---- a start that boots

-- where a boot may begin, no service is there, and no boot runs
no_service : (inc last its : ℕ) (state : NodeState) → IsTrue (may_begin_boot inc last state) → in_service (λ serving. eqb its serving.inc) (service_in state) ≡ false
no_service inc last its IsDown may = refl
no_service inc last its (IsBooting booting running) may = refl
no_service inc last its (IsServing serving) may = absurd (false≢true may)

no_boot : (inc last its : ℕ) (state : NodeState) → IsTrue (may_begin_boot inc last state) → is_boot_running its state ≡ false
no_boot inc last its IsDown may = refl
no_boot inc last its (IsBooting booting true) may = absurd (false≢true (and_parts (eqb inc booting) false may).1)
no_boot inc last its (IsBooting booting false) may = and_right (eqb its booting) false refl
no_boot inc last its (IsServing serving) may = absurd (false≢true may)

begun_so : (its inc : ℕ) (act : NodeAct) → act ≡ Booting inc → IsTrue (begins_boot its act) → its ≡ inc
begun_so its inc act e is = eqb-true its inc (subst (λ (a : NodeAct). IsTrue (begins_boot its a)) e is)

empty_so : (damage : List (List ℕ)) → IsTrue (eqb (length damage) 0) → first_of damage ≡ None
empty_so [] is = refl
empty_so (name ∷ damage) is = absurd (omega (arith, eqb-true (length (name ∷ damage)) 0 is))

module _ (view : LineView) (asked node : ℕ) (before : List NodeEntry) (entry : NodeEntry) (inc : ℕ) (rest : List Turn) (boots : entry.act ≡ Booting inc) (its_node : asked ≡ node)
    (may : IsTrue (may_begin_boot inc (newest before) (node_state before))) (fair : Fair (fails view.by rest) false (many view.by rest) (damaged view.by rest))
    (unended : IsTrue (fails view.by rest) → is_scan_run (scan_pages (incarnation node inc) view.by records_prefix (entries view.by rest)) ≡ false) where
  -- a boot that started saw no call fail
  unfailed : (which its : ℕ) → which ≡ asked → its ≡ inc → IsTrue (is_scan_run (scan_pages (incarnation which its) view.by records_prefix (entries view.by rest))) → fails view.by rest ≡ false
  unfailed which its w i whole = false_from_ne_true (fails view.by rest) (λ failed. false≢true (sym (unended failed) ∙ subst (λ (n : ℕ). IsTrue (is_scan_run (scan_pages (incarnation n inc) view.by records_prefix (entries view.by rest)))) (w ∙ its_node) (subst (λ (n : ℕ). IsTrue (is_scan_run (scan_pages (incarnation which n) view.by records_prefix (entries view.by rest)))) i whole)))

  abbrev booted : Option Reply
  booted = Some (replies.Started asked inc)

  boot_settles : Settles (with_turns view (Start asked) (AtNode node before entry ∷ rest)) (told_faults (fails view.by rest) (many view.by rest) (first_of (damaged view.by rest)) booted)
  boot_settles (replies.Started which its) caused =
      let a = and_parts (((eqb which asked && begins_boot its entry.act) && is_scan_run (scan_pages (incarnation which its) view.by records_prefix (entries view.by rest))) && eqb (length (damaged view.by rest)) 0) (not (many view.by rest)) caused in
      let b = and_parts ((eqb which asked && begins_boot its entry.act) && is_scan_run (scan_pages (incarnation which its) view.by records_prefix (entries view.by rest))) (eqb (length (damaged view.by rest)) 0) a.0 in
      let d = and_parts (eqb which asked && begins_boot its entry.act) (is_scan_run (scan_pages (incarnation which its) view.by records_prefix (entries view.by rest))) b.0 in
      let e = and_parts (eqb which asked) (begins_boot its entry.act) d.0 in
      let w : which ≡ asked = eqb-true which asked e.0 in
      let i : its ≡ inc = begun_so its inc entry.act boots e.1 in
      let same : Some (replies.Started which its) ≡ Some (replies.Started asked inc) = cc (w, i) in
      inr (same ∙ otherwise_told (fails view.by rest) (many view.by rest) (damaged view.by rest) booted (unfailed which its w i d.1) (not-true (many view.by rest) a.1) (empty_so (damaged view.by rest) b.1))
  boot_settles (replies.IsUp which its) caused = absurd (false≢true (sym (no_service inc (newest before) its (node_state before) may) ∙ (and_parts (eqb which asked) (in_service (λ serving. eqb its serving.inc) (service before)) caused).1))
  boot_settles (replies.IsBooting which its) caused = absurd (false≢true (sym (no_boot inc (newest before) its (node_state before) may) ∙ (and_parts (eqb which asked) (is_boot_running its (node_state before)) caused).1))
  boot_settles replies.StoreFault caused = inr (failed_so (fails view.by rest) (many view.by rest) (first_of (damaged view.by rest)) booted caused)
  boot_settles replies.TooManyRecords caused = inr (many_told (fails view.by rest) false (many view.by rest) (damaged view.by rest) fair booted caused)
  boot_settles (replies.Damaged name) caused = inr (damage_told (fails view.by rest) false (many view.by rest) (damaged view.by rest) fair booted name caused)
  boot_settles (replies.NodeDown which its) caused = inl refl
  boot_settles replies.Committing caused = absurd (never_served view.hold.attempt (service before) caused)
  boot_settles replies.NoMemory caused = inl refl
  boot_settles reply caused = absurd (false≢true caused)

-- ---- any start

-- a line that ends at a node does nothing more at the door
pub quiet : (by : By) (node : ℕ) (test : NodeState → NodeEntry → Bool) (line : List Turn) → IsTrue (ends_at_node node test line) → entries by line ≡ []
quiet by node test (AtNode at before entry ∷ []) follows = refl
quiet by node test (AtNode at before entry ∷ turn ∷ line) follows = absurd (false≢true follows)
quiet by node test (AtDoor place act ∷ line) follows = absurd (false≢true follows)
quiet by node test (AtOffice before entry ∷ line) follows = absurd (false≢true follows)
quiet by node test [] follows = absurd (false≢true follows)

-- what a boot's scan shows its line
record Shown (by : By) (who : Incarnation) (line : List Turn) : Type 0 where
  fair : Fair (fails by line) false (many by line) (damaged by line)
  unended : IsTrue (fails by line) → is_scan_run (scan_pages who by records_prefix (entries by line)) ≡ false

scan_shown : (by : By) (ends : Ends) (who : Incarnation) (line : List Turn) → IsTrue (scan_course ends who (scanned names_limit who records_prefix line)) → Shown by who line
scan_shown by ends who line follows =
    let its = run_of names_limit by who records_prefix [] [] line (omega arith) in
    let none = quiet by who.node (closes ends who.inc (ends_boot who.inc (scanned names_limit who records_prefix line).is_whole)) (scanned names_limit who records_prefix line).behind follows in
    let all = records_fair by who line (scanned names_limit who records_prefix line) its none in
    record {
      fair = record { unspoiled = λ is. all.unspoiled (or_right _ _ is); few = λ is. all.few (or_right _ _ is); unfailed = λ is. absurd (false≢true is) };
      unended = not_ended by who line (scanned names_limit who records_prefix line) its none;
    }

-- the coming up shows nothing
no_page : (same : Bool) (pages : List ScanPage) → (if same then [] else []) ++ pages ≡ pages
no_page true pages = refl
no_page false pages = refl

up_shown : (by : By) (ends : Ends) (who : Incarnation) (line : List Turn) → IsTrue (up_course ends who line) → Shown by who line
up_shown by ends who (AtDoor place (Up node inc) ∷ line) follows =
    let shown = scan_shown by ends who line (and_parts (same_incarnation who (incarnation node inc)) _ follows).1 in
    record {
      fair = shown.fair;
      unended = λ failed. ap is_scan_run (no_page (same_line by by) (scan_pages who by records_prefix (entries by line))) ∙ shown.unended failed;
    }
up_shown by ends who line follows = scan_shown by ends who line follows

-- a start of one turn begins no boot
alone_boots_not : (ends : Ends) (node : ℕ) (act : NodeAct) → IsTrue (start_after ends node act []) → (inc : ℕ) → begins_boot inc act ≡ false
alone_boots_not ends node (Booting its) follows inc = absurd (false≢true follows)
alone_boots_not ends node act follows inc = refl

module _ (view : LineView) (asked node : ℕ) (before : List NodeEntry) (entry : NodeEntry) where
  -- a boot that begins may do so
  may_boot : (inc : ℕ) → entry.act ≡ Booting inc → IsTrue (may_follow_at node view.settings.cache before entry) → IsTrue (may_begin_boot inc (newest before) (node_state before))
  may_boot inc boots legal =
      let a = and_parts _ _ legal in
      let b = and_parts _ (may_be_done node view.settings.cache before entry.act entry.answer) a.0 in
      (and_parts (may_begin_boot inc (newest before) (node_state before)) (is_silent entry.answer) (subst (λ (act : NodeAct). IsTrue (may_be_done node view.settings.cache before act entry.answer)) boots b.1)).0

  by_act : (act : NodeAct) (turn : Turn) (line : List Turn) → entry.act ≡ act → (ends : Ends) → IsTrue (start_after ends node act (turn ∷ line)) → IsTrue (may_follow_at node view.settings.cache before entry) → asked ≡ node
      → (answer : Option Reply) × Settles (with_turns view (Start asked) (AtNode node before entry ∷ turn ∷ line)) answer
  by_act (Booting inc) turn line boots ends follows legal its_node =
      let shown = up_shown view.by ends (incarnation node inc) (turn ∷ line) follows in (
        told_faults (fails view.by (turn ∷ line)) (many view.by (turn ∷ line)) (first_of (damaged view.by (turn ∷ line))) (Some (replies.Started asked inc)),
        boot_settles view asked node before entry inc (turn ∷ line) boots its_node (may_boot inc boots legal) shown.fair shown.unended,
      )
  by_act act turn line boots ends follows legal its_node = absurd (false≢true follows)

starts_settle : (view : LineView) (asked : ℕ) (turns : List Turn) (ends : Ends) → IsTrue (start_course ends turns) → IsTrue (keeps_rules (with_turns view (Start asked) turns) && stands_at_its_node (with_turns view (Start asked) turns)) → (answer : Option Reply) × Settles (with_turns view (Start asked) turns) answer
starts_settle view asked (AtNode node before entry ∷ []) ends follows needs = (told_state asked (node_state before), alone_settles view asked node before entry (alone_boots_not ends node entry.act follows))
starts_settle view asked (AtNode node before entry ∷ turn ∷ line) ends follows needs =
    let parts = and_parts (keeps_rules (with_turns view (Start asked) (AtNode node before entry ∷ turn ∷ line))) (stands_at_its_node (with_turns view (Start asked) (AtNode node before entry ∷ turn ∷ line))) needs in
    by_act view asked node before entry entry.act turn line refl ends follows (and_parts (may_follow_at node view.settings.cache before entry) _ parts.0).0 (eqb-true asked node (and_parts (eqb asked node) _ parts.1).0)
starts_settle view asked (AtDoor place act ∷ line) ends follows needs = absurd (false≢true follows)
starts_settle view asked (AtOffice before entry ∷ line) ends follows needs = absurd (false≢true follows)
starts_settle view asked [] ends follows needs = absurd (false≢true follows)

pub starts_exact : (asked : ℕ) (view : LineView) (reply : Reply) → view.command ≡ Start asked → IsTrue (keeps_its_course view) → IsTrue (keeps_rules view) → IsTrue (stands_at_its_node view) → IsTrue (cause view reply) → ExactlyCaused view reply
starts_exact asked view reply e keeps rules stands caused =
    by_turns_and (λ its. keeps_rules its && stands_at_its_node its) view (Start asked) reply e keeps (and_from _ _ rules stands) caused (λ turns follows needs. starts_settle view asked turns (ends_of (with_turns view (Start asked) turns)) follows needs)
