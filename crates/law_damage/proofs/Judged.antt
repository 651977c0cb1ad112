-- Commits and aborts are shown no damage: what they get is readable, and of the commit that they store.
use Rattle.std.proofs.Common.{◌≡◌, ℕ, Bool, true, false, ◌||◌, not, List, [], ◌∷◌, ◌++◌, refl, sym, ap, subst, ◌∙◌, inl, inr}
use Rattle.std.specs.Prelude.{IsTrue, Option, Some, None, filter, if◌then◌else◌}
use Rattle.std.specs.List.{flat_map, fold, list_all}
use Rattle.std.proofs.lemmas.Bool.{false≢true, not-true, or_cases, or_left, true≢false}
use Rattle.aft_keeper.specs.declared.keeper.KeeperAnswer.{KeeperAnswer}
use Rattle.aft_keeper.specs.declared.keeper.KeeperAnswer.TheVariants.{Found, Page}
use Rattle.aft_keeper.specs.declared.keeper.KeeperCall.TheVariants.{Get, Scan}
use Rattle.aft_keeper.specs.declared.keeper.Pair.{Pair}
use Rattle.aft_records.specs.declared.stored.Commit.{Commit}
use Rattle.aft_records.specs.Commits.{same_commit}
use Rattle.aft_model.specs.declared.caller.By.{By}
use Rattle.aft_model.specs.declared.door.DoorAct.{DoorAct}
use Rattle.aft_model.specs.declared.door.DoorAct.TheVariants.{Call}
use Rattle.aft_model.specs.declared.door.DoorEntry.{DoorEntry}
use Rattle.aft_model.specs.declared.reply.Reply.TheVariants as replies
use Rattle.aft_model.specs.declared.script.Line.{Line}
use Rattle.aft_model.specs.Evidence.{pairs_in}
use Rattle.aft_model.specs.History.{first_of}
use Rattle.aft_model.specs.Honest.{Honest}
use Rattle.aft_model.specs.LegalDoor.{is_answered}
use Rattle.aft_model.specs.NodeState.{part}
use Rattle.aft_model.specs.Readings.{has_reading, records_in}
use Rattle.aft_model.specs.ScanRun.{same_line}
use Rattle.aft_model.specs.Sound.{markers_prefix, records_prefix}
use Rattle.aft_model.proofs.Histories.{In, all_at, any_found, in_flat_map}
use Rattle.aft_model.proofs.Lists.{in_filter, in_map}
use Rattle.aft_lines.specs.Advance.{advance, advance_finish, advanced, leads_to}
use Rattle.aft_lines.specs.Asked.{Asked, Ran}
use Rattle.aft_lines.specs.CausesAttempts.{speaks_of_attempt}
use Rattle.aft_lines.specs.CausesScans.{damage_for, damage_in, damaged_names, is_damage, is_of_another}
use Rattle.aft_lines.specs.CommitCourse.{Storing, gets_record}
use Rattle.aft_lines.specs.CourseWords.{Ends}
use Rattle.aft_lines.specs.FinishedText.{answers_of, line_of}
use Rattle.aft_lines.specs.LegalTrace.{LegalTrace, turn_of}
use Rattle.aft_lines.specs.LineView.{LineView, behind_first, behind_turn, door_entries, door_entry_in, ends_of, fixed_by, fixed_for, node_turn_in}
use Rattle.aft_lines.specs.Lines.{lines, node_numbers}
use Rattle.aft_lines.specs.Makes.{is_under, makes, makes_at_door}
use Rattle.aft_lines.specs.Progress.{HasFailed, IsStoring, NotBegun, Progress, Settling}
use Rattle.aft_lines.specs.Steps.{Made, own_steps}
use Rattle.aft_lines.specs.Turns.{AtDoor, AtNode, AtOffice, Turn, turns}
use Rattle.aft_lines.specs.Views.{view_of}
use Rattle.law_finish.specs.Finishing.{finishing}
use Rattle.law_holders.specs.Rows.{is_of_attempt}
use Rattle.law_kept.proofs.PutMarker.{same_commit_itself}
use Rattle.law_kept.proofs.Written.{empty_if}
use Rattle.law_claims.specs.Moments.{or_not_begun, scene_of}
use Rattle.law_claims.proofs.Moments.{at_mover}
use Rattle.law_claims.proofs.Scenes.{same_by}
use Rattle.law_runs.specs.Runs.{Goes, asking_of, command_in, ends_in, line_among, run_steps}
use Rattle.law_runs.proofs.LegalRuns.{legal_goes}
use Rattle.law_runs.proofs.Own.{has_come, makes_all, own_are}
use Rattle.law_runs.proofs.Walks.{from_nowhere}
use Rattle.law_held.proofs.Lines.{Leads, leads}
use Rattle.law_steps.proofs.Parts.{own-append}
use Rattle.law_whole.proofs.Lists.{split_at}
use Rattle.law_damage.specs.Settling.{settling_at}
use Rattle.law_damage.proofs.Fixed.{settles_fixed}
use Rattle.law_damage.proofs.Settling.{shows_own}
use Rattle.law_damage.proofs.Undamaged.{reads_there, tells_none_of}

-- a get that leads such a line on is of the record of the commit that it stores
pub record Gets (position : Progress) (node inc : ℕ) (name : List ℕ) : Type 0 where
  pub storing : Storing
  pub settles : settling_at position ≡ Some storing
  pub gets : IsTrue (gets_record storing node inc name)

gets_if : (position : Progress) (storing : Storing) (node inc : ℕ) (name : List ℕ) → settling_at position ≡ Some storing → (so : Bool) (next to : Progress) → gets_record storing node inc name ≡ so → (if so then Some next else None) ≡ Some to → Gets position node inc name
gets_if position storing node inc name settles true next to own e = record { storing = storing; settles = settles; gets = own }
gets_if position storing node inc name settles false next to own e = absurd (cc)

led_by_get : (ends : Ends) (position to : Progress) (place node inc : ℕ) (name : List ℕ) (answer : KeeperAnswer) → advance_finish ends position (AtDoor place (Call node inc (Get name) answer)) ≡ Some to → Gets position node inc name
led_by_get ends (Settling aborts storing) to place node inc name answer e = gets_if (Settling aborts storing) storing node inc name refl (gets_record storing node inc name) _ to refl e
led_by_get ends (HasFailed storing) to place node inc name answer e = gets_if (HasFailed storing) storing node inc name refl (gets_record storing node inc name) _ to refl e
led_by_get ends (IsStoring storing []) to place node inc name answer e = absurd (cc)
led_by_get ends (IsStoring storing (write ∷ left)) to place node inc name answer e = absurd (cc)
led_by_get ends position to place node inc name answer e = absurd (cc)

pub get_leads : (aborts : Bool) (nodes : List ℕ) (ends : Ends) (position to : Progress) (place node inc : ℕ) (name : List ℕ) (answer : KeeperAnswer) → advance (finishing aborts) nodes ends position (AtDoor place (Call node inc (Get name) answer)) ≡ Some to → Gets position node inc name
get_leads true nodes ends NotBegun to place node inc name answer e = absurd (cc)
get_leads false nodes ends NotBegun to place node inc name answer e = absurd (cc)
get_leads true nodes ends position to place node inc name answer e = led_by_get ends position to place node inc name answer e
get_leads false nodes ends position to place node inc name answer e = led_by_get ends position to place node inc name answer e

-- ---- the line

of_attempt : (aborts : Bool) → IsTrue (is_of_attempt (finishing aborts))
of_attempt true = refl
of_attempt false = refl

gets_records : (aborts : Bool) (node inc : ℕ) (name : List ℕ) (answer : KeeperAnswer) → IsTrue (makes_at_door (finishing aborts) (Call node inc (Get name) answer)) → IsTrue (is_under records_prefix name)
gets_records true node inc name answer made = made
gets_records false node inc name answer made = made

scans_none : (aborts : Bool) (node inc : ℕ) (prefix after : List ℕ) (limit : ℕ) (answer : KeeperAnswer) → IsTrue (makes_at_door (finishing aborts) (Call node inc (Scan prefix after limit) answer)) → ⊥
scans_none true node inc prefix after limit answer made = false≢true made
scans_none false node inc prefix after limit answer made = false≢true made

fixed_of : (aborts : Bool) (view : LineView) → fixed_for (finishing aborts) view ≡ fixed_by view.hold.attempt (part (behind_first view))
fixed_of true view = refl
fixed_of false view = refl

judges : (aborts : Bool) (fixed : Option Commit) (entry : DoorEntry) → damage_for (finishing aborts) fixed entry ≡ damage_in fixed entry
judges true fixed entry = refl
judges false fixed entry = refl

module _ (asked : Asked) (ran : Ran) (legal : LegalTrace asked ran) (honest : Honest ran.trace.door) (line : Line) (listed : In line (lines asked)) (first : line_among (line_of line) (lines asked) ≡ Some line) (aborts : Bool) (order : line.order ≡ finishing aborts) where
  abbrev view : LineView
  view = view_of asked ran line

  abbrev by : By
  by = line_of line

  abbrev nodes : List ℕ
  nodes = node_numbers asked.settings

  abbrev ends : Ends
  ends = ends_of view

  abbrev its_turns : List Turn
  its_turns = turns by ran.trace

  abbrev goes : Goes asked ran
  goes = legal_goes asked ran legal

  of : IsTrue (is_of_attempt line.order)
  of = subst (λ c. IsTrue (is_of_attempt c)) (sym order) (of_attempt aborts)

  own : own_steps by (run_steps ran) ≡ its_turns
  own = own_are asked ran goes line listed of

  speaks : (turn : Turn) → In turn its_turns → IsTrue (turn_of view.hold.attempt turn)
  speaks turn among =
      let held = all_at (λ (l : Line). not (speaks_of_attempt l.order) || list_all (turn_of (view_of asked ran l).hold.attempt) (turns (line_of l) ran.trace)) line (lines asked) listed legal.attempts in
      elim (or_cases (not (speaks_of_attempt line.order)) (list_all (turn_of view.hold.attempt) its_turns) held) [
        | inl silent ↦ absurd (speaking aborts (subst (λ c. IsTrue (not (speaks_of_attempt c))) order silent))
        | inr all ↦ all_at (turn_of view.hold.attempt) turn its_turns among all
      ]
    where
      speaking : (abort : Bool) → IsTrue (not (speaks_of_attempt (finishing abort))) → ⊥
      speaking true none = false≢true none
      speaking false none = false≢true none

  module _ (before rest : List Made) (place node inc : ℕ) (name bytes : List ℕ) (is : run_steps ran ≡ before ++ record { by = by; turn = AtDoor place (Call node inc (Get name) (Found bytes)) } ∷ rest) where
    abbrev one : Made
    one = record { by = by; turn = AtDoor place (Call node inc (Get name) (Found bytes)) }

    led : Leads line.order nodes ends before one
    led = (let come = has_come asked ran goes line listed in leads line.order nodes ends before rest one come.0 (subst (λ l. leads_to line.order nodes ends l ≡ Some come.0) (sym own ∙ ap (own_steps by) is) come.1))

    at_it : (scene_of (asking_of asked ran) before).at by ≡ led.from
    at_it =
        at_mover (asking_of asked ran) by (own_steps by before) line.order (ap command_in first) of
        ∙ (ap (λ e. or_not_begun (leads_to line.order nodes e (own_steps by before))) (ap (ends_in asked ran) first) ∙ ap or_not_begun led.was)

    gets : Gets led.from node inc name
    gets = get_leads aborts nodes ends led.from led.to place node inc name (Found bytes) (subst (λ c. advance c nodes ends led.from (AtDoor place (Call node inc (Get name) (Found bytes))) ≡ Some led.to) order led.goes)

    finds_own : (d : Commit) → In d (records_in (record { name = name; bytes = bytes })) → d ≡ gets.storing.written.commit
    finds_own d among = shows_own asked ran legal honest line listed before rest place node inc name bytes is gets.storing (ap settling_at at_it ∙ gets.settles) gets.gets d among

    was : leads_to (finishing aborts) nodes ends (own_steps by before) ≡ Some led.from
    was = subst (λ c. leads_to c nodes ends (own_steps by before) ≡ Some led.from) order led.was

    parted : its_turns ≡ own_steps by before ++ own_steps by (one ∷ rest)
    parted = sym own ∙ (ap (own_steps by) is ∙ own-append by before (one ∷ rest))

    stores_it : (f : Commit) → fixed_for line.order view ≡ Some f → gets.storing.written.commit ≡ f
    stores_it f fixed = by_first (own_steps by before) refl
      where
        behind : fixed_by view.hold.attempt (part (behind_first view)) ≡ Some f
        behind = sym (ap (λ c. fixed_for c view) order ∙ fixed_of aborts view) ∙ fixed

        none_first : (turn : Turn) (more : List Turn) → own_steps by before ≡ turn ∷ more → ((abort : Bool) → advance (finishing abort) nodes ends NotBegun turn ≡ None) → ⊥
        none_first turn more e nowhere = from_nowhere (advance (finishing aborts) nodes ends) more led.from (subst (λ o. fold (advanced (advance (finishing aborts) nodes ends)) o more ≡ Some led.from) (nowhere aborts) (subst (λ l. leads_to (finishing aborts) nodes ends l ≡ Some led.from) e was))

        unbegun : NotBegun ≡ led.from → ⊥
        unbegun e = absurd (let told : settling_at NotBegun ≡ Some gets.storing = ap settling_at e ∙ gets.settles in cc)

        by_first : (made : List Turn) → own_steps by before ≡ made → gets.storing.written.commit ≡ f
        by_first [] e = absurd (let at_first : Some NotBegun ≡ Some led.from = subst (λ l. leads_to (finishing aborts) nodes ends l ≡ Some led.from) e was in unbegun (cc))
        by_first (AtDoor p act ∷ more) e = absurd (none_first (AtDoor p act) more e (λ abort. at_door abort))
          where
            at_door : (abort : Bool) → advance (finishing abort) nodes ends NotBegun (AtDoor p act) ≡ None
            at_door true = refl
            at_door false = refl
        by_first (AtOffice history entry ∷ more) e = absurd (none_first (AtOffice history entry) more e (λ abort. at_office abort))
          where
            at_office : (abort : Bool) → advance (finishing abort) nodes ends NotBegun (AtOffice history entry) ≡ None
            at_office true = refl
            at_office false = refl
        by_first (AtNode n history entry ∷ more) e =
            let all : its_turns ≡ AtNode n history entry ∷ (more ++ own_steps by (one ∷ rest)) = parted ∙ ap (λ (l : List Turn). l ++ own_steps by (one ∷ rest)) e in
            let own_act = speaks (AtNode n history entry) (subst (λ l. In (AtNode n history entry) l) (sym all) (inl refl)) in
            let fixed_there = sym (ap (λ (l : List Turn). fixed_by view.hold.attempt (part (behind_turn (first_of (flat_map node_turn_in l))))) all) ∙ behind in
            settles_fixed aborts nodes ends view.hold.attempt n history entry more led.from gets.storing f own_act fixed_there (subst (λ l. leads_to (finishing aborts) nodes ends l ≡ Some led.from) e was) gets.settles

    not_another : (pair : Pair) → pair ≡ record { name = name; bytes = bytes } → IsTrue (is_of_another (fixed_for line.order view) pair) → ⊥
    not_another pair same = by_fixed (fixed_for line.order view) refl
      where
        by_fixed : (fixed : Option Commit) → fixed_for line.order view ≡ fixed → IsTrue (is_of_another fixed pair) → ⊥
        by_fixed None e other = false≢true other
        by_fixed (Some f) e other =
            let d = any_found (λ (d : Commit). not (same_commit f d)) (records_in pair) other in
            let its : d.0 ≡ f = finds_own d.0 (subst (λ p. In d.0 (records_in p)) same d.1) ∙ stores_it f e in
            true≢false (sym (subst (λ (x : Commit). IsTrue (same_commit f x)) (sym its) (same_commit_itself f)) ∙ not-true (same_commit f d.0) d.2)

  -- a get of such a line shows no damage
  get_reads : (place node inc : ℕ) (name bytes : List ℕ) → In (AtDoor place (Call node inc (Get name) (Found bytes))) its_turns → IsTrue (is_under records_prefix name) → (pair : Pair) → pair ≡ record { name = name; bytes = bytes } → IsTrue (is_damage (fixed_for line.order view) pair) → ⊥
  get_reads place node inc name bytes there under pair same bad =
      let turn : Turn = AtDoor place (Call node inc (Get name) (Found bytes)) in
      let found = in_map (λ (m : Made). m.turn) turn (filter (λ (m : Made). same_line by m.by) (run_steps ran)) (subst (λ l. In turn l) (sym own) there) in
      let kept = in_filter (λ (m : Made). same_line by m.by) found.0 (run_steps ran) found.1 in
      let it : found.0 ≡ record { by = by; turn = turn } = ap (λ (b : By). record { by = b; turn = found.0.turn }) (sym (same_by by found.0.by kept.1)) ∙ ap (λ (t : Turn). record { by = by; turn = t }) (sym found.2) in
      let at = split_at (record { by = by; turn = turn }) (run_steps ran) (subst (λ (m : Made). In m (run_steps ran)) it kept.0) in
      let named = λ (answered : IsTrue (is_answered (Call node inc (Get name) (Found bytes)))). or_left (is_under records_prefix pair.name) (is_under markers_prefix pair.name) (subst (λ (p : Pair). IsTrue (is_under records_prefix p.name)) (sym same) under) in
      let reads = reads_there asked ran legal honest line listed place (Call node inc (Get name) (Found bytes)) there pair (inl same) named in
      elim (or_cases (not (has_reading pair)) (is_of_another (fixed_for line.order view) pair) bad) [
        | inl unread ↦ true≢false (sym reads ∙ not-true (has_reading pair) unread)
        | inr other ↦ not_another at.0 at.1 place node inc name bytes at.2 pair same other
      ]

  act_reads : (place : ℕ) (act : DoorAct) → In (AtDoor place act) its_turns → IsTrue (makes_at_door (finishing aborts) act) → (pair : Pair) → In pair (pairs_in act) → IsTrue (is_damage (fixed_for line.order view) pair) → ⊥
  act_reads place (Call node inc (Get name) (Found bytes)) there made pair (inl same) bad = get_reads place node inc name bytes there (gets_records aborts node inc name (Found bytes) made) pair same bad
  act_reads place (Call node inc (Get name) (Found bytes)) there made pair (inr nowhere) bad = nowhere
  act_reads place (Call node inc (Scan prefix after limit) (Page pairs)) there made pair among bad = scans_none aborts node inc prefix after limit (Page pairs) made
  act_reads place act there made pair among bad = among

  no_damage : (name : List ℕ) → In name (damaged_names view) → ⊥
  no_damage name among =
      let entry = in_flat_map (damage_for line.order (fixed_for line.order view)) name (door_entries view) among in
      let turn = in_flat_map (door_entry_in by) entry.0 its_turns entry.1 in
      by_turn turn.0 turn.1 entry.0 turn.2 (subst (λ names. In name names) (ap (λ c. damage_for c (fixed_for line.order view) entry.0) order ∙ judges aborts (fixed_for line.order view) entry.0) entry.2)
    where
      by_turn : (turn : Turn) → In turn its_turns → (entry : DoorEntry) → In entry (door_entry_in by turn) → In name (damage_in (fixed_for line.order view) entry) → ⊥
      by_turn (AtDoor place act) there entry (inl is) damage =
          let here = subst (λ (d : DoorEntry). In name (damage_in (fixed_for line.order view) d)) is damage in
          let pair = in_map (λ (p : Pair). p.name) name (filter (is_damage (fixed_for line.order view)) (pairs_in act)) here in
          let shown = in_filter (is_damage (fixed_for line.order view)) pair.0 (pairs_in act) pair.1 in
          let made : IsTrue (makes line.order (AtDoor place act)) = all_at (makes line.order) (AtDoor place act) its_turns there (makes_all asked ran goes line listed) in
          act_reads place act there (subst (λ c. IsTrue (makes c (AtDoor place act))) order made) pair.0 shown.0 shown.1
      by_turn (AtDoor place act) there entry (inr nowhere) damage = nowhere
      by_turn (AtNode n history e) there entry nowhere damage = nowhere
      by_turn (AtOffice history e) there entry nowhere damage = nowhere

  pub undamaged : damaged_names view ≡ []
  undamaged = empty_if (damaged_names view) no_damage

  pub tells_none : (name : List ℕ) → In (replies.Damaged name) (answers_of by ran) → ⊥
  tells_none name among = tells_none_of asked ran legal honest line listed undamaged name among
