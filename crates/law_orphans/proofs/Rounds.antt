-- In a run each delete by a round of orphans is by the rule on orphan versions.
use Rattle.std.proofs.Common.{◌≡◌, ℕ, Bool, true, false, ◌&&◌, ◌||◌, not, List, [], ◌∷◌, ◌++◌, length, refl, sym, ap, subst, ◌∙◌, inl, inr, append-nil, append_assoc}
use Rattle.std.specs.Prelude.{IsTrue, None, Option, Some, if◌then◌else◌}
use Rattle.std.specs.List.{flat_map, list_any}
use Rattle.std.specs.Str.{bytes_eq}
use Rattle.std.proofs.lemmas.Bool.{and_from, and_parts, cases_Bool, false≢true, true≢false}
use Rattle.std.proofs.lemmas.List.Concat.{flat_map-append}
use Rattle.aft_keeper.specs.declared.keeper.KeeperAnswer.{KeeperAnswer}
use Rattle.aft_keeper.specs.declared.keeper.KeeperCall.TheVariants as calls
use Rattle.aft_records.specs.declared.name.Name.{Name}
use Rattle.aft_records.specs.declared.name.Name.TheVariants.{VersionOf}
use Rattle.aft_records.specs.NameReading.{name_of}
use Rattle.aft_model.specs.declared.caller.By.{By}
use Rattle.aft_model.specs.declared.door.DoorAct.{DoorAct}
use Rattle.aft_model.specs.declared.door.DoorAct.TheVariants as doors
use Rattle.aft_model.specs.declared.door.DoorEntry.{DoorEntry}
use Rattle.aft_model.specs.declared.script.Command.{Command}
use Rattle.aft_model.specs.declared.script.Command.TheVariants as commands
use Rattle.aft_model.specs.declared.script.Line.{Line}
use Rattle.aft_model.specs.Claims.{claim_place, holds}
use Rattle.aft_model.specs.DoorKnowledge.{knows_orphan}
use Rattle.aft_model.specs.DoorRules.{is_looked_at, may_delete_orphan}
use Rattle.aft_model.specs.LegalDoor.{Legal, is_answered, may_follow}
use Rattle.aft_model.specs.Membership.{incarnation, same_incarnation, the_office}
use Rattle.aft_model.specs.Orphans.{deletes_orphan_in, deletes_rightly, is_orphan}
use Rattle.aft_model.specs.Readings.{version_name}
use Rattle.aft_model.specs.ScanRun.{same_line}
use Rattle.aft_model.proofs.Histories.{In, all_at, any_found, each_after_snoc, each_after_split, in_back, in_flat_map}
use Rattle.aft_model.proofs.Sights.{same_bytes}
use Rattle.aft_lines.specs.Advance.{advance, advance_orphans, in_round, leads_to, moved_at_desk, told_at_desk}
use Rattle.aft_lines.specs.Asked.{Asked, Ran}
use Rattle.aft_lines.specs.CourseWords.{Ends}
use Rattle.aft_lines.specs.FinishedText.{line_of}
use Rattle.aft_lines.specs.Holding.{held_at}
use Rattle.aft_lines.specs.LineView.{door_entry_in, ends_of}
use Rattle.aft_lines.specs.Lines.{lines, node_numbers}
use Rattle.aft_lines.specs.Makes.{makes}
use Rattle.aft_lines.specs.OrphanCourse.{VersionAt}
use Rattle.aft_lines.specs.Progress.{AtDesk, HasLeft, Holds, InRound, IsOver, LookedOnce, LookedTwice, MustFree, MustTell, NotBegun, OrphanScan, Progress, Standing}
use Rattle.aft_lines.specs.Steps.{Made, door_steps, own_steps}
use Rattle.aft_lines.specs.Turns.{AtDoor, AtNode, AtOffice, Turn}
use Rattle.aft_lines.specs.Views.{view_of}
use Rattle.law_claims.specs.Desk.{is_desk_row, stands_so}
use Rattle.law_claims.specs.Moments.{or_not_begun}
use Rattle.law_claims.proofs.DeskSteps.{desk_tells}
use Rattle.law_claims.proofs.Moments.{door-snoc, own_other}
use Rattle.law_claims.proofs.Scenes.{same_by}
use Rattle.law_runs.specs.Runs.{Goes, asking_of, command_in, ends_in, line_among, run_steps, without_office}
use Rattle.law_runs.proofs.Come.{Named, named_line, turn_made}
use Rattle.law_runs.proofs.Members.{no_office_step}
use Rattle.law_kept.specs.Kept.{Lawful}
use Rattle.law_kept.proofs.Always.{lawful_begins}
use Rattle.law_steps.proofs.Histories.{door_is}
use Rattle.law_turns.specs.Order.{is_at_office}
use Rattle.law_held.specs.Desk.{desk_of, desk_of_turns}
use Rattle.law_held.proofs.DeskRuns.{lies_behind}
use Rattle.law_held.proofs.Lines.{Leads, leads}
use Rattle.law_held.proofs.OrphanLines.{round_led, rows}
use Rattle.law_held.proofs.Placed.{placed}
use Rattle.law_orphans.specs.Rounds.{RoundsDeleteOrphans}
use Rattle.law_orphans.proofs.Deleted.{all_orphans}
use Rattle.law_orphans.proofs.Looked.{IsNamed, Knows, KnowsSo, goes_knowing, knows_grows, taken_if}

-- ---- a delete at a position

-- what a round deletes: a version that is named, of the UUID that it holds, and which it knows to be an orphan
record Deletes (door : List DoorEntry) (name : List ℕ) (position : Progress) : Type 0 where
  pub one : VersionAt
  pub desk : AtDesk
  pub named : IsNamed one
  pub its : name ≡ version_name one.key one.id
  pub holds : held_at position ≡ Some desk
  pub same : one.id.uuid ≡ desk.uuid
  pub knows : IsTrue (knows_orphan one.id desk.place door)

module _ (door : List DoorEntry) (place node inc : ℕ) (name : List ℕ) (answer : KeeperAnswer) where
  abbrev turn : Turn
  turn = AtDoor place (doors.Call node inc (calls.Delete name) answer)

  untold : (standing : Standing) → IsTrue (told_at_desk turn standing) → ⊥
  untold (HasLeft []) told = false≢true told
  untold (HasLeft (one ∷ left)) told = false≢true told
  untold MustTell told = false≢true told
  untold standing told = false≢true told

  standing_deletes : (desk : Option AtDesk) (standings : List Standing) (standing x : Standing) → KnowsSo door desk standing → IsTrue (stands_so desk standing) → In x (moved_at_desk turn standing) → Deletes door name (InRound desk standings)
  standing_deletes (Some desk) standings (LookedTwice held) x knows row among =
      let taken = taken_if (same_incarnation the_office (incarnation node inc) && bytes_eq (version_name held.one.key held.one.id) name) (MustFree true held) x among in
      let same = (and_parts (same_incarnation the_office (incarnation node inc)) (bytes_eq (version_name held.one.key held.one.id) name) taken.0).1 in
      record {
        one = held.one;
        desk = desk;
        named = knows.0.1 held.one (inl refl);
        its = sym (same_bytes (version_name held.one.key held.one.id) name same);
        holds = refl;
        same = same_bytes held.one.id.uuid desk.uuid row;
        knows = knows.1;
      }
  standing_deletes None standings (LookedTwice held) x knows row among = absurd knows
  standing_deletes desk standings (HasLeft left) x knows row among = absurd among
  standing_deletes desk standings (Holds held) x knows row among = absurd among
  standing_deletes desk standings (LookedOnce held) x knows row among = absurd among
  standing_deletes desk standings (MustFree goes_on held) x knows row among = absurd among
  standing_deletes desk standings MustTell x knows row among = absurd among

  round_deletes : (desk : Option AtDesk) (standings : List Standing) (to : Progress) → Knows door (InRound desk standings) → IsTrue (is_desk_row (InRound desk standings)) → advance_orphans [] (InRound desk standings) turn ≡ Some to → Deletes door name (InRound desk standings)
  round_deletes desk standings to knows row goes = cases (list_any (told_at_desk turn) standings) refl (flat_map (moved_at_desk turn) standings) (λ x among. among) goes
    where
      cases : (t : Bool) → list_any (told_at_desk turn) standings ≡ t → (moved : List Standing) → ((x : Standing) → In x moved → In x (flat_map (moved_at_desk turn) standings)) → (if t then Some IsOver else in_round desk moved) ≡ Some to → Deletes door name (InRound desk standings)
      cases true told moved from is = absurd (let found = any_found (told_at_desk turn) standings told in untold found.0 found.2)
      cases false told [] from is = absurd (let e : None ≡ Some to = is in cc)
      cases false told (x ∷ xs) from is =
          let found = in_flat_map (moved_at_desk turn) x standings (from x (inl refl)) in
          standing_deletes desk standings found.0 x (knows found.0 found.1) (all_at (stands_so desk) found.0 standings found.1 row) found.2

  none_goes : (to : Progress) → None ≡ Some to → ⊥
  none_goes to is = cc

  deletes_at : (key nodes : List ℕ) (ends : Ends) (position to : Progress) → Knows door position → IsTrue (is_desk_row position) → advance (commands.Orphans key) nodes ends position turn ≡ Some to → Deletes door name position
  deletes_at key nodes ends NotBegun to knows row goes = absurd (none_goes to goes)
  deletes_at key nodes ends (OrphanScan scan) to knows row goes = absurd (none_goes to goes)
  deletes_at key nodes ends (InRound desk standings) to knows row goes = round_deletes desk standings to knows row goes
  deletes_at key nodes ends position to knows row goes = absurd (none_goes to goes)

-- ---- along a run

module _ (asked : Asked) (ran : Ran) (so : Goes asked ran) where
  abbrev nodes : List ℕ
  nodes = node_numbers asked.settings

  -- the door's history, at a step
  pub door_split : (before rest : List Made) → run_steps ran ≡ before ++ rest → ran.trace.door ≡ door_steps before ++ door_steps rest
  door_split before rest is = sym (door_is (without_office ran.trace)) ∙ (ap door_steps is ∙ flat_map-append (λ (m : Made). door_entry_in m.by m.turn) before rest)

  module _ (before rest : List Made) (one : Made) (place : ℕ) (act : DoorAct) (is : run_steps ran ≡ before ++ one ∷ rest) (turned : one.turn ≡ AtDoor place act) where
    abbrev entry : DoorEntry
    entry = record { by = one.by; act = act }

    pub door_now : door_steps (before ++ one ∷ []) ≡ door_steps before ++ entry ∷ []
    door_now = door-snoc before one ∙ ap (λ (t : Turn). door_steps before ++ door_entry_in one.by t) turned

    pub door_behind : ran.trace.door ≡ (door_steps before ++ entry ∷ []) ++ door_steps rest
    door_behind = door_split (before ++ one ∷ []) rest (is ∙ sym (append_assoc before (one ∷ []) rest)) ∙ ap (λ (d : List DoorEntry). d ++ door_steps rest) door_now

    legal_here : Legal (door_steps before) × IsTrue (may_follow (door_steps before) entry)
    legal_here = each_after_snoc may_follow [] (door_steps before) entry (each_after_split may_follow [] (door_steps before ++ entry ∷ []) (door_steps rest) (subst Legal door_behind so.door)).0

    answered : IsTrue (is_answered act)
    answered = (and_parts (is_answered act) _ legal_here.1).0

  module _ (line : Line) (listed : In line (lines asked)) (found : line_among (line_of line) (lines asked) ≡ Some line) (key : List ℕ) (round : line.order ≡ commands.Orphans key) where
    abbrev its_ends : Ends
    its_ends = ends_of (view_of asked ran line)

    abbrev led_to : List Made → Option Progress
    led_to made = leads_to (commands.Orphans key) nodes its_ends (own_steps (line_of line) made)

    abbrev KnowsAt : List Made → Type 0
    KnowsAt made = Knows (door_steps made) (or_not_begun (led_to made))

    module _ (before rest : List Made) (one : Made) (is : run_steps ran ≡ before ++ one ∷ rest) where
      abbrev after : List Made
      after = before ++ one ∷ []

      -- a step of another
      other_knows : same_line (line_of line) one.by ≡ false → KnowsAt before → KnowsAt after
      other_knows differs knows =
          subst (λ (l : List Turn). Knows (door_steps after) (or_not_begun (leads_to (commands.Orphans key) nodes its_ends l))) (sym (own_other (line_of line) before one differs))
          (subst (λ (d : List DoorEntry). Knows d (or_not_begun (led_to before))) (sym (door-snoc before one)) (knows_grows (door_steps before) (door_entry_in one.by one.turn) (or_not_begun (led_to before)) knows))

      -- an own one
      module _ (its : line_of line ≡ one.by) where
        abbrev led_by : By → List Made → Option Progress
        led_by by made = leads_to (commands.Orphans key) nodes its_ends (own_steps by made)

        whole : led_by one.by (before ++ one ∷ rest) ≡ Some (round_led asked ran so line listed key round).0
        whole = ap (λ (l : List Made). led_by one.by l) (sym is) ∙ (ap (λ (b : By). led_by b (run_steps ran)) (sym its) ∙ (round_led asked ran so line listed key round).1)

        led : Leads (commands.Orphans key) nodes its_ends before one
        led = leads (commands.Orphans key) nodes its_ends before rest one (round_led asked ran so line listed key round).0 whole

        was_at : led_to before ≡ Some led.from
        was_at = subst (λ (b : By). led_by b before ≡ Some led.from) (sym its) led.was

        now_at : led_to after ≡ Some led.to
        now_at = subst (λ (b : By). led_by b after ≡ Some led.to) (sym its) led.now

        knew : KnowsAt before → Knows (door_steps before) led.from
        knew knows = subst (λ (o : Option Progress). Knows (door_steps before) (or_not_begun o)) was_at knows

        at_door : (place : ℕ) (act : DoorAct) → one.turn ≡ AtDoor place act → KnowsAt before → KnowsAt after
        at_door place act turned knows =
            let at_place : place ≡ length (door_steps before) = placed (without_office ran.trace) before rest one place act is turned in
            let goes : advance (commands.Orphans key) nodes its_ends led.from (AtDoor (length (door_steps before)) act) ≡ Some led.to = ap (advance (commands.Orphans key) nodes its_ends led.from) (sym (turned ∙ ap (λ (p : ℕ). AtDoor p act) at_place)) ∙ led.goes in
            let next : Knows (door_steps before ++ record { by = one.by; act = act } ∷ []) led.to = goes_knowing (door_steps before) one.by key nodes its_ends led.from led.to act (answered before rest one place act is turned) (knew knows) goes in
            subst (λ (o : Option Progress). Knows (door_steps after) (or_not_begun o)) (sym now_at) (subst (λ (d : List DoorEntry). Knows d led.to) (sym (door_now before rest one place act is turned)) next)

        own_knows : KnowsAt before → KnowsAt after
        own_knows knows = by_turn one.turn refl
          where
            by_turn : (turn : Turn) → one.turn ≡ turn → KnowsAt after
            by_turn (AtDoor place act) turned = at_door place act turned knows
            by_turn (AtNode node history e) turned =
                absurd (false≢true (subst (λ (t : Turn). IsTrue (makes (commands.Orphans key) t)) turned (subst (λ (c : Command). IsTrue (makes c one.turn)) round (turn_made asked ran so before rest one is line listed its))))
            by_turn (AtOffice history e) turned =
                absurd (true≢false (sym (ap is_at_office turned) ∙ no_office_step ran.trace one (subst (λ (l : List Made). In one l) (sym is) (in_back one before (one ∷ rest) (inl refl)))))

        -- where it deletes, it does so by the rule
        module _ (place node inc : ℕ) (name : List ℕ) (answer : KeeperAnswer) (turned : one.turn ≡ AtDoor place (doors.Call node inc (calls.Delete name) answer)) (knows : KnowsAt before) where
          its_delete : Deletes (door_steps before) name led.from
          its_delete =
              deletes_at (door_steps before) place node inc name answer key nodes its_ends led.from led.to (knew knows)
              (rows key nodes its_ends (own_steps one.by before) NotBegun led.from refl led.was) (ap (advance (commands.Orphans key) nodes its_ends led.from) (sym turned) ∙ led.goes)

          desk_there : desk_of (asking_of asked ran) before (line_of line) ≡ Some its_delete.desk
          desk_there =
              ap (λ (o : Option Line). desk_of_turns nodes (ends_in asked ran o) (own_steps (line_of line) before) (command_in o)) found
              ∙ (ap (λ (c : Command). desk_of_turns nodes its_ends (own_steps (line_of line) before) (Some c)) round
              ∙ (ap (λ (o : Option Progress). held_at (or_not_begun o)) was_at ∙ its_delete.holds))

          may_delete : IsTrue (may_delete_orphan (door_steps before) its_delete.one.id)
          may_delete =
              let tells = desk_tells (door_steps before) (desk_of (asking_of asked ran) before) (line_of line) its_delete.desk (legal_here before rest one place (doors.Call node inc (calls.Delete name) answer) is turned).0 (lies_behind asked ran so before (one ∷ rest) is) desk_there in
              let id = its_delete.one.id in
              let claimed : claim_place id.uuid (door_steps before) ≡ Some its_delete.desk.place = subst (λ (u : List ℕ). claim_place u (door_steps before) ≡ Some its_delete.desk.place) (sym its_delete.same) tells.1 in
              and_from (holds the_office id.uuid (door_steps before)) (is_looked_at id (door_steps before) (claim_place id.uuid (door_steps before)))
              (subst (λ (u : List ℕ). IsTrue (holds the_office u (door_steps before))) (sym its_delete.same) tells.0)
              (subst (λ (o : Option ℕ). IsTrue (is_looked_at id (door_steps before) o)) (sym claimed) its_delete.knows)

    knows_step : (before rest : List Made) (one : Made) → run_steps ran ≡ before ++ one ∷ rest → KnowsAt before → KnowsAt (before ++ one ∷ [])
    knows_step before rest one is knows = elim (cases_Bool (same_line (line_of line) one.by)) [
      | inl same ↦ own_knows before rest one is (same_by (line_of line) one.by same) knows
      | inr differs ↦ other_knows before rest one is differs knows
    ]

    knows_from : (more before rest : List Made) → run_steps ran ≡ before ++ (more ++ rest) → KnowsAt before → KnowsAt (before ++ more)
    knows_from [] before rest is knows = subst KnowsAt (sym (append-nil before)) knows
    knows_from (one ∷ more) before rest is knows =
        subst KnowsAt (append_assoc before (one ∷ []) more)
        (knows_from more (before ++ one ∷ []) rest (is ∙ sym (append_assoc before (one ∷ []) (more ++ rest))) (knows_step before (more ++ rest) one is knows))

    knows_behind : (before rest : List Made) → run_steps ran ≡ before ++ rest → KnowsAt before
    knows_behind before rest is = knows_from before [] rest is tt

  -- a delete by a line that asks for a round of orphans
  module _ (before rest : List Made) (one : Made) (key : List ℕ) (place node inc : ℕ) (name : List ℕ) (answer : KeeperAnswer) (is : run_steps ran ≡ before ++ one ∷ rest) (turned : one.turn ≡ AtDoor place (doors.Call node inc (calls.Delete name) answer)) where
    same_order : (line : Line) (c : Command) → Some line.order ≡ Some c → line.order ≡ c
    same_order line c e = cc

    pub by_orphan_rule : (asking_of asked ran).command one.by ≡ Some (commands.Orphans key) → (version : VersionAt) × IsNamed version × (name ≡ version_name version.key version.id) × IsTrue (may_delete_orphan (door_steps before) version.id)
    by_orphan_rule asks = cases (named_line one.by (lines asked))
      where
        cases : Named one.by (lines asked) → (version : VersionAt) × IsNamed version × (name ≡ version_name version.key version.id) × IsTrue (may_delete_orphan (door_steps before) version.id)
        cases (inr none) = absurd (let e : None ≡ Some (commands.Orphans key) = sym (ap command_in none.0) ∙ asks in cc)
        cases (inl n) =
            let line = n.0 in
            let round : line.order ≡ commands.Orphans key = same_order line (commands.Orphans key) (sym (ap command_in n.3) ∙ asks) in
            let found : line_among (line_of line) (lines asked) ≡ Some line = subst (λ (b : By). line_among b (lines asked) ≡ Some line) (sym n.2) n.3 in
            let knows = knows_behind line n.1 found key round before (one ∷ rest) is in
            let it = its_delete line n.1 found key round before rest one is n.2 place node inc name answer turned knows in
            (it.one, it.named, it.its, may_delete line n.1 found key round before rest one is n.2 place node inc name answer turned knows)

  -- and so it is of an orphan
  pub orphans_alone : Lawful ran.trace.door → RoundsDeleteOrphans asked ran
  orphans_alone lawful before rest one key name place node inc answer is asks turned =
      let act : DoorAct = doors.Call node inc (calls.Delete name) answer in
      let history = door_steps before in
      let entry : DoorEntry = record { by = one.by; act = act } in
      let it = by_orphan_rule before rest one key place node inc name answer is turned asks in
      let all = all_orphans (history ++ entry ∷ []) (lawful_begins (history ++ entry ∷ []) (door_steps rest) (subst Lawful (door_behind before rest one place act is turned) lawful)) in
      let here : IsTrue (deletes_rightly history act) = (each_after_snoc (λ (b : List DoorEntry) (e : DoorEntry). deletes_rightly b e.act) [] history entry all).1 in
      let read : name_of name ≡ Some (VersionOf it.0.key it.0.id) = ap name_of it.2 ∙ it.1 in
      (it.0, read, it.3, so_orphan (may_delete_orphan history it.0.id) (is_orphan it.0.key it.0.id history) it.3 (subst (λ (r : Option Name). IsTrue (deletes_orphan_in history r)) read here))
    where
      so_orphan : (may orphan : Bool) → IsTrue may → IsTrue (not may || orphan) → IsTrue orphan
      so_orphan true orphan allowed either = either
      so_orphan false orphan allowed either = absurd (false≢true allowed)
