-- At each moment of a run each UUID lies at the desk as the rounds of orphans hold it.
use Rattle.std.proofs.Common.{◌≡◌, ℕ, false, List, [], ◌∷◌, ◌++◌, length, refl, sym, ap, subst, ◌∙◌, ◌⊎◌, inl, inr, append-nil, append_assoc}
use Rattle.std.specs.Prelude.{IsTrue, IsFalse, None, Option, Some}
use Rattle.std.proofs.lemmas.Bool.{and_parts, cases_Bool, false≢true, false_from_ne_true, true≢false}
use Rattle.aft_model.specs.declared.caller.By.{By}
use Rattle.aft_model.specs.declared.door.DoorAct.{DoorAct}
use Rattle.aft_model.specs.declared.door.DoorAct.TheVariants as doors
use Rattle.aft_model.specs.declared.door.DoorEntry.{DoorEntry}
use Rattle.aft_model.specs.declared.node.NodeEntry.{NodeEntry}
use Rattle.aft_model.specs.declared.script.Command.{Command}
use Rattle.aft_model.specs.declared.script.Command.TheVariants as commands
use Rattle.aft_model.specs.declared.script.Line.{Line}
use Rattle.aft_model.specs.LegalDoor.{Legal}
use Rattle.aft_model.specs.Membership.{Incarnation, incarnation, same_incarnation, the_office}
use Rattle.aft_model.specs.ScanRun.{same_line}
use Rattle.aft_model.proofs.Histories.{In, in_back}
use Rattle.aft_model.proofs.OneCommit.{same_who}
use Rattle.aft_lines.specs.Advance.{advance, desk_behind, leads_to}
use Rattle.aft_lines.specs.Asked.{Asked, Ran}
use Rattle.aft_lines.specs.CourseWords.{Ends}
use Rattle.aft_lines.specs.FinishedText.{line_of}
use Rattle.aft_lines.specs.Holding.{held_at}
use Rattle.aft_lines.specs.LineView.{door_entry_in, ends_of}
use Rattle.aft_lines.specs.Lines.{lines, node_numbers}
use Rattle.aft_lines.specs.Makes.{makes, makes_at_door}
use Rattle.aft_lines.specs.Progress.{AtDesk, NotBegun, Progress}
use Rattle.aft_lines.specs.Steps.{Made, door_steps, own_steps}
use Rattle.aft_lines.specs.Turns.{AtDoor, AtNode, AtOffice, Turn}
use Rattle.aft_lines.specs.Views.{view_of}
use Rattle.law_holders.specs.Rows.{caller_at, is_of_attempt, is_of_node, is_own_act}
use Rattle.law_holders.proofs.Own.{acts_own, other_caller}
use Rattle.law_claims.specs.Desk.{IsHeldBy, IsNotHeld, LiesAtDesk, has_at_desk, is_at_desk, is_desk_row, is_of_desk}
use Rattle.law_claims.specs.Moments.{Asking, ByCommand, ByCourse, ByNobody, Comes, IsMade, or_not_begun, scene_of}
use Rattle.law_claims.proofs.Desk.{desk_follows}
use Rattle.law_claims.proofs.DeskSteps.{others_lie, round_lies}
use Rattle.law_claims.proofs.Moments.{door-snoc, goes_along, own_other}
use Rattle.law_claims.proofs.Movers.{door_mover}
use Rattle.law_claims.proofs.Scenes.{by_itself, same_by}
use Rattle.law_runs.specs.Runs.{Goes, asking_of, command_in, ends_in, line_among, run_steps, without_office}
use Rattle.law_runs.proofs.Come.{Named, is_made, it_comes, named_line, turn_made, unasked_reads}
use Rattle.law_runs.proofs.InStages.{kept_behind}
use Rattle.law_runs.proofs.Members.{no_office_step}
use Rattle.law_runs.proofs.Reading.{reads_alone}
use Rattle.law_turns.specs.Order.{is_at_office}
use Rattle.law_held.specs.Desk.{desk_of, desk_of_turns}
use Rattle.law_held.proofs.Lines.{leads}
use Rattle.law_held.proofs.OrphanLines.{round_led, rows}
use Rattle.law_held.proofs.Placed.{placed}

-- ---- who claims and releases for the office

-- what lines of a command make that are no rounds, and move no attempt
other_desk : (command : Command) → ((uuid : List ℕ) (node inc : ℕ) → IsFalse (makes_at_door command (doors.Claim uuid node inc)) × IsFalse (makes_at_door command (doors.Release uuid node inc))) → (act : DoorAct) → is_of_attempt command ≡ false → IsTrue (makes_at_door command act) → is_of_desk act ≡ false
other_desk command none (doors.Claim uuid node inc) other made = absurd (true≢false (sym made ∙ (none uuid node inc).0))
other_desk command none (doors.Release uuid node inc) other made = absurd (true≢false (sym made ∙ (none uuid node inc).1))
other_desk command none act other made = refl

-- a round of orphans, or a line of another command, which holds nothing
abbrev RoundOrNot : Command → Type 0
RoundOrNot command = ((key : List ℕ) × (command ≡ commands.Orphans key)) ⊎ ((nodes : List ℕ) (ends : Ends) (line : List Turn) → desk_of_turns nodes ends line (Some command) ≡ None) × ((act : DoorAct) → is_of_attempt command ≡ false → IsTrue (makes_at_door command act) → is_of_desk act ≡ false)

pub round_or_not : (command : Command) → RoundOrNot command
round_or_not (commands.Orphans key) = inl (key, refl)
round_or_not (commands.Begin uuid node) = inr (λ nodes ends line. refl, λ act other made. absurd (true≢false other))
round_or_not (commands.Forget uuid node) = inr (λ nodes ends line. refl, λ act other made. absurd (true≢false other))
round_or_not commands.Commit = inr (λ nodes ends line. refl, λ act other made. absurd (true≢false other))
round_or_not commands.Abort = inr (λ nodes ends line. refl, λ act other made. absurd (true≢false other))
round_or_not command = inr (λ nodes ends line. refl, other_desk command (λ uuid node inc. (refl, refl)))

reads_no_desk : (place : ℕ) (act : DoorAct) → IsTrue (reads_alone (AtDoor place act)) → is_of_desk act ≡ false
reads_no_desk place (doors.Claim uuid node inc) reads = absurd (false≢true reads)
reads_no_desk place (doors.Release uuid node inc) reads = absurd (false≢true reads)
reads_no_desk place act reads = refl

-- an incarnation of a node isn't the office
office_apart : (who : Incarnation) → IsTrue (is_of_node who) → same_incarnation the_office who ≡ false
office_apart who of = false_from_ne_true (same_incarnation the_office who) (λ same. false≢true (subst (λ (w : Incarnation). IsTrue (is_of_node w)) (sym (same_who the_office who same)) of))

own_no_desk : (position : Progress) (act : DoorAct) → IsTrue (is_own_act position act) → IsTrue (is_of_node (caller_at position)) → is_of_desk act ≡ false
own_no_desk position (doors.Claim uuid node inc) own of = other_caller the_office (caller_at position) (incarnation node inc) (office_apart (caller_at position) of) (and_parts (same_incarnation (caller_at position) (incarnation node inc)) _ own).0
own_no_desk position (doors.Release uuid node inc) own of = other_caller the_office (caller_at position) (incarnation node inc) (office_apart (caller_at position) of) (and_parts (same_incarnation (caller_at position) (incarnation node inc)) _ own).0
own_no_desk position act own of = refl

-- ---- where nothing changes at the door

lies_same : (door : List DoorEntry) (desk after : By → Option AtDesk) → ((by : By) → after by ≡ desk by) → (uuid : List ℕ) → LiesAtDesk door desk uuid → LiesAtDesk door after uuid
lies_same door desk after same uuid (IsNotHeld none free) = IsNotHeld (λ by. ap (λ (d : Option AtDesk). has_at_desk d uuid) (same by) ∙ none by) free
lies_same door desk after same uuid (IsHeldBy by held is its stands place only) =
    IsHeldBy by held (same by ∙ is) its stands place (λ other differs. ap (λ (d : Option AtDesk). has_at_desk d uuid) (same other) ∙ only other differs)

-- ---- a run

module _ (asked : Asked) (ran : Ran) (so : Goes asked ran) where
  abbrev asking : Asking
  asking = asking_of asked ran

  abbrev nodes : List ℕ
  nodes = node_numbers asked.settings

  abbrev Lies : List Made → Type 0
  Lies made = (uuid : List ℕ) → LiesAtDesk (door_steps made) (desk_of asking made) uuid

  others_same : (made : List Made) (one : Made) (other : By) → IsFalse (same_line one.by other) → desk_of asking (made ++ one ∷ []) other ≡ desk_of asking made other
  others_same made one other differs = ap (λ (line : List Turn). desk_of_turns nodes (asking.ends other) line (asking.command other)) (own_other other made one (turned other differs))
    where
      turned : (o : By) → same_line one.by o ≡ false → same_line o one.by ≡ false
      turned o d = false_from_ne_true (same_line o one.by) (λ is. true≢false (sym (by_itself one.by) ∙ subst (λ (x : By). same_line one.by x ≡ false) (same_by o one.by is) d))

  module _ (before rest : List Made) (one : Made) (is : run_steps ran ≡ before ++ one ∷ rest) where
    abbrev after : List Made
    after = before ++ one ∷ []

    abbrev was : Option AtDesk
    was = desk_of asking before one.by

    abbrev now : Option AtDesk
    now = desk_of asking after one.by

    -- a step of a round leads it on; one of another line is nothing of the desk
    record ByRound : Type 0 where
      pub key : List ℕ
      pub ends : Ends
      pub from : Progress
      pub to : Progress
      pub goes : advance (commands.Orphans key) nodes ends from one.turn ≡ Some to
      pub row : IsTrue (is_desk_row from)
      pub held : was ≡ held_at from
      pub holds : now ≡ held_at to
      pub no_node : (node : ℕ) (history : List NodeEntry) (entry : NodeEntry) → one.turn ≡ AtNode node history entry → ⊥

    record NoRound : Type 0 where
      pub nothing : was ≡ None
      pub none : now ≡ None
      pub other : (place : ℕ) (act : DoorAct) → one.turn ≡ AtDoor place act → is_of_desk act ≡ false

    -- whoever makes it, if it is no round
    not_of_desk : ((command : Command) (act : DoorAct) → asking.command one.by ≡ Some command → is_of_attempt command ≡ false → IsTrue (makes_at_door command act) → is_of_desk act ≡ false) → (place : ℕ) (act : DoorAct) → one.turn ≡ AtDoor place act → is_of_desk act ≡ false
    not_of_desk none place act turned = cases (subst (IsMade asking before one.by) turned (is_made asked ran so before rest one is))
      where
        cases : IsMade asking before one.by (AtDoor place act) → is_of_desk act ≡ false
        cases (ByCourse command next is' of leads') =
            let at_door : Made = record { by = one.by; turn = AtDoor place act } in
            let goes = goes_along asking asked.settings.cache before at_door command next is' of leads' in
            let position : Progress = (scene_of asking before).at one.by in
            let behind : Progress = (scene_of asking (before ++ at_door ∷ [])).at one.by in
            let mover = door_mover command asking.nodes (asking.ends one.by) position behind place act of goes in
            own_no_desk position act (acts_own command asking.nodes (asking.ends one.by) position behind place act of goes)
            (subst (λ (w : Incarnation). IsTrue (is_of_node w)) (sym mover.2) ((kept_behind asked ran so before (one ∷ rest) is).0.movers one.by mover.0 mover.1))
        cases (ByCommand command is' other made) = none command act is' other made
        cases (ByNobody is' quiet) = reads_no_desk place act (subst (λ (t : Turn). IsTrue (reads_alone t)) turned (unasked_reads asked ran so before rest one is is'))

    module _ (line : Line) (listed : In line (lines asked)) (its : line_of line ≡ one.by) (found : line_among one.by (lines asked) ≡ Some line) where
      abbrev its_ends : Ends
      its_ends = ends_of (view_of asked ran line)

      held_so : (made : List Made) → desk_of asking made one.by ≡ desk_of_turns nodes its_ends (own_steps one.by made) (Some line.order)
      held_so made = ap (λ (o : Option Line). desk_of_turns nodes (ends_in asked ran o) (own_steps one.by made) (command_in o)) found

      by_round : (key : List ℕ) → line.order ≡ commands.Orphans key → ByRound
      by_round key round =
          let come = round_led asked ran so line listed key round in
          let steps : own_steps one.by (before ++ one ∷ rest) ≡ own_steps (line_of line) (run_steps ran) = ap (own_steps one.by) (sym is) ∙ ap (λ (b : By). own_steps b (run_steps ran)) (sym its) in
          let led = leads (commands.Orphans key) nodes its_ends before rest one come.0 (ap (leads_to (commands.Orphans key) nodes its_ends) steps ∙ come.1) in
          let at : (made : List Made) → desk_of asking made one.by ≡ held_at (or_not_begun (leads_to (commands.Orphans key) nodes its_ends (own_steps one.by made))) = λ made. held_so made ∙ ap (λ (c : Command). desk_of_turns nodes its_ends (own_steps one.by made) (Some c)) round in
          record {
            key = key;
            ends = its_ends;
            from = led.from;
            to = led.to;
            goes = led.goes;
            row = rows key nodes its_ends (own_steps one.by before) NotBegun led.from refl led.was;
            held = at before ∙ ap (λ (o : Option Progress). held_at (or_not_begun o)) led.was;
            holds = at after ∙ ap (λ (o : Option Progress). held_at (or_not_begun o)) led.now;
            no_node = λ node history entry turned. false≢true (subst (λ (t : Turn). IsTrue (makes (commands.Orphans key) t)) turned (subst (λ (c : Command). IsTrue (makes c one.turn)) round (turn_made asked ran so before rest one is line listed its)));
          }

      by_other : ((numbers : List ℕ) (ends : Ends) (l : List Turn) → desk_of_turns numbers ends l (Some line.order) ≡ None) × ((act : DoorAct) → is_of_attempt line.order ≡ false → IsTrue (makes_at_door line.order act) → is_of_desk act ≡ false) → NoRound
      by_other none = record {
        nothing = held_so before ∙ none.0 nodes its_ends (own_steps one.by before);
        none = held_so after ∙ none.0 nodes its_ends (own_steps one.by after);
        other = not_of_desk (λ command act is' other made.
            let same : command ≡ line.order = same_command command (sym is' ∙ ap command_in found) in
            none.1 act (subst (λ (c : Command). is_of_attempt c ≡ false) same other) (subst (λ (c : Command). IsTrue (makes_at_door c act)) same made));
      }
        where
          same_command : (command : Command) → Some command ≡ Some line.order → command ≡ line.order
          same_command command e = cc

      by_line : ByRound ⊎ NoRound
      by_line = elim (round_or_not line.order) [ inl round ↦ inl (by_round round.0 round.1) | inr other ↦ inr (by_other other) ]

    by_nobody : line_among one.by (lines asked) ≡ None → NoRound
    by_nobody none = record {
      nothing = ap (λ (o : Option Line). desk_of_turns nodes (ends_in asked ran o) (own_steps one.by before) (command_in o)) none;
      none = ap (λ (o : Option Line). desk_of_turns nodes (ends_in asked ran o) (own_steps one.by after) (command_in o)) none;
      other = not_of_desk (λ command act is' other made. absurd (let e : None ≡ Some command = sym (ap command_in none) ∙ is' in cc));
    }

    who_holds : ByRound ⊎ NoRound
    who_holds = cases (named_line one.by (lines asked))
      where
        cases : Named one.by (lines asked) → ByRound ⊎ NoRound
        cases (inl n) = by_line n.0 n.1 n.2 n.3
        cases (inr n) = inr (by_nobody n.0)

    -- where the line of the step holds the same, all do
    all_same : now ≡ was → (by : By) → desk_of asking after by ≡ desk_of asking before by
    all_same own by = elim (cases_Bool (same_line one.by by)) [
      | inl same ↦ subst (λ (b : By). desk_of asking after b ≡ desk_of asking before b) (same_by one.by by same) own
      | inr differs ↦ others_same before one by differs
    ]

    -- ---- its turn

    module _ (place : ℕ) (act : DoorAct) (turned : one.turn ≡ AtDoor place act) where
      abbrev entry : DoorEntry
      entry = record { by = one.by; act = act }

      door_now : door_steps after ≡ door_steps before ++ entry ∷ []
      door_now = door-snoc before one ∙ ap (λ (t : Turn). door_steps before ++ door_entry_in one.by t) turned

      legal_now : Legal (door_steps before ++ entry ∷ [])
      legal_now = (subst (Comes asking asked.settings.cache before one.by) turned (it_comes asked ran so before rest one is (kept_behind asked ran so before (one ∷ rest) is).0)).0

      at_place : place ≡ length (door_steps before)
      at_place = placed (without_office ran.trace) before rest one place act is turned

      lies_at_door : ByRound ⊎ NoRound → Lies before → Lies after
      lies_at_door (inr other) lies uuid =
          subst (λ (d : List DoorEntry). LiesAtDesk d (desk_of asking after) uuid) (sym door_now)
          (others_lie (door_steps before) entry legal_now (desk_of asking before) (desk_of asking after) (other.other place act turned) (all_same (other.none ∙ sym other.nothing)) uuid (lies uuid))
      lies_at_door (inl round) lies uuid =
          let goes : advance (commands.Orphans round.key) nodes round.ends round.from (AtDoor (length (door_steps before)) act) ≡ Some round.to = ap (advance (commands.Orphans round.key) nodes round.ends round.from) (sym (turned ∙ ap (λ (p : ℕ). AtDoor p act) at_place)) ∙ round.goes in
          let follows = desk_follows round.key nodes round.ends round.from round.to (AtDoor (length (door_steps before)) act) round.row goes in
          subst (λ (d : List DoorEntry). LiesAtDesk d (desk_of asking after) uuid) (sym door_now)
          (round_lies (door_steps before) entry legal_now one.by (desk_of asking before) (desk_of asking after)
          (subst (λ (d : Option AtDesk). IsTrue (is_at_desk d (AtDoor (length (door_steps before)) act))) (sym round.held) follows.2)
          (round.holds ∙ (follows.1 ∙ ap (λ (d : Option AtDesk). desk_behind d (AtDoor (length (door_steps before)) act)) (sym round.held)))
          (others_same before one) uuid (lies uuid))

    lies_at_node : (node : ℕ) (history : List NodeEntry) (e : NodeEntry) → one.turn ≡ AtNode node history e → ByRound ⊎ NoRound → Lies before → Lies after
    lies_at_node node history e turned (inl round) lies uuid = absurd (round.no_node node history e turned)
    lies_at_node node history e turned (inr other) lies uuid =
        subst (λ (d : List DoorEntry). LiesAtDesk d (desk_of asking after) uuid) (sym (door-snoc before one ∙ (ap (λ (t : Turn). door_steps before ++ door_entry_in one.by t) turned ∙ append-nil (door_steps before))))
        (lies_same (door_steps before) (desk_of asking before) (desk_of asking after) (all_same (other.none ∙ sym other.nothing)) uuid (lies uuid))

    lies_step : Lies before → Lies after
    lies_step lies = by_turn one.turn refl
      where
        by_turn : (turn : Turn) → one.turn ≡ turn → Lies after
        by_turn (AtDoor place act) turned = lies_at_door place act turned who_holds lies
        by_turn (AtNode node history e) turned = lies_at_node node history e turned who_holds lies
        by_turn (AtOffice history e) turned =
            absurd (true≢false (sym (ap is_at_office turned) ∙ no_office_step ran.trace one (subst (λ (l : List Made). In one l) (sym is) (in_back one before (one ∷ rest) (inl refl)))))

  lies_from : (more before rest : List Made) → run_steps ran ≡ before ++ (more ++ rest) → Lies before → Lies (before ++ more)
  lies_from [] before rest is lies = subst Lies (sym (append-nil before)) lies
  lies_from (one ∷ more) before rest is lies =
      subst Lies (append_assoc before (one ∷ []) more)
      (lies_from more (before ++ one ∷ []) rest (is ∙ sym (append_assoc before (one ∷ []) (more ++ rest))) (lies_step before (more ++ rest) one is lies))

  lies_at_first : Lies []
  lies_at_first uuid = IsNotHeld (λ by. none by (asking.command by)) refl
    where
      none : (by : By) (command : Option Command) → IsFalse (has_at_desk (desk_of_turns nodes (asking.ends by) [] command) uuid)
      none by None = refl
      none by (Some (commands.Orphans key)) = refl
      none by (Some command) = refl

  pub lies_behind : (before rest : List Made) → run_steps ran ≡ before ++ rest → Lies before
  lies_behind before rest is = lies_from before [] rest is lies_at_first
