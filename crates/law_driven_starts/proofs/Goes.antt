-- A start that a driver runs has what its machine asks of its next turn.
use Rattle.std.proofs.Common.{◌≡◌, ℕ, Bool, true, false, ◌&&◌, ◌||◌, not, List, [], ◌∷◌, ◌++◌, refl, sym, ap, subst, ◌∙◌, inl, inr, eqb, length}
use Rattle.std.specs.Prelude.{IsTrue, None, Option, Some, map}
use Rattle.std.specs.List.{flat_map, fold, list_all, list_any}
use Rattle.std.proofs.lemmas.Bool.{and_from, and_parts, eq-eqb, false≢true, or_left, or_right}
use Rattle.aft_model.specs.declared.caller.By.{By}
use Rattle.aft_model.specs.declared.caller.Hold.{Hold}
use Rattle.aft_model.specs.declared.door.DoorAct.TheVariants as doors
use Rattle.aft_model.specs.declared.door.DoorEntry.{DoorEntry}
use Rattle.aft_model.specs.declared.node.NodeAct.{NodeAct}
use Rattle.aft_model.specs.declared.node.NodeAct.TheVariants as acts
use Rattle.aft_model.specs.declared.reply.Reply.{Reply}
use Rattle.aft_model.specs.declared.script.Command.{Command}
use Rattle.aft_model.specs.declared.script.Command.TheVariants as commands
use Rattle.aft_model.specs.declared.script.Line.{Line}
use Rattle.aft_model.specs.declared.node.NodeEntry.{NodeEntry}
use Rattle.aft_model.specs.LegalNode.{LegalNode}
use Rattle.aft_model.specs.Membership.{Incarnation, incarnation, is_up, same_incarnation, ups}
use Rattle.aft_model.specs.NodeSights.{comes_up, is_fenced, own_entries}
use Rattle.aft_model.specs.ScanRun.{same_line}
use Rattle.aft_model.proofs.Histories.{In, all_at, any_from}
use Rattle.aft_model.proofs.Lists.{in_filter}
use Rattle.aft_model.proofs.OneCommit.{same_itself}
use Rattle.aft_ledger.specs.View.{NodeView}
use Rattle.aft_door.specs.Refusals.{is_past}
use Rattle.aft_lines.specs.Advance.{leads_to}
use Rattle.aft_lines.specs.Asked.{Asked, Ran}
use Rattle.aft_lines.specs.FinishedText.{line_of}
use Rattle.aft_lines.specs.LineView.{door_entry_in, ends_of}
use Rattle.aft_lines.specs.Lines.{lines, node_numbers}
use Rattle.aft_lines.specs.RunsSoFar.{position_of}
use Rattle.aft_lines.specs.Turns.{AtDoor, AtNode, AtOffice, Turn, turns}
use Rattle.aft_lines.specs.Views.{view_of}
use Rattle.aft_node.specs.Closing.{act_passes, last_own, opens_boot}
use Rattle.aft_node.specs.declared.goes.BootEnd.{BootEnd}
use Rattle.aft_node.specs.declared.goes.BootEnd.TheVariants.{Refused, Shown}
use Rattle.aft_boot.specs.Booted.{HasBegun, HasComeUp, IsToEnd, Made, PageAt, StopsAt, listed_on, made_at, may_call_at, may_close_at, may_end_at, page_turn, up_turns}
use Rattle.aft_boot.specs.BootView.{BootView, next_at}
use Rattle.aft_boot.specs.declared.stage.Stage.{Stage}
use Rattle.aft_boot.specs.declared.stage.Stage.TheVariants.{Begins, ComesUp, Ended, Ends as ToEnd, Scans}
use Rattle.aft_boot.proofs.Entries.{AreDoor, both_door, is_door, pages_door, up_door}
use Rattle.aft_turns.specs.Trail.{Trail}
use Rattle.aft_turns.specs.declared.turn.Where.TheVariants as places
use Rattle.law_runs.proofs.LegalRuns.{so_far_goes}
use Rattle.law_runs.proofs.Nodes.{nodes_rules}
use Rattle.law_held.specs.Starting.{is_start, stands_alone, to_come_up}
use Rattle.law_held.proofs.Fetches.{any_more}
use Rattle.law_held.proofs.Serving.{came_up}
use Rattle.law_held.proofs.StartsEnd.{starts_stand}
use Rattle.law_accounts.specs.Account.{Stand}
use Rattle.law_accounts.specs.Adding.{numbered_in}
use Rattle.law_accounts.proofs.Runs.{account_runs}
use Rattle.law_accounts.proofs.StopsSeen.{same_history}
use Rattle.law_driver.specs.Driven.{Driven, IsNode, act_behind, last_act, node_of}
use Rattle.law_driven_starts.specs.Starts.{EndsOwnBoots, IsStartOf, MayCallAtDoor, MayCloseAtNode, MayEndAtNode, stands_newest}
use Rattle.law_driven_starts.proofs.Ends.{own_boots}
use Rattle.law_driven_starts.proofs.Newest.{starts_newest}
use Rattle.law_driven_starts.proofs.OwnBoots.{boots_own}

-- turns at the door leave what a line did last at its node
doors_pass : (mid : List Turn) (before : Option NodeAct) → AreDoor mid → fold act_behind before mid ≡ before
doors_pass [] before door = refl
doors_pass (AtDoor place act ∷ mid) before door = doors_pass mid before (and_parts true (list_all is_door mid) door).1
doors_pass (AtNode node history entry ∷ mid) before door = absurd (false≢true door)
doors_pass (AtOffice history entry ∷ mid) before door = absurd (false≢true door)

stops_door : (node inc : ℕ) (look : List DoorEntry) (after : List ℕ) (listed : ℕ) (more : List Turn) (reply : Reply) → StopsAt node inc look after listed more reply → AreDoor more
stops_door node inc look after listed more reply (inl (none, shut)) = subst AreDoor (sym none) refl
stops_door node inc look after listed more reply (inr (place, answer, one, stops)) = subst AreDoor (sym one) refl

-- of a choice, what isn't told by the first of two
not_told : (x y : Bool) → IsTrue (not x || y) → IsTrue x → IsTrue y
not_told true y is told = is
not_told false y is told = absurd (false≢true told)

both : (x y z : Bool) → IsTrue (x || y) → IsTrue (x || z) → IsTrue (x || (y && z))
both true y z one other = refl
both false y z one other = and_from y z one other

module _ (asked : Asked) (ran : Ran) (stand : Line → Stand) (line : Line) (hold : Hold) (trail : Trail) (boot : BootView) (driven : Driven asked ran stand line hold trail) (of : IsStartOf line boot) where
  -- ---- at its node

  last_begun : (inc : ℕ) (up : Option ℕ) (pages : List PageAt) (more : List Turn) → AreDoor more → HasBegun boot.by boot.node inc up pages more trail → last_act trail.turns ≡ Some (acts.Booting inc)
  last_begun inc up pages more door begun =
      ap last_act begun.turns
      ∙ doors_pass ((up_turns boot.node inc up ++ map (page_turn boot.node inc) pages) ++ more) (Some (acts.Booting inc))
      (both_door (up_turns boot.node inc up ++ map (page_turn boot.node inc) pages) more (both_door (up_turns boot.node inc up) (map (page_turn boot.node inc) pages) (up_door boot.node inc up) (pages_door boot.node inc pages)) door)

  last_so : (inc : ℕ) (end : BootEnd) → IsToEnd boot.by boot.node inc end trail → last_act trail.turns ≡ Some (acts.Booting inc)
  last_so inc (Shown commits) made = last_begun inc made.up made.pages [] refl made.begun
  last_so inc (Refused reply) made = last_begun inc made.up made.pages made.more (stops_door boot.node inc trail.look made.after (length (listed_on made.pages)) made.more reply made.stops) made.begun

  module _ (node : NodeView) (is : IsNode asked ran node) where
    last_here : boot.node ≡ node.number → last_own boot.by node.history ≡ last_act trail.turns
    last_here here =
        ap (last_own boot.by) is.history
        ∙ (ap (λ (by : By). last_own by (numbered_in node.number 1 ran.trace.nodes)) of.by
        ∙ (ap (λ (n : ℕ). last_own (line_of line) (numbered_in n 1 ran.trace.nodes)) (sym here ∙ sym (ap (λ (c : Command). node_of c hold) of.asks))
        ∙ driven.closing))

    by_node : (stage : Stage) → made_at boot.by boot.node stage trail → next_at boot.node stage ≡ places.Node node.number → may_close_at boot.by stage node.history
    by_node (ToEnd inc end) made next =
        let here : boot.node ≡ node.number = cc in
        subst (λ (o : Option NodeAct). IsTrue (act_passes (opens_boot inc) o)) (sym (last_here here ∙ last_so inc end made)) (eq-eqb inc inc refl)
    by_node Begins made next = tt
    by_node (ComesUp inc) made next = tt
    by_node (Scans inc after listed commits) made next = tt
    by_node Ended made next = tt

    legal : LegalNode node.number asked.settings.cache node.history
    legal =
        subst (λ (h : List NodeEntry). LegalNode node.number asked.settings.cache h) (sym (is.history ∙ same_history node.number 1 ran.trace.nodes))
        (nodes_rules node.number 1 asked.settings.cache ran.trace.door ran.trace.nodes driven.account.nodes).0

    ends_own : EndsOwnBoots node.history
    ends_own = subst EndsOwnBoots (sym is.history) (boots_own node.number asked ran stand driven.account)

    by_end : (stage : Stage) → made_at boot.by boot.node stage trail → next_at boot.node stage ≡ places.Node node.number → may_end_at stage node.history
    by_end (ToEnd inc end) made next = own_boots node.number asked.settings.cache boot.by inc node.history legal ends_own (by_node (ToEnd inc end) made next)
    by_end Begins made next = tt
    by_end (ComesUp inc) made next = tt
    by_end (Scans inc after listed commits) made next = tt
    by_end Ended made next = tt

    pub at_end : Made boot trail → MayEndAtNode boot node
    at_end made next = by_end boot.stage made next

    pub at_node : Made boot trail → MayCloseAtNode boot node
    at_node made next = by_node boot.stage made next

  -- ---- at the door

  starts : IsTrue (is_start line.order)
  starts = subst (λ (c : Command). IsTrue (is_start c)) (sym of.asks) refl

  module _ (inc : ℕ) (begun : HasBegun boot.by boot.node inc None [] [] trail) where
    abbrev who : Incarnation
    who = incarnation boot.node inc

    is_to_come_up : to_come_up (position_of (view_of asked ran line)) ≡ Some who
    is_to_come_up =
        ap (λ (c : Command). to_come_up (leads_to c (node_numbers asked.settings) (ends_of (view_of asked ran line)) (turns (line_of line) ran.trace))) of.asks
        ∙ ap (λ (ts : List Turn). to_come_up (leads_to (commands.Start boot.node) (node_numbers asked.settings) (ends_of (view_of asked ran line)) ts)) (driven.own ∙ begun.turns)

    alone : IsTrue (stands_alone ran.trace.door (Some who))
    alone =
        subst (λ (o : Option Incarnation). IsTrue (stands_alone ran.trace.door o)) is_to_come_up
        (not_told (is_start line.order) (stands_alone ran.trace.door (to_come_up (position_of (view_of asked ran line))))
        (all_at (λ (l : Line). not (is_start l.order) || stands_alone ran.trace.door (to_come_up (position_of (view_of asked ran l)))) line (lines asked) driven.may.among
        (starts_stand asked ran (so_far_goes asked ran (account_runs asked ran stand driven.account)))) starts)

    newest : IsTrue (stands_newest ran.trace.door (Some who))
    newest =
        subst (λ (o : Option Incarnation). IsTrue (stands_newest ran.trace.door o)) is_to_come_up
        (not_told (is_start line.order) (stands_newest ran.trace.door (to_come_up (position_of (view_of asked ran line))))
        (all_at (λ (l : Line). not (is_start l.order) || stands_newest ran.trace.door (to_come_up (position_of (view_of asked ran l)))) line (lines asked) driven.may.among
        (starts_newest asked ran stand driven.account)) starts)

    nothing_there : own_entries boot.by ran.trace.door ≡ []
    nothing_there = ap (λ (by : By). own_entries by ran.trace.door) of.by ∙ (driven.sees.own ∙ ap (λ (ts : List Turn). flat_map (door_entry_in (line_of line)) ts) begun.turns)

    may_come_up : may_call_at boot.by boot.node (ComesUp inc) ran.trace.door
    may_come_up = (
      both (is_fenced who ran.trace.door) (not (is_past boot.node inc ran.trace.door)) (list_all (λ (other : Incarnation). not (eqb other.node boot.node) || same_incarnation who other) (ups ran.trace.door)) newest alone,
      λ up. nothing_there,
    )

  came : (inc : ℕ) (up : Option ℕ) (pages : List PageAt) → HasBegun boot.by boot.node inc up pages [] trail → HasComeUp boot.by boot.node inc up trail.look → IsTrue (list_any (λ (e : DoorEntry). comes_up (incarnation boot.node inc) e.act) ran.trace.door)
  came inc None pages begun (shown, none) =
      subst (λ (d : List DoorEntry). IsTrue (list_any (λ (e : DoorEntry). comes_up (incarnation boot.node inc) e.act) d)) (sym driven.looked.1)
      (any_more (λ (e : DoorEntry). comes_up (incarnation boot.node inc) e.act) trail.look driven.looked.0 shown)
  came inc (Some place) pages begun come =
      let entry : DoorEntry = record { by = line_of line; act = doors.Up boot.node inc } in
      let own : In entry (own_entries (line_of line) ran.trace.door) = subst (λ (es : List DoorEntry). In entry es) (sym (driven.sees.own ∙ ap (λ (ts : List Turn). flat_map (door_entry_in (line_of line)) ts) begun.turns)) (inl refl) in
      any_from (λ (e : DoorEntry). comes_up (incarnation boot.node inc) e.act) entry ran.trace.door (in_filter (λ (e : DoorEntry). same_line (line_of line) e.by) entry ran.trace.door own).0 (same_itself (incarnation boot.node inc))

  may_scan : (inc : ℕ) (up : Option ℕ) (pages : List PageAt) → HasBegun boot.by boot.node inc up pages [] trail → HasComeUp boot.by boot.node inc up trail.look → IsTrue (is_fenced (incarnation boot.node inc) ran.trace.door || is_up (incarnation boot.node inc) ran.trace.door)
  may_scan inc up pages begun come = elim (came_up (incarnation boot.node inc) ran.trace.door driven.account.door (came inc up pages begun come)) [
    | inl there ↦ or_right (is_fenced (incarnation boot.node inc) ran.trace.door) (is_up (incarnation boot.node inc) ran.trace.door) there
    | inr gone ↦ or_left (is_fenced (incarnation boot.node inc) ran.trace.door) (is_up (incarnation boot.node inc) ran.trace.door) gone
  ]

  by_door : (stage : Stage) → made_at boot.by boot.node stage trail → may_call_at boot.by boot.node stage ran.trace.door
  by_door (ComesUp inc) made = may_come_up inc made
  by_door (Scans inc after listed commits) made = may_scan inc made.up made.pages made.begun made.come
  by_door Begins made = tt
  by_door (ToEnd inc end) made = tt
  by_door Ended made = tt

  pub at_door : Made boot trail → MayCallAtDoor boot ran.trace.door
  at_door made next = (by_door boot.stage made, driven.account.opened)
