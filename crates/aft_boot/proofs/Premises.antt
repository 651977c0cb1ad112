-- What a first boot's machine asks of its next turn stands where the opening drives it.
use Rattle.std.proofs.Common.{◌≡◌, ◌≤◌, ℕ, suc, Bool, true, false, ◌&&◌, ◌||◌, not, List, [], ◌∷◌, ◌++◌, eqb, length, refl, sym, ap, subst, ◌∙◌, inl, inr, append-nil, arith}
use Rattle.std.specs.Prelude.{IsTrue, None, Option, Some, map, nat_le}
use Rattle.std.specs.List.{flat_map, fold}
use Rattle.std.proofs.lemmas.Bool.{and_from, and_parts, eq-eqb, eqb-true, false≢true, or_cases, or_left, or_right}
use Rattle.std.proofs.lemmas.List.Folds.{list_any-append}
use Rattle.std.proofs.lemmas.List.Sums.{fold-append}
use Rattle.aft_keeper.specs.Cause.{HasCause, Rose}
use Rattle.aft_keeper.specs.declared.keeper.KeeperAnswer.{KeeperAnswer}
use Rattle.aft_keeper.specs.declared.keeper.KeeperAnswer.TheVariants as answers
use Rattle.aft_records.specs.declared.stored.Commit.{Commit}
use Rattle.aft_model.specs.declared.caller.By.{By}
use Rattle.aft_model.specs.declared.door.DoorEntry.{DoorEntry}
use Rattle.aft_model.specs.declared.node.NodeAct.TheVariants as acts
use Rattle.aft_model.specs.declared.node.NodeEntry.{NodeEntry}
use Rattle.aft_model.specs.declared.reply.Reply.{Reply}
use Rattle.aft_model.specs.DoorKnowledge.{is_open, opens}
use Rattle.aft_model.specs.LegalNode.{LegalNode, may_follow_at}
use Rattle.aft_model.specs.Membership.{incarnation, is_up}
use Rattle.aft_model.specs.NodeState.{boots, node_state}
use Rattle.aft_model.specs.Opening.{has_failed, is_failure, opening}
use Rattle.aft_ledger.specs.View.{NodeView}
use Rattle.aft_lines.specs.LineView.{door_entry_in, has_left}
use Rattle.aft_lines.specs.Turns.{AtDoor, Turn}
use Rattle.aft_node.specs.Closing.{MayClose, act_passes, last_own, opens_boot}
use Rattle.aft_node.specs.declared.goes.BootEnd.{BootEnd}
use Rattle.aft_node.specs.declared.goes.BootEnd.TheVariants.{Refused, Shown}
use Rattle.aft_boot.specs.Booted.{HasBegun, HasComeUp, IsScanning, IsToEnd, Made, PageAt, StopsAt, begun_turns, listed_on, made_at, may_call_at, may_close_at, may_end_at, page_act, page_turn, told_fault_at, up_turns}
use Rattle.aft_boot.specs.BootView.{BootView, next_at}
use Rattle.aft_boot.specs.Crashed.{turn_at}
use Rattle.aft_boot.specs.Driving.{Drives, node_entry_in, room_behind}
use Rattle.aft_boot.specs.Pages.{StopsCall}
use Rattle.aft_boot.specs.declared.stage.Stage.{Stage}
use Rattle.aft_boot.specs.declared.stage.Stage.TheVariants.{Begins, ComesUp, Ended, Ends, Scans}
use Rattle.aft_boot.proofs.Below.{AllBelow, below_parts, both_below, nobody_else, none_came, none_past, not_up, pages_below, up_behind}
use Rattle.aft_boot.proofs.Chains.{FailsNewly}
use Rattle.aft_boot.proofs.Drives.{none_at_node}
use Rattle.aft_boot.proofs.Entries.{AreDoor, both_door, entries_of, page_entry, pages_door, up_door, up_entries}
use Rattle.aft_turns.specs.Steps.{StepsAtDoor}
use Rattle.aft_turns.specs.Trail.{Trail, behind}
use Rattle.aft_turns.specs.declared.turn.Where.TheVariants as places

-- ---- one that began a boot

-- its entry at its node
abbrev pub booting_entry : ℕ → ℕ → NodeEntry
booting_entry inc front = record { front = front; by = opening; act = acts.Booting inc; answer = None }

pub begun_at_node : (by : By) (node inc : ℕ) (before : List NodeEntry) (front : ℕ) (up : Option ℕ) (pages : List PageAt) (more : List Turn) → AreDoor more → flat_map node_entry_in (begun_turns by node inc before front up pages ++ more) ≡ record { front = front; by = by; act = acts.Booting inc; answer = None } ∷ []
begun_at_node by node inc before front up pages more door =
    ap (λ (es : List NodeEntry). record { front = front; by = by; act = acts.Booting inc; answer = None } ∷ es)
    (none_at_node ((up_turns node inc up ++ map (page_turn node inc) pages) ++ more)
    (both_door (up_turns node inc up ++ map (page_turn node inc) pages) more (both_door (up_turns node inc up) (map (page_turn node inc) pages) (up_door node inc up) (pages_door node inc pages)) door))

-- what it did behind that was at the door
pub stop_door : (node inc : ℕ) (look : List DoorEntry) (after : List ℕ) (listed : ℕ) (more : List Turn) (reply : Reply) → StopsAt node inc look after listed more reply → AreDoor more
stop_door node inc look after listed more reply (inl (none, shut)) = subst AreDoor (sym none) refl
stop_door node inc look after listed more reply (inr (place, answer, one, stops)) = subst AreDoor (sym one) refl

-- one whose boot is to end
pub record HasBooted (by : By) (node inc : ℕ) (trail : Trail) : Type 0 where
  pub up : Option ℕ
  pub pages : List PageAt
  pub more : List Turn
  pub begun : HasBegun by node inc up pages more trail
  pub door : AreDoor more

to_end : (by : By) (node inc : ℕ) (end : BootEnd) (trail : Trail) → IsToEnd by node inc end trail → HasBooted by node inc trail
to_end by node inc (Shown commits) trail has = record { up = has.up; pages = has.pages; more = []; begun = has.begun; door = refl }
to_end by node inc (Refused reply) trail has = record {
  up = has.up;
  pages = has.pages;
  more = has.more;
  begun = has.begun;
  door = stop_door node inc trail.look has.after (length (listed_on has.pages)) has.more reply has.stops;
}

-- the first incarnation is 1
pub one_inc : (number capacity inc front : ℕ) → IsTrue (may_follow_at number capacity [] (booting_entry inc front)) → inc ≡ 1
one_inc number capacity inc front follows = eqb-true inc 1 (and_parts (eqb inc 1) true (and_parts (nat_le 0 front) (eqb inc 1 && true) (and_parts (nat_le 0 front && (eqb inc 1 && true)) true follows).0).1).0

module _ (start : List DoorEntry) (capacity lines : ℕ) (boot : BootView) (node : NodeView) (door : List DoorEntry) (drives : Drives start capacity lines boot node door) where
  abbrev trail : Trail
  trail = drives.trail

  -- the history of its node
  pub at_node : (inc : ℕ) → HasBooted boot.by boot.node inc trail → (front : ℕ) × (node.history ≡ booting_entry inc front ∷ [])
  at_node inc has = (
    has.begun.front,
    drives.history_is
        ∙ ap (flat_map node_entry_in) has.begun.turns
        ∙ begun_at_node boot.by boot.node inc has.begun.before has.begun.front has.up has.pages has.more has.door
        ∙ ap (λ (b : By). record { front = has.begun.front; by = b; act = acts.Booting inc; answer = None } ∷ []) drives.by,
  )

  pub first_inc : (inc : ℕ) → HasBooted boot.by boot.node inc trail → LegalNode node.number node.capacity node.history → inc ≡ 1
  first_inc inc has legal = let here = at_node inc has in one_inc node.number node.capacity inc here.0 (and_parts (may_follow_at node.number node.capacity [] (booting_entry inc here.0)) true (subst (λ (h : List NodeEntry). LegalNode node.number node.capacity h) here.1 legal)).0

  -- ---- at the node

  -- it may close its boot, which still runs, and there is room for its answer
  closes_own : (inc front : ℕ) → IsTrue (act_passes (opens_boot inc) (last_own opening (booting_entry inc front ∷ [])))
  closes_own inc front = eq-eqb inc inc refl

  runs_still : (inc front : ℕ) → IsTrue (has_left inc (node_state (booting_entry inc front ∷ [])) || boots inc (node_state (booting_entry inc front ∷ [])))
  runs_still inc front = or_right _ _ (eq-eqb inc inc refl)

  pub may_close_now : (stage : Stage) → made_at boot.by boot.node stage trail → may_close_at boot.by stage node.history
  may_close_now Begins made = tt
  may_close_now (ComesUp inc) made = tt
  may_close_now (Scans inc after listed commits) made = tt
  may_close_now (Ends inc end) made =
      let here = at_node inc (to_end boot.by boot.node inc end trail made) in
      subst (λ (b : By). MayClose (opens_boot inc) b node.history) (sym drives.by) (subst (λ (h : List NodeEntry). MayClose (opens_boot inc) opening h) (sym here.1) (closes_own inc here.0))
  may_close_now Ended made = tt

  pub may_end_now : (stage : Stage) → made_at boot.by boot.node stage trail → may_end_at stage node.history
  may_end_now Begins made = tt
  may_end_now (ComesUp inc) made = tt
  may_end_now (Scans inc after listed commits) made = tt
  may_end_now (Ends inc end) made =
      let here = at_node inc (to_end boot.by boot.node inc end trail made) in
      subst (λ (h : List NodeEntry). may_end_at (Ends inc end) h) (sym here.1) (runs_still inc here.0)
  may_end_now Ended made = tt

  room_at : (history : List NodeEntry) → node.history ≡ history → room_behind lines history ≡ suc lines → 1 ≤ node.room
  room_at history is room = let now : node.room ≡ suc lines = drives.room ∙ ap (room_behind lines) is ∙ room in omega arith

  pub has_room : (n : ℕ) (stage : Stage) → made_at boot.by boot.node stage trail → places.Node n ≡ next_at boot.node stage → 1 ≤ node.room
  has_room n Begins made here = room_at [] (drives.history_is ∙ ap (λ (t : Trail). flat_map node_entry_in t.turns) made) refl
  has_room n (ComesUp inc) made here = absurd (cc)
  has_room n (Scans inc after listed commits) made here = absurd (cc)
  has_room n (Ends inc end) made here = let now = at_node inc (to_end boot.by boot.node inc end trail made) in room_at (booting_entry inc now.0 ∷ []) now.1 refl
  has_room n Ended made here = absurd (cc)

  -- ---- at the door

  pub is_open_now : IsTrue (is_open door)
  is_open_now =
      subst (λ (h : List DoorEntry). IsTrue (is_open h)) (sym drives.door_is)
      (list_any-append (λ (e : DoorEntry). opens e.act) start (flat_map (door_entry_in opening) trail.turns) ∙ or_left _ _ drives.ready.opened)

  its_below : AllBelow boot.node start
  its_below = subst (λ (n : ℕ). AllBelow n start) (sym drives.number) drives.ready.below

  is_some_node : 1 ≤ boot.node
  is_some_node = let same = drives.number in let some = drives.some in omega arith

  -- what it did at the door
  pub at_door : (inc : ℕ) (up : Option ℕ) (pages : List PageAt) (more : List Turn) → HasBegun boot.by boot.node inc up pages more trail → door ≡ start ++ (up_entries opening boot.node inc up ++ (map (page_entry opening boot.node inc) pages ++ flat_map (door_entry_in opening) more))
  at_door inc up pages more begun =
      drives.door_is
      ∙ ap (λ (ts : List Turn). start ++ flat_map (door_entry_in opening) ts) begun.turns
      ∙ ap (λ (es : List DoorEntry). start ++ es) (entries_of opening boot.node inc boot.by begun.before begun.front up pages more)

  -- no look has shown it up before
  pub not_before : (inc : ℕ) (more : List DoorEntry) → door ≡ start ++ more → AllBelow boot.node more → HasComeUp boot.by boot.node inc None trail.look → ⊥
  not_before inc more is below come = none_came boot.node inc trail.look (below_parts boot.node trail.look drives.looked.0 all).0 come.0
    where
      all : AllBelow boot.node (trail.look ++ drives.looked.0)
      all = subst (λ (h : List DoorEntry). AllBelow boot.node h) (sym is ∙ drives.looked.1) (both_below boot.node start more its_below below)

  -- it may come up
  comes_up_now : (inc : ℕ) → inc ≡ 1 → door ≡ start → may_call_at boot.by boot.node (ComesUp inc) door
  comes_up_now inc one is =
      subst (λ (h : List DoorEntry). may_call_at boot.by boot.node (ComesUp inc) h) (sym is) (
        or_right _ _ (and_from _ _ (ap not (none_past boot.node boot.node inc start its_below)) (nobody_else boot.node inc start is_some_node its_below)),
        λ up. absurd (not_up boot.node inc start is_some_node its_below up),
      )

  -- and is up behind that
  scans_now : (inc : ℕ) (after : List ℕ) (listed : ℕ) (commits : List Commit) → (has : IsScanning boot.by boot.node inc after listed commits trail) → (up : Option ℕ) → has.up ≡ up → may_call_at boot.by boot.node (Scans inc after listed commits) door
  scans_now inc after listed commits has None is =
      absurd (not_before inc (map (page_entry opening boot.node inc) has.pages ++ [])
      (at_door inc has.up has.pages [] has.begun ∙ ap (λ (o : Option ℕ). start ++ (up_entries opening boot.node inc o ++ (map (page_entry opening boot.node inc) has.pages ++ []))) is)
      (both_below boot.node (map (page_entry opening boot.node inc) has.pages) [] (pages_below boot.node opening boot.node inc has.pages) refl)
      (subst (λ (o : Option ℕ). HasComeUp boot.by boot.node inc o trail.look) is has.come))
  scans_now inc after listed commits has (Some place) is =
      or_right _ _
      (subst (λ (h : List DoorEntry). IsTrue (is_up (incarnation boot.node inc) h))
      (sym (at_door inc has.up has.pages [] has.begun ∙ ap (λ (o : Option ℕ). start ++ (up_entries opening boot.node inc o ++ (map (page_entry opening boot.node inc) has.pages ++ []))) is))
      (up_behind opening boot.node inc start has.pages))

  pub may_call_now : LegalNode node.number node.capacity node.history → (stage : Stage) → made_at boot.by boot.node stage trail → may_call_at boot.by boot.node stage door
  may_call_now legal Begins made = tt
  may_call_now legal (ComesUp inc) made =
      comes_up_now inc (first_inc inc (record { up = None; pages = []; more = []; begun = made; door = refl }) legal) (at_door inc None [] [] made ∙ append-nil start)
  may_call_now legal (Scans inc after listed commits) made = scans_now inc after listed commits made made.up refl
  may_call_now legal (Ends inc end) made = tt
  may_call_now legal Ended made = tt

-- ---- a call that failed

abbrev fails : Turn → Bool
fails (AtDoor place act) = is_failure act
fails turn = false

-- whether the last of some turns is one
abbrev last_fails : Bool → List Turn → Bool
last_fails first turns = fold (λ before turn. fails turn) first turns

fails_last : (first : Bool) (turns : List Turn) (turn : Turn) → last_fails first (turns ++ turn ∷ []) ≡ fails turn
fails_last first turns turn = fold-append (λ (before : Bool) (t : Turn). fails t) first turns (turn ∷ [])

pages_work : (node inc : ℕ) (pages : List PageAt) (more : List Turn) → last_fails false (map (page_turn node inc) pages ++ more) ≡ last_fails false more
pages_work node inc [] more = refl
pages_work node inc (page ∷ pages) more = pages_work node inc pages more

begun_works : (by : By) (node inc : ℕ) (before : List NodeEntry) (front : ℕ) (up : Option ℕ) (pages : List PageAt) (more : List Turn) → last_fails false (begun_turns by node inc before front up pages ++ more) ≡ last_fails false more
begun_works by node inc before front None pages more = pages_work node inc pages more
begun_works by node inc before front (Some place) pages more = pages_work node inc pages more

module _ (by : By) (node : ℕ) (trail : Trail) (fails_now : IsTrue (last_fails false trail.turns)) where
  begun_fails : (inc : ℕ) (up : Option ℕ) (pages : List PageAt) (more : List Turn) → HasBegun by node inc up pages more trail → IsTrue (last_fails false more)
  begun_fails inc up pages more begun = sym (ap (last_fails false) begun.turns ∙ begun_works by node inc begun.before begun.front up pages more) ∙ fails_now

  stop_tells : (inc : ℕ) (look : List DoorEntry) (after : List ℕ) (listed : ℕ) (more : List Turn) (reply : Reply) → StopsAt node inc look after listed more reply → IsTrue (last_fails false more) → IsTrue (told_fault_at (Ends inc (Refused reply)))
  stop_tells inc look after listed more reply (inl (none, shut)) it = absurd (false≢true (sym (ap (last_fails false) none) ∙ it))
  stop_tells inc look after listed more reply (inr (place, answer, one, stops)) it = by_answer answer stops (sym (ap (last_fails false) one) ∙ it)
    where
      by_answer : (a : KeeperAnswer) → StopsCall a listed reply → IsTrue (is_failure (page_act node inc after a)) → IsTrue (told_fault_at (Ends inc (Refused reply)))
      by_answer answers.Failed is it = subst (λ (r : Reply). IsTrue (told_fault_at (Ends inc (Refused r)))) (sym is) refl
      by_answer (answers.Page page) is it = absurd (false≢true it)
      by_answer (answers.Found bytes) is it = absurd (false≢true it)
      by_answer answers.Absent is it = absurd (false≢true it)
      by_answer answers.Done is it = absurd (false≢true it)

  -- its boot is to be stopped for it
  pub tells_fault : (stage : Stage) → made_at by node stage trail → IsTrue (told_fault_at stage)
  tells_fault Begins made = absurd (false≢true (sym (ap (λ (t : Trail). last_fails false t.turns) made) ∙ fails_now))
  tells_fault (ComesUp inc) made = absurd (false≢true (begun_fails inc None [] [] made))
  tells_fault (Scans inc after listed commits) made = absurd (false≢true (begun_fails inc made.up made.pages [] made.begun))
  tells_fault (Ends inc (Shown commits)) made = absurd (false≢true (begun_fails inc made.up made.pages [] made.begun))
  tells_fault (Ends inc (Refused reply)) made = stop_tells inc trail.look made.after (length (listed_on made.pages)) made.more reply made.stops (begun_fails inc made.up made.pages made.more made.begun)
  tells_fault Ended (inl once) = absurd (false≢true (sym (ap (last_fails false) once.turns) ∙ fails_now))
  tells_fault Ended (inr later) = absurd (false≢true (sym (ap (last_fails false) later.turns ∙ fails_last false later.since.turns (turn_at by node later.before later.front later.act (Some later.reply))) ∙ fails_now))

-- where a call failed at the door, the count of failures rose
pub cause_at_door : (boot later : BootView) (trail : Trail) (old new : List DoorEntry) (before now : ℕ) → Made boot trail → StepsAtDoor boot.by (Made boot) (Made later) old new → HasCause (IsTrue (told_fault_at later.stage)) before now → HasCause (FailsNewly old new) before now
cause_at_door boot later trail old new before now made steps cause = record { never_falls = cause.never_falls; rose = λ fails. by_step steps fails.0 fails.1 }
  where
    by_step : StepsAtDoor boot.by (Made boot) (Made later) old new → IsTrue (has_failed new) → has_failed old ≡ false → Rose before now
    by_step (inr (same, leads)) fails worked = absurd (false≢true (sym (ap has_failed same ∙ worked) ∙ fails))
    by_step (inl (act, grown, leads)) fails worked =
        cause.rose (tells_fault later.by later.node (behind trail (AtDoor (length old) act)) (fails_last false trail.turns (AtDoor (length old) act) ∙ act_fails) later.stage (leads trail made))
      where
        act_fails : IsTrue (is_failure act)
        act_fails = elim (or_cases (is_failure act) false (
            sym (ap (λ (t : Bool). t || (is_failure act || false)) worked)
            ∙ sym (list_any-append (λ (e : DoorEntry). is_failure e.act) old (record { by = boot.by; act = act } ∷ []))
            ∙ sym (ap has_failed grown)
            ∙ fails
            )) [ inl it ↦ it | inr never ↦ absurd (false≢true never) ]
