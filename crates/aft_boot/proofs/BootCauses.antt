-- The causes of what a start answers.
use Rattle.std.proofs.Common.{◌≡◌, ◌+◌, ◌≤◌, ◌<◌, ℕ, Bool, true, false, ◌||◌, not, List, [], ◌∷◌, ◌++◌, eqb, length, length-append, max, refl, sym, ap, subst, ◌∙◌, append-nil, append_assoc, arith}
use Rattle.std.specs.Prelude.{IsTrue, None, Option, Some, map, nat_lt, take}
use Rattle.std.specs.List.{flat_map, list_any}
use Rattle.std.specs.Str.{bytes_eq}
use Rattle.std.proofs.lemmas.Bool.{and_from, eq-eqb, false≢true, le-ltb, lt-ltb, or_left, or_right}
use Rattle.aft_keeper.specs.declared.keeper.KeeperAnswer.{KeeperAnswer}
use Rattle.aft_keeper.specs.declared.keeper.KeeperAnswer.TheVariants as answers
use Rattle.aft_keeper.specs.declared.keeper.Pair.{Pair}
use Rattle.aft_records.specs.declared.stored.Commit.{Commit}
use Rattle.aft_model.specs.declared.caller.By.{By}
use Rattle.aft_model.specs.declared.caller.Hold.{Hold}
use Rattle.aft_model.specs.declared.door.DoorEntry.{DoorEntry}
use Rattle.aft_model.specs.declared.node.NodeAct.{NodeAct}
use Rattle.aft_model.specs.declared.node.NodeAct.TheVariants as acts
use Rattle.aft_model.specs.declared.node.NodeEntry.{NodeEntry}
use Rattle.aft_model.specs.declared.reply.Reply.{Reply}
use Rattle.aft_model.specs.declared.reply.Reply.TheVariants as replies
use Rattle.aft_model.specs.declared.script.Command.TheVariants as commands
use Rattle.aft_model.specs.History.{first_of}
use Rattle.aft_model.specs.Membership.{incarnation}
use Rattle.aft_model.specs.NodeSights.{is_fenced}
use Rattle.aft_model.specs.NodeState.{boots, newest, node_state, serves}
use Rattle.aft_model.specs.Opening.{is_failure}
use Rattle.aft_model.specs.ScanRun.{ScanPage, is_scan_run, scan_pages}
use Rattle.aft_model.specs.Sound.{markers_prefix, records_prefix}
use Rattle.aft_model.proofs.Growth.{given_grows}
use Rattle.aft_model.proofs.Services.{newest-snoc}
use Rattle.aft_model.proofs.Sights.{bytes_eq-refl}
use Rattle.aft_lines.specs.Causes.{Caused}
use Rattle.aft_lines.specs.CausesNodes.{is_newest_at, is_unbooted}
use Rattle.aft_lines.specs.CausesScans.{damage_in, is_too_many_records_caused, is_written_name, listed_in, written_name}
use Rattle.aft_lines.specs.LineView.{LineView, NodeTurn, door_entries, door_entry_in, has_left, last_front}
use Rattle.aft_lines.specs.Turns.{AtDoor, Turn}
use Rattle.aft_turns.proofs.Views.{with_words}
use Rattle.aft_boot.specs.Booted.{AreRead, PageAt, begun_turns, listed_on, page_act, page_turn, scan_page, up_turns}
use Rattle.aft_boot.specs.Crashed.{turn_at}
use Rattle.aft_boot.specs.Pages.{StopsCall, damage}
use Rattle.aft_boot.proofs.Entries.{AreDoor, both_door, entries_of, fails, lists_markers, lists_records, no_nodes, page_entry, pages_door, scans_so, shows_damage, up_door, up_entries}

module _ (by : By) (node : ℕ) (hold : Hold) (view : LineView) (inc : ℕ) (before : List NodeEntry) (front : ℕ) (newest_is : max (newest before) inc ≡ inc) (up : Option ℕ) (pages : List PageAt) (read : AreRead pages) (last_before : List NodeEntry) (last_at : ℕ) where
  abbrev ran : List Turn → LineView
  ran turns = with_words (commands.Start node) hold turns view

  abbrev last : NodeAct → Reply → Turn
  last act reply = turn_at by node last_before last_at act (Some reply)

  -- all its turns
  abbrev all_turns : List Turn → NodeAct → Reply → List Turn
  all_turns more act reply = (begun_turns by node inc before front up pages ++ more) ++ last act reply ∷ []

  abbrev begun_entry : NodeEntry
  begun_entry = record { front = front; by = by; act = acts.Booting inc; answer = None }

  its_newest : newest (before ++ begun_entry ∷ []) ≡ inc
  its_newest = newest-snoc before begun_entry ∙ newest_is

  its_node : (rest : List Turn) → IsTrue (is_newest_at (incarnation node inc) node (ran (turn_at by node before front (acts.Booting inc) None ∷ rest)))
  its_node rest = and_from _ _ (eq-eqb node node refl) (eq-eqb inc (newest (before ++ begun_entry ∷ [])) (sym its_newest))

  -- ---- the node is down

  pub shut_out : (more : List Turn) (act : NodeAct) (reply : Reply) (look rest : List DoorEntry) → take (last_front (ran (all_turns more act reply))) view.seen ≡ look ++ rest → IsTrue (is_fenced (incarnation node inc) look) → Caused (ran (all_turns more act reply)) (replies.NodeDown node inc)
  shut_out more act reply look rest begins fenced =
      and_from _ _ (its_node (((up_turns node inc up ++ map (page_turn node inc) pages) ++ more) ++ last act reply ∷ []))
      (or_right _ _ (subst (λ (seen : List DoorEntry). IsTrue (is_fenced (incarnation node inc) seen)) (sym begins) (given_grows _ _ look rest fenced)))

  mid_door : (more : List Turn) → AreDoor more → AreDoor ((up_turns node inc up ++ map (page_turn node inc) pages) ++ more)
  mid_door more door = both_door (up_turns node inc up ++ map (page_turn node inc) pages) more (both_door (up_turns node inc up) (map (page_turn node inc) pages) (up_door node inc up) (pages_door node inc pages)) door

  not_booted : (serving booting : Bool) → IsTrue (not (serving || booting)) → IsTrue (not booting)
  not_booted false booting is = is
  not_booted true booting is = absurd (false≢true is)

  pub left : (more : List Turn) → AreDoor more → (act : NodeAct) (reply : Reply) → IsTrue (has_left inc (node_state last_before)) → Caused (ran (all_turns more act reply)) (replies.NodeDown node inc)
  left more door act reply is =
      and_from _ _ (its_node (((up_turns node inc up ++ map (page_turn node inc) pages) ++ more) ++ last act reply ∷ []))
      (or_left _ _ (subst (λ (ns : List NodeTurn). IsTrue (is_unbooted inc ns)) (sym (no_nodes ((up_turns node inc up ++ map (page_turn node inc) pages) ++ more) (last act reply ∷ []) (mid_door more door)))
      (or_left _ _ (not_booted (serves inc (node_state last_before)) (boots inc (node_state last_before)) is))))

  -- ---- what it did at the door

  entries : (more : List Turn) (act : NodeAct) (reply : Reply) → door_entries (ran (all_turns more act reply)) ≡ up_entries view.by node inc up ++ (map (page_entry view.by node inc) pages ++ flat_map (door_entry_in view.by) (more ++ last act reply ∷ []))
  entries more act reply =
      ap (λ (ts : List Turn). flat_map (door_entry_in view.by) ts) (append_assoc (begun_turns by node inc before front up pages) more (last act reply ∷ []))
      ∙ entries_of view.by node inc by before front up pages (more ++ last act reply ∷ [])

  -- what it was shown, where this is the rest of that
  records_so : (more : List Turn) (act : NodeAct) (reply : Reply) → flat_map (λ (e : DoorEntry). listed_in records_prefix e.act) (door_entries (ran (all_turns more act reply))) ≡ listed_on pages ++ flat_map (λ (e : DoorEntry). listed_in records_prefix e.act) (flat_map (door_entry_in view.by) (more ++ last act reply ∷ []))
  records_so more act reply = ap (flat_map (λ (e : DoorEntry). listed_in records_prefix e.act)) (entries more act reply) ∙ lists_records view.by node inc up pages (flat_map (door_entry_in view.by) (more ++ last act reply ∷ []))

  markers_so : (more : List Turn) (act : NodeAct) (reply : Reply) → flat_map (λ (e : DoorEntry). listed_in markers_prefix e.act) (door_entries (ran (all_turns more act reply))) ≡ flat_map (λ (e : DoorEntry). listed_in markers_prefix e.act) (flat_map (door_entry_in view.by) (more ++ last act reply ∷ []))
  markers_so more act reply = ap (flat_map (λ (e : DoorEntry). listed_in markers_prefix e.act)) (entries more act reply) ∙ lists_markers view.by node inc up pages (flat_map (door_entry_in view.by) (more ++ last act reply ∷ []))

  damage_so : (more : List Turn) (act : NodeAct) (reply : Reply) → flat_map (damage_in None) (door_entries (ran (all_turns more act reply))) ≡ flat_map (damage_in None) (flat_map (door_entry_in view.by) (more ++ last act reply ∷ []))
  damage_so more act reply = ap (flat_map (damage_in None)) (entries more act reply) ∙ shows_damage view.by node inc up pages (flat_map (door_entry_in view.by) (more ++ last act reply ∷ [])) read.readable

  -- it was shown few enough names
  few_enough : (turns : List Turn) (listed : List Pair) → flat_map (λ (e : DoorEntry). listed_in records_prefix e.act) (door_entries (ran turns)) ≡ listed → flat_map (λ (e : DoorEntry). listed_in markers_prefix e.act) (door_entries (ran turns)) ≡ [] → length listed ≤ 20000 → is_too_many_records_caused (ran turns) ≡ false
  few_enough turns listed records markers few =
      ap (λ (ps : List Pair). nat_lt 20000 (length ps) || nat_lt 20000 (length (flat_map (λ (e : DoorEntry). listed_in markers_prefix e.act) (door_entries (ran turns))))) records
      ∙ (ap (λ (ps : List Pair). nat_lt 20000 (length listed) || nat_lt 20000 (length ps)) markers
      ∙ ap (λ (t : Bool). t || false) (le-ltb 20000 (length listed) few))

  -- ---- it served

  pub started : (commits : List Commit) → IsTrue (is_scan_run (map scan_page pages)) → Caused (ran (all_turns [] (acts.Boot inc commits) (replies.Started node inc))) (replies.Started node inc)
  started commits whole =
      and_from _ _
      (and_from _ _
      (and_from _ _ (and_from _ _ (eq-eqb node node refl) (eq-eqb inc inc refl))
      (subst (λ (es : List DoorEntry). IsTrue (is_scan_run (scan_pages (incarnation node inc) view.by records_prefix es))) (sym (entries [] (acts.Boot inc commits) (replies.Started node inc)))
      (subst (λ (ps : List ScanPage). IsTrue (is_scan_run ps)) (sym (scans_so view.by node inc up pages)) whole)))
      (subst (λ (names : List (List ℕ)). IsTrue (eqb (length names) 0)) (sym (damage_so [] (acts.Boot inc commits) (replies.Started node inc))) refl))
      (ap not (few_enough (all_turns [] (acts.Boot inc commits) (replies.Started node inc)) (listed_on pages ++ []) (records_so [] (acts.Boot inc commits) (replies.Started node inc)) (markers_so [] (acts.Boot inc commits) (replies.Started node inc))
      (let few = read.few in let l = length-append (listed_on pages) [] in omega arith)))

  -- ---- it was stopped by what the store answered

  module _ (place : ℕ) (after : List ℕ) (act : NodeAct) where
    abbrev call : KeeperAnswer → List Turn
    call answer = AtDoor place (page_act node inc after answer) ∷ []

    failed : (reply : Reply) → Caused (ran (all_turns (call answers.Failed) act reply)) replies.StoreFault
    failed reply =
        subst (λ (es : List DoorEntry). IsTrue (list_any (λ entry. is_failure entry.act) es)) (sym (entries (call answers.Failed) act reply))
        (fails view.by node inc up pages (λ (entry : DoorEntry). is_failure entry.act) (record { by = view.by; act = page_act node inc after answers.Failed }) refl)

    many : (page : List Pair) (reply : Reply) → 20000 < length (listed_on pages) + length page → Caused (ran (all_turns (call (answers.Page page)) act reply)) replies.TooManyRecords
    many page reply past =
        or_left _ _ (subst (λ (ps : List Pair). IsTrue (nat_lt 20000 (length ps))) (sym (records_so (call (answers.Page page)) act reply))
        (lt-ltb 20000 (length (listed_on pages ++ (page ++ [])))
        (let l = length-append (listed_on pages) (page ++ []) in let m = length-append page [] in omega arith)))

    damaged : (page : List Pair) (written name : List ℕ) (reply : Reply) → length (listed_on pages) + length page ≤ 20000 → first_of (damage page) ≡ Some name → written ≡ written_name name → Caused (ran (all_turns (call (answers.Page page)) act reply)) (replies.Damaged written)
    damaged page written name reply few first is =
        and_from _ _
        (subst (λ (names : List (List ℕ)). IsTrue (is_written_name written (first_of names))) (sym (damage_so (call (answers.Page page)) act reply ∙ append-nil (damage page)))
        (subst (λ (o : Option (List ℕ)). IsTrue (is_written_name written o)) (sym first) (subst (λ (w : List ℕ). IsTrue (bytes_eq w (written_name name))) (sym is) (bytes_eq-refl (written_name name)))))
        (ap not (few_enough (all_turns (call (answers.Page page)) act reply) (listed_on pages ++ (page ++ [])) (records_so (call (answers.Page page)) act reply) (markers_so (call (answers.Page page)) act reply)
        (let l = length-append (listed_on pages) (page ++ []) in let m = length-append page [] in omega arith)))

    pub stopped : (answer : KeeperAnswer) (reply : Reply) → StopsCall answer (length (listed_on pages)) reply → Caused (ran (all_turns (call answer) act reply)) reply
    stopped answers.Failed reply stops = subst (λ (r : Reply). Caused (ran (all_turns (call answers.Failed) act reply)) r) (sym stops) (failed reply)
    stopped (answers.Page page) replies.TooManyRecords stops = many page replies.TooManyRecords stops
    stopped (answers.Page page) (replies.Damaged written) (few, shown) = damaged page written shown.0 (replies.Damaged written) few shown.1 shown.2
    stopped (answers.Page page) replies.NoMemory stops = refl
    stopped (answers.Page page) reply stops = absurd stops
    stopped answers.Absent replies.NoMemory stops = refl
    stopped answers.Absent reply stops = absurd stops
    stopped answers.Done replies.NoMemory stops = refl
    stopped answers.Done reply stops = absurd stops
    stopped (answers.Found bytes) replies.NoMemory stops = refl
    stopped (answers.Found bytes) reply stops = absurd stops
