-- What has come of a first boot that is over.
use Rattle.std.proofs.Common.{◌≡◌, ◌+◌, ◌-◌, ◌≤◌, ℕ, suc, Bool, false, ◌||◌, not, List, [], ◌∷◌, ◌++◌, length, length-append, refl, sym, ap, subst, ◌∙◌, ◌⊎◌, inl, inr, append-nil, append_assoc, arith}
use Rattle.std.specs.Prelude.{Err, IsTrue, MatchResult, None, Ok, Option, Result, Some, if◌then◌else◌, map, slice_get}
use Rattle.std.specs.List.{flat_map}
use Rattle.std.proofs.lemmas.Bool.{and_from, and_parts, eq-eqb, false≢true}
use Rattle.std.proofs.lemmas.List.{length-map}
use Rattle.std.proofs.lemmas.List.Concat.{flat_map-append}
use Rattle.aft_audit.specs.declared.fault.AuditFault.{AuditFault}
use Rattle.aft_audit.specs.declared.fault.AuditFault.TheVariants as faults
use Rattle.aft_keeper.specs.declared.keeper.KeeperAnswer.{KeeperAnswer}
use Rattle.aft_keeper.specs.declared.keeper.KeeperAnswer.TheVariants as answers
use Rattle.aft_records.specs.declared.stored.Commit.{Commit}
use Rattle.aft_model.specs.declared.door.DoorAct.{DoorAct}
use Rattle.aft_model.specs.declared.door.DoorAct.TheVariants.{Up}
use Rattle.aft_model.specs.declared.door.DoorEntry.{DoorEntry}
use Rattle.aft_model.specs.declared.node.NodeAct.{NodeAct}
use Rattle.aft_model.specs.declared.node.NodeAct.TheVariants as acts
use Rattle.aft_model.specs.declared.node.NodeEntry.{NodeEntry}
use Rattle.aft_model.specs.declared.reply.Reply.{Reply}
use Rattle.aft_model.specs.declared.reply.Reply.TheVariants as replies
use Rattle.aft_model.specs.DoorKnowledge.{is_open}
use Rattle.aft_model.specs.History.{each_after}
use Rattle.aft_model.specs.LegalDoor.{Legal, is_answered, may_come, may_follow}
use Rattle.aft_model.specs.LegalNode.{LegalNode, front, may_follow_at}
use Rattle.aft_model.specs.Membership.{incarnation, is_up}
use Rattle.aft_model.specs.NodeState.{node_state}
use Rattle.aft_model.specs.Opening.{may_open, opening}
use Rattle.aft_model.specs.ScanRun.{goes_on, is_scan_run}
use Rattle.aft_model.specs.Sound.{recorded}
use Rattle.aft_model.proofs.Histories.{each_after_split}
use Rattle.aft_ledger.specs.Turns.{boot_refusal}
use Rattle.aft_ledger.specs.View.{NodeView}
use Rattle.aft_lines.specs.LineView.{door_entry_in, has_left}
use Rattle.aft_lines.specs.Turns.{AtDoor, AtNode, Turn}
use Rattle.aft_node.specs.declared.goes.BootEnd.{BootEnd}
use Rattle.aft_node.specs.declared.goes.BootEnd.TheVariants.{Refused, Shown}
use Rattle.aft_boot.specs.Booted.{AreRead, Closes, EndedAtOnce, EndedLater, HasBegun, HasRead, HasStopped as HasStoppedAt, IsShutOut, IsToEnd, PageAt, StopsAt, begun_turns, listed_on, page_act, page_turn, scan_page, up_turns}
use Rattle.aft_boot.specs.Crashed.{turn_at}
use Rattle.aft_boot.specs.Driving.{AnswerTells, Drives, LastTells, Placed, ReplyTells, node_entry_in, room_behind}
use Rattle.aft_boot.specs.FirstBoots.{FirstBoot, HasServed, Stops, StopsBehind, TellsFault, are_placed, boot_entries, first_entry, last_entry}
use Rattle.aft_boot.specs.Pages.{StopsCall}
use Rattle.aft_boot.specs.declared.stage.Stage.TheVariants.{Ended}
use Rattle.aft_boot.proofs.Below.{AllBelow, not_up}
use Rattle.aft_boot.proofs.Drives.{placed_behind}
use Rattle.aft_boot.proofs.Entries.{AreDoor, entries_of, page_entry, pages_entries, up_entries}
use Rattle.aft_boot.proofs.Premises.{begun_at_node, booting_entry, one_inc, stop_door}

-- ---- a node by its parts

abbrev view : ℕ → ℕ → List NodeEntry → ℕ → ℕ → NodeView
view number capacity history front room = record { number = number; capacity = capacity; history = history; front = front; room = room }

same_view : (a c f r : ℕ) (node : NodeView) (h : List NodeEntry) → node.number ≡ a → node.capacity ≡ c → node.history ≡ h → node.front ≡ f → node.room ≡ r → node ≡ view a c h f r
same_view a c f r node h number capacity history front room =
    ap (λ (x : ℕ). view x node.capacity node.history node.front node.room) number
    ∙ ap (λ (x : ℕ). view a x node.history node.front node.room) capacity
    ∙ ap (λ (x : List NodeEntry). view a c x node.front node.room) history
    ∙ ap (λ (x : ℕ). view a c h x node.room) front
    ∙ ap (λ (x : ℕ). view a c h f x) room

-- ---- what nobody who hasn't come up did

-- a call of an incarnation that hasn't come up isn't the first behind its door
no_call : (number inc : ℕ) (start rest : List DoorEntry) (entry : DoorEntry) (after : List ℕ) (answer : KeeperAnswer) → entry.act ≡ page_act number inc after answer → IsTrue (is_open start) → AllBelow number start → 1 ≤ number → Legal (start ++ entry ∷ rest) → ⊥
no_call number inc start rest entry after answer is opened below some legal =
    not_up number inc start some below (and_parts (is_up (incarnation number inc) start) _ comes).0
  where
    follows : IsTrue (may_follow start entry)
    follows = (and_parts (may_follow start entry) (each_after may_follow (start ++ entry ∷ []) rest) (each_after_split may_follow [] start (entry ∷ rest) legal).1).0

    comes : IsTrue (may_come start (page_act number inc after answer))
    comes = subst (λ (a : DoorAct). IsTrue (may_come start a)) is
        (subst (λ (t : Bool). IsTrue (if t then may_come start entry.act else may_open start entry)) opened (and_parts (is_answered entry.act) _ follows).1)

-- ---- pages one behind the other

pages_placed : (number node inc place : ℕ) (before : List NodeEntry) (pages : List PageAt) (more : List Turn) → Placed number place before (map (page_turn node inc) pages ++ more) → IsTrue (are_placed place pages)
pages_placed number node inc place before [] more placed = refl
pages_placed number node inc place before (page ∷ pages) more (is, placed) = and_from _ _ (eq-eqb page.place place is) (pages_placed number node inc (suc place) before pages more placed)

-- ---- the end of one that began a boot

-- what stands of it: its entries at its node, the last of which has seen all that is at the door, and what it did there
record EndsSo (start door : List DoorEntry) (number : ℕ) (node : NodeView) (inc : ℕ) (up : Option ℕ) (pages : List PageAt) (more : List Turn) (act : NodeAct) (reply : Reply) : Type 0 where
  history : node.history ≡ booting_entry inc (length start) ∷ record { front = length door; by = opening; act = act; answer = Some reply } ∷ []
  placed : (place : ℕ) → up ≡ Some place → (place ≡ length start) × IsTrue (are_placed (suc (length start)) pages)
  door_is : door ≡ start ++ (up_entries opening number inc up ++ (map (page_entry opening number inc) pages ++ flat_map (door_entry_in opening) more))

module _ (start : List DoorEntry) (capacity lines number : ℕ) (node : NodeView) (door : List DoorEntry) (drives : Drives start capacity lines (record { by = opening; node = number; stage = Ended }) node door) (legal : LegalNode node.number node.capacity node.history) (legal_door : Legal door) where
  its_below : AllBelow number start
  its_below = subst (λ (n : ℕ). AllBelow n start) (sym drives.number) drives.ready.below

  some_node : 1 ≤ number
  some_node = let same = drives.number in let some = drives.some in omega arith

  -- what it comes to, by what is told of its last answer
  abbrev Comes : Result (Unit {0}) AuditFault → Type 0
  Comes result = MatchResult result (λ done. HasServed capacity lines number node start door) (λ fault. Stops number fault start door)

  -- what the last entry is, is told
  told_once : (entry : NodeEntry) (result : Result (Unit {0}) AuditFault) → node.history ≡ entry ∷ [] → LastTells (slice_get node.history (length node.history - 1)) result → AnswerTells entry.answer result
  told_once entry result is told = subst (λ (h : List NodeEntry). LastTells (slice_get h (length h - 1)) result) is told

  told_twice : (first entry : NodeEntry) (result : Result (Unit {0}) AuditFault) → node.history ≡ first ∷ entry ∷ [] → LastTells (slice_get node.history (length node.history - 1)) result → AnswerTells entry.answer result
  told_twice first entry result is told = subst (λ (h : List NodeEntry). LastTells (slice_get h (length h - 1)) result) is told

  -- for want of memory nothing came of it
  nothing_came : door ≡ start → (result : Result (Unit {0}) AuditFault) → ReplyTells replies.NoMemory result → Comes result
  nothing_came is (Err fault) told = inl (is, told)
  nothing_came is (Ok done) told = absurd told

  -- ---- at once

  at_once : (once : EndedAtOnce opening number drives.trail) (result : Result (Unit {0}) AuditFault) → LastTells (slice_get node.history (length node.history - 1)) result → Comes result
  at_once once result told =
      nothing_came nothing_there result (subst (λ (r : Reply). ReplyTells r result) reply_is (told_once last result (drives.history_is ∙ ap (flat_map node_entry_in) once.turns) told))
    where
      last : NodeEntry
      last = record { front = once.front; by = opening; act = acts.Nothing; answer = Some once.reply }

      placed : Placed node.number (length start) [] (turn_at opening number once.before once.front acts.Nothing (Some once.reply) ∷ [])
      placed = subst (Placed node.number (length start) []) once.turns drives.placed

      nothing_there : door ≡ start
      nothing_there = drives.door_is ∙ ap (λ (ts : List Turn). start ++ flat_map (door_entry_in opening) ts) once.turns ∙ append-nil start

      reply_is : once.reply ≡ replies.NoMemory
      reply_is = elim once.answers [
        | inl memory ↦ memory
        | inr refused ↦ absurd (never once.reply (sym (ap (λ (h : List NodeEntry). boot_refusal number (node_state h)) placed.1) ∙ refused))
      ]
        where
          never : (r : Reply) → None ≡ Some r → ⊥
          never r e = cc

  -- ---- later

  -- a first boot that stopped behind its coming up
  stops_up : (place inc : ℕ) (pages : List PageAt) (more : List Turn) (fault : AuditFault) → inc ≡ 1 → IsTrue (are_placed (suc (length start)) pages) → AreRead pages → door ≡ start ++ (up_entries opening number inc (Some place) ++ (map (page_entry opening number inc) pages ++ flat_map (door_entry_in opening) more)) → StopsBehind number pages more fault → Stops number fault start door
  stops_up place inc pages more fault one placed read is stops = inr (
    AtDoor (length start) (Up number 1) ∷ map (page_turn number 1) pages ++ more,
    record { pages = pages; more = more; turns_are = refl; placed = placed; read = read; stops = stops },
    subst (λ (i : ℕ). door ≡ start ++ (up_entries opening number i (Some place) ++ (map (page_entry opening number i) pages ++ flat_map (door_entry_in opening) more))) one is
        ∙ ap (λ (es : List DoorEntry). start ++ (record { by = opening; act = Up number 1 } ∷ es))
        (sym (flat_map-append (door_entry_in opening) (map (page_turn number 1) pages) more ∙ ap (λ (es : List DoorEntry). es ++ flat_map (door_entry_in opening) more) (pages_entries opening number 1 pages))),
  )

  -- nobody who hasn't come up read a page
  nobody_read : (inc : ℕ) (page : PageAt) (pages : List PageAt) (rest : List DoorEntry) → door ≡ start ++ (map (page_entry opening number inc) (page ∷ pages) ++ rest) → ⊥
  nobody_read inc page pages rest is =
      no_call number inc start (map (page_entry opening number inc) pages ++ rest) (page_entry opening number inc page) page.after (answers.Page page.listed) refl drives.ready.opened its_below some_node (subst Legal is legal_door)

  nobody_called : (inc : ℕ) (place : ℕ) (after : List ℕ) (answer : KeeperAnswer) (more : List Turn) → more ≡ AtDoor place (page_act number inc after answer) ∷ [] → door ≡ start ++ flat_map (door_entry_in opening) more → ⊥
  nobody_called inc place after answer more one is =
      no_call number inc start [] (record { by = opening; act = page_act number inc after answer }) after answer refl drives.ready.opened its_below some_node
      (subst Legal (is ∙ ap (λ (ts : List Turn). start ++ flat_map (door_entry_in opening) ts) one) legal_door)

  -- what stops a boot is no start
  tells_memory : (inc : ℕ) (look : List DoorEntry) (reply : Reply) (result : Result (Unit {0}) AuditFault) → IsShutOut number inc look reply → ReplyTells reply result → result ≡ Err faults.Memory
  tells_memory inc look reply (Err fault) (inl (down, fenced)) told = ap (λ (f : AuditFault). Err f) (subst (λ (r : Reply). ReplyTells r (Err fault)) down told)
  tells_memory inc look reply (Ok done) (inl (down, fenced)) told = absurd (subst (λ (r : Reply). ReplyTells r (Ok done)) down told)
  tells_memory inc look reply (Err fault) (inr memory) told = ap (λ (f : AuditFault). Err f) (subst (λ (r : Reply). ReplyTells r (Err fault)) memory told)
  tells_memory inc look reply (Ok done) (inr memory) told = absurd (subst (λ (r : Reply). ReplyTells r (Ok done)) memory told)

  tells_stop : (answer : KeeperAnswer) (listed : ℕ) (reply : Reply) (result : Result (Unit {0}) AuditFault) → StopsCall answer listed reply → ReplyTells reply result → (fault : AuditFault) × (result ≡ Err fault) × TellsFault reply fault
  tells_stop answers.Failed listed reply (Err fault) is told = (fault, refl, subst (λ (r : Reply). TellsFault r fault) (sym is) (subst (λ (r : Reply). ReplyTells r (Err fault)) is told))
  tells_stop answers.Failed listed reply (Ok done) is told = absurd (subst (λ (r : Reply). ReplyTells r (Ok done)) is told)
  tells_stop (answers.Page page) listed replies.TooManyRecords (Err fault) stops told = (fault, refl, told)
  tells_stop (answers.Page page) listed replies.TooManyRecords (Ok done) stops told = absurd told
  tells_stop (answers.Page page) listed (replies.Damaged name) (Err fault) stops told = (fault, refl, told)
  tells_stop (answers.Page page) listed (replies.Damaged name) (Ok done) stops told = absurd told
  tells_stop (answers.Page page) listed replies.NoMemory (Err fault) stops told = (fault, refl, told)
  tells_stop (answers.Page page) listed replies.NoMemory (Ok done) stops told = absurd told
  tells_stop (answers.Page page) listed reply result stops told = absurd stops
  tells_stop (answers.Found bytes) listed replies.NoMemory (Err fault) stops told = (fault, refl, told)
  tells_stop (answers.Found bytes) listed replies.NoMemory (Ok done) stops told = absurd told
  tells_stop (answers.Found bytes) listed reply result stops told = absurd stops
  tells_stop answers.Absent listed replies.NoMemory (Err fault) stops told = (fault, refl, told)
  tells_stop answers.Absent listed replies.NoMemory (Ok done) stops told = absurd told
  tells_stop answers.Absent listed reply result stops told = absurd stops
  tells_stop answers.Done listed replies.NoMemory (Err fault) stops told = (fault, refl, told)
  tells_stop answers.Done listed replies.NoMemory (Ok done) stops told = absurd told
  tells_stop answers.Done listed reply result stops told = absurd stops

  module _ (inc : ℕ) (one : inc ≡ 1) (pages : List PageAt) (read : AreRead pages) (act : NodeAct) (reply : Reply) (result : Result (Unit {0}) AuditFault) (told : ReplyTells reply result) where
    comes_by : (fault : AuditFault) → result ≡ Err fault → Stops number fault start door → Comes result
    comes_by fault is stops = subst Comes (sym is) stops

    -- it serves
    serves : (place : ℕ) (commits : List Commit) → EndsSo start door number node inc (Some place) pages [] act reply → IsTrue (is_scan_run (map scan_page pages)) → commits ≡ recorded (listed_on pages) → act ≡ acts.Boot inc commits → reply ≡ replies.Started number inc → Comes result
    serves place commits ends whole shown act_is reply_is = subst Comes (sym result_is) (record {
      boot = boot;
      number_is = refl;
      begins = refl;
      stands = record { placed = (ends.placed place refl).1; read = read; whole = whole };
      node_is = same_view number capacity (suc (length start + length pages)) lines node (first_entry boot ∷ last_entry boot ∷ []) (sym drives.number) drives.capacity_is history_is front_is room_is;
      legal = subst (λ (n : ℕ). LegalNode n capacity node.history) (sym drives.number) (subst (λ (c : ℕ). LegalNode node.number c node.history) drives.capacity_is legal);
      door = door_so;
    })
      where
        boot : FirstBoot
        boot = record { node = number; front = length start; pages = pages }

        result_is : result ≡ Ok tt
        result_is = subst (λ (r : Reply). ReplyTells r result) reply_is told

        door_so : door ≡ start ++ boot_entries boot
        door_so =
            subst (λ (i : ℕ). door ≡ start ++ (up_entries opening number i (Some place) ++ (map (page_entry opening number i) pages ++ []))) one ends.door_is
            ∙ ap (λ (es : List DoorEntry). start ++ es) (sym (entries_of opening number 1 opening [] (length start) (Some (length start)) pages (AtNode number (first_entry boot ∷ []) (last_entry boot) ∷ [])))

        count : length door ≡ suc (length start + length pages)
        count =
            ap (λ (h : List DoorEntry). length h) ends.door_is
            ∙ (let l = length-append start (up_entries opening number inc (Some place) ++ (map (page_entry opening number inc) pages ++ [])) in
            let m = length-append (map (page_entry opening number inc) pages) [] in
            let n = length-map pages (page_entry opening number inc) in
            omega arith)

        history_is : node.history ≡ first_entry boot ∷ last_entry boot ∷ []
        history_is =
            ends.history
            ∙ ap (λ (i : ℕ). booting_entry i (length start) ∷ record { front = length door; by = opening; act = act; answer = Some reply } ∷ []) one
            ∙ ap (λ (f : ℕ). first_entry boot ∷ record { front = f; by = opening; act = act; answer = Some reply } ∷ []) count
            ∙ ap (λ (a : NodeAct). first_entry boot ∷ record { front = suc (length start + length pages); by = opening; act = a; answer = Some reply } ∷ []) (act_is ∙ ap (λ (i : ℕ). acts.Boot i commits) one ∙ ap (λ (cs : List Commit). acts.Boot 1 cs) shown)
            ∙ ap (λ (r : Reply). first_entry boot ∷ record { front = suc (length start + length pages); by = opening; act = acts.Boot 1 (recorded (listed_on pages)); answer = Some r } ∷ []) (reply_is ∙ ap (λ (i : ℕ). replies.Started number i) one)

        front_is : node.front ≡ suc (length start + length pages)
        front_is = drives.front_is ∙ ap front history_is

        room_is : node.room ≡ lines
        room_is = drives.room ∙ ap (room_behind lines) history_is ∙ one_less lines
          where
            one_less : (n : ℕ) → suc n - 1 ≡ n
            one_less n = omega arith

    -- it lacks memory at its end
    lacks : (place : ℕ) (chain : ((after : List ℕ) × (goes_on (Some []) (map scan_page pages) ≡ Some after)) ⊎ IsTrue (is_scan_run (map scan_page pages))) → EndsSo start door number node inc (Some place) pages [] act reply → reply ≡ replies.NoMemory → Comes result
    lacks place chain ends reply_is = by_result result (subst (λ (r : Reply). ReplyTells r result) reply_is told)
      where
        by_result : (r : Result (Unit {0}) AuditFault) → ReplyTells replies.NoMemory r → Comes r
        by_result (Err fault) is = stops_up place inc pages [] fault one (ends.placed place refl).1 read ends.door_is (inl (refl, is, chain))
        by_result (Ok done) is = absurd is

    -- it is stopped, with what stopped it
    refused : (place : ℕ) (more : List Turn) (look : List DoorEntry) (after : List ℕ) → EndsSo start door number node inc (Some place) pages more act reply → goes_on (Some []) (map scan_page pages) ≡ Some after → StopsAt number inc look after (length (listed_on pages)) more reply → Comes result
    refused place more look after ends goes (inl (none, shut)) =
        comes_by faults.Memory (tells_memory inc look reply result shut told) (stops_up place inc pages more faults.Memory one (ends.placed place refl).1 read ends.door_is (inl (none, refl, inl (after, goes))))
    refused place more look after ends goes (inr (at, answer, call, stops)) =
        let its = tells_stop answer (length (listed_on pages)) reply result stops told in
        comes_by its.0 its.1 (stops_up place inc pages more its.0 one (ends.placed place refl).1 read ends.door_is
        (inr (at, after, answer, reply, goes, call ∙ ap (λ (i : ℕ). AtDoor at (page_act number i after answer) ∷ []) one, stops, its.2)))

    -- it was stopped before it came up
    refused_before : (ps : List PageAt) (more : List Turn) (look : List DoorEntry) (after : List ℕ) (listed : ℕ) → door ≡ start ++ (map (page_entry opening number inc) ps ++ flat_map (door_entry_in opening) more) → StopsAt number inc look after listed more reply → Comes result
    refused_before (page ∷ ps) more look after listed is stops = absurd (nobody_read inc page ps (flat_map (door_entry_in opening) more) is)
    refused_before [] more look after listed is (inl (none, shut)) =
        comes_by faults.Memory (tells_memory inc look reply result shut told) (inl (is ∙ ap (λ (ts : List Turn). start ++ flat_map (door_entry_in opening) ts) none ∙ append-nil start, refl))
    refused_before [] more look after listed is (inr (at, answer, call, stops)) = absurd (nobody_called inc at after answer more call is)

  -- ---- by how it ended

  module _ (later : EndedLater opening number drives.trail) (up : Option ℕ) (pages : List PageAt) (more : List Turn) (at_door : AreDoor more) (begun : HasBegun opening number later.inc up pages more later.since) where
    abbrev last : NodeEntry
    last = record { front = later.front; by = opening; act = later.act; answer = Some later.reply }

    abbrev first_turns : List Turn
    first_turns = begun_turns opening number later.inc begun.before begun.front up pages ++ more

    turns_are : drives.trail.turns ≡ first_turns ++ turn_at opening number later.before later.front later.act (Some later.reply) ∷ []
    turns_are = later.turns ∙ ap (λ (ts : List Turn). ts ++ turn_at opening number later.before later.front later.act (Some later.reply) ∷ []) begun.turns

    all_placed : Placed node.number (length start) [] (first_turns ++ turn_at opening number later.before later.front later.act (Some later.reply) ∷ [])
    all_placed = subst (Placed node.number (length start) []) turns_are drives.placed

    first_placed : (number ≡ node.number) × (begun.before ≡ []) × (begun.front ≡ length start) × Placed node.number (length start) (booting_entry later.inc begun.front ∷ []) (((up_turns number later.inc up ++ map (page_turn number later.inc) pages) ++ more) ++ turn_at opening number later.before later.front later.act (Some later.reply) ∷ [])
    first_placed = all_placed

    last_placed : (number ≡ node.number) × (later.before ≡ [] ++ flat_map node_entry_in first_turns) × (later.front ≡ length start + length (flat_map (door_entry_in opening) first_turns)) × Unit {0}
    last_placed = placed_behind node.number (length start) [] first_turns (turn_at opening number later.before later.front later.act (Some later.reply) ∷ []) all_placed

    door_first : door ≡ start ++ flat_map (door_entry_in opening) first_turns
    door_first =
        drives.door_is
        ∙ ap (λ (ts : List Turn). start ++ flat_map (door_entry_in opening) ts) turns_are
        ∙ ap (λ (es : List DoorEntry). start ++ es) (flat_map-append (door_entry_in opening) first_turns (turn_at opening number later.before later.front later.act (Some later.reply) ∷ []) ∙ append-nil (flat_map (door_entry_in opening) first_turns))

    reaches : length start + length (flat_map (door_entry_in opening) first_turns) ≡ length door
    reaches = sym (ap (λ (h : List DoorEntry). length h) door_first ∙ length-append start (flat_map (door_entry_in opening) first_turns))

    door_is : door ≡ start ++ (up_entries opening number later.inc up ++ (map (page_entry opening number later.inc) pages ++ flat_map (door_entry_in opening) more))
    door_is = door_first ∙ ap (λ (es : List DoorEntry). start ++ es) (entries_of opening number later.inc opening begun.before begun.front up pages more)

    history_is : node.history ≡ booting_entry later.inc begun.front ∷ last ∷ []
    history_is =
        drives.history_is
        ∙ ap (flat_map node_entry_in) turns_are
        ∙ flat_map-append node_entry_in first_turns (turn_at opening number later.before later.front later.act (Some later.reply) ∷ [])
        ∙ ap (λ (es : List NodeEntry). es ++ last ∷ []) (begun_at_node opening number later.inc begun.before begun.front up pages more at_door)

    runs : (inc front : ℕ) → has_left inc (node_state (booting_entry inc front ∷ [])) ≡ false
    runs inc front = ap (λ (t : Bool). not (false || t)) (eq-eqb inc inc refl)

    placed_so : (o : Option ℕ) → up ≡ o → (place : ℕ) → o ≡ Some place → (place ≡ length start) × IsTrue (are_placed (suc (length start)) pages)
    placed_so None is place e = absurd (cc)
    placed_so (Some p) is place e = (sym (one_some p place e) ∙ parts.0, pages_placed node.number number later.inc (suc (length start)) (booting_entry later.inc begun.front ∷ []) pages (more ++ turn_at opening number later.before later.front later.act (Some later.reply) ∷ []) parts.1)
      where
        one_some : (a b : ℕ) → Some a ≡ Some b → a ≡ b
        one_some a b e = cc

        its : Placed node.number (length start) (booting_entry later.inc begun.front ∷ []) (AtDoor p (Up number later.inc) ∷ ((map (page_turn number later.inc) pages ++ more) ++ turn_at opening number later.before later.front later.act (Some later.reply) ∷ []))
        its = subst (λ (x : Option ℕ). Placed node.number (length start) (booting_entry later.inc begun.front ∷ []) (((up_turns number later.inc x ++ map (page_turn number later.inc) pages) ++ more) ++ turn_at opening number later.before later.front later.act (Some later.reply) ∷ [])) is first_placed.3

        parts : (p ≡ length start) × Placed node.number (suc (length start)) (booting_entry later.inc begun.front ∷ []) (map (page_turn number later.inc) pages ++ (more ++ turn_at opening number later.before later.front later.act (Some later.reply) ∷ []))
        parts = (its.0, subst (λ (ts : List Turn). Placed node.number (suc (length start)) (booting_entry later.inc begun.front ∷ []) ts) (append_assoc (map (page_turn number later.inc) pages) more (turn_at opening number later.before later.front later.act (Some later.reply) ∷ [])) its.1)

    -- what stands of one that began a boot and is over
    ends_so : EndsSo start door number node later.inc up pages more later.act later.reply
    ends_so = record {
      history =
          history_is
          ∙ ap (λ (f : ℕ). booting_entry later.inc f ∷ last ∷ []) first_placed.2
          ∙ ap (λ (f : ℕ). booting_entry later.inc (length start) ∷ record { front = f; by = opening; act = later.act; answer = Some later.reply } ∷ []) (last_placed.2 ∙ reaches);
      placed = placed_so up refl;
      door_is = door_is;
    }

    -- its node hadn't left the incarnation
    not_left : IsTrue (has_left later.inc (node_state later.before)) → ⊥
    not_left gone =
        false≢true
        (sym (ap (λ (h : List NodeEntry). has_left later.inc (node_state h)) (last_placed.1 ∙ begun_at_node opening number later.inc begun.before begun.front up pages more at_door) ∙ runs later.inc begun.front) ∙ gone)

    -- its first incarnation
    one_first : later.inc ≡ 1
    one_first =
        one_inc node.number node.capacity later.inc begun.front
        (and_parts (may_follow_at node.number node.capacity [] (booting_entry later.inc begun.front)) _ (subst (λ (h : List NodeEntry). LegalNode node.number node.capacity h) history_is legal)).0

    its_answer : (result : Result (Unit {0}) AuditFault) → LastTells (slice_get node.history (length node.history - 1)) result → ReplyTells later.reply result
    its_answer result told = told_twice (booting_entry later.inc begun.front) last result history_is told

  -- one whose scan was whole
  none_read : (inc : ℕ) (pages : List PageAt) (rest : List DoorEntry) → IsTrue (is_scan_run (map scan_page pages)) → door ≡ start ++ (map (page_entry opening number inc) pages ++ rest) → ⊥
  none_read inc [] rest whole is = false≢true whole
  none_read inc (page ∷ pages) rest whole is = nobody_read inc page pages rest is

  read_all : (later : EndedLater opening number drives.trail) (commits : List Commit) (has : HasRead opening number later.inc commits later.since) → Closes number later.inc (Shown commits) later.before later.act later.reply → (result : Result (Unit {0}) AuditFault) → LastTells (slice_get node.history (length node.history - 1)) result → Comes result
  read_all later commits has closes result told = by_up has.up refl
    where
      ends : EndsSo start door number node later.inc has.up has.pages [] later.act later.reply
      ends = ends_so later has.up has.pages [] refl has.begun

      by_close : (place : ℕ) → EndsSo start door number node later.inc (Some place) has.pages [] later.act later.reply → Closes number later.inc (Shown commits) later.before later.act later.reply → Comes result
      by_close place it (inl (inl (act_is, reply_is))) =
          serves later.inc (one_first later has.up has.pages [] refl has.begun) has.pages has.read later.act later.reply result (its_answer later has.up has.pages [] refl has.begun result told) place commits it has.whole has.shown act_is reply_is
      by_close place it (inl (inr (act_is, reply_is))) =
          lacks later.inc (one_first later has.up has.pages [] refl has.begun) has.pages has.read later.act later.reply result (its_answer later has.up has.pages [] refl has.begun result told) place (inr has.whole) it reply_is
      by_close place it (inr (gone, act_is, reply_is)) = absurd (not_left later has.up has.pages [] refl has.begun gone)

      by_up : (o : Option ℕ) → has.up ≡ o → Comes result
      by_up None is =
          absurd (none_read later.inc has.pages [] has.whole
          (subst (λ (x : Option ℕ). door ≡ start ++ (up_entries opening number later.inc x ++ (map (page_entry opening number later.inc) has.pages ++ []))) is ends.door_is))
      by_up (Some place) is = by_close place (subst (λ (x : Option ℕ). EndsSo start door number node later.inc x has.pages [] later.act later.reply) is ends) closes

  -- one that was stopped
  stopped : (later : EndedLater opening number drives.trail) (why : Reply) (has : HasStoppedAt opening number later.inc why later.since) → Closes number later.inc (Refused why) later.before later.act later.reply → (result : Result (Unit {0}) AuditFault) → LastTells (slice_get node.history (length node.history - 1)) result → Comes result
  stopped later why has (inr (gone, act_is, reply_is)) result told =
      absurd (not_left later has.up has.pages has.more (stop_door number later.inc later.since.look has.after (length (listed_on has.pages)) has.more why has.stops) has.begun gone)
  stopped later why has (inl (act_is, reply_is)) result told = by_up has.up refl
    where
      at_door : AreDoor has.more
      at_door = stop_door number later.inc later.since.look has.after (length (listed_on has.pages)) has.more why has.stops

      ends : EndsSo start door number node later.inc has.up has.pages has.more later.act later.reply
      ends = ends_so later has.up has.pages has.more at_door has.begun

      stops : StopsAt number later.inc later.since.look has.after (length (listed_on has.pages)) has.more later.reply
      stops = subst (λ (r : Reply). StopsAt number later.inc later.since.look has.after (length (listed_on has.pages)) has.more r) (sym reply_is) has.stops

      one : later.inc ≡ 1
      one = one_first later has.up has.pages has.more at_door has.begun

      answer : ReplyTells later.reply result
      answer = its_answer later has.up has.pages has.more at_door has.begun result told

      by_up : (o : Option ℕ) → has.up ≡ o → Comes result
      by_up None is =
          refused_before later.inc one has.pages has.read later.act later.reply result answer has.pages has.more later.since.look has.after (length (listed_on has.pages))
          (subst (λ (x : Option ℕ). door ≡ start ++ (up_entries opening number later.inc x ++ (map (page_entry opening number later.inc) has.pages ++ flat_map (door_entry_in opening) has.more))) is ends.door_is) stops
      by_up (Some place) is =
          refused later.inc one has.pages has.read later.act later.reply result answer place has.more later.since.look has.after
          (subst (λ (x : Option ℕ). EndsSo start door number node later.inc x has.pages has.more later.act later.reply) is ends) has.goes stops

  by_end : (later : EndedLater opening number drives.trail) (end : BootEnd) → IsToEnd opening number later.inc end later.since → Closes number later.inc end later.before later.act later.reply → (result : Result (Unit {0}) AuditFault) → LastTells (slice_get node.history (length node.history - 1)) result → Comes result
  by_end later (Shown commits) has closes result told = read_all later commits has closes result told
  by_end later (Refused why) has closes result told = stopped later why has closes result told

  by_made : EndedAtOnce opening number drives.trail ⊎ EndedLater opening number drives.trail → (result : Result (Unit {0}) AuditFault) → LastTells (slice_get node.history (length node.history - 1)) result → Comes result
  by_made (inl once) result told = at_once once result told
  by_made (inr later) result told = by_end later later.end later.is_to later.closes result told

  -- what it comes to
  pub comes : (result : Result (Unit {0}) AuditFault) → LastTells (slice_get node.history (length node.history - 1)) result → Comes result
  comes result told = by_made drives.made result told

-- the same, by what the node was when it was fresh
pub comes_of_fresh : (start : List DoorEntry) (capacity lines number its_capacity its_room : ℕ) (node : NodeView) (door : List DoorEntry) → its_capacity ≡ capacity → its_room ≡ lines + 1 → Drives start its_capacity (its_room - 1) (record { by = opening; node = number; stage = Ended }) node door → LegalNode node.number node.capacity node.history → Legal door → (result : Result (Unit {0}) AuditFault) → LastTells (slice_get node.history (length node.history - 1)) result → MatchResult result (λ done. HasServed capacity lines number node start door) (λ fault. Stops number fault start door)
comes_of_fresh start capacity lines number its_capacity its_room node door same_capacity one_more drives legal legal_door result told =
    comes start capacity lines number node door
    (subst (λ (n : ℕ). Drives start capacity n (record { by = opening; node = number; stage = Ended }) node door) (one_less its_room lines one_more)
    (subst (λ (n : ℕ). Drives start n (its_room - 1) (record { by = opening; node = number; stage = Ended }) node door) same_capacity drives))
    legal legal_door result told
  where
    one_less : (n m : ℕ) → n ≡ m + 1 → n - 1 ≡ m
    one_less n m is = omega arith
