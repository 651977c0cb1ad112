-- Lines that get records and markers alone are shown no damage.
use Rattle.std.proofs.Common.{◌≡◌, ℕ, Bool, true, false, ◌&&◌, not, suc, List, [], ◌∷◌, ◌++◌, refl, sym, ap, subst, ◌∙◌, inl, inr, append_assoc}
use Rattle.std.specs.Prelude.{IsTrue, IsFalse, Option, None, filter, if◌then◌else◌, map}
use Rattle.std.specs.List.{list_all, list_any}
use Rattle.std.specs.Str.{bytes_eq}
use Rattle.std.proofs.lemmas.Bool.{and_parts, false≢true, not-true, or_cases, true≢false}
use Rattle.aft_id.specs.declared.txn_id.TxnId.{TxnId}
use Rattle.aft_keeper.specs.declared.keeper.KeeperAnswer.{KeeperAnswer}
use Rattle.aft_keeper.specs.declared.keeper.KeeperAnswer.TheVariants.{Found, Page}
use Rattle.aft_keeper.specs.declared.keeper.KeeperCall.TheVariants.{Get, Scan}
use Rattle.aft_keeper.specs.declared.keeper.Pair.{Pair}
use Rattle.aft_records.specs.declared.stored.Commit.{Commit}
use Rattle.aft_model.specs.declared.caller.By.{By}
use Rattle.aft_model.specs.declared.door.DoorAct.{DoorAct}
use Rattle.aft_model.specs.declared.door.DoorAct.TheVariants.{Call}
use Rattle.aft_model.specs.declared.door.DoorEntry.{DoorEntry}
use Rattle.aft_model.specs.declared.node.NodeEntry.{NodeEntry}
use Rattle.aft_model.specs.declared.office.OfficeEntry.{OfficeEntry}
use Rattle.aft_model.specs.declared.script.Command.{Command}
use Rattle.aft_model.specs.declared.script.Command.TheVariants as commands
use Rattle.aft_model.specs.declared.script.Line.{Line}
use Rattle.aft_model.specs.declared.reply.Reply.TheVariants as replies
use Rattle.aft_model.specs.DoorKnowledge.{is_open}
use Rattle.aft_model.specs.Evidence.{pairs_in}
use Rattle.aft_model.specs.Honest.{Honest}
use Rattle.aft_model.specs.History.{first_of}
use Rattle.aft_model.specs.LegalDoor.{is_answered, may_come, may_follow}
use Rattle.aft_model.specs.Membership.{incarnation, same_incarnation, the_office}
use Rattle.aft_model.specs.Opening.{all_scanned, all_shown, has_failed, has_got, is_next_read, may_open, may_read, opening, version_names}
use Rattle.aft_model.specs.Readings.{has_reading, version_name}
use Rattle.aft_model.specs.ScanRun.{same_line}
use Rattle.aft_model.specs.Sound.{recorded}
use Rattle.aft_model.proofs.Histories.{In, all_at, any_found, each_after_snoc, in_append, in_flat_map}
use Rattle.aft_model.proofs.Lists.{in_filter, in_map}
use Rattle.aft_model.proofs.Sights.{same_bytes}
use Rattle.aft_lines.specs.Asked.{Asked, Ran}
use Rattle.aft_lines.specs.Causes.{cause}
use Rattle.aft_lines.specs.CausesScans.{damage_for, damage_in, damaged_names, is_damage, is_of_another, is_page_act, is_too_many_records_caused, is_written_name}
use Rattle.aft_lines.specs.FinishedText.{answers_of, line_of}
use Rattle.aft_lines.specs.LegalTrace.{LegalTrace}
use Rattle.aft_lines.specs.LineView.{LineView, door_entries, door_entry_in, fixed_for}
use Rattle.aft_lines.specs.Lines.{lines}
use Rattle.aft_lines.specs.Makes.{is_of_uuid, makes, makes_at_door}
use Rattle.aft_lines.specs.Turns.{AtDoor, AtNode, AtOffice, Turn, door_turns, node_turns, nodes_turns, office_turns, turns}
use Rattle.aft_lines.specs.Views.{view_of}
use Rattle.law_kept.specs.Kept.{Lawful}
use Rattle.law_kept.proofs.Always.{lawful_begins}
use Rattle.law_kept.proofs.Written.{empty_if}
use Rattle.law_runs.specs.Runs.{Goes}
use Rattle.law_runs.proofs.LegalRuns.{legal_goes}
use Rattle.law_runs.proofs.Members.{turns_in}
use Rattle.law_whole.proofs.Lists.{split_at}
use Rattle.law_whole.proofs.Readable.{shown_reads}
use Rattle.law_promise.specs.Looking.{looks_at_ids}
use Rattle.law_promise.proofs.Doors.{lawful_door}

-- ---- turns at the door are the door's entries

only_if : {A : Type 0} (t : Bool) (y x : A) → In x (if t then y ∷ [] else []) → x ≡ y
only_if true y x (inl is) = is
only_if true y x (inr nowhere) = absurd nowhere
only_if false y x nowhere = absurd nowhere

no_door : (place : ℕ) (act : DoorAct) (node : ℕ) (before : List NodeEntry) (entry : NodeEntry) → AtDoor place act ≡ AtNode node before entry → ⊥
no_door place act node before entry e = cc

no_desk : (place : ℕ) (act : DoorAct) (before : List OfficeEntry) (entry : OfficeEntry) → AtDoor place act ≡ AtOffice before entry → ⊥
no_desk place act before entry e = cc

same_act : (place other : ℕ) (act more : DoorAct) → AtDoor place act ≡ AtDoor other more → act ≡ more
same_act place other act more e = cc

module _ (by : By) (place : ℕ) (act : DoorAct) where
  not_at_node : (node : ℕ) (before history : List NodeEntry) → In (AtDoor place act) (node_turns by node before history) → ⊥
  not_at_node node before [] among = among
  not_at_node node before (entry ∷ entries) among = elim (in_append (AtDoor place act) (if same_line by entry.by then AtNode node before entry ∷ [] else []) (node_turns by node (before ++ entry ∷ []) entries) among) [
    | inl here ↦ no_door place act node before entry (only_if (same_line by entry.by) (AtNode node before entry) (AtDoor place act) here)
    | inr later ↦ not_at_node node (before ++ entry ∷ []) entries later
  ]

  not_at_nodes : (node : ℕ) (histories : List (List NodeEntry)) → In (AtDoor place act) (nodes_turns by node histories) → ⊥
  not_at_nodes node [] among = among
  not_at_nodes node (history ∷ histories) among = elim (in_append (AtDoor place act) (node_turns by node [] history) (nodes_turns by (suc node) histories) among) [
    | inl here ↦ not_at_node node [] history here
    | inr later ↦ not_at_nodes (suc node) histories later
  ]

  not_at_office : (before office : List OfficeEntry) → In (AtDoor place act) (office_turns by before office) → ⊥
  not_at_office before [] among = among
  not_at_office before (entry ∷ entries) among = elim (in_append (AtDoor place act) (if same_line by entry.by then AtOffice before entry ∷ [] else []) (office_turns by (before ++ entry ∷ []) entries) among) [
    | inl here ↦ no_desk place act before entry (only_if (same_line by entry.by) (AtOffice before entry) (AtDoor place act) here)
    | inr later ↦ not_at_office (before ++ entry ∷ []) entries later
  ]

  door_in : (from : ℕ) (door : List DoorEntry) → In (AtDoor place act) (door_turns by from door) → (e : DoorEntry) × In e door × (act ≡ e.act)
  door_in from [] among = absurd among
  door_in from (entry ∷ entries) among = elim (in_append (AtDoor place act) (if same_line by entry.by then AtDoor from entry.act ∷ [] else []) (door_turns by (suc from) entries) among) [
    | inl here ↦ (entry, inl refl, same_act place from act entry.act (only_if (same_line by entry.by) (AtDoor from entry.act) (AtDoor place act) here))
    | inr later ↦ (let rest = door_in (suc from) entries later in (rest.0, inr rest.1, rest.2))
  ]

-- ---- what is got by name at the door

-- the names of versions are none of the records or the markers
version_is_other : (key : List ℕ) (id : TxnId) → IsFalse (is_of_uuid (version_name key id))
version_is_other key id = refl

got_open : (before : List DoorEntry) (entry : DoorEntry) (node inc : ℕ) (name : List ℕ) (answer : KeeperAnswer) → IsTrue (may_follow before entry) → entry.act ≡ Call node inc (Get name) answer → IsTrue (is_of_uuid name) → IsTrue (is_open before)
got_open before entry node inc name answer legal is named = by_test (is_open before) refl (and_parts (is_answered entry.act) (if is_open before then may_come before entry.act else may_open before entry) legal).1
  where
    by_test : (t : Bool) → is_open before ≡ t → IsTrue (if t then may_come before entry.act else may_open before entry) → IsTrue (is_open before)
    by_test true opened rule = opened
    by_test false shut rule =
        let read = subst (λ act. IsTrue (may_read before act)) is (and_parts (same_line opening entry.by) (may_read before entry.act) rule).1 in
        let next = (and_parts (same_incarnation the_office (incarnation node inc) && not (has_failed before)) (is_next_read before (Get name)) read).1 in
        let listed = (and_parts (all_scanned before) (list_any (bytes_eq name) (version_names before)) (and_parts (all_scanned before && list_any (bytes_eq name) (version_names before)) (not (has_got before name)) next).0).1 in
        let found = any_found (bytes_eq name) (version_names before) listed in
        let c = in_flat_map (λ (d : Commit). map (λ key. version_name key d.id) d.keys) found.0 (recorded (all_shown before)) found.1 in
        let key = in_map (λ k. version_name k c.0.id) found.0 c.0.keys c.2 in
        absurd (true≢false (sym (subst (λ n. IsTrue (is_of_uuid n)) (same_bytes name found.0 found.2 ∙ key.2) named) ∙ version_is_other key.0 c.0.id))

-- ---- what lines of these commands are shown

-- what an act shows it got by name, or it is a page
data Showing (act : DoorAct) (pair : Pair) : Type 0 where
  Gets : (node inc : ℕ) (name bytes : List ℕ) → act ≡ Call node inc (Get name) (Found bytes) → pair.name ≡ name → Showing act pair
  Lists : (node inc : ℕ) (prefix after : List ℕ) (limit : ℕ) (pairs : List Pair) → act ≡ Call node inc (Scan prefix after limit) (Page pairs) → Showing act pair

showing : (act : DoorAct) (pair : Pair) → In pair (pairs_in act) → Showing act pair
showing (Call node inc (Get name) (Found bytes)) pair (inl is) = Gets node inc name bytes refl (ap (λ (p : Pair). p.name) is)
showing (Call node inc (Get name) (Found bytes)) pair (inr nowhere) = absurd nowhere
showing (Call node inc (Scan prefix after limit) (Page pairs)) pair among = Lists node inc prefix after limit pairs refl
showing act pair nowhere = absurd nowhere

-- what such a line gets is of a record or a marker
gets_ids : (command : Command) (node inc : ℕ) (name : List ℕ) (answer : KeeperAnswer) → IsTrue (looks_at_ids command) → IsTrue (makes_at_door command (Call node inc (Get name) answer)) → IsTrue (is_of_uuid name)
gets_ids (commands.Begin uuid at) node inc name answer looks made = made
gets_ids (commands.Forget uuid at) node inc name answer looks made = made
gets_ids (commands.Orphans key) node inc name answer looks made = (and_parts (same_incarnation the_office (incarnation node inc)) (is_of_uuid name) made).1
gets_ids (commands.Put key value) node inc name answer looks made = absurd (false≢true made)
gets_ids (commands.Crash at) node inc name answer looks made = absurd (false≢true made)
gets_ids (commands.Announce at) node inc name answer looks made = absurd (false≢true made)
gets_ids (commands.Deliver at) node inc name answer looks made = absurd (false≢true made)
gets_ids (commands.Local at) node inc name answer looks made = absurd (false≢true made)
gets_ids command node inc name answer looks made = absurd (false≢true looks)

-- it judges no page, and settles no commit
lists_none : (command : Command) (by : By) (node inc : ℕ) (prefix after : List ℕ) (limit : ℕ) (pairs : List Pair) (fixed : Option Commit) → IsTrue (looks_at_ids command) → IsTrue (makes_at_door command (Call node inc (Scan prefix after limit) (Page pairs)))
    → (x : List ℕ) → In x (damage_for command fixed (record { by = by; act = Call node inc (Scan prefix after limit) (Page pairs) })) → ⊥
lists_none (commands.Orphans key) by node inc prefix after limit pairs fixed looks made x among = among
lists_none (commands.Begin uuid at) by node inc prefix after limit pairs fixed looks made x among = false≢true made
lists_none (commands.Forget uuid at) by node inc prefix after limit pairs fixed looks made x among = false≢true made
lists_none (commands.Put key value) by node inc prefix after limit pairs fixed looks made x among = false≢true made
lists_none (commands.Crash at) by node inc prefix after limit pairs fixed looks made x among = false≢true made
lists_none (commands.Announce at) by node inc prefix after limit pairs fixed looks made x among = false≢true made
lists_none (commands.Deliver at) by node inc prefix after limit pairs fixed looks made x among = false≢true made
lists_none (commands.Local at) by node inc prefix after limit pairs fixed looks made x among = false≢true made
lists_none command by node inc prefix after limit pairs fixed looks made x among = false≢true looks

fixes_none : (command : Command) (view : LineView) → IsTrue (looks_at_ids command) → fixed_for command view ≡ None
fixes_none commands.Commit view looks = absurd (false≢true looks)
fixes_none commands.Abort view looks = absurd (false≢true looks)
fixes_none command view looks = refl

unpaged : (t : Bool) (x : List ℕ) (xs : List (List ℕ)) → In x (if t then [] else xs) → In x xs
unpaged true x xs nowhere = absurd nowhere
unpaged false x xs among = among

-- whatever it judges was shown
judged : (command : Command) (entry : DoorEntry) → IsTrue (looks_at_ids command) → (x : List ℕ) → In x (damage_for command None entry) → In x (damage_in None entry)
judged (commands.Orphans key) entry looks x among = unpaged (is_page_act entry.act) x (damage_in None entry) among
judged commands.Backup entry looks x among = absurd (false≢true looks)
judged command entry looks x among = among

module _ (asked : Asked) (ran : Ran) (goes : Goes asked ran) (honest : Honest ran.trace.door) (line : Line) (listed : In line (lines asked)) (looks : IsTrue (looks_at_ids line.order)) where
  abbrev view : LineView
  view = view_of asked ran line

  abbrev door : List DoorEntry
  door = ran.trace.door

  -- where a pair that the line judges was got, it has a reading
  read_there : (act : DoorAct) → IsTrue (makes_at_door line.order act) → (e : DoorEntry) → In e door → act ≡ e.act → (pair : Pair) → In pair (pairs_in act) → (node inc : ℕ) (name bytes : List ℕ) → act ≡ Call node inc (Get name) (Found bytes) → pair.name ≡ name → IsTrue (has_reading pair)
  read_there act made e among is pair shown node inc name bytes gets named =
      let at = split_at e door among in
      let now : Lawful (at.0 ++ e ∷ []) = lawful_begins (at.0 ++ e ∷ []) at.1 (subst Lawful (at.2 ∙ sym (append_assoc at.0 (e ∷ []) at.1)) (lawful_door asked ran goes honest)) in
      let of : IsTrue (is_of_uuid name) = gets_ids line.order node inc name (Found bytes) looks (subst (λ a. IsTrue (makes_at_door line.order a)) gets made) in
      let opened = got_open at.0 e node inc name (Found bytes) (each_after_snoc may_follow [] at.0 e now.legal).1 (sym is ∙ gets) of in
      shown_reads at.0 e now opened pair (subst (λ a. In pair (pairs_in a)) is shown) (subst (λ n. IsTrue (is_of_uuid n)) (sym named) of)

  no_damage : (x : List ℕ) → In x (damaged_names view) → ⊥
  no_damage x among =
      let entry = in_flat_map (damage_for line.order (fixed_for line.order view)) x (door_entries view) among in
      let turn = in_flat_map (door_entry_in (line_of line)) entry.0 (turns (line_of line) ran.trace) entry.1 in
      by_turn turn.0 turn.1 entry.0 turn.2 (subst (λ f. In x (damage_for line.order f entry.0)) (fixes_none line.order view looks) entry.2)
    where
      by_showing : (place : ℕ) (act : DoorAct) → In (AtDoor place act) (turns (line_of line) ran.trace) → IsTrue (makes_at_door line.order act) → In x (damage_for line.order None (record { by = line_of line; act = act })) → (pair : Pair) → In pair (pairs_in act) → IsTrue (is_damage None pair) → Showing act pair → ⊥
      by_showing place act there made damage pair shown bad (Lists node inc prefix after limit pairs is) =
          lists_none line.order (line_of line) node inc prefix after limit pairs None looks (subst (λ a. IsTrue (makes_at_door line.order a)) is made) x (subst (λ a. In x (damage_for line.order None (record { by = line_of line; act = a }))) is damage)
      by_showing place act there made damage pair shown bad (Gets node inc name bytes is named) =
          let among_all = turns_in (line_of line) ran.trace (AtDoor place act) there in
          let to_door = nodes_turns (line_of line) 1 ran.trace.nodes ++ door_turns (line_of line) 0 door in
          let before = elim (in_append (AtDoor place act) to_door (office_turns (line_of line) [] ran.trace.office) among_all) as (λ _. In (AtDoor place act) to_door) [
            | inl it ↦ it
            | inr office ↦ absurd (not_at_office (line_of line) place act [] ran.trace.office office)
          ] in
          let at_door = elim (in_append (AtDoor place act) (nodes_turns (line_of line) 1 ran.trace.nodes) (door_turns (line_of line) 0 door) before) as (λ _. In (AtDoor place act) (door_turns (line_of line) 0 door)) [
            | inl at_node ↦ absurd (not_at_nodes (line_of line) place act 1 ran.trace.nodes at_node)
            | inr it ↦ it
          ] in
          let e = door_in (line_of line) place act 0 door at_door in
          let reads = read_there act made e.0 e.1 e.2 pair shown node inc name bytes is named in
          elim (or_cases (not (has_reading pair)) (is_of_another None pair) bad) [
            | inl unread ↦ true≢false (sym reads ∙ not-true (has_reading pair) unread)
            | inr other ↦ false≢true other
          ]

      by_turn : (turn : Turn) → In turn (turns (line_of line) ran.trace) → (entry : DoorEntry) → In entry (door_entry_in (line_of line) turn) → In x (damage_for line.order None entry) → ⊥
      by_turn (AtDoor place act) there entry (inl is) damage =
          let made : IsTrue (makes line.order (AtDoor place act)) = all_at (makes line.order) (AtDoor place act) (turns (line_of line) ran.trace) there
          (all_at (λ (l : Line). list_all (makes (view_of asked ran l).command) (view_of asked ran l).turns) line (lines asked) listed goes.makes) in
          let here = subst (λ (d : DoorEntry). In x (damage_for line.order None d)) is damage in
          let pair = in_map (λ (p : Pair). p.name) x (filter (is_damage None) (pairs_in act)) (judged line.order (record { by = line_of line; act = act }) looks x here) in
          let shown = in_filter (is_damage None) pair.0 (pairs_in act) pair.1 in
          by_showing place act there made here pair.0 shown.0 shown.1 (showing act pair.0 shown.0)
      by_turn (AtDoor place act) there entry (inr nowhere) damage = nowhere
      by_turn (AtNode node before e) there entry nowhere damage = nowhere
      by_turn (AtOffice before e) there entry nowhere damage = nowhere

  pub undamaged : damaged_names view ≡ []
  undamaged = empty_if (damaged_names view) no_damage

-- so none of them answers that something is damaged
pub tells_none : (asked : Asked) (ran : Ran) (line : Line) → LegalTrace asked ran → Honest ran.trace.door → In line (lines asked) → IsTrue (looks_at_ids line.order) → (name : List ℕ) → In (replies.Damaged name) (answers_of (line_of line) ran) → ⊥
tells_none asked ran line legal honest listed looks name among =
    let caused = all_at (cause (view_of asked ran line)) (replies.Damaged name) (answers_of (line_of line) ran) among
    (all_at (λ (l : Line). list_all (cause (view_of asked ran l)) (answers_of (line_of l) ran)) line (lines asked) listed legal.causes) in
    let first = (and_parts (is_written_name name (first_of (damaged_names (view_of asked ran line)))) (not (is_too_many_records_caused (view_of asked ran line))) caused).0 in
    false≢true (subst (λ names. IsTrue (is_written_name name (first_of names))) (undamaged asked ran (legal_goes asked ran legal) honest line listed looks) first)
