-- The entries of a run in which no line runs are turns of its opening, which read and boot.
use Rattle.std.proofs.Common.{Bool, List, [], ap, false, refl, subst, suc, sym, true, ℕ, ◌++◌, ◌∷◌, ◌≡◌}
use Rattle.std.specs.Prelude.{IsFalse, IsTrue, if◌then◌else◌, map}
use Rattle.std.specs.List.{list_all}
use Rattle.std.proofs.lemmas.Bool.{and_from, and_parts, false≢true}
use Rattle.aft_model.specs.declared.caller.By.{By}
use Rattle.aft_model.specs.declared.door.DoorAct.{DoorAct}
use Rattle.aft_model.specs.declared.door.DoorEntry.{DoorEntry}
use Rattle.aft_model.specs.declared.node.NodeAct.{NodeAct}
use Rattle.aft_model.specs.declared.node.NodeEntry.{NodeEntry}
use Rattle.aft_model.specs.DoorKnowledge.{is_open, opens}
use Rattle.aft_model.specs.History.{each_after}
use Rattle.aft_model.specs.LegalDoor.{is_answered, may_come, may_follow}
use Rattle.aft_model.specs.Opening.{may_open, may_read, opening}
use Rattle.aft_model.specs.ScanRun.{same_line}
use Rattle.aft_model.proofs.Histories.{all_append, all_at}
use Rattle.aft_model.proofs.Lists.{all_from, none_snoc}
use Rattle.aft_lines.specs.Asked.{Ran}
use Rattle.aft_lines.specs.OpeningCourse.{boots_so_far, opens_so_far}
use Rattle.aft_lines.specs.RefusedTrace.{only_opens}
use Rattle.aft_lines.specs.Turns.{AtDoor, AtNode, Turn, door_turns, node_turns, nodes_turns, office_turns, turns}
use Rattle.law_runs.proofs.Members.{in_turns}
use Rattle.law_runs.proofs.Reading.{may_read_alone, reads_alone}
use Rattle.law_runs.proofs.Reading as reading
use Rattle.law_steps.specs.OneList.{entries_of}
use Rattle.law_refused.specs.Looks.{is_look, is_of_boot, only_looks}
use Rattle.law_refused.proofs.Scans.{AllRead, boots_read}
use Rattle.aft_model.specs.declared.door.DoorAct.TheVariants as doors
use Rattle.aft_model.specs.declared.node.NodeAct.TheVariants as acts
use Rattle.aft_keeper.specs.declared.keeper.KeeperCall.TheVariants as calls

-- ---- whose entries they are

pub all_map : {A B : Type 0} (test : B → Bool) (f : A → B) (xs : List A) → IsTrue (list_all test (map f xs)) → IsTrue (list_all (λ x. test (f x)) xs)
all_map test f [] all = refl
all_map test f (x ∷ xs) all = (let parts = and_parts (test (f x)) (list_all test (map f xs)) all in and_from _ _ parts.0 (all_map test f xs parts.1))

abbrev pub OwnDoor : List DoorEntry → Type 0
OwnDoor door = IsTrue (list_all (λ (entry : DoorEntry). same_line opening entry.by) door)

abbrev pub OwnNode : List NodeEntry → Type 0
OwnNode history = IsTrue (list_all (λ (entry : NodeEntry). same_line opening entry.by) history)

module _ (ran : Ran) (alone : IsTrue (only_opens ran)) where
  abbrev own : List By → Bool
  own bys = list_all (same_line opening) bys

  abbrev office_on : List (List By)
  office_on = map (λ entry. entry.by) ran.trace.office ∷ map (map (λ entry. entry.by)) ran.trace.nodes ++ map (map (λ entry. entry.by)) ran.mail

  pub door_own : OwnDoor ran.trace.door
  door_own = all_map (same_line opening) (λ (entry : DoorEntry). entry.by) ran.trace.door (and_parts (own (map (λ entry. entry.by) ran.trace.door)) (list_all own office_on) alone).0

  nodes_own : IsTrue (list_all own (map (map (λ (entry : NodeEntry). entry.by)) ran.trace.nodes))
  nodes_own =
      let behind = (and_parts (own (map (λ entry. entry.by) ran.trace.door)) (list_all own office_on) alone).1 in
      let more = (and_parts (own (map (λ entry. entry.by) ran.trace.office)) (list_all own (map (map (λ entry. entry.by)) ran.trace.nodes ++ map (map (λ entry. entry.by)) ran.mail)) behind).1 in
      (all_append own (map (map (λ (entry : NodeEntry). entry.by)) ran.trace.nodes) (map (map (λ entry. entry.by)) ran.mail) more).0

  pub each_node_own : IsTrue (list_all (λ (history : List NodeEntry). own (map (λ (entry : NodeEntry). entry.by) history)) ran.trace.nodes)
  each_node_own = all_map own (map (λ (entry : NodeEntry). entry.by)) ran.trace.nodes nodes_own

-- ---- what they are

pub look_of : (place : ℕ) (act : DoorAct) → IsTrue (reads_alone (AtDoor place act)) → IsTrue (is_look act)
look_of place doors.Opened reads = refl
look_of place (doors.Up node inc) reads = refl
look_of place (doors.Call node inc (calls.Scan prefix after limit) answer) reads = refl
look_of place (doors.Call node inc (calls.Get name) answer) reads = refl
look_of place act reads = absurd (false≢true reads)

door_looks : (place : ℕ) (door : List DoorEntry) → OwnDoor door → AllRead (door_turns opening place door) → IsTrue (only_looks door)
door_looks place [] own read = refl
door_looks place (entry ∷ door) own read =
    let mine = and_parts (same_line opening entry.by) (list_all (λ (e : DoorEntry). same_line opening e.by) door) own in
    let parts = and_parts (reads_alone (AtDoor place entry.act)) (list_all reads_alone (door_turns opening (suc place) door)) (subst (λ (b : Bool). AllRead ((if b then AtDoor place entry.act ∷ [] else []) ++ door_turns opening (suc place) door)) mine.0 read) in
    and_from _ _ (look_of place entry.act parts.0) (door_looks (suc place) door mine.1 parts.1)

boot_of : (node : ℕ) (before : List NodeEntry) (entry : NodeEntry) → IsTrue (reads_alone (AtNode node before entry)) → IsTrue (is_of_boot entry.act)
boot_of node before entry = by_act entry.act
  where
    by_act : (act : NodeAct) → IsTrue (reading.is_of_boot act) → IsTrue (is_of_boot act)
    by_act (acts.Booting inc) is = refl
    by_act (acts.Boot inc commits) is = refl
    by_act act is = absurd (false≢true is)

node_boots : (node : ℕ) (before history : List NodeEntry) → OwnNode history → AllRead (node_turns opening node before history) → IsTrue (list_all (λ (entry : NodeEntry). is_of_boot entry.act) history)
node_boots node before [] own read = refl
node_boots node before (entry ∷ history) own read =
    let mine = and_parts (same_line opening entry.by) (list_all (λ (e : NodeEntry). same_line opening e.by) history) own in
    let parts = and_parts (reads_alone (AtNode node before entry)) (list_all reads_alone (node_turns opening node (before ++ entry ∷ []) history)) (subst (λ (b : Bool). AllRead ((if b then AtNode node before entry ∷ [] else []) ++ node_turns opening node (before ++ entry ∷ []) history)) mine.0 read) in
    and_from _ _ (boot_of node before entry parts.0) (node_boots node (before ++ entry ∷ []) history mine.1 parts.1)

nodes_boot : (node : ℕ) (histories : List (List NodeEntry)) → IsTrue (list_all (λ (history : List NodeEntry). list_all (same_line opening) (map (λ (entry : NodeEntry). entry.by) history)) histories) → AllRead (nodes_turns opening node histories)
    → IsTrue (list_all (list_all (λ (entry : NodeEntry). is_of_boot entry.act)) histories)
nodes_boot node [] own read = refl
nodes_boot node (history ∷ histories) own read =
    let mine = and_parts (list_all (same_line opening) (map (λ (entry : NodeEntry). entry.by) history)) (list_all (λ (h : List NodeEntry). list_all (same_line opening) (map (λ (entry : NodeEntry). entry.by) h)) histories) own in
    let parts = all_append reads_alone (node_turns opening node [] history) (nodes_turns opening (suc node) histories) read in
    and_from _ _ (node_boots node [] history (all_map (same_line opening) (λ (entry : NodeEntry). entry.by) history mine.0) parts.0) (nodes_boot (suc node) histories mine.1 parts.1)

module _ (ran : Ran) (alone : IsTrue (only_opens ran)) (read : AllRead (turns opening ran.trace)) where
  entries_read : AllRead (entries_of opening ran.trace)
  entries_read = all_from reads_alone (entries_of opening ran.trace) (λ x among. all_at reads_alone x (turns opening ran.trace) (in_turns opening ran.trace x among) read)

  more_read : AllRead (nodes_turns opening 1 ran.trace.nodes ++ door_turns opening 0 ran.trace.door)
  more_read = (all_append reads_alone (nodes_turns opening 1 ran.trace.nodes ++ door_turns opening 0 ran.trace.door) (office_turns opening [] ran.trace.office) entries_read).0

  pub entries_look : IsTrue (only_looks ran.trace.door)
  entries_look = door_looks 0 ran.trace.door (door_own ran alone) (all_append reads_alone (nodes_turns opening 1 ran.trace.nodes) (door_turns opening 0 ran.trace.door) more_read).1

  pub entries_boot : IsTrue (list_all (list_all (λ (entry : NodeEntry). is_of_boot entry.act)) ran.trace.nodes)
  entries_boot = nodes_boot 1 ran.trace.nodes (each_node_own ran alone) (all_append reads_alone (nodes_turns opening 1 ran.trace.nodes) (door_turns opening 0 ran.trace.door) more_read).0

-- ---- before the door is open, and behind

-- what a door may read before it is open
pub read_first : (before : List DoorEntry) (place : ℕ) (entry : DoorEntry) → IsFalse (is_open before) → IsTrue (may_follow before entry) → IsTrue (reads_alone (AtDoor place entry.act))
read_first before place entry shut may =
    let rule : IsTrue (may_open before entry) = subst (λ (b : Bool). IsTrue (if b then may_come before entry.act else may_open before entry)) shut (and_parts (is_answered entry.act) (if is_open before then may_come before entry.act else may_open before entry) may).1 in
    may_read_alone before place entry.act (and_parts (same_line opening entry.by) (may_read before entry.act) rule).1

pub own_turns : (place : ℕ) (entry : DoorEntry) (door : List DoorEntry) → IsTrue (same_line opening entry.by) → door_turns opening place (entry ∷ door) ≡ AtDoor place entry.act ∷ door_turns opening (suc place) door
own_turns place entry door own = ap (λ (b : Bool). (if b then AtDoor place entry.act ∷ [] else []) ++ door_turns opening (suc place) door) own

pub so_far_read : (nodes : List ℕ) (place : ℕ) (before door : List DoorEntry) → IsTrue (each_after may_follow before door) → OwnDoor door → IsFalse (is_open before) → IsTrue (opens_so_far nodes (door_turns opening place door)) → AllRead (door_turns opening place door)
so_far_read nodes place before [] legal own shut is = refl
so_far_read nodes place before (entry ∷ door) legal own shut is =
    subst AllRead (sym its) (and_from (reads_alone (AtDoor place entry.act)) (list_all reads_alone rest) (read_first before place entry shut rules.0) (cases (λ shut'. so_far_read nodes (suc place) (before ++ entry ∷ []) door rules.1 mine.1 shut') (opens entry.act) refl (subst (λ (l : List Turn). IsTrue (opens_so_far nodes l)) its is)))
  where
    rest : List Turn
    rest = door_turns opening (suc place) door

    mine : IsTrue (same_line opening entry.by) × OwnDoor door
    mine = and_parts (same_line opening entry.by) (list_all (λ (e : DoorEntry). same_line opening e.by) door) own

    its : door_turns opening place (entry ∷ door) ≡ AtDoor place entry.act ∷ rest
    its = own_turns place entry door mine.0

    rules : IsTrue (may_follow before entry) × IsTrue (each_after may_follow (before ++ entry ∷ []) door)
    rules = and_parts (may_follow before entry) (each_after may_follow (before ++ entry ∷ []) door) legal

    cases : (IsFalse (is_open (before ++ entry ∷ [])) → IsTrue (opens_so_far nodes rest) → AllRead rest) → (b : Bool) → opens entry.act ≡ b → IsTrue (if b then boots_so_far nodes rest else opens_so_far nodes rest) → AllRead rest
    cases more true it so = boots_read nodes rest so
    cases more false other so = more (none_snoc (λ (e : DoorEntry). opens e.act) before entry shut other) so
