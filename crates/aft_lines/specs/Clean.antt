-- Clean histories: what a checker of traces can say of any lists, legal or not.
use Rattle.std.specs.Prelude.{Bool, IsTrue, List, Option, Some, [], false, if◌then◌else◌, length, map, not, suc, true, ℕ, ◌&&◌, ◌++◌, ◌||◌, ◌∷◌}
use Rattle.std.specs.List.{list_all}
use Rattle.aft_model.specs.declared.door.DoorEntry.{DoorEntry}
use Rattle.aft_model.specs.declared.node.NodeAct.{NodeAct}
use Rattle.aft_model.specs.declared.node.NodeEntry.{NodeEntry}
use Rattle.aft_model.specs.declared.reply.Reply.{Reply}
use Rattle.aft_model.specs.declared.trace.Trace.{Trace}
use Rattle.aft_model.specs.Committed.{committed}
use Rattle.aft_model.specs.History.{each_after}
use Rattle.aft_lines.specs.Headline.{all_read_whole, has_one_each, names_blockers_in, reads_own_in}
use Rattle.aft_model.specs.declared.node.NodeAct.TheVariants as acts
use Rattle.aft_model.specs.declared.reply.Reply.TheVariants as replies

-- whether a prefix of the door's history has at most one commit a UUID
abbrev pub is_clean_door : List DoorEntry → Bool
is_clean_door history = has_one_each (committed history)

-- whether a reply tells what was read
abbrev pub tells_read : Option Reply → Bool
tells_read (Some (replies.Own value)) = true
tells_read (Some (replies.Value id value)) = true
tells_read (Some replies.Absent) = true
tells_read (Some (replies.NoValidVersion blocked)) = true
tells_read answer = false

-- whether a reply tells the value of a version
abbrev pub tells_value : Option Reply → Bool
tells_value (Some (replies.Value id value)) = true
tells_value answer = false

-- whether a reply that tells what was read comes of an act that reads it
abbrev pub is_read_by : NodeAct → Option Reply → Bool
is_read_by (acts.Select a key picked) answer = true
is_read_by (acts.Value a key id place kept) answer = not (tells_read answer) || tells_value answer
is_read_by act answer = not (tells_read answer)

-- whether an entry of a node after a history leaves it clean beside the door's whole history
abbrev pub is_clean_entry : List DoorEntry → List NodeEntry → NodeEntry → Bool
is_clean_entry door before entry =
    all_read_whole (committed door) (before ++ entry ∷ [])
    && is_read_by entry.act entry.answer
    && reads_own_in before entry entry.act
    && names_blockers_in before entry.act entry.answer

-- whether all prefixes of a trace are clean
abbrev pub is_clean : Trace → Bool
is_clean trace = each_after (λ before entry. is_clean_door (before ++ entry ∷ [])) [] trace.door && list_all (each_after (is_clean_entry trace.door) []) trace.nodes

-- a trace all of whose prefixes are clean
abbrev pub Clean : Trace → Type 0
Clean trace = IsTrue (is_clean trace)

-- ---- what a checker finds

-- that all is clean; or which entry made a prefix unclean: of the door, or of a node
pub data Finding : Type 0 where
  IsClean : Finding
  DoorUnclean : ℕ → Finding
  NodeUnclean : ℕ → ℕ → Finding

-- the place of the first entry that doesn't pass a test of what stands before it and of itself
abbrev pub first_failing : {A : Type 0} → (List A → A → Bool) → List A → List A → List ℕ
first_failing test before [] = []
first_failing test before (x ∷ xs) = if test before x then first_failing test (before ++ x ∷ []) xs else length before ∷ []

-- what is found in the histories of the nodes from this number on
abbrev pub node_findings : List DoorEntry → ℕ → List (List NodeEntry) → List Finding
node_findings door node [] = []
node_findings door node (history ∷ histories) = map (NodeUnclean node) (first_failing (is_clean_entry door) [] history) ++ node_findings door (suc node) histories

-- all that is found: the door's history first, and then those of the nodes in order
abbrev pub findings : Trace → List Finding
findings trace = map DoorUnclean (first_failing (λ before entry. is_clean_door (before ++ entry ∷ [])) [] trace.door) ++ node_findings trace.door 1 trace.nodes

-- the first finding, or that all is clean
abbrev pub first_finding : List Finding → Finding
first_finding [] = IsClean
first_finding (one ∷ more) = one

abbrev pub finding : Trace → Finding
finding trace = first_finding (findings trace)
