-- The turns of a collection's work show its line nothing: no pair, and no page.
use Rattle.std.proofs.Common.{◌≡◌, ◌++◌, ℕ, Bool, true, false, eqb, ◌&&◌, List, [], ◌∷◌, refl, sym, ap, ◌∙◌, append_assoc}
use Rattle.std.specs.Prelude.{None, if◌then◌else◌}
use Rattle.std.specs.List.{flat_map, list_all}
use Rattle.std.specs.Str.{bytes_eq}
use Rattle.std.proofs.lemmas.List.Concat.{flat_map-append}
use Rattle.aft_id.specs.declared.txn_id.TxnId.{TxnId}
use Rattle.aft_id.specs.TxnId.{same_id}
use Rattle.aft_keeper.specs.declared.keeper.KeeperAnswer.{KeeperAnswer}
use Rattle.aft_keeper.specs.declared.keeper.KeeperCall.TheVariants as calls
use Rattle.aft_keeper.specs.declared.keeper.Pair.{Pair}
use Rattle.aft_records.specs.declared.stored.Commit.{Commit}
use Rattle.aft_records.specs.declared.stored.Marker.{Marker}
use Rattle.aft_records.specs.declared.stored.Marker.TheVariants.{Done, Full}
use Rattle.aft_model.specs.declared.caller.By.{By}
use Rattle.aft_model.specs.declared.door.DoorAct.TheVariants.{Call, GiveUp}
use Rattle.aft_model.specs.declared.door.DoorEntry.{DoorEntry}
use Rattle.aft_model.specs.declared.node.NodeEntry.{NodeEntry}
use Rattle.aft_model.specs.Membership.{Incarnation, incarnation, same_incarnation, the_office}
use Rattle.aft_model.specs.NodeState.{service}
use Rattle.aft_model.specs.Readings.{record_name, version_name}
use Rattle.aft_model.specs.Stages.{is_acknowledged}
use Rattle.aft_lines.specs.CausesScans.{damage_in, listed_in}
use Rattle.aft_lines.specs.CollectCourse.{Collecting, IsCut, IsFaulted, IsHeld, IsRetired, Work, WorkEnd, Worked, at_door_too, is_cut, is_give_up, is_marker, marks, marks_commit, removes, removes_all, removes_versions, served_by, with_ended, worked, works_on, works_through}
use Rattle.aft_lines.specs.CourseWords.{Ends}
use Rattle.aft_lines.specs.LineView.{door_entry_in}
use Rattle.aft_lines.specs.Turns.{AtDoor, AtNode, Turn}
use Rattle.law_answers.proofs.Scans.{entries}

-- turns that show nothing, before these others
pub record Does (by : By) (line behind : List Turn) : Type 0 where
  pub made : List Turn
  pub splits : line ≡ made ++ behind
  pub damage : flat_map (damage_in None) (entries by made) ≡ []
  pub listed : (prefix : List ℕ) → flat_map (λ (entry : DoorEntry). listed_in prefix entry.act) (entries by made) ≡ []

module _ (by : By) where
  does_nothing : (line : List Turn) → Does by line line
  does_nothing line = record { made = []; splits = refl; damage = refl; listed = λ prefix. refl }

  put_first : (place node inc : ℕ) (name bytes : List ℕ) (answer : KeeperAnswer) (line behind : List Turn) → Does by line behind → Does by (AtDoor place (Call node inc (calls.Put name bytes) answer) ∷ line) behind
  put_first place node inc name bytes answer line behind rest = record { made = AtDoor place (Call node inc (calls.Put name bytes) answer) ∷ rest.made; splits = ap (λ (l : List Turn). AtDoor place (Call node inc (calls.Put name bytes) answer) ∷ l) rest.splits; damage = rest.damage; listed = rest.listed }

  delete_first : (place node inc : ℕ) (name : List ℕ) (answer : KeeperAnswer) (line behind : List Turn) → Does by line behind → Does by (AtDoor place (Call node inc (calls.Delete name) answer) ∷ line) behind
  delete_first place node inc name answer line behind rest = record { made = AtDoor place (Call node inc (calls.Delete name) answer) ∷ rest.made; splits = ap (λ (l : List Turn). AtDoor place (Call node inc (calls.Delete name) answer) ∷ l) rest.splits; damage = rest.damage; listed = rest.listed }

  give_up_first : (place node inc : ℕ) (id : TxnId) (line behind : List Turn) → Does by line behind → Does by (AtDoor place (GiveUp node inc id) ∷ line) behind
  give_up_first place node inc id line behind rest = record { made = AtDoor place (GiveUp node inc id) ∷ rest.made; splits = ap (λ (l : List Turn). AtDoor place (GiveUp node inc id) ∷ l) rest.splits; damage = rest.damage; listed = rest.listed }

  at_node_first : (at : ℕ) (before : List NodeEntry) (entry : NodeEntry) (line behind : List Turn) → Does by line behind → Does by (AtNode at before entry ∷ line) behind
  at_node_first at before entry line behind rest = record { made = AtNode at before entry ∷ rest.made; splits = ap (λ (l : List Turn). AtNode at before entry ∷ l) rest.splits; damage = rest.damage; listed = rest.listed }

  -- one after the other
  does_both : (line middle behind : List Turn) → Does by line middle → Does by middle behind → Does by line behind
  does_both line middle behind a b = record {
    made = a.made ++ b.made;
    splits = a.splits ∙ ap (λ (l : List Turn). a.made ++ l) b.splits ∙ sym (append_assoc a.made b.made behind);
    damage = ap (λ (es : List DoorEntry). flat_map (damage_in None) es) joined ∙ flat_map-append (damage_in None) (entries by a.made) (entries by b.made) ∙ ap (λ (ns : List (List ℕ)). ns ++ flat_map (damage_in None) (entries by b.made)) a.damage ∙ b.damage;
    listed = λ prefix. ap (λ (es : List DoorEntry). flat_map (λ (entry : DoorEntry). listed_in prefix entry.act) es) joined ∙ flat_map-append (λ (entry : DoorEntry). listed_in prefix entry.act) (entries by a.made) (entries by b.made) ∙ ap (λ (ps : List Pair). ps ++ flat_map (λ (entry : DoorEntry). listed_in prefix entry.act) (entries by b.made)) (a.listed prefix) ∙ b.listed prefix;
  }
    where
      joined : entries by (a.made ++ b.made) ≡ entries by a.made ++ entries by b.made
      joined = flat_map-append (door_entry_in by) a.made b.made

  -- ---- the calls

  abbrev Goes : (List Turn → Worked) → Type 0
  Goes go_on = (line : List Turn) → Does by line (go_on line).behind

  put_goes : (place node inc : ℕ) (name bytes : List ℕ) (answer : KeeperAnswer) (refused : WorkEnd) (go_on : List Turn → Worked) (line : List Turn) → Does by line (go_on line).behind → (own acknowledged : Bool)
      → Does by (AtDoor place (Call node inc (calls.Put name bytes) answer) ∷ line) (if own then (if acknowledged then go_on line else worked IsFaulted line) else worked refused (AtDoor place (Call node inc (calls.Put name bytes) answer) ∷ line)).behind
  put_goes place node inc name bytes answer refused go_on line goes true true = put_first place node inc name bytes answer line (go_on line).behind goes
  put_goes place node inc name bytes answer refused go_on line goes true false = put_first place node inc name bytes answer line line (does_nothing line)
  put_goes place node inc name bytes answer refused go_on line goes false acknowledged = does_nothing (AtDoor place (Call node inc (calls.Put name bytes) answer) ∷ line)

  delete_goes : (place node inc : ℕ) (name : List ℕ) (answer : KeeperAnswer) (go_on : List Turn → Worked) (line : List Turn) → Does by line (go_on line).behind → (own acknowledged : Bool)
      → Does by (AtDoor place (Call node inc (calls.Delete name) answer) ∷ line) (if own then (if acknowledged then go_on line else worked IsFaulted line) else worked IsCut (AtDoor place (Call node inc (calls.Delete name) answer) ∷ line)).behind
  delete_goes place node inc name answer go_on line goes true true = delete_first place node inc name answer line (go_on line).behind goes
  delete_goes place node inc name answer go_on line goes true false = delete_first place node inc name answer line line (does_nothing line)
  delete_goes place node inc name answer go_on line goes false acknowledged = does_nothing (AtDoor place (Call node inc (calls.Delete name) answer) ∷ line)

  marks_goes : (marker : Marker) (refused : WorkEnd) (go_on : List Turn → Worked) → Goes go_on → Goes (marks marker refused go_on)
  marks_goes marker refused go_on goes (AtDoor place (Call node inc (calls.Put name bytes) answer) ∷ line) =
      put_goes place node inc name bytes answer refused go_on line (goes line) (same_incarnation the_office (incarnation node inc) && is_marker marker (record { name = name; bytes = bytes })) (is_acknowledged answer)
  marks_goes marker refused go_on goes line = does_nothing line

  removes_goes : (name : List ℕ) (go_on : List Turn → Worked) → Goes go_on → Goes (removes name go_on)
  removes_goes name go_on goes (AtDoor place (Call node inc (calls.Delete deleted) answer) ∷ line) =
      delete_goes place node inc deleted answer go_on line (goes line) (same_incarnation the_office (incarnation node inc) && bytes_eq name deleted) (is_acknowledged answer)
  removes_goes name go_on goes line = does_nothing line

  versions_go : (id : TxnId) (keys : List (List ℕ)) → Goes (removes_versions id keys)
  versions_go id [] line = marks_goes (Done id) IsCut (worked IsRetired) (λ l. does_nothing l) line
  versions_go id (key ∷ keys) line = removes_goes (version_name key id) (removes_versions id keys) (versions_go id keys) line

  all_goes : (c : Commit) → Goes (removes_all c)
  all_goes c line = removes_goes (record_name c.id.uuid) (removes_versions c.id c.keys) (versions_go c.id c.keys) line

  -- ---- the give-ups

  give_up_goes : (place node inc : ℕ) (given : TxnId) (go_on : List Turn → Worked) (line : List Turn) → Does by line (go_on line).behind → (own : Bool) → Does by (AtDoor place (GiveUp node inc given) ∷ line) (if own then go_on line else worked IsCut (AtDoor place (GiveUp node inc given) ∷ line)).behind
  give_up_goes place node inc given go_on line goes true = give_up_first place node inc given line (go_on line).behind goes
  give_up_goes place node inc given go_on line goes false = does_nothing (AtDoor place (GiveUp node inc given) ∷ line)

  silent_goes : (go_on : List Turn → Worked) (line : List Turn) → Does by line (go_on line).behind → (out : Bool) → Does by line (if out then go_on line else worked IsCut line).behind
  silent_goes go_on line goes true = goes
  silent_goes go_on line goes false = does_nothing line

  door_goes : (ends : Ends) (front : ℕ) (who : Incarnation) (id : TxnId) (go_on : List Turn → Worked) → Goes go_on → Goes (at_door_too ends front who id go_on)
  door_goes ends front who id go_on goes (AtDoor place (GiveUp node inc given) ∷ line) = give_up_goes place node inc given go_on line (goes line) (same_incarnation who (incarnation node inc) && same_id id given)
  door_goes ends front who id go_on goes line = silent_goes go_on line (goes line) (ends.is_shut_out who front)

  node_goes : (at : ℕ) (before : List NodeEntry) (entry : NodeEntry) (line : List Turn) (first otherwise : Worked) → Does by line first.behind → Does by (AtNode at before entry ∷ line) otherwise.behind → (own : Bool) → Does by (AtNode at before entry ∷ line) (if own then first else otherwise).behind
  node_goes at before entry line first otherwise a b true = at_node_first at before entry line first.behind a
  node_goes at before entry line first otherwise a b false = b

  commit_goes : (way : Collecting) (c : Commit) (begun : List Turn) (silent nodes : List ℕ) → Goes (marks_commit way c begun silent nodes)
  commit_goes way c begun silent [] line = silent_goes (marks (Full c) IsHeld (removes_all c)) line (marks_goes (Full c) IsHeld (removes_all c) (all_goes c) line) (list_all (λ node. way.ends.is_kept node c begun line) silent)
  commit_goes way c begun silent (node ∷ nodes) (AtNode at before entry ∷ line) =
      node_goes at before entry line (at_door_too way.ends way.front (served_by node (service before)) c.id (marks_commit way c begun silent nodes) line) (marks_commit way c begun (node ∷ silent) nodes (AtNode at before entry ∷ line))
      (door_goes way.ends way.front (served_by node (service before)) c.id (marks_commit way c begun silent nodes) (commit_goes way c begun silent nodes) line) (commit_goes way c begun (node ∷ silent) nodes (AtNode at before entry ∷ line)) (eqb node at && is_give_up c.id entry.act)
  commit_goes way c begun silent (node ∷ nodes) line = commit_goes way c begun (node ∷ silent) nodes line

  work_goes : (way : Collecting) (nodes : List ℕ) (work : Work) → Goes (works_on way nodes work)
  work_goes way nodes work line = cases work.is_marked
    where
      cases : (marked : Bool) → Does by line (if marked then removes_all work.commit line else marks_commit way work.commit line [] nodes line).behind
      cases true = all_goes work.commit line
      cases false = commit_goes way work.commit line [] nodes line

  -- the whole work
  pub works_go : (way : Collecting) (nodes : List ℕ) (works : List Work) (line : List Turn) → Does by line (works_through way nodes works line).behind
  works_go way nodes [] line = does_nothing line
  works_go way nodes (work ∷ works) line = cases (is_cut (works_on way nodes work line).end) (work_goes way nodes work line) (works_go way nodes works (works_on way nodes work line).behind)
    where
      cases : (cut : Bool) → Does by line (works_on way nodes work line).behind → Does by (works_on way nodes work line).behind (works_through way nodes works (works_on way nodes work line).behind).behind
          → Does by line (with_ended (record { commit = work.commit; end = (works_on way nodes work line).end }) (if cut then record { ended = []; behind = (works_on way nodes work line).behind } else works_through way nodes works (works_on way nodes work line).behind)).behind
      cases true first rest = first
      cases false first rest = does_both line (works_on way nodes work line).behind (works_through way nodes works (works_on way nodes work line).behind).behind first rest
