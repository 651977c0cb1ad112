-- The course of a collection over two ends that say the same of who was shut out by its end.
use Rattle.std.proofs.Common.{◌≡◌, ℕ, Bool, ◌&&◌, eqb, List, [], ◌∷◌, refl, sym, ap, ◌∙◌}
use Rattle.std.specs.Prelude.{if◌then◌else◌}
use Rattle.std.proofs.Math.Path.{fun_ext}
use Rattle.aft_id.specs.declared.txn_id.TxnId.{TxnId}
use Rattle.aft_id.specs.TxnId.{same_id}
use Rattle.aft_records.specs.declared.stored.Commit.{Commit}
use Rattle.aft_model.specs.declared.door.DoorEntry.{DoorEntry}
use Rattle.aft_model.specs.declared.door.DoorAct.TheVariants as doors
use Rattle.aft_model.specs.Membership.{Incarnation, incarnation, same_incarnation}
use Rattle.aft_model.specs.NodeState.{NodeState, service}
use Rattle.aft_lines.specs.CollectCourse.{Collecting, Collection, IsCut, Work, Worked, at_door_too, collection, is_cut, is_give_up, marks_commit, markers_scan, records_scan, removes_all, served_by, with_ended, work_list, worked, works_on, works_through}
use Rattle.aft_lines.specs.CourseWords.{Ends}
use Rattle.aft_lines.specs.Turns.{AtDoor, AtNode, Turn, end_front}

module _ (left : ℕ → NodeState → Bool) (kept : ℕ → Commit → List Turn → List Turn → Bool) (seen seen' : List DoorEntry) (shut shut' : Incarnation → ℕ → Bool) (front : ℕ) (same : (who : Incarnation) → shut who front ≡ shut' who front) where
  abbrev one : Ends
  one = record { seen = seen; is_shut_out = shut; is_left = left; is_kept = kept }

  abbrev two : Ends
  two = record { seen = seen'; is_shut_out = shut'; is_left = left; is_kept = kept }

  abbrev way : Ends → Collecting
  way ends = record { ends = ends; front = front }

  door_same : (who : Incarnation) (id : TxnId) (go_on go_on' : List Turn → Worked) → go_on ≡ go_on' → (line : List Turn) → at_door_too one front who id go_on line ≡ at_door_too two front who id go_on' line
  door_same who id go_on go_on' e (AtDoor place (doors.GiveUp node inc given) ∷ line) =
      ap (λ (go : List Turn → Worked). if same_incarnation who (incarnation node inc) && same_id id given then go line else worked IsCut (AtDoor place (doors.GiveUp node inc given) ∷ line)) e
  door_same who id go_on go_on' e line =
      ap (λ (go : List Turn → Worked). if shut who front then go line else worked IsCut line) e ∙ ap (λ (b : Bool). if b then go_on' line else worked IsCut line) (same who)

  commit_same : (c : Commit) (begun : List Turn) (nodes silent : List ℕ) → marks_commit (way one) c begun silent nodes ≡ marks_commit (way two) c begun silent nodes
  commit_same c begun [] silent = fun_ext (λ line. refl)
  commit_same c begun (node ∷ nodes) silent = fun_ext (by_line (commit_same c begun nodes silent) (commit_same c begun nodes (node ∷ silent)))
    where
      by_line : marks_commit (way one) c begun silent nodes ≡ marks_commit (way two) c begun silent nodes → marks_commit (way one) c begun (node ∷ silent) nodes ≡ marks_commit (way two) c begun (node ∷ silent) nodes
          → (line : List Turn) → marks_commit (way one) c begun silent (node ∷ nodes) line ≡ marks_commit (way two) c begun silent (node ∷ nodes) line
      by_line gives passes (AtNode at before entry ∷ line) =
          ap (λ (w : Worked). if eqb node at && is_give_up c.id entry.act then w else marks_commit (way one) c begun (node ∷ silent) nodes (AtNode at before entry ∷ line))
          (door_same (served_by node (service before)) c.id (marks_commit (way one) c begun silent nodes) (marks_commit (way two) c begun silent nodes) gives line)
          ∙ ap (λ (go : List Turn → Worked). if eqb node at && is_give_up c.id entry.act then at_door_too two front (served_by node (service before)) c.id (marks_commit (way two) c begun silent nodes) line else go (AtNode at before entry ∷ line)) passes
      by_line gives passes line = ap (λ (go : List Turn → Worked). go line) passes

  work_same : (nodes : List ℕ) (work : Work) (line : List Turn) → works_on (way one) nodes work line ≡ works_on (way two) nodes work line
  work_same nodes work line = ap (λ (go : List Turn → Worked). if work.is_marked then removes_all work.commit line else go line) (commit_same work.commit line nodes [])

  through_same : (nodes : List ℕ) (works : List Work) (line : List Turn) → works_through (way one) nodes works line ≡ works_through (way two) nodes works line
  through_same nodes [] line = refl
  through_same nodes (work ∷ works) line =
      ap (λ (w : Worked). with_ended (record { commit = work.commit; end = w.end }) (if is_cut w.end then record { ended = []; behind = w.behind } else works_through (way one) nodes works w.behind)) (work_same nodes work line)
      ∙ ap (λ (rest : Collection). with_ended (record { commit = work.commit; end = (works_on (way two) nodes work line).end }) (if is_cut (works_on (way two) nodes work line).end then record { ended = []; behind = (works_on (way two) nodes work line).behind } else rest))
      (through_same nodes works (works_on (way two) nodes work line).behind)

  -- a collection by its scans, and how its work list was worked through
  abbrev whole : List Turn → Collection → Collection
  whole line through = if (records_scan line).is_whole then (if (markers_scan line).is_whole then through else record { ended = []; behind = (markers_scan line).behind }) else record { ended = []; behind = (records_scan line).behind }

  pub collection_same : (nodes : List ℕ) (line : List Turn) → end_front line ≡ front → collection one nodes line ≡ collection two nodes line
  collection_same nodes line e =
      ap (λ (f : ℕ). whole line (works_through (record { ends = one; front = f }) nodes (work_list (records_scan line).listed (markers_scan line).listed) (markers_scan line).behind)) e
      ∙ ap (whole line) (through_same nodes (work_list (records_scan line).listed (markers_scan line).listed) (markers_scan line).behind)
      ∙ ap (λ (f : ℕ). whole line (works_through (record { ends = two; front = f }) nodes (work_list (records_scan line).listed (markers_scan line).listed) (markers_scan line).behind)) (sym e)
