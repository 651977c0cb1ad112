-- A commit of a collection is at fault only where one of its puts or deletes wasn't acknowledged.
use Rattle.std.proofs.Common.{◌≡◌, ℕ, Bool, true, false, ◌&&◌, not, List, [], ◌∷◌, refl, sym, ap, subst, ◌∙◌, inl, inr, eqb}
use Rattle.std.specs.Prelude.{IsTrue, if◌then◌else◌}
use Rattle.std.specs.Cmp.Lexicographic.{pointwise}
use Rattle.std.specs.List.{list_all}
use Rattle.std.specs.Str.{bytes_eq}
use Rattle.std.proofs.lemmas.Bool.{and_parts, false≢true}
use Rattle.aft_id.specs.declared.txn_id.TxnId.{TxnId}
use Rattle.aft_id.specs.TxnId.{same_id}
use Rattle.aft_keeper.specs.declared.keeper.KeeperAnswer.{KeeperAnswer}
use Rattle.aft_keeper.specs.declared.keeper.KeeperAnswer.TheVariants as answers
use Rattle.aft_keeper.specs.declared.keeper.KeeperCall.{KeeperCall}
use Rattle.aft_keeper.specs.declared.keeper.KeeperCall.TheVariants as calls
use Rattle.aft_records.specs.declared.stored.Commit.{Commit}
use Rattle.aft_records.specs.declared.stored.Marker.{Marker}
use Rattle.aft_records.specs.declared.stored.Marker.TheVariants.{Done, Full}
use Rattle.aft_model.specs.declared.door.DoorAct.TheVariants.{Call, GiveUp}
use Rattle.aft_model.specs.declared.reply.Judged.{Judged}
use Rattle.aft_model.specs.declared.reply.Verdict.{Verdict}
use Rattle.aft_model.specs.declared.reply.Verdict.TheVariants as verdicts
use Rattle.aft_model.specs.LegalDoor.{may_answer}
use Rattle.aft_model.specs.Membership.{Incarnation, incarnation, same_incarnation, the_office}
use Rattle.aft_model.specs.NodeState.{service}
use Rattle.aft_model.specs.Opening.{is_failure}
use Rattle.aft_model.specs.Readings.{record_name, version_name}
use Rattle.aft_model.specs.Stages.{is_acknowledged}
use Rattle.aft_model.proofs.Histories.{In, in_back}
use Rattle.aft_lines.specs.CausesVerdicts.{begins_collection, is_collected_by, is_judged, is_verdict_of, is_worked_through}
use Rattle.aft_lines.specs.CollectCourse.{Collecting, Ended, IsCut, IsFaulted, IsHeld, IsRetired, Work, WorkEnd, Worked, at_door_too, collection, is_cut, is_give_up, is_marker, is_scanned_whole, marks, marks_commit, markers_scan, records_scan, removes, removes_all, removes_versions, served_by, work_list, worked, works_on, works_through}
use Rattle.aft_lines.specs.CourseWords.{Ends}
use Rattle.aft_lines.specs.LineView.{LineView, ends_of}
use Rattle.aft_lines.specs.Lines.{node_numbers}
use Rattle.aft_lines.specs.ScanCourse.{names_limit}
use Rattle.aft_lines.specs.Turns.{AtDoor, AtNode, AtOffice, Turn, end_front}
use Rattle.aft_model.specs.Sound.{markers_prefix, records_prefix}
use Rattle.law_copies.proofs.Runs.{Went, went}

-- a call among some turns that failed, if it was answered as a store may
pub record Unanswered (line : List Turn) : Type 0 where
  pub place : ℕ
  pub node : ℕ
  pub inc : ℕ
  pub call : KeeperCall
  pub answer : KeeperAnswer
  pub among : In (AtDoor place (Call node inc call answer)) line
  pub fails : IsTrue (may_answer call answer) → IsTrue (is_failure (Call node inc call answer))

pub in_more : (line more : List Turn) → ((turn : Turn) → In turn line → In turn more) → Unanswered line → Unanswered more
in_more line more within un = record { place = un.place; node = un.node; inc = un.inc; call = un.call; answer = un.answer; among = within (AtDoor un.place (Call un.node un.inc un.call un.answer)) un.among; fails = un.fails }

put_fails : (node inc : ℕ) (name bytes : List ℕ) (answer : KeeperAnswer) → is_acknowledged answer ≡ false → IsTrue (may_answer (calls.Put name bytes) answer) → IsTrue (is_failure (Call node inc (calls.Put name bytes) answer))
put_fails node inc name bytes answers.Done un may = absurd (false≢true (sym un))
put_fails node inc name bytes answers.Failed un may = refl
put_fails node inc name bytes answer un may = absurd (false≢true may)

pub delete_fails : (node inc : ℕ) (name : List ℕ) (answer : KeeperAnswer) → is_acknowledged answer ≡ false → IsTrue (may_answer (calls.Delete name) answer) → IsTrue (is_failure (Call node inc (calls.Delete name) answer))
delete_fails node inc name answers.Done un may = absurd (false≢true (sym un))
delete_fails node inc name answers.Failed un may = refl
delete_fails node inc name answer un may = absurd (false≢true may)

abbrev is_faulted : WorkEnd → Bool
is_faulted IsFaulted = true
is_faulted end = false

-- where the work on some turns ended at fault, one of them failed; and what is left of them are some of them
record Works (line : List Turn) (done : Worked) : Type 0 where
  faults : IsTrue (is_faulted done.end) → Unanswered line
  left : (turn : Turn) → In turn done.behind → In turn line

abbrev WorkSo : (List Turn → Worked) → Type 0
WorkSo go_on = (line : List Turn) → Works line (go_on line)

stopped : (end : WorkEnd) (line : List Turn) → is_faulted end ≡ false → Works line (worked end line)
stopped end line none = record { faults = λ is. absurd (false≢true (sym none ∙ is)); left = λ turn among. among }

one_more : (first : Turn) (line : List Turn) (done : Worked) → Works line done → Works (first ∷ line) done
one_more first line done works = record { faults = λ is. in_more line (first ∷ line) (λ turn among. inr among) (works.faults is); left = λ turn among. inr (works.left turn among) }

faulted_here : (first : Turn) (line : List Turn) → Unanswered (first ∷ line) → Works (first ∷ line) (worked IsFaulted line)
faulted_here first line un = record { faults = λ is. un; left = λ turn among. inr among }

called : (place node inc : ℕ) (call : KeeperCall) (answer : KeeperAnswer) (line : List Turn) (refused : WorkEnd) (go_on : List Turn → Worked) → is_faulted refused ≡ false → WorkSo go_on
    → (is_acknowledged answer ≡ false → IsTrue (may_answer call answer) → IsTrue (is_failure (Call node inc call answer))) → (own : Bool) → (acknowledged : Bool) → is_acknowledged answer ≡ acknowledged
    → Works (AtDoor place (Call node inc call answer) ∷ line) (if own then (if acknowledged then go_on line else worked IsFaulted line) else worked refused (AtDoor place (Call node inc call answer) ∷ line))
called place node inc call answer line refused go_on none goes fails true true e = one_more (AtDoor place (Call node inc call answer)) line (go_on line) (goes line)
called place node inc call answer line refused go_on none goes fails true false e =
    faulted_here (AtDoor place (Call node inc call answer)) line (record { place = place; node = node; inc = inc; call = call; answer = answer; among = inl refl; fails = fails e })
called place node inc call answer line refused go_on none goes fails false acknowledged e = stopped refused (AtDoor place (Call node inc call answer) ∷ line) none

marks_so : (marker : Marker) (refused : WorkEnd) (go_on : List Turn → Worked) → is_faulted refused ≡ false → WorkSo go_on → WorkSo (marks marker refused go_on)
marks_so marker refused go_on none goes (AtDoor place (Call node inc (calls.Put name bytes) answer) ∷ line) =
    called place node inc (calls.Put name bytes) answer line refused go_on none goes (put_fails node inc name bytes answer) (same_incarnation the_office (incarnation node inc) && is_marker marker (record { name = name; bytes = bytes })) (is_acknowledged answer) refl
marks_so marker refused go_on none goes line = stopped refused line none

removes_so : (name : List ℕ) (go_on : List Turn → Worked) → WorkSo go_on → WorkSo (removes name go_on)
removes_so name go_on goes (AtDoor place (Call node inc (calls.Delete deleted) answer) ∷ line) =
    called place node inc (calls.Delete deleted) answer line IsCut go_on refl goes (delete_fails node inc deleted answer) (same_incarnation the_office (incarnation node inc) && bytes_eq name deleted) (is_acknowledged answer) refl
removes_so name go_on goes line = stopped IsCut line refl

versions_so : (id : TxnId) (keys : List (List ℕ)) → WorkSo (removes_versions id keys)
versions_so id [] line = marks_so (Done id) IsCut (worked IsRetired) refl (λ l. stopped IsRetired l refl) line
versions_so id (key ∷ keys) line = removes_so (version_name key id) (removes_versions id keys) (versions_so id keys) line

all_so : (c : Commit) → WorkSo (removes_all c)
all_so c line = removes_so (record_name c.id.uuid) (removes_versions c.id c.keys) (versions_so c.id c.keys) line

either : (line : List Turn) (first otherwise : Worked) → Works line first → Works line otherwise → (own : Bool) → Works line (if own then first else otherwise)
either line first otherwise a b true = a
either line first otherwise a b false = b

door_so : (ends : Ends) (front : ℕ) (who : Incarnation) (id : TxnId) (go_on : List Turn → Worked) → WorkSo go_on → WorkSo (at_door_too ends front who id go_on)
door_so ends front who id go_on goes (AtDoor place (GiveUp node inc given) ∷ line) =
    either (AtDoor place (GiveUp node inc given) ∷ line) (go_on line) (worked IsCut (AtDoor place (GiveUp node inc given) ∷ line)) (one_more (AtDoor place (GiveUp node inc given)) line (go_on line) (goes line)) (stopped IsCut (AtDoor place (GiveUp node inc given) ∷ line) refl) (same_incarnation who (incarnation node inc) && same_id id given)
door_so ends front who id go_on goes line = either line (go_on line) (worked IsCut line) (goes line) (stopped IsCut line refl) (ends.is_shut_out who front)

commit_so : (way : Collecting) (c : Commit) (begun : List Turn) (silent nodes : List ℕ) → WorkSo (marks_commit way c begun silent nodes)
commit_so way c begun silent [] line = either line (marks (Full c) IsHeld (removes_all c) line) (worked IsCut line) (marks_so (Full c) IsHeld (removes_all c) refl (all_so c) line) (stopped IsCut line refl) (list_all (λ node. way.ends.is_kept node c begun line) silent)
commit_so way c begun silent (node ∷ nodes) (AtNode at before entry ∷ line) =
    either (AtNode at before entry ∷ line) (at_door_too way.ends way.front (served_by node (service before)) c.id (marks_commit way c begun silent nodes) line) (marks_commit way c begun (node ∷ silent) nodes (AtNode at before entry ∷ line))
    (one_more (AtNode at before entry) line (at_door_too way.ends way.front (served_by node (service before)) c.id (marks_commit way c begun silent nodes) line) (door_so way.ends way.front (served_by node (service before)) c.id (marks_commit way c begun silent nodes) (commit_so way c begun silent nodes) line))
    (commit_so way c begun (node ∷ silent) nodes (AtNode at before entry ∷ line)) (eqb node at && is_give_up c.id entry.act)
commit_so way c begun silent (node ∷ nodes) line = commit_so way c begun (node ∷ silent) nodes line

work_so : (way : Collecting) (nodes : List ℕ) (work : Work) → WorkSo (works_on way nodes work)
work_so way nodes work line = either line (removes_all work.commit line) (marks_commit way work.commit line [] nodes line) (all_so work.commit line) (commit_so way work.commit line [] nodes line) work.is_marked

-- ---- a whole collection

through_so : (way : Collecting) (nodes : List ℕ) (works : List Work) (line : List Turn) (one : Ended) → In one (works_through way nodes works line).ended → IsTrue (is_faulted one.end) → Unanswered line
through_so way nodes [] line one among is = absurd among
through_so way nodes (work ∷ works) line one (inl here) is = (work_so way nodes work line).faults (subst (λ (e : Ended). IsTrue (is_faulted e.end)) here is)
through_so way nodes (work ∷ works) line one (inr later) is = cases (λ there. through_so way nodes works (works_on way nodes work line).behind one there is) (is_cut (works_on way nodes work line).end) later
  where
    cases : (In one (works_through way nodes works (works_on way nodes work line).behind).ended → Unanswered (works_on way nodes work line).behind) → (cut : Bool) → In one (if cut then record { ended = []; behind = (works_on way nodes work line).behind } else works_through way nodes works (works_on way nodes work line).behind).ended → Unanswered line
    cases rest true none = absurd none
    cases rest false there = in_more (works_on way nodes work line).behind line (work_so way nodes work line).left (rest there)

module _ (ends : Ends) (nodes : List ℕ) (line : List Turn) where
  abbrev way : Collecting
  way = record { ends = ends; front = end_front line }

  first : Went names_limit the_office records_prefix [] [] line (records_scan line)
  first = went names_limit the_office records_prefix [] [] line

  second : Went names_limit the_office markers_prefix [] [] (records_scan line).behind (markers_scan line)
  second = went names_limit the_office markers_prefix [] [] (records_scan line).behind

  behind_second : (turn : Turn) → In turn (markers_scan line).behind → In turn line
  behind_second turn among =
      subst (In turn) (sym first.splits) (in_back turn first.made (records_scan line).behind (subst (In turn) (sym second.splits) (in_back turn second.made (markers_scan line).behind among)))

  collection_so : (one : Ended) → In one (collection ends nodes line).ended → IsTrue (is_faulted one.end) → Unanswered line
  collection_so one among is = by_records (records_scan line).is_whole among
    where
      by_markers : (m : Bool) → In one (if m then works_through way nodes (work_list (records_scan line).listed (markers_scan line).listed) (markers_scan line).behind else record { ended = []; behind = (markers_scan line).behind }).ended → Unanswered line
      by_markers true there = in_more (markers_scan line).behind line behind_second (through_so way nodes (work_list (records_scan line).listed (markers_scan line).listed) (markers_scan line).behind one there is)
      by_markers false none = absurd none

      by_records : (r : Bool) → In one (if r then (if (markers_scan line).is_whole then works_through way nodes (work_list (records_scan line).listed (markers_scan line).listed) (markers_scan line).behind else record { ended = []; behind = (markers_scan line).behind }) else record { ended = []; behind = (records_scan line).behind }).ended → Unanswered line
      by_records true there = by_markers (markers_scan line).is_whole there
      by_records false none = absurd none

-- who is judged at fault ended so
judged_ended : (view : LineView) (judged : List Judged) (ended : List Ended) → IsTrue (pointwise (is_judged view) judged ended) → (one : Judged) → In one judged → one.verdict ≡ verdicts.Fault → (e : Ended) × In e ended × IsTrue (is_faulted e.end)
judged_ended view [] ended all one among is = absurd among
judged_ended view (j ∷ judged) [] all one among is = absurd (false≢true all)
judged_ended view (j ∷ judged) (e ∷ ended) all one (inl here) is = (e, inl refl, by_end e.end (subst (λ (v : Verdict). IsTrue (is_verdict_of e.end v e.commit view)) (ap (λ (x : Judged). x.verdict) (sym here) ∙ is) (and_parts (same_id j.id e.commit.id) (is_verdict_of e.end j.verdict e.commit view) (and_parts (is_judged view j e) (pointwise (is_judged view) judged ended) all).0).1))
  where
    by_end : (end : WorkEnd) → IsTrue (is_verdict_of end verdicts.Fault e.commit view) → IsTrue (is_faulted end)
    by_end IsFaulted so = refl
    by_end IsRetired so = absurd (false≢true so)
    by_end IsHeld so = absurd (false≢true so)
    by_end IsCut so = absurd (false≢true so)
judged_ended view (j ∷ judged) (e ∷ ended) all one (inr later) is =
    let rest = judged_ended view judged ended (and_parts (is_judged view j e) (pointwise (is_judged view) judged ended) all).1 one later is in (rest.0, inr rest.1, rest.2)

pub faulted : (view : LineView) (line : List Turn) (judged : List Judged) (one : Judged) → In one judged → one.verdict ≡ verdicts.Fault → IsTrue (is_collected_by judged view line) → Unanswered line
faulted view (AtOffice before entry ∷ line) judged one among is collected =
    let work = collection (ends_of view) (node_numbers view.settings) line in
    let parts = and_parts (begins_collection entry.act && is_scanned_whole line) (is_worked_through judged view work) collected in
    let through = and_parts (not _ && pointwise (is_judged view) judged work.ended) _ parts.1 in
    let ended = judged_ended view judged work.ended (and_parts (not _) (pointwise (is_judged view) judged work.ended) through.0).1 one among is in
    in_more line (AtOffice before entry ∷ line) (λ turn there. inr there) (collection_so (ends_of view) (node_numbers view.settings) line ended.0 ended.1 ended.2)
faulted view line judged one among is collected = absurd (false≢true collected)
