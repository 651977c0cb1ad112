-- How far a call for a page leads.
use Rattle.std.proofs.Common.{◌≡◌, ◌+◌, ◌-◌, ◌/◌, ◌<◌, ℕ, Bool, true, false, List, [], length, refl, sym, subst, arith}
use Rattle.std.specs.Prelude.{Err, IfOk, IsTrue, None, Ok, Option, Result, Some, if◌then◌else◌}
use Rattle.std.proofs.lemmas.Bool.{and_parts, false≢true}
use Rattle.aft_keeper.specs.declared.keeper.KeeperAnswer.TheVariants.{Page}
use Rattle.aft_keeper.specs.declared.keeper.KeeperCall.TheVariants.{Scan}
use Rattle.aft_keeper.specs.declared.keeper.Pair.{Pair}
use Rattle.aft_records.specs.declared.stored.Commit.{Commit}
use Rattle.aft_model.specs.declared.caller.Caller.{Caller}
use Rattle.aft_model.specs.declared.door.DoorEntry.{DoorEntry}
use Rattle.aft_model.specs.declared.reply.Reply.{Reply}
use Rattle.aft_model.specs.declared.reply.Reply.TheVariants as replies
use Rattle.aft_model.specs.LegalDoor.{Legal, is_answered, is_page, may_follow}
use Rattle.aft_model.specs.NodeRules.{is_boot_refusal}
use Rattle.aft_model.specs.ScanRun.{next_after}
use Rattle.aft_model.specs.Sound.{records_prefix}
use Rattle.aft_model.proofs.Histories.{each_after_snoc}
use Rattle.aft_door.specs.Calls.{DoorView, Shows, told_page}
use Rattle.aft_door.specs.Entries.{called}
use Rattle.aft_door.specs.Refusals.{RefusedBy, if_past, is_past}
use Rattle.aft_door.specs.declared.fault.DoorFault.{DoorFault}
use Rattle.aft_door.specs.declared.fault.DoorFault.TheVariants as faults
use Rattle.aft_node.specs.declared.goes.BootEnd.TheVariants.{Refused, Shown}
use Rattle.aft_boot.specs.Booted.{told_fault_at}
use Rattle.aft_boot.specs.BootView.{Fits, HasListed, behind_page, left_at, refusal_of, up_stage}
use Rattle.aft_boot.specs.Pages.{LeadsTo, Reads, ReadsTo, StopsPage, are_records}
use Rattle.aft_boot.specs.declared.stage.Stage.{Stage}
use Rattle.aft_boot.specs.declared.stage.Stage.TheVariants.{Begins, ComesUp, Ended, Ends, Scans}
use Rattle.aft_boot.proofs.Pairs.{all_differ, full_page, lists_on, page_under}

-- ---- what the door tells

-- a page that the door shows is one that a store may answer
pub is_page_shown : (who : Caller) (after : List ℕ) (old new : DoorView) (told : Result (List Pair) DoorFault) → Shows told_page old who (Scan records_prefix after 64) told new → Legal new.history → IfOk told (λ page. IsTrue (is_page records_prefix after 64 page))
is_page_shown who after old new (Err fault) shows legal = tt
is_page_shown who after old new (Ok page) shows legal =
    (and_parts (is_answered (called who (Scan records_prefix after 64) (Page page)).act) _
    (each_after_snoc may_follow [] old.history (called who (Scan records_prefix after 64) (Page page)) (subst Legal shows.history legal)).1).0

pub are_under : (after : List ℕ) (told : Result (List Pair) DoorFault) → IfOk told (λ page. IsTrue (is_page records_prefix after 64 page)) → IfOk told (λ page. IsTrue (are_records page))
are_under after (Ok page) is = page_under after page is
are_under after (Err fault) is = tt

-- ---- what comes of it

-- a page that was read leads so far
pub read_so : (page slice : List Pair) (inc listed : ℕ) (commits all : List Commit) (next : Option (List ℕ)) (stage : Stage) → slice ≡ page → Reads slice listed commits all × ((from : List ℕ) → next ≡ next_after (record { after = from; listed = slice })) → stage ≡ behind_page inc (listed + length slice) all next → ReadsTo page inc listed commits stage
read_so page slice inc listed commits all (Some after) stage same (reads, goes) is =
    subst (λ (pairs : List Pair). ReadsTo pairs inc listed commits stage) same (subst (ReadsTo slice inc listed commits) (sym is) (refl, reads, refl, λ from. sym (goes from)))
read_so page slice inc listed commits all None stage same (reads, over) is =
    subst (λ (pairs : List Pair). ReadsTo pairs inc listed commits stage) same (subst (ReadsTo slice inc listed commits) (sym is) (refl, reads, λ from. sym (over from)))

pub refusal_fits : (node inc : ℕ) (fault : DoorFault) → IsTrue (is_boot_refusal (Some (refusal_of node inc fault)))
refusal_fits node inc faults.Failed = refl
refusal_fits node inc faults.Memory = refl
refusal_fits node inc (faults.Fenced n i) = refl
refusal_fits node inc (faults.Busy n i) = refl
refusal_fits node inc faults.Forgotten = refl
refusal_fits node inc faults.NotHolder = refl
refusal_fits node inc (faults.Holdout n i) = refl

stop_fits : (listed : ℕ) (page : List Pair) (reply : Reply) → StopsPage listed page reply → IsTrue (is_boot_refusal (Some reply))
stop_fits listed page replies.TooManyRecords stops = refl
stop_fits listed page (replies.Damaged written) stops = refl
stop_fits listed page replies.NoMemory stops = refl
stop_fits listed page reply stops = absurd stops

pub refusal_failed : (node inc : ℕ) (fault : DoorFault) → IsTrue (told_fault_at (Ends inc (Refused (refusal_of node inc fault)))) → fault ≡ faults.Failed
refusal_failed node inc faults.Failed is = refl
refusal_failed node inc faults.Memory is = absurd (false≢true is)
refusal_failed node inc (faults.Fenced n i) is = absurd (false≢true is)
refusal_failed node inc (faults.Busy n i) is = absurd (false≢true is)
refusal_failed node inc faults.Forgotten is = absurd (false≢true is)
refusal_failed node inc faults.NotHolder is = absurd (false≢true is)
refusal_failed node inc (faults.Holdout n i) is = absurd (false≢true is)

module _ (node inc listed : ℕ) (after : List ℕ) (commits : List Commit) (lists : HasListed after listed commits) where
  page_fits : (page : List Pair) → IsTrue (is_page records_prefix after 64 page) → (stage : Stage) → ReadsTo page inc listed commits stage → Fits stage
  page_fits page is (Scans other next count all) (same, reads, counts, goes) = lists_on after listed commits lists page is all reads count next counts goes
  page_fits page is (Ends other (Shown all)) (same, reads, over) = all_differ after listed commits lists page is all reads
  page_fits page is (Ends other (Refused reply)) (same, stops) = stop_fits listed page reply stops
  page_fits page is Begins leads = absurd leads
  page_fits page is (ComesUp other) leads = absurd leads
  page_fits page is Ended leads = absurd leads

  pub leads_fit : (told : Result (List Pair) DoorFault) (stage : Stage) → IfOk told (λ page. IsTrue (is_page records_prefix after 64 page)) → LeadsTo node inc listed commits told stage → Fits stage
  leads_fit (Ok page) stage is leads = page_fits page is stage leads
  leads_fit (Err fault) stage is leads = subst Fits (sym leads) (refusal_fits node inc fault)

  one_left : 1 < 314 - listed / 64
  one_left = let few = lists.few in omega arith

  page_left : (page : List Pair) (stage : Stage) → ReadsTo page inc listed commits stage → left_at stage < 314 - listed / 64
  page_left page (Scans other next count all) (same, reads, counts, goes) = let full = full_page page next goes in let few = reads.few in omega arith
  page_left page (Ends other end) leads = one_left
  page_left page Begins leads = absurd leads
  page_left page (ComesUp other) leads = absurd leads
  page_left page Ended leads = absurd leads

  pub leads_left : (told : Result (List Pair) DoorFault) (stage : Stage) → LeadsTo node inc listed commits told stage → left_at stage < 314 - listed / 64
  leads_left (Ok page) stage leads = page_left page stage leads
  leads_left (Err fault) stage leads = subst (λ (s : Stage). left_at s < 314 - listed / 64) (sym leads) one_left

-- ---- how far the coming up leads

module _ (node inc : ℕ) where
  pub up_left : (told : Result (Unit {0}) DoorFault) → left_at (up_stage node inc told) < 315
  up_left (Ok done) = omega arith
  up_left (Err fault) = omega arith

  pub up_fits : (told : Result (Unit {0}) DoorFault) → Fits (up_stage node inc told)
  up_fits (Ok done) = record { pairs = []; count = refl; few = omega arith; shown = refl; up = refl; last = λ pair is. absurd (none_is pair is) }
    where
      none_is : (pair : Pair) → None ≡ Some pair → ⊥
      none_is pair e = cc
  up_fits (Err fault) = refusal_fits node inc fault

  pub up_works : (history : List DoorEntry) (told : Result (Unit {0}) DoorFault) → RefusedBy (if_past node inc history) told → IsTrue (told_fault_at (up_stage node inc told)) → ⊥
  up_works history (Ok done) why is = false≢true is
  up_works history (Err fault) why is = by_past (is_past node inc history) (subst (λ (f : DoorFault). RefusedBy {T = Unit {0}} (if_past node inc history) (Err f)) (refusal_failed node inc fault is) why)
    where
      by_past : (t : Bool) → RefusedBy {T = Unit {0}} (if t then Some (faults.Fenced node inc) else None) (Err faults.Failed) → ⊥
      by_past true why = cc
      by_past false why = why
