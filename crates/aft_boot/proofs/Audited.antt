-- Till the door is open the office reads alone, for the opening.
use Rattle.std.proofs.Common.{◌≡◌, ℕ, Bool, true, false, ◌&&◌, ◌||◌, List, [], ◌∷◌, ◌++◌, refl, sym, ap, subst, ◌∙◌, append_assoc}
use Rattle.std.specs.Prelude.{IsFalse, IsTrue, if◌then◌else◌}
use Rattle.std.specs.List.{list_all}
use Rattle.std.proofs.lemmas.Bool.{and_from, and_parts, false≢true, or_parts, true≢false}
use Rattle.std.proofs.lemmas.List.Folds.{list_all-append, list_any-append}
use Rattle.aft_records.specs.declared.stored.Commit.{Commit}
use Rattle.aft_model.specs.declared.door.DoorAct.{DoorAct}
use Rattle.aft_model.specs.declared.door.DoorAct.TheVariants.{Call, Opened}
use Rattle.aft_model.specs.declared.door.DoorEntry.{DoorEntry}
use Rattle.aft_model.specs.DoorKnowledge.{is_open, opens}
use Rattle.aft_model.specs.History.{each_after}
use Rattle.aft_model.specs.LegalDoor.{Legal, is_answered, may_come, may_follow}
use Rattle.aft_model.specs.Opening.{has_failed, is_failure, may_open, may_read, opening}
use Rattle.aft_model.specs.ScanRun.{same_line}
use Rattle.aft_model.proofs.Histories.{each_after_snoc}
use Rattle.aft_audit.specs.Audit.{HasOpened}
use Rattle.aft_door.specs.Entries.{door_opened}
use Rattle.aft_boot.specs.FirstBoots.{IsReadyFor, comes_below}
use Rattle.aft_boot.proofs.Below.{AllBelow}

-- whether an entry is the opening's call of the store
abbrev pub is_call : DoorAct → Bool
is_call (Call node inc asked answer) = true
is_call act = false

abbrev pub is_reading : DoorEntry → Bool
is_reading entry = same_line opening entry.by && is_call entry.act

abbrev pub AreReads : List DoorEntry → Type 0
AreReads entries = IsTrue (list_all is_reading entries)

read_is_call : (history : List DoorEntry) (act : DoorAct) → opens act ≡ false → IsTrue (may_read history act) → IsTrue (is_call act)
read_is_call history (Call node inc asked answer) shut may = refl
read_is_call history Opened shut may = absurd (true≢false shut)
read_is_call history act shut may = absurd (false≢true may)

reads_from : (before entries : List DoorEntry) → IsTrue (each_after may_follow before entries) → IsFalse (is_open (before ++ entries)) → AreReads entries
reads_from before [] legal shut = refl
reads_from before (entry ∷ entries) legal shut =
    let parts = and_parts (may_follow before entry) (each_after may_follow (before ++ entry ∷ []) entries) legal in
    let split = or_parts (is_open before) (is_open (entry ∷ entries)) (sym (list_any-append (λ (x : DoorEntry). opens x.act) before (entry ∷ entries)) ∙ shut) in
    let here = or_parts (opens entry.act) (is_open entries) split.1 in
    let rule = subst (λ t. IsTrue (if t then may_come before entry.act else may_open before entry)) split.0 (and_parts (is_answered entry.act) _ parts.0).1 in
    let both = and_parts (same_line opening entry.by) (may_read before entry.act) rule in
    and_from _ _ (and_from _ _ both.0 (read_is_call before entry.act here.0 both.1))
    (reads_from (before ++ entry ∷ []) entries parts.1 (ap is_open (append_assoc before (entry ∷ []) entries) ∙ shut))

pub reads_alone : (history : List DoorEntry) → Legal history → IsFalse (is_open history) → AreReads history
reads_alone history legal shut = reads_from [] history legal shut

-- ---- what reads are

pub reads_of_opening : (entries : List DoorEntry) → AreReads entries → IsTrue (list_all (λ entry. same_line opening entry.by) entries)
reads_of_opening [] reads = refl
reads_of_opening (entry ∷ entries) reads =
    let parts = and_parts (is_reading entry) (list_all is_reading entries) reads in
    and_from _ _ (and_parts (same_line opening entry.by) (is_call entry.act) parts.0).0 (reads_of_opening entries parts.1)

call_below : (node : ℕ) (act : DoorAct) → IsTrue (is_call act) → IsTrue (comes_below node act)
call_below node (Call at inc asked answer) is = refl
call_below node act is = absurd (false≢true is)

reads_below : (node : ℕ) (entries : List DoorEntry) → AreReads entries → AllBelow node entries
reads_below node [] reads = refl
reads_below node (entry ∷ entries) reads =
    let parts = and_parts (is_reading entry) (list_all is_reading entries) reads in
    and_from _ _ (call_below node entry.act (and_parts (same_line opening entry.by) (is_call entry.act) parts.0).1) (reads_below node entries parts.1)

-- ---- an opened door

module _ (commits : List Commit) (door : List DoorEntry) (opened : HasOpened commits door) (legal : Legal door) where
  pub its_reads : AreReads opened.before
  its_reads = reads_alone opened.before (each_after_snoc may_follow [] opened.before (door_opened opening) (subst Legal opened.ends legal)).0 opened.reading.closed

  -- it is ready for node 1
  pub ready_first : IsReadyFor 1 door
  ready_first = record {
    opened = subst (λ (h : List DoorEntry). IsTrue (is_open h)) (sym opened.ends) (list_any-append (λ (e : DoorEntry). opens e.act) opened.before (door_opened opening ∷ []) ∙ ap (λ (t : Bool). t || true) opened.reading.closed);
    below = subst (AllBelow 1) (sym opened.ends) (list_all-append (λ (e : DoorEntry). comes_below 1 e.act) opened.before (door_opened opening ∷ []) ∙ and_from _ _ (reads_below 1 opened.before its_reads) refl);
  }

  -- nothing has failed at it
  pub works : IsFalse (has_failed door)
  works =
      ap has_failed opened.ends
      ∙ list_any-append (λ (e : DoorEntry). is_failure e.act) opened.before (door_opened opening ∷ [])
      ∙ ap (λ (t : Bool). t || false) opened.reading.works

  -- all is the opening's
  pub opened_alone : IsTrue (list_all (λ entry. same_line opening entry.by) door)
  opened_alone =
      subst (λ (h : List DoorEntry). IsTrue (list_all (λ entry. same_line opening entry.by) h)) (sym opened.ends)
      (list_all-append (λ (e : DoorEntry). same_line opening e.by) opened.before (door_opened opening ∷ []) ∙ and_from _ _ (reads_of_opening opened.before its_reads) refl)
