-- What comes of an audit and of an upgrade is a run of an upgrade, and the result tells how that ended.
use Rattle.std.proofs.Common.{◌≡◌, ℕ, suc, ◌+◌, Bool, true, false, not, ◌&&◌, List, [], ◌∷◌, ◌++◌, length, refl, sym, ap, subst, ◌∙◌, inl, inr, append-nil}
use Rattle.std.specs.Prelude.{Err, IsFalse, IsTrue, None, Ok, Option, Result, Some, filter, if◌then◌else◌}
use Rattle.std.specs.List.{last_or, list_any}
use Rattle.std.specs.Str.{bytes_eq}
use Rattle.std.proofs.lemmas.Bool.{and_from, and_parts, false_from_ne_true, false≢true, or_parts, or_right}
use Rattle.std.proofs.lemmas.List.Elements.{filter-append}
use Rattle.std.proofs.lemmas.List.Folds.{list_all-append, list_any-append}
use Rattle.aft_keeper.specs.declared.keeper.KeeperAnswer.{KeeperAnswer}
use Rattle.aft_keeper.specs.declared.keeper.KeeperAnswer.TheVariants as answers
use Rattle.aft_keeper.specs.declared.keeper.KeeperCall.TheVariants.{Get}
use Rattle.aft_records.specs.declared.stored.Commit.{Commit}
use Rattle.aft_records.specs.Commits.{same_commit}
use Rattle.aft_model.specs.declared.door.DoorAct.TheVariants.{Opened}
use Rattle.aft_model.specs.declared.door.DoorEntry.{DoorEntry}
use Rattle.aft_model.specs.Bytes.{HasBytes, acts_bytes}
use Rattle.aft_model.specs.DoorKnowledge.{is_open, opens}
use Rattle.aft_model.specs.LegalDoor.{Legal, may_follow}
use Rattle.aft_model.specs.Opening.{has_failed, opening}
use Rattle.aft_model.specs.Readings.{record_name}
use Rattle.aft_model.specs.ScanRun.{same_line}
use Rattle.aft_model.proofs.Histories.{In, all_append, any_found, each_after_split}
use Rattle.aft_model.proofs.Ids.{same_commits}
use Rattle.aft_model.proofs.Sights.{same_bytes}
use Rattle.aft_door.specs.Entries.{called, door_opened}
use Rattle.aft_lines.specs.CourseWords.{finds_record}
use Rattle.aft_lines.specs.Turns.{AtDoor, Turn, door_turns, turns}
use Rattle.aft_lines.specs.UpgradeCourse.{shown_commits, upgrade_course, upgrades}
use Rattle.aft_lines.specs.UpgradeTrace.{CallFailed, HasUpgraded, IsFinishedUpgrade, ShowsNoRecord, UpgradeEnd, UpgradeTrace, is_put, stopped_at_last, stopped_with, upgrade_end, upgrades_in_order}
use Rattle.aft_audit.specs.Audit.{HasOpened, IsRefusedFor, opener}
use Rattle.aft_audit.specs.Upgrading.{HasPassed, ShowsNone, Upgrades, are_ours, puts_in}
use Rattle.aft_audit.specs.declared.fault.AuditFault.{AuditFault}
use Rattle.aft_audit.specs.declared.fault.AuditFault.TheVariants.{Damaged, Memory, Store, TooMany}
use Rattle.aft_audit.proofs.Upgrades.{turns_append}
use Rattle.law_upgrades.specs.Runs.{TellsEnd, run_at_door}
use Rattle.law_upgrades.proofs.Ends.{failed_last, opens_only, own_turns, turns_are, walk}
use Rattle.law_upgrades.proofs.Shown.{its_reads, one_shown, opened_so, parted, puts_of, reads, shown_commits_are}

-- ---- the course of an upgrade

-- what comes before the door is open is passed over
passed_over : (whole : Bool) (commits : List Commit) (place : ℕ) (entries : List DoorEntry) (line : List Turn) → IsFalse (is_open entries) → upgrade_course whole commits (door_turns opening place entries ++ line) ≡ upgrade_course whole commits line
passed_over whole commits place [] line shut = refl
passed_over whole commits place (entry ∷ entries) line shut = cases (passed_over whole commits (suc place) entries line parts.1) (same_line opening entry.by)
  where
    parts : IsFalse (opens entry.act) × IsFalse (is_open entries)
    parts = or_parts (opens entry.act) (is_open entries) shut

    behind : List Turn
    behind = door_turns opening (suc place) entries ++ line

    cases : upgrade_course whole commits behind ≡ upgrade_course whole commits line → (own : Bool) → upgrade_course whole commits (((if own then AtDoor place entry.act ∷ [] else []) ++ door_turns opening (suc place) entries) ++ line) ≡ upgrade_course whole commits line
    cases rest true = ap (λ (t : Bool). if t then upgrades whole commits behind else upgrade_course whole commits behind) parts.0 ∙ rest
    cases rest false = rest

-- a trace that is a run of an upgrade, by its course
is_trace : (history : List DoorEntry) → Legal history → HasBytes history → IsTrue (are_ours history) → IsTrue (upgrades_in_order false (run_at_door history)) → UpgradeTrace (run_at_door history)
is_trace history legal made own course = record { bytes = made; door = legal; no_line = opens_only history own; others = refl; course = course }

-- ---- a door that isn't open

module _ (history : List DoorEntry) (legal : Legal history) (shut : IsFalse (is_open history)) where
  none_opened : (whole : Bool) → upgrades_in_order whole (run_at_door history) ≡ not whole
  none_opened whole =
      ap (λ (line : List Turn). upgrade_course whole (shown_commits history) line) (turns_are history (reads history legal shut).own ∙ sym (append-nil (door_turns opening 0 history)))
      ∙ passed_over whole (shown_commits history) 0 history [] shut

  pub shut_trace : HasBytes history → UpgradeTrace (run_at_door history)
  shut_trace made = is_trace history legal made (reads history legal shut).own (none_opened false)

  pub shut_end : upgrade_end (run_at_door history) ≡ None
  shut_end =
      ap (λ (t : Bool). if t then Some (HasUpgraded (length (filter (λ entry. is_put entry.act) history))) else if list_any (λ entry. opens entry.act) history then stopped_at_last (shown_commits history) (last_or None history) else None) (none_opened true)
      ∙ ap (λ (t : Bool). if t then stopped_at_last (shown_commits history) (last_or None history) else None) shut

pub refused_shut : (fault : AuditFault) (history : List DoorEntry) → IsRefusedFor fault history → IsFalse (is_open history)
refused_shut Store history why = why.closed
refused_shut TooMany history why = why.reading.closed
refused_shut (Damaged name) history why = why.reading.closed
refused_shut Memory history why = why.closed

-- ---- behind an audit

last_append : {A : Type 0} (o : Option A) (xs ys : List A) → last_or o (xs ++ ys) ≡ last_or (last_or o xs) ys
last_append o [] ys = refl
last_append o (x ∷ xs) ys = last_append (Some x) xs ys

last_of : {A : Type 0} (o : Option A) (xs : List A) (x : A) → last_or None xs ≡ Some x → last_or o xs ≡ Some x
last_of o [] x is = absurd (cc)
last_of o (y ∷ ys) x is = is

module _ (commits : List Commit) (opened made : List DoorEntry) (audit : HasOpened commits opened) (own : IsTrue (are_ours made)) (legal : Legal (opened ++ made)) (has_bytes : HasBytes (opened ++ made)) where
  abbrev before : List DoorEntry
  before = audit.before

  abbrev history : List DoorEntry
  history = opened ++ made

  is_parted : history ≡ before ++ door_opened opening ∷ made
  is_parted = parted commits opened audit made

  its_opening : Legal (before ++ door_opened opening ∷ [])
  its_opening = opened_so commits opened audit (each_after_split may_follow [] opened made legal).0

  shown : shown_commits history ≡ commits
  shown = shown_commits_are commits opened audit made (each_after_split may_follow [] opened made legal).0 (all_append (λ (e : DoorEntry). acts_bytes e.act) opened made has_bytes).0

  -- the place of the upgrade's first entry
  abbrev place : ℕ
  place = suc (0 + length before)

  all_own : IsTrue (are_ours history)
  all_own = subst (λ (h : List DoorEntry). IsTrue (are_ours h)) (sym is_parted) (list_all-append (λ (e : DoorEntry). same_line opening e.by) before (door_opened opening ∷ made) ∙ and_from _ _ (its_reads before audit.reading.closed its_opening).own own)

  turns_parted : door_turns opening 0 history ≡ door_turns opening 0 before ++ AtDoor (0 + length before) Opened ∷ door_turns opening place made
  turns_parted = ap (λ (h : List DoorEntry). door_turns opening 0 h) is_parted ∙ turns_append 0 before (door_opened opening ∷ made)

  -- its course is that of the upgrade
  course_is : (whole : Bool) → upgrades_in_order whole (run_at_door history) ≡ upgrades whole commits (door_turns opening place made)
  course_is whole =
      ap (λ (cs : List Commit). upgrade_course whole cs (turns opening (run_at_door history).trace)) shown
      ∙ ap (λ (line : List Turn). upgrade_course whole commits line) (turns_are history all_own ∙ turns_parted)
      ∙ passed_over whole commits 0 before (AtDoor (0 + length before) Opened ∷ door_turns opening place made) audit.reading.closed

  abbrev Course : Bool → Type 0
  Course whole = (at : ℕ) → IsTrue (upgrades whole commits (door_turns opening at made))

  pub its_trace : Course false → UpgradeTrace (run_at_door history)
  its_trace begins = is_trace history legal has_bytes all_own (course_is false ∙ begins place)

  -- ---- how it ended

  abbrev all_puts : ℕ
  all_puts = length (filter (λ entry. is_put entry.act) history)

  puts_are : all_puts ≡ puts_in made
  puts_are =
      ap (λ (h : List DoorEntry). length (puts_of h)) is_parted
      ∙ ap length (filter-append (λ (e : DoorEntry). is_put e.act) before (door_opened opening ∷ made))
      ∙ ap (λ (ps : List DoorEntry). length (ps ++ puts_of made)) (its_reads before audit.reading.closed its_opening).no_puts

  is_opened : IsTrue (list_any (λ entry. opens entry.act) history)
  is_opened = ap (λ (h : List DoorEntry). is_open h) is_parted ∙ list_any-append (λ (e : DoorEntry). opens e.act) before (door_opened opening ∷ made) ∙ or_right _ _ refl

  last_is : last_or None history ≡ last_or (Some (door_opened opening)) made
  last_is = ap (λ (h : List DoorEntry). last_or None h) is_parted ∙ last_append None before (door_opened opening ∷ made)

  abbrev ends_by : Bool → Option UpgradeEnd → Option UpgradeEnd
  ends_by whole stopped = if whole then Some (HasUpgraded all_puts) else stopped

  end_is : upgrade_end (run_at_door history) ≡ ends_by (upgrades true commits (door_turns opening place made)) (stopped_at_last commits (last_or (Some (door_opened opening)) made))
  end_is =
      ap (λ (t : Bool). if t then Some (HasUpgraded all_puts) else if list_any (λ entry. opens entry.act) history then stopped_at_last (shown_commits history) (last_or None history) else None) (course_is true)
      ∙ ap (λ (t : Bool). ends_by (upgrades true commits (door_turns opening place made)) (if t then stopped_at_last (shown_commits history) (last_or None history) else None)) is_opened
      ∙ ap (λ (cs : List Commit). ends_by (upgrades true commits (door_turns opening place made)) (stopped_at_last cs (last_or None history))) shown
      ∙ ap (λ (o : Option DoorEntry). ends_by (upgrades true commits (door_turns opening place made)) (stopped_at_last commits o)) last_is

  -- an upgrade that did its whole course
  pub its_finish : Course true → IsFinishedUpgrade (run_at_door history)
  its_finish whole = course_is true ∙ whole place

  pub finished_end : Course true → (n : ℕ) → n ≡ puts_in made → upgrade_end (run_at_door history) ≡ Some (HasUpgraded n)
  finished_end whole n counts = end_is ∙ ap (λ (t : Bool). ends_by t (stopped_at_last commits (last_or (Some (door_opened opening)) made))) (whole place) ∙ ap (λ (k : ℕ). Some (HasUpgraded k)) (puts_are ∙ sym counts)

  -- one that something stopped
  stopped_end : (how : UpgradeEnd) → stopped_at_last commits (last_or (Some (door_opened opening)) made) ≡ Some how → upgrade_end (run_at_door history) ≡ Some how
  stopped_end how stops = end_is ∙ ap (λ (t : Bool). ends_by t (stopped_at_last commits (last_or (Some (door_opened opening)) made))) not_whole ∙ stops
    where
      not_whole : upgrades true commits (door_turns opening place made) ≡ false
      not_whole = false_from_ne_true (upgrades true commits (door_turns opening place made)) (λ whole.
          let calm = (walk commits commits true (Some (door_opened opening)) place made (λ c i. i) (subst (λ (line : List Turn). IsTrue (upgrades true commits line)) (own_turns place made own) whole)).passed refl refl in
          let is = sym calm ∙ stops in
          cc)

  pub failed_end : Course false → IsTrue (has_failed made) → upgrade_end (run_at_door history) ≡ Some CallFailed
  failed_end begins failed =
      stopped_end CallFailed ((walk commits commits false (Some (door_opened opening)) place made (λ c i. i) (subst (λ (line : List Turn). IsTrue (upgrades false commits line)) (own_turns place made own) (begins place))).failed failed)

  pub damaged_end : (name : List ℕ) → ShowsNone name commits made → upgrade_end (run_at_door history) ≡ Some (ShowsNoRecord name)
  damaged_end name why = stopped_end (ShowsNoRecord name) (ap (stopped_at_last commits) last ∙ by_answer why.answer answered none_shown)
    where
      last : last_or (Some (door_opened opening)) made ≡ Some (called opener (Get name) why.answer)
      last = last_of (Some (door_opened opening)) made (called opener (Get name) why.answer) why.last

      -- none of the commits is shown
      none_shown : IsFalse (list_any (λ c. bytes_eq (record_name c.id.uuid) name && finds_record c why.answer) commits)
      none_shown = false_from_ne_true _ (λ some.
          let d = any_found (λ (c : Commit). bytes_eq (record_name c.id.uuid) name && finds_record c why.answer) commits some in
          let parts = and_parts (bytes_eq (record_name d.0.id.uuid) name) (finds_record d.0 why.answer) d.2 in
          let e = any_found (same_commit why.commit) commits why.among in
          let its : why.commit ≡ e.0 = same_commits why.commit e.0 e.2 in
          let one : d.0 ≡ e.0 = one_shown before audit.reading.closed its_opening d.0 e.0 (subst (λ (cs : List Commit). In d.0 cs) audit.tells d.1) (subst (λ (cs : List Commit). In e.0 cs) audit.tells e.1) (same_bytes (record_name d.0.id.uuid) name parts.0 ∙ why.named ∙ ap (λ (c : Commit). record_name c.id.uuid) its) in
          false≢true (sym why.none ∙ ap (λ (c : Commit). finds_record c why.answer) (its ∙ sym one) ∙ parts.1))

      answered : why.answer ≡ answers.Failed → ⊥
      answered is = elim (failed_last commits None made (ap (stopped_at_last commits) (why.last ∙ ap (λ (answer : KeeperAnswer). Some (called opener (Get name) answer)) is))) [
        | inl here ↦ absurd (cc)
        | inr failed ↦ false≢true (sym why.works ∙ failed)
      ]

      by_answer : (answer : KeeperAnswer) → (answer ≡ answers.Failed → ⊥) → IsFalse (list_any (λ c. bytes_eq (record_name c.id.uuid) name && finds_record c answer) commits) → stopped_with commits (called opener (Get name) answer).act ≡ Some (ShowsNoRecord name)
      by_answer answers.Failed works none = absurd (works refl)
      by_answer answer works none = ap (λ (t : Bool). if t then None else Some (ShowsNoRecord name)) none

  pub wanting_end : IsFalse (has_failed made) → upgrade_end (run_at_door history) ≡ Some CallFailed → ⊥
  wanting_end works is = cases (upgrades true commits (door_turns opening place made)) (sym end_is ∙ is)
    where
      cases : (whole : Bool) → ends_by whole (stopped_at_last commits (last_or (Some (door_opened opening)) made)) ≡ Some CallFailed → ⊥
      cases true is' = cc
      cases false is' = elim (failed_last commits (Some (door_opened opening)) made is') [
        | inl here ↦ absurd (cc)
        | inr failed ↦ absurd (false≢true (sym works ∙ failed))
      ]

-- ---- by the result

passed_course : (whole : Bool) (commits : List Commit) (puts : ℕ) (old new : List DoorEntry) (up : HasPassed commits [] puts old new) (at : ℕ) → IsTrue (upgrades whole commits (door_turns opening at up.made))
passed_course whole commits puts old new up at = ap (λ (line : List Turn). upgrades whole commits line) (sym (append-nil (door_turns opening at up.made))) ∙ up.passes at whole []

module _ (commits : List Commit) (opened history : List DoorEntry) (audit : HasOpened commits opened) (legal : Legal history) (has_bytes : HasBytes history) where
  -- what is proved of the history in its parts is so of it
  of_whole : (P : List DoorEntry → Type 0) (made : List DoorEntry) → history ≡ opened ++ made → (Legal (opened ++ made) → HasBytes (opened ++ made) → P (opened ++ made)) → P history
  of_whole P made is so = subst P (sym is) (so (subst Legal is legal) (subst HasBytes is has_bytes))

  pub upgrade_trace : (result : Result ℕ AuditFault) → Upgrades commits result opened history → UpgradeTrace (run_at_door history)
  upgrade_trace (Ok puts) up = of_whole (λ h. UpgradeTrace (run_at_door h)) up.made up.ends (λ l b. its_trace commits opened up.made audit up.ours l b (passed_course false commits puts opened history up))
  upgrade_trace (Err fault) up = of_whole (λ h. UpgradeTrace (run_at_door h)) up.made up.ends (λ l b. its_trace commits opened up.made audit up.ours l b up.begins)

  pub upgrade_finished : (puts : ℕ) → HasPassed commits [] puts opened history → IsFinishedUpgrade (run_at_door history)
  upgrade_finished puts up = of_whole (λ h. IsFinishedUpgrade (run_at_door h)) up.made up.ends (λ l b. its_finish commits opened up.made audit up.ours l b (passed_course true commits puts opened history up))

  pub tells_end : (result : Result ℕ AuditFault) → Upgrades commits result opened history → TellsEnd result (upgrade_end (run_at_door history))
  tells_end (Ok puts) up = of_whole (λ h. upgrade_end (run_at_door h) ≡ Some (HasUpgraded puts)) up.made up.ends (λ l b. finished_end commits opened up.made audit up.ours l b (passed_course true commits puts opened history up) puts up.puts_made)
  tells_end (Err Store) up = of_whole (λ h. upgrade_end (run_at_door h) ≡ Some CallFailed) up.made up.ends (λ l b. failed_end commits opened up.made audit up.ours l b up.begins up.why)
  tells_end (Err TooMany) up = up.why
  tells_end (Err (Damaged name)) up = of_whole (λ h. upgrade_end (run_at_door h) ≡ Some (ShowsNoRecord name)) up.made up.ends (λ l b. damaged_end commits opened up.made audit up.ours l b name up.why)
  tells_end (Err Memory) up = of_whole (λ h. upgrade_end (run_at_door h) ≡ Some CallFailed → ⊥) up.made up.ends (λ l b. wanting_end commits opened up.made audit up.ours l b up.why)
