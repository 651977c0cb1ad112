-- Before the door is open all is the opening's, which puts nothing; and the commits that it was shown stand in the order of their UUIDs.
use Rattle.std.proofs.Common.{◌≡◌, ℕ, suc, ◌+◌, Bool, true, false, not, ◌&&◌, List, [], ◌∷◌, ◌++◌, refl, sym, ap, subst, ◌∙◌, arith, eqb, inl, inr, append_assoc}
use Rattle.std.specs.Prelude.{IsFalse, IsTrue, filter, if◌then◌else◌, cond, take}
use Rattle.std.specs.List.{fold, list_all, position_or_len}
use Rattle.std.proofs.lemmas.Bool.{and_from, and_parts, false≢true, or_parts}
use Rattle.std.specs.Str.{bytes_eq}
use Rattle.aft_keeper.specs.declared.keeper.KeeperCall.TheVariants.{Put, Scan}
use Rattle.aft_keeper.specs.declared.keeper.KeeperAnswer.TheVariants.{Page}
use Rattle.aft_keeper.specs.declared.keeper.Pair.{Pair}
use Rattle.aft_records.specs.declared.stored.Commit.{Commit}
use Rattle.aft_model.specs.declared.door.DoorAct.{DoorAct}
use Rattle.aft_model.specs.declared.door.DoorAct.TheVariants.{Call, Opened}
use Rattle.aft_model.specs.declared.door.DoorEntry.{DoorEntry}
use Rattle.aft_model.specs.DoorKnowledge.{is_open, opens}
use Rattle.aft_model.specs.History.{each_after}
use Rattle.aft_model.specs.LegalDoor.{is_answered, may_come, may_follow, Legal, ascends}
use Rattle.aft_model.specs.Membership.{incarnation, same_incarnation, the_office}
use Rattle.aft_model.specs.Opening.{has_failed, may_open, may_read, opening, all_scanned, all_shown, has_got, marker_pages, record_pages, version_names}
use Rattle.aft_model.specs.ScanRun.{same_line, ScanPage, commits_on, is_scan_run, page_in, page_limit}
use Rattle.aft_model.proofs.Lists.{none_snoc, all_from}
use Rattle.aft_model.specs.Bytes.{HasBytes, acts_bytes, are_bytes, is_byte_pair}
use Rattle.aft_model.specs.Office.{before_open}
use Rattle.aft_model.specs.Readings.{record_name}
use Rattle.aft_model.specs.Sound.{is_sound, records_prefix}
use Rattle.aft_model.proofs.Histories.{In, all_append, all_at, each_after_snoc, in_flat_map}
use Rattle.aft_door.specs.Entries.{door_opened}
use Rattle.aft_lines.specs.UpgradeTrace.{is_put}
use Rattle.aft_lines.specs.BackupCourse.{with_uuid_order}
use Rattle.aft_lines.specs.UpgradeCourse.{shown_commits}
use Rattle.aft_audit.specs.Upgrading.{are_ours}
use Rattle.aft_audit.specs.Audit.{HasOpened}
use Rattle.law_scans.specs.Pages.{listed_on}
use Rattle.law_scans.proofs.Answered.{pages_answered}
use Rattle.law_scans.proofs.Runs.{lists_from}
use Rattle.law_upgrades.proofs.Orders.{in_order, one_record}

-- ---- before the door is open

pub may_open_so : (before : List DoorEntry) (entry : DoorEntry) → IsFalse (is_open before) → IsTrue (may_follow before entry) → IsTrue (may_open before entry)
may_open_so before entry shut may =
    subst (λ (b : Bool). IsTrue (if b then may_come before entry.act else may_open before entry)) shut (and_parts (is_answered entry.act) (if is_open before then may_come before entry.act else may_open before entry) may).1

no_put : (before : List DoorEntry) (act : DoorAct) → IsTrue (may_read before act) → is_put act ≡ false
no_put before (Call node inc (Put name bytes) answer) may = absurd (false≢true (and_parts (same_incarnation the_office (incarnation node inc) && not (has_failed before)) false may).1)
no_put before act may = refl

abbrev pub puts_of : List DoorEntry → List DoorEntry
puts_of entries = filter (λ e. is_put e.act) entries

-- entries that are the opening's, and put nothing
pub record AreReads (entries : List DoorEntry) : Type 0 where
  pub own : IsTrue (are_ours entries)
  pub no_puts : puts_of entries ≡ []

reads_from : (before entries : List DoorEntry) → IsTrue (each_after may_follow before entries) → IsFalse (is_open before) → IsFalse (is_open entries) → AreReads entries
reads_from before [] legal shut none = record { own = refl; no_puts = refl }
reads_from before (entry ∷ entries) legal shut none =
    let rules = and_parts (may_follow before entry) (each_after may_follow (before ++ entry ∷ []) entries) legal in
    let parts = or_parts (opens entry.act) (is_open entries) none in
    let its = and_parts (same_line opening entry.by) (may_read before entry.act) (may_open_so before entry shut rules.0) in
    let rest = reads_from (before ++ entry ∷ []) entries rules.1 (none_snoc (λ (e : DoorEntry). opens e.act) before entry shut parts.0) parts.1 in
    record {
      own = and_from _ _ its.0 rest.own;
      no_puts = ap (λ (b : Bool). if b then entry ∷ puts_of entries else puts_of entries) (no_put before entry.act its.1) ∙ rest.no_puts;
    }

pub reads : (entries : List DoorEntry) → IsTrue (each_after may_follow [] entries) → IsFalse (is_open entries) → AreReads entries
reads entries legal shut = reads_from [] entries legal refl shut

-- ---- what pages of records list is made of bytes

-- the pages that an entry is
abbrev its_pages : DoorEntry → List ScanPage
its_pages entry = if same_line opening entry.by then page_in the_office records_prefix entry.act else []

on_page : (act : DoorAct) → IsTrue (acts_bytes act) → (page : ScanPage) → In page (page_in the_office records_prefix act) → IsTrue (list_all is_byte_pair page.listed)
on_page (Call node inc (Scan scanned after limit) (Page pairs)) made page among = cases (same_incarnation the_office (incarnation node inc) && bytes_eq records_prefix scanned && eqb limit page_limit) among
  where
    cases : (t : Bool) → In page (if t then record { after = after; listed = pairs } ∷ [] else []) → IsTrue (list_all is_byte_pair page.listed)
    cases true (inl is) = subst (λ (p : ScanPage). IsTrue (list_all is_byte_pair p.listed)) (sym is) (and_parts (are_bytes scanned && are_bytes after) (list_all is_byte_pair pairs) made).1
    cases true (inr none) = absurd none
    cases false none = absurd none
on_page act made page none = absurd none

by_line : (t : Bool) (act : DoorAct) → IsTrue (acts_bytes act) → (page : ScanPage) → In page (if t then page_in the_office records_prefix act else []) → IsTrue (list_all is_byte_pair page.listed)
by_line true act made page among = on_page act made page among
by_line false act made page none = absurd none

listed_bytes : (history : List DoorEntry) → HasBytes history → IsTrue (list_all is_byte_pair (listed_on (record_pages history)))
listed_bytes history made = all_from is_byte_pair (listed_on (record_pages history)) (λ p among.
    let page = in_flat_map (λ (page : ScanPage). page.listed) p (record_pages history) among in
    let entry = in_flat_map its_pages page.0 history page.1 in
    all_at is_byte_pair p page.0.listed page.2 (by_line (same_line opening entry.0.by) entry.0.act (all_at (λ (e : DoorEntry). acts_bytes e.act) entry.0 history entry.1 made) page.0 entry.2))

-- ---- up to where the door was opened

first_cons : (entry : DoorEntry) (entries : List DoorEntry) → before_open (entry ∷ entries) ≡ (if opens entry.act then [] else entry ∷ before_open entries)
first_cons entry entries = by_test (opens entry.act)
  where
    by_test : (t : Bool) → take (cond (not t) (1 + position_or_len (λ (e : DoorEntry). opens e.act) entries) 0) (entry ∷ entries) ≡ (if t then [] else entry ∷ before_open entries)
    by_test true = refl
    by_test false = (let n = position_or_len (λ (e : DoorEntry). opens e.act) entries in ap (λ (k : ℕ). take k (entry ∷ entries)) (let e : 1 + n ≡ suc n = omega arith in e))

before_is : (before more : List DoorEntry) → IsFalse (is_open before) → before_open (before ++ door_opened opening ∷ more) ≡ before
before_is [] more shut = first_cons (door_opened opening) more
before_is (entry ∷ before) more shut =
    let parts = or_parts (opens entry.act) (is_open before) shut in
    first_cons entry (before ++ door_opened opening ∷ more)
    ∙ ap (λ (t : Bool). if t then [] else entry ∷ before_open (before ++ door_opened opening ∷ more)) parts.0
    ∙ ap (λ (entries : List DoorEntry). entry ∷ entries) (before_is before more parts.1)

-- ---- the order

module _ (before : List DoorEntry) (shut : IsFalse (is_open before)) (legal : Legal (before ++ door_opened opening ∷ [])) where
  abbrev Listed : List Pair
  Listed = listed_on (record_pages before)

  rules : IsTrue (each_after may_follow [] before) × IsTrue (may_follow before (door_opened opening))
  rules = each_after_snoc may_follow [] before (door_opened opening) legal

  pub its_reads : AreReads before
  its_reads = reads before rules.0 shut

  whole : IsTrue (is_scan_run (record_pages before))
  whole =
      let knows = (and_parts (same_line opening opening) (may_read before Opened) (may_open_so before (door_opened opening) shut rules.1)).1 in
      let unfailed = (and_parts (all_scanned before && list_all (has_got before) (version_names before) && not (has_failed before)) (is_sound (all_shown before)) knows).0 in
      let got = (and_parts (all_scanned before && list_all (has_got before) (version_names before)) (not (has_failed before)) unfailed).0 in
      let scanned = (and_parts (all_scanned before) (list_all (has_got before) (version_names before)) got).0 in
      (and_parts (is_scan_run (record_pages before)) (is_scan_run (marker_pages before)) scanned).0

  up : IsTrue (ascends Listed)
  up = (lists_from records_prefix (record_pages before) (pages_answered the_office opening records_prefix before rules.0) [] whole).up

  shown_so : (more : List DoorEntry) → HasBytes before → shown_commits (before ++ door_opened opening ∷ more) ≡ commits_on (record_pages before)
  shown_so more made =
      ap (λ (entries : List DoorEntry). fold with_uuid_order [] (commits_on (record_pages entries))) (before_is before more shut)
      ∙ in_order [] Listed (listed_bytes before made) up (λ d none. absurd none)

  -- they have one of each record's name
  pub one_shown : (c d : Commit) → In c (commits_on (record_pages before)) → In d (commits_on (record_pages before)) → record_name c.id.uuid ≡ record_name d.id.uuid → c ≡ d
  one_shown c d among among' same = one_record Listed c d up among among' same

-- ---- of an audit

module _ (commits : List Commit) (opened : List DoorEntry) (audit : HasOpened commits opened) where
  -- a history behind it in its parts
  pub parted : (more : List DoorEntry) → opened ++ more ≡ audit.before ++ door_opened opening ∷ more
  parted more = ap (λ (h : List DoorEntry). h ++ more) audit.ends ∙ append_assoc audit.before (door_opened opening ∷ []) more

  pub opened_so : Legal opened → Legal (audit.before ++ door_opened opening ∷ [])
  opened_so legal = subst Legal audit.ends legal

  pub shown_commits_are : (more : List DoorEntry) → Legal opened → HasBytes opened → shown_commits (opened ++ more) ≡ commits
  shown_commits_are more legal made =
      ap (λ (h : List DoorEntry). shown_commits h) (parted more)
      ∙ shown_so audit.before audit.reading.closed (opened_so legal) more (all_append (λ (e : DoorEntry). acts_bytes e.act) audit.before (door_opened opening ∷ []) (subst HasBytes audit.ends made)).0
      ∙ sym audit.tells
