-- The office has heard of what was committed when the door was opened: the commits that the audit's pages of records showed.
use Rattle.std.proofs.Common.{◌≡◌, ◌+◌, ℕ, suc, Bool, true, false, ◌&&◌, ◌||◌, not, List, [], ◌∷◌, ◌++◌, eqb, refl, sym, ap, subst, ◌∙◌, inl, inr, append-nil, append_assoc, arith}
use Rattle.std.specs.Prelude.{Err, IsFalse, IsTrue, Ok, Result, cond, if◌then◌else◌, nat_eq, take}
use Rattle.std.specs.List.{flat_map, list_all, list_any, position_or_len, starts_with}
use Rattle.std.specs.Str.{bytes_eq}
use Rattle.std.proofs.lemmas.Bool.{and_parts, eqb-true, false≢true, or_cases, or_parts, true≢false}
use Rattle.std.proofs.lemmas.List.Concat.{flat_map-append}
use Rattle.std.proofs.lemmas.List.Folds.{list_any-append}
use Rattle.aft_keeper.specs.declared.keeper.KeeperAnswer.{KeeperAnswer}
use Rattle.aft_keeper.specs.declared.keeper.KeeperAnswer.TheVariants as answers
use Rattle.aft_keeper.specs.declared.keeper.KeeperCall.{KeeperCall}
use Rattle.aft_keeper.specs.declared.keeper.KeeperCall.TheVariants as calls
use Rattle.aft_keeper.specs.declared.keeper.Pair.{Pair}
use Rattle.aft_keeper.specs.Contents.{is_scanned, name_lt}
use Rattle.aft_id.specs.declared.txn_id.TxnId.{TxnId}
use Rattle.aft_records.specs.declared.fault.RecordFault.{RecordFault}
use Rattle.aft_records.specs.declared.stored.Commit.{Commit}
use Rattle.aft_records.specs.Commits.{ids_of}
use Rattle.aft_records.specs.Reading.{commit_of}
use Rattle.aft_model.specs.declared.caller.By.{By}
use Rattle.aft_model.specs.declared.door.DoorAct.{DoorAct}
use Rattle.aft_model.specs.declared.door.DoorAct.TheVariants.{Call, Opened}
use Rattle.aft_model.specs.declared.door.DoorEntry.{DoorEntry}
use Rattle.aft_model.specs.Committed.{committed, committed_by}
use Rattle.aft_model.specs.DoorKnowledge.{is_open, opens}
use Rattle.aft_model.specs.History.{each_after}
use Rattle.aft_model.specs.LegalDoor.{Legal, ascends, is_answered, is_page, may_come, may_follow}
use Rattle.aft_model.specs.Membership.{incarnation, same_incarnation, the_office}
use Rattle.aft_model.specs.Office.{before_open, heard}
use Rattle.aft_model.specs.Opening.{all_scanned, all_shown, has_failed, has_got, is_next_read, may_open, may_read, opening, version_names}
use Rattle.aft_model.specs.Readings.{read_under, record_name, records_in, version_name}
use Rattle.aft_model.specs.ScanRun.{ScanPage, commits_on, page_in, same_line, scan_pages}
use Rattle.aft_model.specs.Sound.{markers_prefix, recorded, records_prefix}
use Rattle.aft_model.proofs.Histories.{each_after_snoc}
use Rattle.aft_model.proofs.Sights.{same_bytes}
use Rattle.aft_audit.specs.Audit.{HasOpened}
use Rattle.aft_audit.proofs.Gets.{is_version}
use Rattle.aft_door.specs.Entries.{door_opened}
use Rattle.aft_boot.proofs.Audited.{AreReads, is_call, is_reading, its_reads}
use Rattle.aft_boot.proofs.Courses.{call_opens}

-- ---- what is no record

no_version_record : (key : List ℕ) (id : TxnId) (bytes : List ℕ) → records_in (record { name = version_name key id; bytes = bytes }) ≡ []
no_version_record key id bytes = by_read (commit_of bytes)
  where
    by_read : (read : Result Commit RecordFault) → read_under (version_name key id) (λ (c : Commit). record_name c.id.uuid) read ≡ []
    by_read (Ok c) = refl
    by_read (Err fault) = refl

-- a name that begins with the letter of markers
no_marker_record : (name bytes : List ℕ) → IsTrue (starts_with nat_eq name markers_prefix) → records_in (record { name = name; bytes = bytes }) ≡ []
no_marker_record [] bytes starts = absurd (false≢true starts)
no_marker_record (a ∷ name) bytes starts =
    subst (λ (letter : ℕ). read_under (letter ∷ name) (λ (c : Commit). record_name c.id.uuid) (commit_of bytes) ≡ []) (eqb-true 114 a (and_parts (nat_eq 114 a) (starts_with nat_eq name (47 ∷ [])) starts).0) (by_read (commit_of bytes))
  where
    by_read : (read : Result Commit RecordFault) → read_under (114 ∷ name) (λ (c : Commit). record_name c.id.uuid) read ≡ []
    by_read (Ok c) = refl
    by_read (Err fault) = refl

none_on_markers : (after : List ℕ) (pairs : List Pair) → IsTrue (list_all (λ p. is_scanned markers_prefix after p.name) pairs) → recorded pairs ≡ []
none_on_markers after [] all = refl
none_on_markers after (p ∷ pairs) all =
    let parts = and_parts (is_scanned markers_prefix after p.name) (list_all (λ (q : Pair). is_scanned markers_prefix after q.name) pairs) all in
    ap (λ (cs : List Commit). cs ++ recorded pairs) (no_marker_record p.name p.bytes (and_parts (starts_with nat_eq p.name markers_prefix) (name_lt after p.name) parts.0).0)
    ∙ none_on_markers after pairs parts.1

-- ---- one read

-- the commits that a read shows on a page of records
abbrev on_pages : By → DoorAct → List Commit
on_pages by act = recorded (flat_map (λ (page : ScanPage). page.listed) (if same_line opening by then page_in the_office records_prefix act else []))

by_own : (by : By) (act : DoorAct) (commits : List Commit) → IsTrue (same_line opening by) → commits ≡ recorded (flat_map (λ (page : ScanPage). page.listed) (page_in the_office records_prefix act)) → commits ≡ on_pages by act
by_own by act commits own is = is ∙ ap (λ (t : Bool). recorded (flat_map (λ (page : ScanPage). page.listed) (if t then page_in the_office records_prefix act else []))) (sym own)

module _ (history : List DoorEntry) (by : By) (own : IsTrue (same_line opening by)) (node inc : ℕ) (office : IsTrue (same_incarnation the_office (incarnation node inc))) where
  -- a page of records, or of markers
  of_records : (after : List ℕ) (limit : ℕ) (pairs : List Pair) → IsTrue (eqb limit 64) → committed_by (record { by = by; act = Call node inc (calls.Scan records_prefix after limit) (answers.Page pairs) }) ≡ on_pages by (Call node inc (calls.Scan records_prefix after limit) (answers.Page pairs))
  of_records after limit pairs full =
      by_own by (Call node inc (calls.Scan records_prefix after limit) (answers.Page pairs)) (recorded pairs) own
      (ap recorded (sym (append-nil pairs))
      ∙ ap (λ (t : Bool). recorded (flat_map (λ (page : ScanPage). page.listed) (if t then record { after = after; listed = pairs } ∷ [] else []))) (sym (passes (same_incarnation the_office (incarnation node inc)) (eqb limit 64) office full)))
    where
      passes : (a b : Bool) → IsTrue a → IsTrue b → (a && true && b) ≡ true
      passes true true one other = refl
      passes true false one other = absurd (false≢true other)
      passes false b one other = absurd (false≢true one)

  of_markers : (after : List ℕ) (limit : ℕ) (pairs : List Pair) → IsTrue (is_page markers_prefix after limit pairs) → committed_by (record { by = by; act = Call node inc (calls.Scan markers_prefix after limit) (answers.Page pairs) }) ≡ on_pages by (Call node inc (calls.Scan markers_prefix after limit) (answers.Page pairs))
  of_markers after limit pairs is =
      by_own by (Call node inc (calls.Scan markers_prefix after limit) (answers.Page pairs)) (recorded pairs) own
      (none_on_markers after pairs (and_parts (list_all (λ (p : Pair). is_scanned markers_prefix after p.name) pairs) (ascends pairs) (and_parts (list_all (λ (p : Pair). is_scanned markers_prefix after p.name) pairs && ascends pairs) _ is).0).0
      ∙ sym (ap (λ (t : Bool). recorded (flat_map (λ (page : ScanPage). page.listed) (if t then record { after = after; listed = pairs } ∷ [] else []))) (passes_not (same_incarnation the_office (incarnation node inc)) (eqb limit 64))))
    where
      passes_not : (a b : Bool) → (a && false && b) ≡ false
      passes_not true b = refl
      passes_not false b = refl

  -- the same of a page that may be read next
  abbrev Same : List ℕ → List ℕ → ℕ → List Pair → Type 0
  Same prefix after limit pairs = committed_by (record { by = by; act = Call node inc (calls.Scan prefix after limit) (answers.Page pairs) }) ≡ on_pages by (Call node inc (calls.Scan prefix after limit) (answers.Page pairs))

  of_page : (prefix after : List ℕ) (limit : ℕ) (pairs : List Pair) (first second third : Bool) → IsTrue (is_page prefix after limit pairs) → IsTrue (eqb limit 64 && (bytes_eq prefix records_prefix && first || bytes_eq prefix markers_prefix && second && third)) → Same prefix after limit pairs
  of_page prefix after limit pairs first second third is next =
      let parts = and_parts (eqb limit 64) (bytes_eq prefix records_prefix && first || bytes_eq prefix markers_prefix && second && third) next in
      elim (or_cases (bytes_eq prefix records_prefix && first) (bytes_eq prefix markers_prefix && second && third) parts.1) [
        | inl records ↦ subst (λ (name : List ℕ). Same name after limit pairs) (sym (same_bytes prefix records_prefix (and_parts (bytes_eq prefix records_prefix) first records).0)) (of_records after limit pairs parts.0)
        | inr markers ↦ (let here = same_bytes prefix markers_prefix (and_parts (bytes_eq prefix markers_prefix) second (and_parts (bytes_eq prefix markers_prefix && second) third markers).0).0 in
            subst (λ (name : List ℕ). Same name after limit pairs) (sym here) (of_markers after limit pairs (subst (λ (name : List ℕ). IsTrue (is_page name after limit pairs)) here is)))
      ]

  -- what shows nothing
  of_nothing : (asked : KeeperCall) (answer : KeeperAnswer) → committed_by (record { by = by; act = Call node inc asked answer }) ≡ [] → page_in the_office records_prefix (Call node inc asked answer) ≡ [] → committed_by (record { by = by; act = Call node inc asked answer }) ≡ on_pages by (Call node inc asked answer)
  of_nothing asked answer none no_page =
      by_own by (Call node inc asked answer) (committed_by (record { by = by; act = Call node inc asked answer })) own
      (none ∙ sym (ap (λ (ps : List ScanPage). recorded (flat_map (λ (page : ScanPage). page.listed) ps)) no_page))

  of_version : (name bytes : List ℕ) → IsTrue (list_any (bytes_eq name) (version_names history)) → committed_by (record { by = by; act = Call node inc (calls.Get name) (answers.Found bytes) }) ≡ []
  of_version name bytes wanted =
      let version = is_version (recorded (all_shown history)) name wanted in
      subst (λ (n : List ℕ). records_in (record { name = n; bytes = bytes }) ++ [] ≡ []) (sym version.2) (append-nil _ ∙ no_version_record version.0 version.1 bytes)

  of_call : (asked : KeeperCall) (answer : KeeperAnswer) → IsTrue (is_answered (Call node inc asked answer)) → IsTrue (is_next_read history asked) → committed_by (record { by = by; act = Call node inc asked answer }) ≡ on_pages by (Call node inc asked answer)
  of_call (calls.Scan prefix after limit) (answers.Page pairs) answered next = of_page prefix after limit pairs _ _ _ answered next
  of_call (calls.Scan prefix after limit) answers.Failed answered next = of_nothing (calls.Scan prefix after limit) answers.Failed refl refl
  of_call (calls.Scan prefix after limit) answer answered next = absurd (false≢true answered)
  of_call (calls.Get name) (answers.Found bytes) answered next =
      of_nothing (calls.Get name) (answers.Found bytes)
      (of_version name bytes (and_parts (all_scanned history) (list_any (bytes_eq name) (version_names history)) (and_parts (all_scanned history && list_any (bytes_eq name) (version_names history)) (not (has_got history name)) next).0).1) refl
  of_call (calls.Get name) answers.Absent answered next = of_nothing (calls.Get name) answers.Absent refl refl
  of_call (calls.Get name) answers.Failed answered next = of_nothing (calls.Get name) answers.Failed refl refl
  of_call (calls.Get name) answer answered next = absurd (false≢true answered)
  of_call (calls.Put name bytes) answer answered next = absurd (false≢true next)
  of_call (calls.Delete name) answer answered next = absurd (false≢true next)

of_read : (history : List DoorEntry) (by : By) (act : DoorAct) → IsTrue (same_line opening by) → opens act ≡ false → IsTrue (is_answered act) → IsTrue (may_read history act) → committed_by (record { by = by; act = act }) ≡ on_pages by act
of_read history by (Call node inc asked answer) own shut answered may =
    let parts = and_parts (same_incarnation the_office (incarnation node inc) && not (has_failed history)) (is_next_read history asked) may in
    of_call history by own node inc (and_parts (same_incarnation the_office (incarnation node inc)) (not (has_failed history)) parts.0).0 asked answer answered parts.1
of_read history by Opened own shut answered may = absurd (true≢false shut)
of_read history by act own shut answered may = absurd (false≢true may)

-- ---- all reads

committed_from : (before entries : List DoorEntry) → IsTrue (each_after may_follow before entries) → IsFalse (is_open (before ++ entries)) → committed entries ≡ commits_on (scan_pages the_office opening records_prefix entries)
committed_from before [] legal shut = refl
committed_from before (entry ∷ entries) legal shut =
    let parts = and_parts (may_follow before entry) (each_after may_follow (before ++ entry ∷ []) entries) legal in
    let split = or_parts (is_open before) (is_open (entry ∷ entries)) (sym (list_any-append (λ (x : DoorEntry). opens x.act) before (entry ∷ entries)) ∙ shut) in
    let here = or_parts (opens entry.act) (is_open entries) split.1 in
    let follows = and_parts (is_answered entry.act) (if is_open before then may_come before entry.act else may_open before entry) parts.0 in
    let rule = subst (λ t. IsTrue (if t then may_come before entry.act else may_open before entry)) split.0 follows.1 in
    let both = and_parts (same_line opening entry.by) (may_read before entry.act) rule in
    ap (λ (cs : List Commit). cs ++ committed entries) (of_read before entry.by entry.act both.0 here.0 follows.0 both.1)
    ∙ ap (λ (cs : List Commit). on_pages entry.by entry.act ++ cs) (committed_from (before ++ entry ∷ []) entries parts.1 (ap is_open (append_assoc before (entry ∷ []) entries) ∙ shut))
    ∙ sym (flat_map-append records_in (flat_map (λ (page : ScanPage). page.listed) (its_pages entry)) (flat_map (λ (page : ScanPage). page.listed) (scan_pages the_office opening records_prefix entries)))
    ∙ ap recorded (sym (flat_map-append (λ (page : ScanPage). page.listed) (its_pages entry) (scan_pages the_office opening records_prefix entries)))
  where
    its_pages : DoorEntry → List ScanPage
    its_pages e = if same_line opening e.by then page_in the_office records_prefix e.act else []

-- ---- up to where the door was opened

first_cons : (entry : DoorEntry) (entries : List DoorEntry) → before_open (entry ∷ entries) ≡ (if opens entry.act then [] else entry ∷ before_open entries)
first_cons entry entries = by_test (opens entry.act)
  where
    one_more : (n : ℕ) → take (1 + n) (entry ∷ entries) ≡ entry ∷ take n entries
    one_more n = ap (λ (k : ℕ). take k (entry ∷ entries)) (let e : 1 + n ≡ suc n = omega arith in e)

    by_test : (t : Bool) → take (cond (not t) (1 + position_or_len (λ (e : DoorEntry). opens e.act) entries) 0) (entry ∷ entries) ≡ (if t then [] else entry ∷ before_open entries)
    by_test true = refl
    by_test false = one_more (position_or_len (λ (e : DoorEntry). opens e.act) entries)

before_is : (before rest : List DoorEntry) → AreReads before → before_open (before ++ door_opened opening ∷ rest) ≡ before
before_is [] rest reads = first_cons (door_opened opening) rest
before_is (entry ∷ before) rest reads =
    let parts = and_parts (is_reading entry) (list_all is_reading before) reads in
    first_cons entry (before ++ door_opened opening ∷ rest)
    ∙ ap (λ (t : Bool). if t then [] else entry ∷ before_open (before ++ door_opened opening ∷ rest)) (call_opens entry.act (and_parts (same_line opening entry.by) (is_call entry.act) parts.0).1)
    ∙ ap (λ (es : List DoorEntry). entry ∷ es) (before_is before rest parts.1)

-- what an office that has done nothing has heard of, by the audit
pub heard_so : (commits : List Commit) (audited rest : List DoorEntry) → (opened : HasOpened commits audited) → Legal audited → heard (audited ++ rest) [] ≡ ids_of commits
heard_so commits audited rest opened legal =
    ap (λ (es : List DoorEntry). ids_of (committed (before_open es))) (ap (λ (h : List DoorEntry). h ++ rest) opened.ends ∙ append_assoc opened.before (door_opened opening ∷ []) rest)
    ∙ ap (λ (es : List DoorEntry). ids_of (committed es)) (before_is opened.before rest (its_reads commits audited opened legal))
    ∙ ap ids_of (committed_from [] opened.before (each_after_snoc may_follow [] opened.before (door_opened opening) (subst Legal opened.ends legal)).0 opened.reading.closed ∙ sym opened.tells)
