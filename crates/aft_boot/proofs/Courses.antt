-- The course of an opening by the turns that it made.
use Rattle.std.proofs.Common.{◌≡◌, ◌+◌, ◌≤◌, ℕ, zero, suc, Bool, true, false, ◌&&◌, List, [], ◌∷◌, ◌++◌, eqb, length, refl, sym, ap, subst, ◌∙◌, append-nil, append_assoc, arith}
use Rattle.std.specs.Prelude.{IsTrue, None, Option, Some, if◌then◌else◌, map}
use Rattle.std.specs.List.{flat_map, list_all, range_with_len}
use Rattle.std.specs.Str.{bytes_eq}
use Rattle.std.proofs.lemmas.Bool.{and_from, and_parts, eq-eqb, false≢true, or_left, or_right}
use Rattle.aft_keeper.specs.declared.keeper.KeeperAnswer.{KeeperAnswer}
use Rattle.aft_keeper.specs.declared.keeper.KeeperAnswer.TheVariants as answers
use Rattle.aft_keeper.specs.declared.keeper.Pair.{Pair}
use Rattle.aft_model.specs.declared.door.DoorAct.{DoorAct}
use Rattle.aft_model.specs.declared.door.DoorAct.TheVariants.{Call, Opened, Up}
use Rattle.aft_model.specs.declared.door.DoorEntry.{DoorEntry}
use Rattle.aft_model.specs.DoorKnowledge.{opens}
use Rattle.aft_model.specs.Membership.{incarnation, same_incarnation}
use Rattle.aft_model.specs.Opening.{opening}
use Rattle.aft_model.specs.Readings.{has_reading}
use Rattle.aft_model.specs.ScanRun.{ends, goes_on, is_scan_run, next_after, same_line}
use Rattle.aft_model.specs.Sound.{records_prefix}
use Rattle.aft_model.proofs.OneCommit.{same_itself}
use Rattle.aft_model.proofs.Sights.{bytes_eq-refl, same_bytes}
use Rattle.aft_door.specs.Entries.{door_opened}
use Rattle.aft_lines.specs.CourseWords.{is_over}
use Rattle.aft_lines.specs.OpeningCourse.{boot_scan_course, boot_scan_so_far, boots_course, boots_so_far, opening_course, opens_so_far}
use Rattle.aft_lines.specs.ScanCourse.{Scanned, behind_good_page, behind_page, names_limit, scanned, scanned_from, stopped_at, stops_at}
use Rattle.aft_lines.specs.Turns.{AtDoor, AtNode, Turn, door_turns}
use Rattle.aft_boot.specs.Booted.{AreRead, PageAt, listed_on, page_act, page_turn, scan_page}
use Rattle.aft_boot.specs.FirstBoots.{FirstBoot, FollowFrom, boot_entries, boot_turns, first_entry, last_entry}
use Rattle.aft_boot.proofs.Audited.{AreReads, is_call, is_reading}
use Rattle.aft_boot.proofs.MadeTurns.{boot_door_turns}
use Rattle.aft_boot.proofs.PageRuns.{Fine, fine_all, fine_first, fine_rest, good}

-- ---- a scan of the records by pages

module _ (node : ℕ) where
  -- the rest of a scan from a name on, behind what was listed
  abbrev scans_on : List ℕ → List Pair → List Turn → Scanned
  scans_on after listed line = scanned_from names_limit (incarnation node 1) records_prefix after listed line

  its_call : (after : List ℕ) → IsTrue (same_incarnation (incarnation node 1) (incarnation node 1) && bytes_eq records_prefix records_prefix && bytes_eq after after && eqb 64 64)
  its_call after = and_from _ _ (and_from _ _ (and_from _ _ (same_itself (incarnation node 1)) refl) (bytes_eq-refl after)) refl

  -- one page
  paged : (place : ℕ) (after : List ℕ) (listed pairs : List Pair) (rest : List Turn) → length listed + length pairs ≤ 20000 → IsTrue (list_all has_reading pairs)
      → scans_on after listed (AtDoor place (page_act node 1 after (answers.Page pairs)) ∷ rest) ≡ behind_good_page (listed ++ pairs) (next_after (record { after = after; listed = pairs })) (λ next. scans_on next (listed ++ pairs) rest) rest
  paged place after listed pairs rest few readable =
      ap (λ (t : Bool). if t then behind_page names_limit listed pairs (next_after (record { after = after; listed = pairs })) (λ next. scans_on next (listed ++ pairs) rest) rest else stopped_at listed (AtDoor place (page_act node 1 after (answers.Page pairs)) ∷ rest)) (its_call after)
      ∙ ap (λ (t : Bool). if t then stopped_at (listed ++ pairs) rest else behind_good_page (listed ++ pairs) (next_after (record { after = after; listed = pairs })) (λ next. scans_on next (listed ++ pairs) rest) rest) (good listed pairs few readable)

  -- the page at the beginning, by where the run goes on behind it
  page_to : (page : PageAt) (from : List ℕ) (listed : List Pair) (rest : List Turn) (next : Option (List ℕ)) → bytes_eq page.after from ≡ true → next_after (scan_page page) ≡ next → length listed + length page.listed ≤ 20000 → IsTrue (list_all has_reading page.listed)
      → scans_on from listed (page_turn node 1 page ∷ rest) ≡ behind_good_page (listed ++ page.listed) next (λ name. scans_on name (listed ++ page.listed) rest) rest
  page_to page from listed rest next here its few readable =
      ap (λ (name : List ℕ). scans_on name listed (page_turn node 1 page ∷ rest)) (sym (same_bytes page.after from here))
      ∙ paged page.place page.after listed page.listed rest few readable
      ∙ ap (λ (o : Option (List ℕ)). behind_good_page (listed ++ page.listed) o (λ name. scans_on name (listed ++ page.listed) rest) rest) its

  -- pages to the end
  abbrev whole_at : List Turn → List Pair → Scanned
  whole_at rest listed = record { listed = listed; is_whole = true; behind = rest }

  all_pages : (pages : List PageAt) (from : List ℕ) (listed : List Pair) (rest : List Turn) → IsTrue (ends (Some from) (map scan_page pages)) → Fine listed pages → scans_on from listed (map (page_turn node 1) pages ++ rest) ≡ whole_at rest (listed ++ listed_on pages)
  all_pages [] from listed rest whole fine = absurd (false≢true whole)
  all_pages (page ∷ pages) from listed rest whole fine =
      by_next pages (next_after (scan_page page)) refl parts.1 (λ next more. all_pages pages next (listed ++ page.listed) rest more (fine_rest listed page pages fine))
    where
      parts : IsTrue (bytes_eq page.after from) × IsTrue (ends (next_after (scan_page page)) (map scan_page pages))
      parts = and_parts (bytes_eq page.after from) (ends (next_after (scan_page page)) (map scan_page pages)) whole

      first : (length listed + length page.listed ≤ 20000) × IsTrue (list_all has_reading page.listed)
      first = fine_first listed page pages fine

      by_next : (others : List PageAt) (next : Option (List ℕ)) → next_after (scan_page page) ≡ next → IsTrue (ends next (map scan_page others))
          → ((name : List ℕ) → IsTrue (ends (Some name) (map scan_page others)) → scans_on name (listed ++ page.listed) (map (page_turn node 1) others ++ rest) ≡ whole_at rest ((listed ++ page.listed) ++ listed_on others))
          → scans_on from listed (page_turn node 1 page ∷ (map (page_turn node 1) others ++ rest)) ≡ whole_at rest (listed ++ (page.listed ++ listed_on others))
      by_next [] None its more on =
          page_to page from listed rest None parts.0 its first.0 first.1 ∙ ap (λ (l : List Pair). whole_at rest (listed ++ l)) (sym (append-nil page.listed))
      by_next (q ∷ others) None its more on = absurd (false≢true more)
      by_next others (Some name) its more on =
          page_to page from listed (map (page_turn node 1) others ++ rest) (Some name) parts.0 its first.0 first.1
          ∙ on name more
          ∙ ap (whole_at rest) (append_assoc listed page.listed (listed_on others))

  pub whole_pages : (pages : List PageAt) (rest : List Turn) → IsTrue (is_scan_run (map scan_page pages)) → AreRead pages → scanned names_limit (incarnation node 1) records_prefix (map (page_turn node 1) pages ++ rest) ≡ whole_at rest ([] ++ listed_on pages)
  whole_pages pages rest whole read = all_pages pages [] [] rest whole (fine_all pages read)

  -- ---- one that stopped

  -- nothing is behind the last call
  pub nothing_behind : (place : ℕ) (after : List ℕ) (listed : List Pair) (answer : KeeperAnswer) → IsTrue (is_over (scans_on after listed (AtDoor place (page_act node 1 after answer) ∷ [])).behind)
  nothing_behind place after listed answer = by_answer answer
    where
      by_next : (pairs : List Pair) (next : Option (List ℕ)) → IsTrue (is_over (behind_good_page (listed ++ pairs) next (λ name. scans_on name (listed ++ pairs) []) []).behind)
      by_next pairs None = refl
      by_next pairs (Some name) = refl

      by_stop : (t : Bool) (pairs : List Pair) → IsTrue (is_over (if t then stopped_at (listed ++ pairs) [] else behind_good_page (listed ++ pairs) (next_after (record { after = after; listed = pairs })) (λ name. scans_on name (listed ++ pairs) []) []).behind)
      by_stop true pairs = refl
      by_stop false pairs = by_next pairs (next_after (record { after = after; listed = pairs }))

      at_call : (stopped : Scanned) (other : Scanned) → IsTrue (is_over stopped.behind) → IsTrue (is_over (if same_incarnation (incarnation node 1) (incarnation node 1) && bytes_eq records_prefix records_prefix && bytes_eq after after && eqb 64 64 then stopped else other).behind)
      at_call stopped other over = subst (λ (t : Bool). IsTrue (is_over (if t then stopped else other).behind)) (sym (its_call after)) over

      by_answer : (a : KeeperAnswer) → IsTrue (is_over (scans_on after listed (AtDoor place (page_act node 1 after a) ∷ [])).behind)
      by_answer (answers.Page pairs) = at_call (behind_page names_limit listed pairs (next_after (record { after = after; listed = pairs })) (λ name. scans_on name (listed ++ pairs) []) []) (stopped_at listed (AtDoor place (page_act node 1 after (answers.Page pairs)) ∷ [])) (by_stop (stops_at names_limit listed pairs) pairs)
      by_answer answers.Failed = at_call (stopped_at listed []) (stopped_at listed (AtDoor place (page_act node 1 after answers.Failed) ∷ [])) refl
      by_answer answers.Absent = at_call (stopped_at listed []) (stopped_at listed (AtDoor place (page_act node 1 after answers.Absent) ∷ [])) refl
      by_answer answers.Done = at_call (stopped_at listed []) (stopped_at listed (AtDoor place (page_act node 1 after answers.Done) ∷ [])) refl
      by_answer (answers.Found bytes) = at_call (stopped_at listed []) (stopped_at listed (AtDoor place (page_act node 1 after (answers.Found bytes)) ∷ [])) refl

  -- pages on their way, and maybe one call more
  pub stopped_pages : (pages : List PageAt) (from after : List ℕ) (listed : List Pair) (more : List Turn) → goes_on (Some from) (map scan_page pages) ≡ Some after → Fine listed pages → ((l : List Pair) → IsTrue (is_over (scans_on after l more).behind)) → IsTrue (is_over (scans_on from listed (map (page_turn node 1) pages ++ more)).behind)
  stopped_pages [] from after listed more goes fine over = subst (λ (name : List ℕ). IsTrue (is_over (scans_on name listed more).behind)) (one_name after from (sym goes)) (over listed)
    where
      one_name : (a b : List ℕ) → Some a ≡ Some b → a ≡ b
      one_name a b e = cc
  stopped_pages (page ∷ pages) from after listed more goes fine over =
      by_name (bytes_eq page.after from) refl goes (λ next on. stopped_pages pages next after (listed ++ page.listed) more on (fine_rest listed page pages fine) over)
    where
      first : (length listed + length page.listed ≤ 20000) × IsTrue (list_all has_reading page.listed)
      first = fine_first listed page pages fine

      none_some : (name : List ℕ) → None ≡ Some name → ⊥
      none_some name e = cc

      nothing_more : (others : List PageAt) (name : List ℕ) → goes_on None (map scan_page others) ≡ Some name → ⊥
      nothing_more [] name e = none_some name e
      nothing_more (p ∷ others) name e = none_some name e

      by_name : (t : Bool) → bytes_eq page.after from ≡ t → (if t then goes_on (next_after (scan_page page)) (map scan_page pages) else None) ≡ Some after
          → ((next : List ℕ) → goes_on (Some next) (map scan_page pages) ≡ Some after → IsTrue (is_over (scans_on next (listed ++ page.listed) (map (page_turn node 1) pages ++ more)).behind))
          → IsTrue (is_over (scans_on from listed (page_turn node 1 page ∷ (map (page_turn node 1) pages ++ more))).behind)
      by_name false here goes on = absurd (none_some after goes)
      by_name true here goes on = by_next (next_after (scan_page page)) refl goes
        where
          by_next : (next : Option (List ℕ)) → next_after (scan_page page) ≡ next → goes_on next (map scan_page pages) ≡ Some after → IsTrue (is_over (scans_on from listed (page_turn node 1 page ∷ (map (page_turn node 1) pages ++ more))).behind)
          by_next None its goes = absurd (nothing_more pages after goes)
          by_next (Some next) its goes =
              subst (λ (s : Scanned). IsTrue (is_over s.behind)) (sym (page_to page from listed (map (page_turn node 1) pages ++ more) (Some next) here its first.0 first.1)) (on next goes)

-- ---- behind the audit

pub call_opens : (act : DoorAct) → IsTrue (is_call act) → opens act ≡ false
call_opens (Call node inc asked answer) is = refl
call_opens act is = absurd (false≢true is)

-- what comes of a course that reads until the door is open
pub behind_audit : (f g : List Turn → Bool) → ((place : ℕ) (act : DoorAct) (line : List Turn) → f (AtDoor place act ∷ line) ≡ (if opens act then g line else f line)) → (place : ℕ) (before : List DoorEntry) (rest : List Turn) → AreReads before → f (door_turns opening place (before ++ door_opened opening ∷ []) ++ rest) ≡ g rest
behind_audit f g steps place [] rest reads = steps place Opened rest
behind_audit f g steps place (entry ∷ before) rest reads =
    let parts = and_parts (is_reading entry) (list_all is_reading before) reads in
    let its = and_parts (same_line opening entry.by) (is_call entry.act) parts.0 in
    ap (λ (t : Bool). f (((if t then AtDoor place entry.act ∷ [] else []) ++ door_turns opening (suc place) (before ++ door_opened opening ∷ [])) ++ rest)) its.0
    ∙ steps place entry.act (door_turns opening (suc place) (before ++ door_opened opening ∷ []) ++ rest)
    ∙ ap (λ (t : Bool). if t then g (door_turns opening (suc place) (before ++ door_opened opening ∷ []) ++ rest) else f (door_turns opening (suc place) (before ++ door_opened opening ∷ []) ++ rest)) (call_opens entry.act its.1)
    ∙ behind_audit f g steps (suc place) before rest parts.1

-- one that was refused on its way
pub on_audit : (nodes : List ℕ) (place : ℕ) (entries : List DoorEntry) → AreReads entries → IsTrue (opens_so_far nodes (door_turns opening place entries))
on_audit nodes place [] reads = refl
on_audit nodes place (entry ∷ entries) reads =
    let parts = and_parts (is_reading entry) (list_all is_reading entries) reads in
    let its = and_parts (same_line opening entry.by) (is_call entry.act) parts.0 in
    subst (λ (t : Bool). IsTrue (opens_so_far nodes ((if t then AtDoor place entry.act ∷ [] else []) ++ door_turns opening (suc place) entries))) (sym its.0)
    (subst (λ (t : Bool). IsTrue (if t then boots_so_far nodes (door_turns opening (suc place) entries) else opens_so_far nodes (door_turns opening (suc place) entries))) (sym (call_opens entry.act its.1))
    (on_audit nodes (suc place) entries parts.1))

-- ---- the boots

boots_course_so : (from count place : ℕ) (boots : List FirstBoot) → map (λ (boot : FirstBoot). boot.node) boots ≡ range_with_len from count → FollowFrom place boots → IsTrue (boots_course (range_with_len from count) (flat_map boot_turns boots))
boots_course_so from zero place [] numbers follow = refl
boots_course_so from (suc count) place [] numbers follow = absurd (cc)
boots_course_so from zero place (boot ∷ boots) numbers follow = absurd (cc)
boots_course_so from (suc count) place (boot ∷ boots) numbers (begins, stands, follow) =
    subst (λ (n : ℕ). IsTrue (boots_course (n ∷ range_with_len (from + 1) count) (flat_map boot_turns (boot ∷ boots)))) here
    (and_from _ _ (eq-eqb boot.node boot.node refl)
    (and_from _ _ (same_itself (incarnation boot.node 1))
    (subst (λ (s : Scanned). IsTrue (boot_scan_course (incarnation boot.node 1) (boots_course (range_with_len (from + 1) count)) s)) (sym scans)
    (and_from _ _ refl (and_from _ _ (and_from _ _ (eq-eqb boot.node boot.node refl) refl) (boots_course_so (from + 1) count (place + length (boot_entries boot)) boots (cc) follow))))))
  where
    here : boot.node ≡ from
    here = cc

    scans : scanned names_limit (incarnation boot.node 1) records_prefix ((map (page_turn boot.node 1) boot.pages ++ AtNode boot.node (first_entry boot ∷ []) (last_entry boot) ∷ []) ++ flat_map boot_turns boots) ≡ whole_at boot.node (AtNode boot.node (first_entry boot ∷ []) (last_entry boot) ∷ flat_map boot_turns boots) ([] ++ listed_on boot.pages)
    scans =
        ap (scanned names_limit (incarnation boot.node 1) records_prefix) (append_assoc (map (page_turn boot.node 1) boot.pages) (AtNode boot.node (first_entry boot ∷ []) (last_entry boot) ∷ []) (flat_map boot_turns boots))
        ∙ whole_pages boot.node boot.pages (AtNode boot.node (first_entry boot ∷ []) (last_entry boot) ∷ flat_map boot_turns boots) stands.whole stands.read

-- the course of a whole opening
pub whole_course : (count : ℕ) (before : List DoorEntry) (boots : List FirstBoot) → AreReads before → map (λ (boot : FirstBoot). boot.node) boots ≡ range_with_len 1 count → FollowFrom (length (before ++ door_opened opening ∷ [])) boots
    → IsTrue (opening_course (range_with_len 1 count) (door_turns opening 0 (before ++ door_opened opening ∷ []) ++ flat_map boot_turns boots))
whole_course count before boots reads numbers follow =
    behind_audit (opening_course (range_with_len 1 count)) (boots_course (range_with_len 1 count)) (λ place act line. refl) 0 before (flat_map boot_turns boots) reads
    ∙ boots_course_so 1 count (length (before ++ door_opened opening ∷ [])) boots numbers follow

-- ---- the beginning of one, at the door alone

pub over_so_far : (nodes : List ℕ) → IsTrue (boots_so_far nodes [])
over_so_far [] = refl
over_so_far (node ∷ nodes) = refl

-- the boots of some nodes, and then the beginning of those of the others
pub boots_on : (from count others place : ℕ) (boots : List FirstBoot) (tail : List Turn) → map (λ (boot : FirstBoot). boot.node) boots ≡ range_with_len from count → FollowFrom place boots → IsTrue (boots_so_far (range_with_len (from + count) others) tail) → IsTrue (boots_so_far (range_with_len from (count + others)) (flat_map boot_door_turns boots ++ tail))
boots_on from zero others place [] tail numbers follow begins =
    let at : from + 0 ≡ from = omega arith in let all : others ≡ 0 + others = omega arith in
    subst (λ (n : ℕ). IsTrue (boots_so_far (range_with_len from n) tail)) all (subst (λ (n : ℕ). IsTrue (boots_so_far (range_with_len n others) tail)) at begins)
boots_on from (suc count) others place [] tail numbers follow begins = absurd (cc)
boots_on from zero others place (boot ∷ boots) tail numbers follow begins = absurd (cc)
boots_on from (suc count) others place (boot ∷ boots) tail numbers (its, stands, follow) begins =
    subst (λ (m : ℕ). IsTrue (boots_so_far (range_with_len from m) (flat_map boot_door_turns (boot ∷ boots) ++ tail))) one_more
    (subst (λ (n : ℕ). IsTrue (boots_so_far (n ∷ range_with_len (from + 1) (count + others)) (flat_map boot_door_turns (boot ∷ boots) ++ tail))) here
    (and_from _ _ (and_from _ _ (eq-eqb boot.node boot.node refl) refl)
    (subst (λ (s : Scanned). IsTrue (boot_scan_so_far (boots_so_far (range_with_len (from + 1) (count + others))) s)) (sym scans)
    (or_right _ _ (boots_on (from + 1) count others (place + length (boot_entries boot)) boots tail (cc) follow
    (let along : from + suc count ≡ from + 1 + count = omega arith in subst (λ (n : ℕ). IsTrue (boots_so_far (range_with_len n others) tail)) along begins))))))
  where
    here : boot.node ≡ from
    here = cc

    one_more : suc (count + others) ≡ suc count + others
    one_more = omega arith

    scans : scanned names_limit (incarnation boot.node 1) records_prefix ((map (page_turn boot.node 1) boot.pages ++ flat_map boot_door_turns boots) ++ tail) ≡ whole_at boot.node (flat_map boot_door_turns boots ++ tail) ([] ++ listed_on boot.pages)
    scans =
        ap (scanned names_limit (incarnation boot.node 1) records_prefix) (append_assoc (map (page_turn boot.node 1) boot.pages) (flat_map boot_door_turns boots) tail)
        ∙ whole_pages boot.node boot.pages (flat_map boot_door_turns boots ++ tail) stands.whole stands.read

-- one that was stopped behind its coming up
pub stopped_on : (node place : ℕ) (pages : List PageAt) (more : List Turn) (nodes : List ℕ) → IsTrue (is_over (scanned names_limit (incarnation node 1) records_prefix (map (page_turn node 1) pages ++ more)).behind) → IsTrue (boots_so_far (node ∷ nodes) (AtDoor place (Up node 1) ∷ (map (page_turn node 1) pages ++ more)))
stopped_on node place pages more nodes over = and_from _ _ (and_from _ _ (eq-eqb node node refl) refl) (or_left _ _ over)
