-- A boot is shown each commit that was committed before its incarnation came up, and not superseded then.
use Rattle.std.proofs.Common.{◌≡◌, ℕ, Bool, true, false, ◌&&◌, ◌||◌, List, [], ◌∷◌, ◌++◌, refl, sym, ap, subst, ◌∙◌, inl, inr, append_assoc, eqb}
use Rattle.std.specs.Prelude.{IsTrue, IsFalse, None, Option, Some, if◌then◌else◌}
use Rattle.std.specs.Cmp.Lexicographic.{pointwise}
use Rattle.std.specs.List.{flat_map}
use Rattle.std.specs.Str.{bytes_eq}
use Rattle.std.proofs.lemmas.Bool.{and_parts, eqb-true, false≢true, or_cases, true≢false}
use Rattle.std.proofs.lemmas.List.Concat.{flat_map-append}
use Rattle.aft_id.specs.TxnId.{IsUuid}
use Rattle.aft_id.specs.declared.txn_id.TxnId.{TxnId}
use Rattle.aft_keeper.specs.Contents.{bytes_at, is_scanned}
use Rattle.aft_keeper.specs.declared.keeper.KeeperAnswer.TheVariants.{Page}
use Rattle.aft_keeper.specs.declared.keeper.KeeperCall.TheVariants.{Scan}
use Rattle.aft_keeper.specs.declared.keeper.Pair.{Pair}
use Rattle.aft_records.specs.Commits.{has_uuid, same_commit}
use Rattle.aft_records.specs.Superseded.{is_superseded}
use Rattle.aft_records.specs.declared.stored.Commit.{Commit}
use Rattle.aft_records.specs.declared.stored.Marker.TheVariants.{Full}
use Rattle.aft_model.specs.declared.caller.By.{By}
use Rattle.aft_model.specs.declared.door.DoorAct.{DoorAct}
use Rattle.aft_model.specs.declared.door.DoorAct.TheVariants as door_acts
use Rattle.aft_model.specs.declared.door.DoorEntry.{DoorEntry}
use Rattle.aft_model.specs.Claims.{given_up, gives_up}
use Rattle.aft_model.specs.Committed.{committed}
use Rattle.aft_model.specs.DoorKnowledge.{is_open, opens}
use Rattle.aft_model.specs.DoorRules.{may_call}
use Rattle.aft_model.specs.Evidence.{covers, shown_pairs}
use Rattle.aft_model.specs.Honest.{Honest, may_be}
use Rattle.aft_model.specs.LegalDoor.{Legal, is_answered, is_page, may_come, may_follow}
use Rattle.aft_model.specs.MayHold.{may_hold}
use Rattle.aft_model.specs.Membership.{Incarnation, incarnation, is_up, same_incarnation, ups}
use Rattle.aft_model.specs.NodeSights.{comes_up, shows_commits}
use Rattle.aft_model.specs.Opening.{may_open, may_read, opening}
use Rattle.aft_model.specs.Readings.{markers_in, record_name, records_in}
use Rattle.aft_model.specs.ScanRun.{ScanPage, commits_on, is_scan_run, page_in, page_limit, same_line, scan_pages}
use Rattle.aft_model.specs.Sound.{records_prefix}
use Rattle.aft_model.proofs.Growth.{any_grows, committed_grows}
use Rattle.aft_model.proofs.Histories.{In, all_append, all_at, any_found, each_after_split, in_back, in_flat_map}
use Rattle.aft_model.proofs.Ids.{same_commits}
use Rattle.aft_model.proofs.Lists.{in_filter}
use Rattle.aft_model.proofs.OneCommit.{same_who}
use Rattle.aft_model.proofs.Sights.{same_bytes}
use Rattle.law_kept.specs.Kept.{Kept, Lawful}
use Rattle.law_kept.specs.Outcomes.{MayBe, NeverAbsent}
use Rattle.law_kept.specs.Tried.{Tried, markers_put}
use Rattle.law_kept.proofs.Always.{lawful_begins}
use Rattle.law_kept.proofs.Fates.{possible}
use Rattle.law_kept.proofs.Gives.{committed_among}
use Rattle.law_kept.proofs.Gone.{flat_map_in}
use Rattle.law_kept.proofs.Steps.{open_stays}
use Rattle.law_scans.specs.Pages.{are_pages}
use Rattle.law_scans.proofs.Answered.{pages_answered}
use Rattle.law_scans.proofs.Runs.{covered_from}
use Rattle.law_scans.proofs.Tells as tells
use Rattle.law_whole.specs.Marks.{MarkedAt}
use Rattle.law_whole.proofs.Lists.{split_at}
use Rattle.law_whole.proofs.Marks.{tried_how, tried_superseded}
use Rattle.law_whole.proofs.Throughout.{its_uuid, kept_open}
use Rattle.law_whole.proofs.Values.{untried_unmarked}
use Rattle.law_boots.proofs.Came.{Came, came, up_between}
use Rattle.law_boots.proofs.Real.{is_committed}
use Rattle.law_boots.proofs.Unasked.{order}

-- ---- small words

-- a page of a caller is the answer to its scan
record IsPageOf (who : Incarnation) (prefix : List ℕ) (page : ScanPage) (act : DoorAct) : Type 0 where
  is : act ≡ door_acts.Call who.node who.inc (Scan prefix page.after page_limit) (Page page.listed)

page_of : (who : Incarnation) (prefix : List ℕ) (page : ScanPage) (act : DoorAct) → In page (page_in who prefix act) → IsPageOf who prefix page act
page_of who prefix page (door_acts.Call node inc (Scan scanned after limit) (Page pairs)) among = cases (same_incarnation who (incarnation node inc) && bytes_eq prefix scanned && eqb limit page_limit) refl among
  where
    call : ℕ → ℕ → List ℕ → ℕ → DoorAct
    call n i p l = door_acts.Call n i (Scan p after l) (Page pairs)

    cases : (t : Bool) → (same_incarnation who (incarnation node inc) && bytes_eq prefix scanned && eqb limit page_limit) ≡ t → In page (if t then record { after = after; listed = pairs } ∷ [] else [])
        → IsPageOf who prefix page (door_acts.Call node inc (Scan scanned after limit) (Page pairs))
    cases false other is = absurd is
    cases true its is =
        let parts = and_parts (same_incarnation who (incarnation node inc) && bytes_eq prefix scanned) (eqb limit page_limit) its in
        let both = and_parts (same_incarnation who (incarnation node inc)) (bytes_eq prefix scanned) parts.0 in
        let caller : who ≡ incarnation node inc = same_who who (incarnation node inc) both.0 in
        let made : call node inc scanned limit ≡ call who.node who.inc prefix page_limit =
        ap (λ (w : Incarnation). call w.node w.inc scanned limit) (sym caller) ∙ (ap (λ p. call who.node who.inc p limit) (sym (same_bytes prefix scanned both.1)) ∙ ap (λ l. call who.node who.inc prefix l) (eqb-true limit page_limit parts.1)) in
        elim is [
          | inl here ↦ record { is = made ∙ ap (λ (p : ScanPage). door_acts.Call who.node who.inc (Scan prefix p.after page_limit) (Page p.listed)) (sym here) }
          | inr none ↦ absurd none
        ]
page_of who prefix page act among = absurd among

-- bytes that stand under a name
stands_in : (name bytes : List ℕ) (pairs : List Pair) → bytes_at name pairs ≡ Some bytes → In (record { name = name; bytes = bytes }) pairs
stands_in name bytes [] is = absurd (let no : None ≡ Some bytes = is in cc)
stands_in name bytes (p ∷ pairs) is = cases (bytes_eq name p.name) refl is (stands_in name bytes pairs)
  where
    pair : List ℕ → List ℕ → Pair
    pair n b = record { name = n; bytes = b }

    cases : (t : Bool) → bytes_eq name p.name ≡ t → (if t then Some p.bytes else bytes_at name pairs) ≡ Some bytes → (bytes_at name pairs ≡ Some bytes → In (pair name bytes) pairs) → In (pair name bytes) (p ∷ pairs)
    cases true same is rest = (let its : p.bytes ≡ bytes = cc in inl (ap (λ n. pair n bytes) (same_bytes name p.name same) ∙ ap (λ b. pair p.name b) (sym its)))
    cases false other is rest = inr (rest is)

-- lists that agree element by element
this_of : (xs ys : List Commit) (x : Commit) → IsTrue (pointwise same_commit xs ys) → In x xs → In x ys
this_of [] ys x same among = absurd among
this_of (a ∷ xs) [] x same among = absurd (false≢true same)
this_of (a ∷ xs) (b ∷ ys) x same (inl here) = (let parts = and_parts (same_commit a b) (pointwise same_commit xs ys) same in inl (here ∙ same_commits a b parts.0))
this_of (a ∷ xs) (b ∷ ys) x same (inr later) = (let parts = and_parts (same_commit a b) (pointwise same_commit xs ys) same in inr (this_of xs ys x parts.1 later))

-- ---- behind the coming up

module _ (who : Incarnation) (of_node : IsFalse (eqb who.node 0)) (before since : List DoorEntry) (one : DoorEntry) (lawful : Lawful (before ++ one ∷ since)) (comes : IsTrue (comes_up who one.act))
    (kept_all : (id : TxnId) → IsFalse (given_up who id (before ++ one ∷ since))) where
  lawful_before : Lawful before
  lawful_before = lawful_begins before (one ∷ since) lawful

  pub opened : IsTrue (is_open before)
  opened =
      let ruled = and_parts (may_follow before one) _ (each_after_split may_follow [] before (one ∷ since) lawful.legal).1 in
      cases (is_open before) refl (and_parts (is_answered one.act) _ ruled.0).1
    where
      shut : (act : DoorAct) → IsTrue (comes_up who act) → IsTrue (may_read before act) → ⊥
      shut (door_acts.Up node inc) is may = false≢true may
      shut act is may = false≢true is

      cases : (t : Bool) → is_open before ≡ t → IsTrue (if t then may_come before one.act else may_open before one) → IsTrue (is_open before)
      cases true is may = is
      cases false is may = absurd (shut one.act comes (and_parts (same_line opening one.by) (may_read before one.act) may).1)

  module _ (d : Commit) (among : In d (committed before)) (top : IsFalse (is_superseded d (committed before))) where
    its : IsUuid d.id.uuid
    its = its_uuid before lawful_before d among

    untried_before : Tried before (Full d) → ⊥
    untried_before tried = true≢false (sym (tried_superseded d before lawful_before its opened tried) ∙ top)

    module _ (first rest : List DoorEntry) (is : since ≡ first ++ rest) (up : IsTrue (is_up who (before ++ one ∷ first))) where
      abbrev so_far : List DoorEntry
      so_far = before ++ one ∷ first

      more : before ++ one ∷ since ≡ so_far ++ rest
      more = ap (λ (l : List DoorEntry). before ++ one ∷ l) is ∙ sym (append_assoc before (one ∷ first) rest)

      lawful_then : Lawful so_far
      lawful_then = lawful_begins so_far rest (subst Lawful more lawful)

      opened_then : IsTrue (is_open so_far)
      opened_then = any_grows (λ (e : DoorEntry). opens e.act) before (one ∷ first) opened

      no_put : (act : DoorAct) → IsTrue (comes_up who act) → In (Full d) (markers_put act) → ⊥
      no_put (door_acts.Up node inc) is_up_act put = put
      no_put act is_up_act put = false≢true is_up_act

      kept_id : (at : MarkedAt d so_far) (m : List DoorEntry) → at.before ≡ before ++ one ∷ m → ⊥
      kept_id at m later =
          let up_there : IsTrue (is_up who at.before) =
          up_between who at.before (at.entry ∷ at.after) (subst Legal at.parts lawful_then.legal) (subst (Came who) (sym later) (came who before m one comes)) (subst (λ (h : List DoorEntry). IsTrue (is_up who h)) at.parts up) in
          let i = any_found (same_incarnation who) (ups at.before) up_there in
          let gave = all_at (λ (w : Incarnation). eqb w.node 0 || given_up w d.id at.before) i.0 (ups at.before) i.1 at.given_up in
          let by_who = subst (λ (w : Incarnation). IsTrue (eqb w.node 0 || given_up w d.id at.before)) (sym (same_who who i.0 i.2)) gave in
          let whole : before ++ one ∷ since ≡ at.before ++ ((at.entry ∷ at.after) ++ rest) = more ∙ (ap (λ (l : List DoorEntry). l ++ rest) at.parts ∙ append_assoc at.before (at.entry ∷ at.after) rest) in
          elim (or_cases (eqb who.node 0) (given_up who d.id at.before) by_who) [
            | inl zero ↦ true≢false (sym zero ∙ of_node)
            | inr given ↦ true≢false (sym (subst (λ (h : List DoorEntry). IsTrue (given_up who d.id h)) (sym whole) (any_grows (λ (e : DoorEntry). gives_up who d.id e.act) at.before ((at.entry ∷ at.after) ++ rest) given)) ∙ kept_all d.id)
          ]

      by_place : MarkedAt d so_far → ⊥
      by_place at = elim (order at.before at.entry at.after before one first (sym at.parts)) [
        | inl later ↦ kept_id at later.0 later.1
        | inr others ↦ elim others [
          | inl same ↦ no_put one.act comes (subst (λ (e : DoorEntry). In (Full d) (markers_put e.act)) same.1 at.puts)
          | inr earlier ↦ untried_before (inl (subst (λ (h : List DoorEntry). In (Full d) (flat_map (λ (e : DoorEntry). markers_put e.act) h)) (sym earlier.1)
              (flat_map_in (λ (e : DoorEntry). markers_put e.act) (Full d) at.entry (at.before ++ at.entry ∷ earlier.0) (in_back at.entry at.before (at.entry ∷ earlier.0) (inl refl)) at.puts)))
        ]
      ]

      untried : Tried so_far (Full d) → ⊥
      untried tried = elim (tried_how d so_far lawful_then tried) [
        | inl shown ↦ untried_before (inr (subst (λ (l : List DoorEntry). In (Full d) (flat_map markers_in (flat_map (λ (e : DoorEntry). shown_pairs e) l))) (open_stays before (one ∷ first) opened) shown))
        | inr at ↦ by_place at
      ]

      committed_then : In d (committed so_far)
      committed_then = committed_among d so_far (committed_grows d before (one ∷ first) (is_committed d before among))

      kept_then : Kept d.id.uuid so_far
      kept_then = kept_open d.id.uuid its so_far opened_then lawful_then

      there : NeverAbsent (record_name d.id.uuid) so_far
      there = kept_then.there d (committed_then, refl) (untried_unmarked d so_far lawful_then opened_then (is_committed d so_far committed_then) untried)

      -- what a page that covers its name shows of it is its record
      on_page : (pairs : List Pair) → IsTrue (may_be (may_hold (record_name d.id.uuid) so_far) (bytes_at (record_name d.id.uuid) pairs)) → (pair : Pair) × In pair pairs × In d (records_in pair)
      on_page pairs may = cases (bytes_at (record_name d.id.uuid) pairs) refl (possible (may_hold (record_name d.id.uuid) so_far) kept_then.records_known.some (bytes_at (record_name d.id.uuid) pairs) may)
        where
          cases : (o : Option (List ℕ)) → bytes_at (record_name d.id.uuid) pairs ≡ o → MayBe (record_name d.id.uuid) so_far o → (pair : Pair) × In pair pairs × In d (records_in pair)
          cases None at may = absurd (there may)
          cases (Some bytes) at may =
              let known = kept_then.records_known.each bytes may in
              let same : known.1 ≡ d = kept_then.one known.1 d (inr (record { outcome = Some bytes; may = may; among = known.2 })) (inl (committed_then, refl)) in (
                record { name = record_name d.id.uuid; bytes = bytes },
                stands_in (record_name d.id.uuid) bytes pairs at,
                subst (λ (c : Commit). In c (records_in (record { name = record_name d.id.uuid; bytes = bytes }))) same (in_filter (has_uuid d.id.uuid) known.1 (records_in (record { name = record_name d.id.uuid; bytes = bytes })) known.2).0,
              )

    -- ---- on the pages of the run

    module _ (by : By) (commits : List Commit) (shows : IsTrue (shows_commits commits (scan_pages who by records_prefix since))) where
      abbrev pages : List ScanPage
      pages = scan_pages who by records_prefix since

      abbrev own_pages : DoorEntry → List ScanPage
      own_pages e = if same_line by e.by then page_in who records_prefix e.act else []

      answered : IsTrue (are_pages records_prefix pages)
      answered =
          let all = pages_answered who by records_prefix (before ++ one ∷ since) lawful.legal in
          let split = subst (λ (l : List ScanPage). IsTrue (are_pages records_prefix l)) (flat_map-append own_pages before (one ∷ since)) all in
          let test : ScanPage → Bool = λ page. is_page records_prefix page.after page_limit page.listed in
          (all_append test (own_pages one) pages (all_append test (scan_pages who by records_prefix before) (own_pages one ++ pages) split).1).1

      run : IsTrue (is_scan_run pages) × IsTrue (pointwise same_commit (commits_on pages) commits)
      run = and_parts (is_scan_run pages) (pointwise same_commit (commits_on pages) commits) shows

      scanned : IsTrue (is_scanned records_prefix [] (record_name d.id.uuid))
      scanned = refl

      own_page : (t : Bool) (act : DoorAct) (page : ScanPage) → In page (if t then page_in who records_prefix act else []) → In page (page_in who records_prefix act)
      own_page true act page is = is
      own_page false act page is = absurd is

      pub among_shown : In d commits
      among_shown =
          let name : List ℕ = record_name d.id.uuid in
          let page = any_found (λ (p : ScanPage). covers records_prefix p.after page_limit p.listed name) pages (covered_from records_prefix name pages answered [] run.0 scanned) in
          let x = in_flat_map own_pages page.0 since page.1 in
          let at = split_at x.0 since x.1 in
          let call = page_of who records_prefix page.0 x.0.act (own_page (same_line by x.0.by) x.0.act page.0 x.2) in
          let whole : before ++ one ∷ since ≡ (before ++ one ∷ at.0) ++ (x.0 ∷ at.1) = ap (λ (l : List DoorEntry). before ++ one ∷ l) at.2 ∙ sym (append_assoc before (one ∷ at.0) (x.0 ∷ at.1)) in
          let legal = subst Legal whole lawful.legal in
          let ruled = (and_parts (may_follow (before ++ one ∷ at.0) x.0) _ (each_after_split may_follow [] (before ++ one ∷ at.0) (x.0 ∷ at.1) legal).1).0 in
          let open_then : IsTrue (is_open (before ++ one ∷ at.0)) = any_grows (λ (e : DoorEntry). opens e.act) before (one ∷ at.0) opened in
          let come = subst (λ t. IsTrue (if t then may_come (before ++ one ∷ at.0) x.0.act else may_open (before ++ one ∷ at.0) x.0)) open_then (and_parts (is_answered x.0.act) _ ruled).1 in
          let up = (and_parts (is_up who (before ++ one ∷ at.0)) (may_call (before ++ one ∷ at.0) who (Scan records_prefix page.0.after page_limit)) (subst (λ act. IsTrue (may_come (before ++ one ∷ at.0) act)) call.is come)).0 in
          let entry : DoorAct → DoorEntry = λ act. record { by = x.0.by; act = act } in
          let honest = subst (λ (e : DoorEntry). Honest ((before ++ one ∷ at.0) ++ e ∷ at.1)) (ap entry call.is) (subst Honest whole lawful.honest) in
          let may = tells.possible name records_prefix page.0.after who.node who.inc page_limit x.0.by page.0.listed (before ++ one ∷ at.0) at.1 honest page.2 in
          let shown = on_page at.0 (x.0 ∷ at.1) at.2 up page.0.listed may in
          this_of (commits_on pages) commits d run.1
          (flat_map_in records_in d shown.0 (flat_map (λ (p : ScanPage). p.listed) pages) (flat_map_in (λ (p : ScanPage). p.listed) shown.0 page.0 pages page.1 shown.1) shown.2)
