-- What a round of orphans is answered: its counts, which its turns settle; or that it was shown damage; or why its scan wasn't whole.
use Rattle.std.proofs.Common.{◌≡◌, ◌≤◌, ◌++◌, ◌+◌, ◌-◌, ℕ, Bool, true, false, eqb, ◌&&◌, ◌||◌, not, List, [], ◌∷◌, length, filter, refl, sym, ap, subst, ◌∙◌, inl, inr, arith, append-nil}
use Rattle.std.specs.Prelude.{IsTrue, Option, Some, None, if◌then◌else◌, nat_lt}
use Rattle.std.specs.List.{All, flat_map, list_all, list_any}
use Rattle.std.specs.Str.{bytes_eq}
use Rattle.std.proofs.lemmas.Bool.{and_parts, eqb-true, false_from_ne_true, false≢true, le-ltb, not-true, or_cases, or_from, or_left, or_parts, or_right, true_from_ne_false}
use Rattle.std.proofs.lemmas.List.Concat.{flat_map-append}
use Rattle.std.proofs.lemmas.List.Elements.{All-head, All-tail}
use Rattle.std.proofs.lemmas.List.Folds.{list_any-append}
use Rattle.aft_keeper.specs.declared.keeper.KeeperAnswer.TheVariants as answers
use Rattle.aft_keeper.specs.declared.keeper.KeeperCall.TheVariants as calls
use Rattle.aft_keeper.specs.declared.keeper.Pair.{Pair}
use Rattle.aft_model.specs.declared.caller.By.{By}
use Rattle.aft_model.specs.declared.door.DoorAct.{DoorAct}
use Rattle.aft_model.specs.declared.door.DoorAct.TheVariants.{Call}
use Rattle.aft_model.specs.declared.door.DoorEntry.{DoorEntry}
use Rattle.aft_model.specs.declared.office.OfficeAct.{OfficeAct}
use Rattle.aft_model.specs.declared.office.OfficeEntry.{OfficeEntry}
use Rattle.aft_model.specs.declared.reply.Reply.{Reply}
use Rattle.aft_model.specs.declared.reply.Reply.TheVariants as replies
use Rattle.aft_model.specs.declared.script.Command.TheVariants.{Orphans}
use Rattle.aft_model.specs.History.{first_of}
use Rattle.aft_model.specs.Membership.{the_office}
use Rattle.aft_model.specs.Opening.{has_failed, is_failure}
use Rattle.aft_model.specs.Sound.{markers_prefix, records_prefix}
use Rattle.aft_model.proofs.Sights.{same_bytes}
use Rattle.aft_lines.specs.Causes.{ExactlyCaused, cause}
use Rattle.aft_lines.specs.CausesRounds.{counts_way, is_end_deleted, is_end_faulty, is_end_held, is_end_kept}
use Rattle.aft_lines.specs.CausesScans.{damage_in, damaged_names, is_failed_page, is_page_act, is_written_name, listed_in, written_name}
use Rattle.aft_lines.specs.CourseWords.{ends_at_office}
use Rattle.aft_lines.specs.LineView.{LineView, door_entry_in, ends_of, found_service}
use Rattle.aft_lines.specs.OrphanCourse.{VersionAt, Way, found_on, is_cut_short, is_way, orphan_course, round_ways, tells_round, versions_prefix, versions_scan, ways}
use Rattle.aft_lines.specs.ScanCourse.{Scanned, versions_limit}
use Rattle.aft_lines.specs.Turns.{AtDoor, AtNode, AtOffice, Turn}
use Rattle.law_answers.specs.Courses.{keeps_its_course}
use Rattle.law_answers.proofs.Scans.{Run, entries, entries_same, fails, names, run_of}
use Rattle.law_answers.proofs.Served.{never_served}
use Rattle.law_answers.proofs.Settled.{Settles, by_turns, with_turns}
use Rattle.law_answers.proofs.Ways.{Went, is_claiming, is_deleting, is_failing, spoilt, tally, tally_both, ways_go}

-- ---- the turns of its scan

-- whether a page failed
abbrev fails_page : List DoorEntry → Bool
fails_page done = list_any (λ (entry : DoorEntry). is_failed_page entry.act) done

-- a page that failed is a call that failed
page_fails : (act : DoorAct) → IsTrue (is_failed_page act) → IsTrue (is_failure act)
page_fails (Call node inc (calls.Scan prefix after limit) answers.Failed) is = refl
page_fails act is = absurd (false≢true is)

page_failed : (done : List DoorEntry) → has_failed done ≡ false → fails_page done ≡ false
page_failed [] none = refl
page_failed (entry ∷ done) none =
    let parts = or_parts (is_failure entry.act) (has_failed done) none in
    or_from _ _ (false_from_ne_true (is_failed_page entry.act) (λ is. false≢true (sym parts.0 ∙ page_fails entry.act is))) (page_failed done parts.1)

-- pages alone show a round no damage
pages_unspoilt : (done : List DoorEntry) → IsTrue (list_all (λ (entry : DoorEntry). is_page_act entry.act) done) → spoilt done ≡ []
pages_unspoilt [] all = refl
pages_unspoilt (entry ∷ done) all = (let parts = and_parts (is_page_act entry.act) (list_all (λ (entry : DoorEntry). is_page_act entry.act) done) all in
    subst (λ (page : Bool). (if page then [] else damage_in None entry) ++ spoilt done ≡ []) (sym parts.0) (pages_unspoilt done parts.1))

-- ---- its ways

-- where one of the ways that pass a test passes another too, there is one, with what all have
found_way : (P : Way → Type 0) (kept test : Way → Bool) (some : List Way) → All P some → IsTrue (list_any test (filter kept some)) → (way : Way) × P way × IsTrue (kept way) × IsTrue (test way)
found_way P kept test [] all there = absurd (false≢true there)
found_way P kept test (way ∷ some) all there = cases (kept way) refl there (found_way P kept test some (All-tail P way some all))
  where
    cases : (own : Bool) → kept way ≡ own → IsTrue (list_any test (if own then way ∷ filter kept some else filter kept some)) → (IsTrue (list_any test (filter kept some)) → (one : Way) × P one × IsTrue (kept one) × IsTrue (test one)) → (one : Way) × P one × IsTrue (kept one) × IsTrue (test one)
    cases false e is more = more is
    cases true e is more = elim (or_cases (test way) (list_any test (filter kept some)) is) [ inl first ↦ (way, All-head P way some all, e, first) | inr rest ↦ more rest ]

-- a line that ends at the office has one turn there
record Alone (line : List Turn) : Type 0 where
  before : List OfficeEntry
  entry : OfficeEntry
  alone : line ≡ AtOffice before entry ∷ []

ends_alone : (test : OfficeAct → Option Reply → Bool) (line : List Turn) → IsTrue (ends_at_office test line) → Alone line
ends_alone test (AtOffice before entry ∷ []) follows = record { before = before; entry = entry; alone = refl }
ends_alone test (AtOffice before entry ∷ turn ∷ line) follows = absurd (false≢true follows)
ends_alone test (AtDoor place act ∷ line) follows = absurd (false≢true follows)
ends_alone test (AtNode node before entry ∷ line) follows = absurd (false≢true follows)
ends_alone test [] follows = absurd (false≢true follows)

none_behind : (by : By) (line : List Turn) → Alone line → entries by line ≡ []
none_behind by line its = ap (λ (l : List Turn). entries by l) its.alone

-- some list isn't empty
some_there : (some : List Way) → IsTrue (not (eqb (length some) 0)) → IsTrue (list_any (λ (way : Way). true) some)
some_there [] there = absurd (false≢true there)
some_there (way ∷ some) there = refl

module _ (view : LineView) (key : List ℕ) (turns : List Turn) where
  abbrev here : LineView
  here = with_turns view (Orphans key) turns

  abbrev scan : Scanned
  scan = versions_scan key turns

  abbrev found : List VersionAt
  found = found_on scan.listed

  run : Run versions_limit view.by the_office (versions_prefix key) [] [] turns scan
  run = run_of versions_limit view.by the_office (versions_prefix key) [] [] turns (omega arith)

  -- what the line did at the door
  abbrev done : List DoorEntry
  done = entries view.by turns

  parted : done ≡ entries view.by run.made ++ entries view.by scan.behind
  parted = ap (λ (l : List Turn). entries view.by l) run.splits ∙ flat_map-append (door_entry_in view.by) run.made scan.behind

  names_parted : (prefix : List ℕ) → names view.by prefix turns ≡ names view.by prefix run.made ++ names view.by prefix scan.behind
  names_parted prefix = ap (λ (es : List DoorEntry). flat_map (λ (entry : DoorEntry). listed_in prefix entry.act) es) parted ∙ flat_map-append (λ (entry : DoorEntry). listed_in prefix entry.act) (entries view.by run.made) (entries view.by scan.behind)

  -- where no page came behind the scan, no other names were listed than of the key's versions
  others_none : (prefix : List ℕ) → bytes_eq prefix (versions_prefix key) ≡ false → names view.by prefix scan.behind ≡ [] → names view.by prefix turns ≡ []
  others_none prefix other none = names_parted prefix ∙ ap (λ (ps : List Pair). ps ++ names view.by prefix scan.behind) (run.others prefix other) ∙ none

  record_names_few : ((prefix : List ℕ) → names view.by prefix scan.behind ≡ []) → (nat_lt 20000 (length (names view.by records_prefix turns)) || nat_lt 20000 (length (names view.by markers_prefix turns))) ≡ false
  record_names_few none = or_from _ _ (ap (λ (ps : List Pair). nat_lt 20000 (length ps)) (others_none records_prefix refl (none records_prefix))) (ap (λ (ps : List Pair). nat_lt 20000 (length ps)) (others_none markers_prefix refl (none markers_prefix)))

  -- its names are few where the scan was whole, or a page failed
  version_names_few : IsTrue (scan.is_whole || fails view.by run.made) → ((prefix : List ℕ) → names view.by prefix scan.behind ≡ []) → nat_lt 6400 (length (names view.by (versions_prefix key) turns)) ≡ false
  version_names_few is none =
      let few : 0 + length (names view.by (versions_prefix key) run.made) ≤ 6400 = run.few is in
      let e : length (names view.by (versions_prefix key) turns) ≡ length (names view.by (versions_prefix key) run.made) =
      ap length (names_parted (versions_prefix key) ∙ ap (λ (ps : List Pair). names view.by (versions_prefix key) run.made ++ ps) (none (versions_prefix key)) ∙ append-nil (names view.by (versions_prefix key) run.made)) in
      le-ltb 6400 (length (names view.by (versions_prefix key) turns)) (omega arith)

  -- ---- a scan that wasn't whole

  abbrev told_stopped : Bool → Option Reply
  told_stopped failed = if failed then None else Some replies.TooManyVersions

  module _ (unwhole : scan.is_whole ≡ false) (behind : entries view.by scan.behind ≡ []) where
    same : done ≡ entries view.by run.made
    same = entries_same view.by turns run.made scan.behind run.splits behind

    none : (prefix : List ℕ) → names view.by prefix scan.behind ≡ []
    none prefix = ap (λ (es : List DoorEntry). flat_map (λ (entry : DoorEntry). listed_in prefix entry.act) es) behind

    failed_few : IsTrue (fails_page done) → nat_lt 6400 (length (names view.by (versions_prefix key) turns)) ≡ false
    failed_few failed = version_names_few (or_right scan.is_whole _ (true_from_ne_false (fails view.by run.made) (λ f. false≢true (sym (page_failed (entries view.by run.made) f) ∙ sym (ap fails_page same) ∙ failed)))) none

    undamaged : damaged_names here ≡ []
    undamaged = ap (λ (es : List DoorEntry). spoilt es) same ∙ pages_unspoilt (entries view.by run.made) run.paged

    failed_told : (failed : Bool) → fails_page done ≡ failed → IsTrue (fails_page done) → None ≡ told_stopped failed
    failed_told true e is = refl
    failed_told false e is = absurd (false≢true (sym e ∙ is))

    many_told : (failed : Bool) → fails_page done ≡ failed → IsTrue (nat_lt 6400 (length (names view.by (versions_prefix key) turns))) → Some replies.TooManyVersions ≡ told_stopped failed
    many_told true e is = absurd (false≢true (sym (failed_few e) ∙ is))
    many_told false e is = refl

    stopped_settles : (failed : Bool) → fails_page done ≡ failed → Settles here (told_stopped failed)
    stopped_settles failed e (replies.Orphans deleted kept held fault) caused = absurd (false≢true (sym unwhole ∙ (and_parts scan.is_whole _ caused).0))
    stopped_settles failed e replies.StoreFault caused = inr (failed_told failed e caused)
    stopped_settles failed e replies.TooManyVersions caused = inr (many_told failed e caused)
    stopped_settles failed e replies.TooManyRecords caused = absurd (false≢true (sym (record_names_few none) ∙ caused))
    stopped_settles failed e (replies.Damaged name) caused = absurd (false≢true (subst (λ (ns : List (List ℕ)). IsTrue (is_written_name name (first_of ns))) undamaged (and_parts (is_written_name name (first_of (damaged_names here))) _ caused).0))
    stopped_settles failed e (replies.NodeDown which inc) caused = inl refl
    stopped_settles failed e replies.Committing caused = absurd (never_served view.hold.attempt (found_service here) caused)
    stopped_settles failed e replies.NoMemory caused = inl refl
    stopped_settles failed e reply caused = absurd (false≢true caused)

  -- ---- a scan that was whole

  abbrev Goes : Way → Type 0
  Goes way = Went view.by 0 0 0 (length found) scan.behind way

  all_go : All Goes (ways (ends_of here) found scan.behind)
  all_go = ways_go view.by (ends_of here) refl found scan.behind

  -- how many versions were deleted, kept, passed over, and met a failed call
  abbrev deleted : ℕ
  deleted = tally is_deleting scan.behind

  abbrev failed : ℕ
  failed = tally is_failing scan.behind

  abbrev claimed : ℕ
  claimed = tally is_claiming scan.behind

  abbrev told_whole : List (List ℕ) → Option Reply
  told_whole [] = Some (replies.Orphans deleted (claimed - (deleted + failed)) (length found - claimed) failed)
  told_whole (name ∷ more) = Some (replies.Damaged (written_name name))

  module _ (way : Way) (went : Goes way) (ends : IsTrue (is_way way)) where
    its : Alone way.behind
    its = ends_alone (tells_round (not (is_cut_short way))) way.behind ends

    way_same : entries view.by scan.behind ≡ entries view.by went.made
    way_same = entries_same view.by scan.behind went.made way.behind went.splits (none_behind view.by way.behind its)

    way_unlisted : (prefix : List ℕ) → names view.by prefix scan.behind ≡ []
    way_unlisted prefix = ap (λ (es : List DoorEntry). flat_map (λ (entry : DoorEntry). listed_in prefix entry.act) es) way_same ∙ went.unlisted prefix

    way_unfailed : IsTrue scan.is_whole → fails_page done ≡ false
    way_unfailed whole =
        ap fails_page parted ∙ list_any-append (λ (entry : DoorEntry). is_failed_page entry.act) (entries view.by run.made) (entries view.by scan.behind)
        ∙ or_from _ _ (page_failed (entries view.by run.made) (run.unfailed whole)) (ap fails_page way_same ∙ went.unfailed)

    -- what is counted is made before the answer
    way_tally : (test : Turn → Bool) → ((before : List OfficeEntry) (entry : OfficeEntry) → test (AtOffice before entry) ≡ false) → tally test scan.behind ≡ tally test went.made
    way_tally test never =
        let a = tally_both test went.made way.behind in
        let s : tally test scan.behind ≡ tally test (went.made ++ way.behind) = ap (λ (l : List Turn). tally test l) went.splits in
        let b : tally test way.behind ≡ 0 = ap (λ (l : List Turn). tally test l) its.alone ∙ ap (λ (b : Bool). length (if b then AtOffice its.before its.entry ∷ [] else [])) (never its.before its.entry) in
        omega arith

    module _ (uncut : is_cut_short way ≡ false) where
      way_undamaged : damaged_names here ≡ []
      way_undamaged =
          ap (λ (es : List DoorEntry). spoilt es) parted ∙ flat_map-append (λ (entry : DoorEntry). if is_page_act entry.act then [] else damage_in None entry) (entries view.by run.made) (entries view.by scan.behind)
          ∙ ap (λ (ns : List (List ℕ)). ns ++ spoilt (entries view.by scan.behind)) (pages_unspoilt (entries view.by run.made) run.paged) ∙ ap (λ (es : List DoorEntry). spoilt es) way_same ∙ went.undamaged uncut

      -- its counts are those of the turns
      counts_told : (d k h f : ℕ) → d ≡ tally is_end_deleted way.ends → k ≡ tally is_end_kept way.ends → h ≡ tally is_end_held way.ends → f ≡ tally is_end_faulty way.ends → Some (replies.Orphans d k h f) ≡ told_whole []
      counts_told d k h f de ke he fe =
          let a = went.deletes in
          let b = went.faults in
          let c = went.claims uncut in
          let w = went.whole uncut in
          let x = way_tally is_deleting (λ before entry. refl) in
          let y = way_tally is_failing (λ before entry. refl) in
          let z = way_tally is_claiming (λ before entry. refl) in
          let d_so : d ≡ deleted = omega arith in
          let f_so : f ≡ failed = omega arith in
          let k_so : k ≡ claimed - (deleted + failed) = omega arith in
          let h_so : h ≡ length found - claimed = omega arith in
          cc

  module _ (whole : IsTrue scan.is_whole) (way : Way) (went : Goes way) (ends : IsTrue (is_way way)) where
    damage_told : (damage : List (List ℕ)) (name : List ℕ) → IsTrue (is_written_name name (first_of damage)) → Some (replies.Damaged name) ≡ told_whole damage
    damage_told [] name is = absurd (false≢true is)
    damage_told (first ∷ more) name is = ap (λ (n : List ℕ). Some (replies.Damaged n)) (same_bytes name (written_name first) is)

    orphans_told : (d k h f : ℕ) → IsTrue (list_any (λ way. not (is_cut_short way) && counts_way d k h f here key way) (round_ways key (ends_of here) turns)) → Some (replies.Orphans d k h f) ≡ told_whole (damaged_names here)
    orphans_told d k h f there =
        let its = found_way Goes is_way (λ way. not (is_cut_short way) && counts_way d k h f here key way) (ways (ends_of here) found scan.behind) all_go there in
        let a = and_parts (not (is_cut_short its.0)) (counts_way d k h f here key its.0) its.3 in
        let p = and_parts (eqb d (tally is_end_deleted its.0.ends) && eqb k (tally is_end_kept its.0.ends) && eqb h (tally is_end_held its.0.ends) && eqb f (tally is_end_faulty its.0.ends)) _ a.1 in
        let q = and_parts (eqb d (tally is_end_deleted its.0.ends) && eqb k (tally is_end_kept its.0.ends) && eqb h (tally is_end_held its.0.ends)) (eqb f (tally is_end_faulty its.0.ends)) p.0 in
        let r = and_parts (eqb d (tally is_end_deleted its.0.ends) && eqb k (tally is_end_kept its.0.ends)) (eqb h (tally is_end_held its.0.ends)) q.0 in
        let s = and_parts (eqb d (tally is_end_deleted its.0.ends)) (eqb k (tally is_end_kept its.0.ends)) r.0 in
        let uncut : is_cut_short its.0 ≡ false = not-true (is_cut_short its.0) a.0 in
        counts_told its.0 its.1 its.2 uncut d k h f (eqb-true d (tally is_end_deleted its.0.ends) s.0) (eqb-true k (tally is_end_kept its.0.ends) s.1) (eqb-true h (tally is_end_held its.0.ends) r.1) (eqb-true f (tally is_end_faulty its.0.ends) q.1)
        ∙ sym (ap told_whole (way_undamaged its.0 its.1 its.2 uncut))

    whole_settles : Settles here (told_whole (damaged_names here))
    whole_settles (replies.Orphans d k h f) caused = inr (orphans_told d k h f (and_parts scan.is_whole _ caused).1)
    whole_settles replies.StoreFault caused = absurd (false≢true (sym (way_unfailed way went ends whole) ∙ caused))
    whole_settles replies.TooManyVersions caused = absurd (false≢true (sym (version_names_few (or_left scan.is_whole _ whole) (way_unlisted way went ends)) ∙ caused))
    whole_settles replies.TooManyRecords caused = absurd (false≢true (sym (record_names_few (way_unlisted way went ends)) ∙ caused))
    whole_settles (replies.Damaged name) caused = inr (damage_told (damaged_names here) name (and_parts (is_written_name name (first_of (damaged_names here))) _ caused).0)
    whole_settles (replies.NodeDown which inc) caused = inl refl
    whole_settles replies.Committing caused = absurd (never_served view.hold.attempt (found_service here) caused)
    whole_settles replies.NoMemory caused = inl refl
    whole_settles reply caused = absurd (false≢true caused)

  orphans_settle : IsTrue (orphan_course key (ends_of here) turns) → (answer : Option Reply) × Settles here answer
  orphans_settle follows = cases scan.is_whole refl follows
    where
      cases : (whole : Bool) → scan.is_whole ≡ whole → IsTrue (if whole then not (eqb (length (round_ways key (ends_of here) turns)) 0) else ends_at_office (tells_round false) scan.behind) → (answer : Option Reply) × Settles here answer
      cases true e is =
          let its = found_way Goes is_way (λ way. true) (ways (ends_of here) found scan.behind) all_go (some_there (round_ways key (ends_of here) turns) is) in
          (told_whole (damaged_names here), whole_settles e its.0 its.1 its.2)
      cases false e is = (told_stopped (fails_page done), stopped_settles e (none_behind view.by scan.behind (ends_alone (tells_round false) scan.behind is)) (fails_page done) refl)

pub orphans_exact : (key : List ℕ) (view : LineView) (reply : Reply) → view.command ≡ Orphans key → IsTrue (keeps_its_course view) → IsTrue (cause view reply) → ExactlyCaused view reply
orphans_exact key view reply e keeps caused = by_turns view (Orphans key) reply e keeps caused (λ turns follows. orphans_settle view key turns follows)
