-- Where the door has just been opened: nothing was written, and what a name holds is what was shown of it, sound as it is together.
use Rattle.std.proofs.Common.{◌≡◌, ℕ, Bool, true, false, ◌&&◌, not, List, [], ◌∷◌, ◌++◌, refl, sym, ap, subst, ◌∙◌, inl, inr}
use Rattle.std.specs.Prelude.{IsTrue, IsFalse, Option, Some, if◌then◌else◌, map, filter}
use Rattle.std.specs.List.{before_first, flat_map, list_all, list_any}
use Rattle.std.proofs.lemmas.Bool.{and_parts, or_parts, false≢true, false_from_ne_true}
use Rattle.aft_keeper.specs.declared.keeper.Pair.{Pair}
use Rattle.aft_keeper.specs.Contents.{is_scanned}
use Rattle.aft_records.specs.declared.stored.Commit.{Commit}
use Rattle.aft_model.specs.declared.door.DoorAct.{DoorAct}
use Rattle.aft_model.specs.declared.door.DoorAct.TheVariants.{Opened}
use Rattle.aft_model.specs.declared.door.DoorEntry.{DoorEntry}
use Rattle.aft_model.specs.Bytes.{are_bytes, acts_bytes}
use Rattle.aft_model.specs.DoorKnowledge.{is_open, opens}
use Rattle.aft_model.specs.Evidence.{covers, pairs_in, shown_pairs, stored_in}
use Rattle.aft_model.specs.LegalDoor.{Legal, may_come, may_follow}
use Rattle.aft_model.specs.MayHold.{OneOf, may_hold}
use Rattle.aft_model.specs.Membership.{the_office}
use Rattle.aft_model.specs.Office.{before_open}
use Rattle.aft_model.specs.Opening as opening
use Rattle.aft_model.specs.Opening.{all_scanned, all_shown, has_failed, has_got, knows_sound, may_open, may_read, version_names}
use Rattle.aft_model.specs.Readings.{is_version_at, version_name}
use Rattle.aft_model.specs.ScanRun.{ScanPage, is_scan_run, page_in, page_limit, same_line, scan_pages}
use Rattle.aft_model.specs.Sound.{is_sound, missing_versions, offenders, pair_offends, recorded}
use Rattle.aft_model.proofs.Histories.{In, all_at, any_found, each_after_snoc, in_back, in_flat_map, in_front}
use Rattle.aft_model.proofs.Lists.{filter_in, in_snoc, map_in}
use Rattle.law_effects.specs.Effects.{Shows, effect_of, proven_by}
use Rattle.law_effects.proofs.Pairs.{act_pair, pair_proves}
use Rattle.law_scans.proofs.Answered.{pages_answered}
use Rattle.law_scans.proofs.Runs.{covered_from}
use Rattle.law_kept.specs.Kept.{Lawful, is_sight, is_write}
use Rattle.law_kept.specs.Outcomes.{MayBe, outcomes}
use Rattle.law_kept.proofs.Fates.{under}
use Rattle.law_kept.proofs.Gone.{flat_map_in}
use Rattle.law_kept.proofs.Quiet.{nothing_new}
use Rattle.law_kept.proofs.Shown.{Seen, ShownIn, Sight, Unseen, held_as_shown, reads_alone, sight_of}
use Rattle.law_kept.proofs.Steps.{before_first-cons}
use Rattle.law_opened.proofs.Acts.{answered_each, none_of_none, page_shows, proven_effect, quiet_stored, shown_bytes, sight_quiet}

-- what comes before the first that passes, where the last alone does
first_last : {A : Type 0} (test : A → Bool) (xs : List A) (x : A) → IsFalse (list_any test xs) → IsTrue (test x) → before_first test (xs ++ x ∷ []) ≡ xs
first_last test [] x none passed = before_first-cons test x [] ∙ ap (λ t. if t then [] else x ∷ before_first test []) passed
first_last test (y ∷ ys) x none passed =
    let parts = or_parts (test y) (list_any test ys) none in
    before_first-cons test y (ys ++ x ∷ []) ∙ (ap (λ t. if t then [] else y ∷ before_first test (ys ++ x ∷ [])) parts.0 ∙ ap (λ zs. y ∷ zs) (first_last test ys x parts.1 passed))

-- what the rule of the opening asked
asked : (history : List DoorEntry) (entry : DoorEntry) → entry.act ≡ Opened → (t : Bool) → is_open history ≡ t → IsTrue (if t then may_come history entry.act else may_open history entry) → IsFalse (is_open history) × IsTrue (knows_sound history)
asked history entry opened true is may = absurd (false≢true (subst (λ act. IsTrue (may_come history act)) opened may))
asked history entry opened false is may = (is, subst (λ act. IsTrue (may_read history act)) opened (and_parts _ _ may).1)

pub record AtOpening (history : List DoorEntry) : Type 0 where
  pub shut : IsFalse (is_open history)
  pub records_run : IsTrue (is_scan_run (opening.record_pages history))
  pub markers_run : IsTrue (is_scan_run (opening.marker_pages history))
  pub sound : IsTrue (is_sound (all_shown history))

module _ (history : List DoorEntry) (entry : DoorEntry) (lawful : Lawful (history ++ entry ∷ [])) (opened : entry.act ≡ Opened) where
  abbrev longer : List DoorEntry
  longer = history ++ entry ∷ []

  legal_before : Legal history
  legal_before = (each_after_snoc may_follow [] history entry lawful.legal).0

  pub at_opening : AtOpening history
  at_opening =
      let rule = (each_after_snoc may_follow [] history entry lawful.legal).1 in
      let both = asked history entry opened (is_open history) refl (and_parts _ _ rule).1 in
      let whole = and_parts (all_scanned history && list_all (has_got history) (version_names history) && not (has_failed history)) (is_sound (all_shown history)) both.1 in
      let read = and_parts (all_scanned history && list_all (has_got history) (version_names history)) (not (has_failed history)) whole.0 in
      let scanned = and_parts (is_scan_run (opening.record_pages history)) (is_scan_run (opening.marker_pages history)) (and_parts (all_scanned history) (list_all (has_got history) (version_names history)) read.0).0 in
      record { shut = both.0; records_run = scanned.0; markers_run = scanned.1; sound = whole.1 }

  pub sights_before : (e : DoorEntry) → In e history → IsTrue (is_sight e.act)
  sights_before e among = reads_alone [] history legal_before at_opening.shut e among

  pub each_entry : (P : DoorAct → Type 0) → P Opened → ((e : DoorEntry) → In e history → P e.act) → (e : DoorEntry) → In e longer → P e.act
  each_entry P now before e among =
      elim (in_snoc e history entry among) [ inl was ↦ before e was | inr here ↦ subst P (sym (ap (λ (x : DoorEntry). x.act) here ∙ opened)) now ]

  pub quiet : (e : DoorEntry) → In e longer → IsFalse (is_write e.act)
  quiet e among = each_entry (λ act. IsFalse (is_write act)) refl (λ x was. sight_quiet x.act (sights_before x was)) e among

  pub only_before : before_open longer ≡ history
  only_before = first_last (λ (e : DoorEntry). opens e.act) history entry at_opening.shut (subst (λ act. IsTrue (opens act)) (sym opened) refl)

  -- what was shown of a name is what it holds, and what it may hold was shown
  pub held : (name : List ℕ) (o : Option (List ℕ)) → ShownIn name longer o → may_hold name longer ≡ OneOf (o ∷ [])
  held name o shown = held_as_shown name longer lawful.honest quiet o shown

  pub held_may : (name : List ℕ) (o : Option (List ℕ)) → ShownIn name longer o → MayBe name longer o
  held_may name o shown = subst (λ m. In o (outcomes m)) (sym (held name o shown)) (inl refl)

  pub held_only : (name : List ℕ) (o p : Option (List ℕ)) → ShownIn name longer o → MayBe name longer p → p ≡ o
  held_only name o p shown may = elim (subst (λ m. In p (outcomes m)) (held name o shown) may) [ inl is ↦ is | inr nowhere ↦ absurd nowhere ]

  pub was_shown : (name : List ℕ) (o : Option (List ℕ)) → MayBe name longer o → ShownIn name longer o
  was_shown name o may = by_sight (sight_of name longer lawful.honest quiet)
    where
      by_sight : Sight name longer → ShownIn name longer o
      by_sight (Unseen unknown none) = absurd (subst (λ m. In o (outcomes m)) unknown may)
      by_sight (Seen p is shown all) = elim (subst (λ m. In o (outcomes m)) is may) [ inl same ↦ subst (λ q. ShownIn name longer q) (sym same) shown | inr nowhere ↦ absurd nowhere ]

  -- the pairs that were shown are what their names hold
  pub pair_of_shown : (name bytes : List ℕ) → ShownIn name longer (Some bytes) → In (under name bytes) (all_shown history)
  pair_of_shown name bytes shown = elim (in_snoc shown.entry history entry shown.among) [
    | inl was ↦ flat_map_in (λ (e : DoorEntry). shown_pairs e) (under name bytes) shown.entry history was (from shown.entry (quiet shown.entry shown.among) shown.shows)
    | inr here ↦ absurd (none (subst (λ act. effect_of name act ≡ Shows (Some bytes)) (ap (λ (x : DoorEntry). x.act) here ∙ opened) shown.shows))
  ]
    where
      none : effect_of name Opened ≡ Shows (Some bytes) → ⊥
      none is = absurd (cc)

      from : (e : DoorEntry) → IsFalse (is_write e.act) → effect_of name e.act ≡ Shows (Some bytes) → In (under name bytes) (shown_pairs e)
      from e still shows = by_side (stored_in e.act) refl (act_pair name bytes e.act (ap proven_by shows))
        where
          by_side : (stored : List Pair) → stored_in e.act ≡ stored → In (under name bytes) (stored_in e.act ++ pairs_in e.act) → In (under name bytes) (pairs_in e.act)
          by_side [] is among = subst (λ ps. In (under name bytes) (ps ++ pairs_in e.act)) is among
          by_side (p ∷ ps) is among = absurd (quiet_stored e.act still p (subst (λ qs. In p qs) (sym is) (inl refl)))

  pub pair_shown : (pair : Pair) → In pair (all_shown history) → ShownIn pair.name longer (Some pair.bytes)
  pair_shown pair among =
      let found = in_flat_map (λ (e : DoorEntry). shown_pairs e) pair history among in
      let e = found.0 in
      let there : In e longer = in_front e history (entry ∷ []) found.1 in
      let proves : proven_by (effect_of pair.name e.act) ≡ Some pair.bytes = pair_proves e.act (answered_each [] history legal_before e found.1) pair (in_back pair (stored_in e.act) (pairs_in e.act) found.2) in
      elim (proven_effect (effect_of pair.name e.act) pair.bytes proves) [
        | inl shows ↦ record { entry = e; among = there; shows = shows }
        | inr writes ↦ absurd (nothing_new [] history e (quiet e there) pair.name (Some pair.bytes) (inl writes))
      ]

  pub pair_made : (pair : Pair) → In pair (all_shown history) → IsTrue (are_bytes pair.bytes)
  pair_made pair among =
      let found = in_flat_map (λ (e : DoorEntry). shown_pairs e) pair history among in
      let made : IsTrue (acts_bytes found.0.act) = all_at (λ (e : DoorEntry). acts_bytes e.act) found.0 longer (in_front found.0 history (entry ∷ []) found.1) lawful.made in
      elim (shown_bytes found.0.act made pair found.2) [ inl both ↦ (and_parts (are_bytes pair.name) (are_bytes pair.bytes) both).1 | inr is ↦ is ]

  -- none of them offends
  pub clean : (pair : Pair) → In pair (all_shown history) → IsFalse (pair_offends (recorded (all_shown history)) pair)
  clean pair among = false_from_ne_true (pair_offends (recorded (all_shown history)) pair) (λ bad.
      none_of_none (offenders (all_shown history)) at_opening.sound pair.name
      (in_front pair.name (map (λ (p : Pair). p.name) (filter (pair_offends (recorded (all_shown history))) (all_shown history))) (flat_map (missing_versions (all_shown history)) (recorded (all_shown history)))
      (map_in (λ (p : Pair). p.name) pair (filter (pair_offends (recorded (all_shown history))) (all_shown history)) (filter_in (pair_offends (recorded (all_shown history))) pair (all_shown history) among bad))))

  -- and each version of what was recorded was shown
  pub version_shown : (c : Commit) → In c (recorded (all_shown history)) → (key : List ℕ) → In key c.keys → IsTrue (list_any (is_version_at key c.id) (all_shown history))
  version_shown c among key its = by_test (list_any (is_version_at key c.id) (all_shown history)) refl
    where
      by_test : (t : Bool) → list_any (is_version_at key c.id) (all_shown history) ≡ t → IsTrue (list_any (is_version_at key c.id) (all_shown history))
      by_test true is = is
      by_test false is =
          absurd (none_of_none (offenders (all_shown history)) at_opening.sound (version_name key c.id)
          (in_back (version_name key c.id) (map (λ (p : Pair). p.name) (filter (pair_offends (recorded (all_shown history))) (all_shown history))) (flat_map (missing_versions (all_shown history)) (recorded (all_shown history)))
          (flat_map_in (missing_versions (all_shown history)) (version_name key c.id) c (recorded (all_shown history)) among
          (map_in (λ k. version_name k c.id) key (filter (λ k. not (list_any (is_version_at k c.id) (all_shown history))) c.keys)
          (filter_in (λ k. not (list_any (is_version_at k c.id) (all_shown history))) key c.keys its (ap not is))))))

  -- of each name of the two prefixes something was shown
  pub run_shows : (prefix name : List ℕ) → IsTrue (is_scan_run (scan_pages the_office opening.opening prefix history)) → IsTrue (is_scanned prefix [] name) → (o : Option (List ℕ)) × ShownIn name longer o
  run_shows prefix name whole scanned =
      let pages = scan_pages the_office opening.opening prefix history in
      let covered = covered_from prefix name pages (pages_answered the_office opening.opening prefix history legal_before) [] whole scanned in
      let page = any_found (λ (p : ScanPage). covers prefix p.after page_limit p.listed name) pages covered in
      let found = in_flat_map (λ (e : DoorEntry). if same_line opening.opening e.by then page_in the_office prefix e.act else []) page.0 history page.1 in
      let shows = page_shows name prefix the_office found.0.act page.0 (paged (same_line opening.opening found.0.by) (page_in the_office prefix found.0.act) page.0 found.2) page.2 in
      (shows.0, record { entry = found.0; among = in_front found.0 history (entry ∷ []) found.1; shows = shows.1 })
    where
      paged : (t : Bool) (ps : List ScanPage) (p : ScanPage) → In p (if t then ps else []) → In p ps
      paged true ps p among = among
      paged false ps p among = absurd among
