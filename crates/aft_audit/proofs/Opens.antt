-- What the opening was shown: in the order of its names, and sound where nothing offends.
use Rattle.std.proofs.Common.{◌≡◌, ℕ, not, ◌&&◌, ◌||◌, List, [], ◌∷◌, ◌++◌, refl, sym, ap, subst, ◌∙◌, append-nil, inl, inr}
use Rattle.std.specs.Prelude.{Err, IsFalse, IsTrue, None, Ok, Result, is_none, nat_eq, ◌⊎◌}
use Rattle.std.specs.List.{flat_map, list_all, list_any, starts_with}
use Rattle.std.specs.Str.{bytes_eq}
use Rattle.std.specs.declared.string.String.{String}
use Rattle.std.proofs.lemmas.Bool.{and_from, and_parts, eqb-true, false≢true}
use Rattle.std.proofs.lemmas.List.Concat.{flat_map-append}
use Rattle.aft_keeper.specs.Contents.{Ascends, is_scanned, name_lt}
use Rattle.aft_keeper.specs.declared.keeper.Pair.{Pair}
use Rattle.aft_records.specs.declared.fault.RecordFault.{RecordFault}
use Rattle.aft_records.specs.declared.name.Name.{Name}
use Rattle.aft_records.specs.declared.stored.Commit.{Commit}
use Rattle.aft_records.specs.Reading.{commit_of}
use Rattle.aft_model.specs.declared.door.DoorEntry.{DoorEntry}
use Rattle.aft_model.specs.LegalDoor.{Legal, ascends, is_page}
use Rattle.aft_model.specs.Membership.{the_office}
use Rattle.aft_model.specs.Opening.{marker_pages, may_open, opening, record_pages}
use Rattle.aft_model.specs.Readings.{read_under, record_name, records_in, version_name}
use Rattle.aft_model.specs.ScanRun.{ScanPage, commits_on, is_scan_run, page_limit}
use Rattle.aft_model.specs.Sound.{first_offender, is_sound, markers_prefix, recorded, records_prefix}
use Rattle.aft_model.proofs.Histories.{In, all_at, any_from, in_append, in_flat_map}
use Rattle.aft_model.proofs.Lists.{in_map}
use Rattle.aft_model.proofs.Sights.{bytes_eq-refl}
use Rattle.aft_door.specs.Entries.{door_opened}
use Rattle.law_scans.specs.Pages.{are_pages}
use Rattle.law_scans.proofs.Answered.{pages_answered}
use Rattle.law_scans.proofs.Runs.{lists_from}
use Rattle.aft_audit.specs.Audit.{are_too_many, got_names, has_read_all, shows_too_many}
use Rattle.aft_audit.specs.Scans.{HasShown, IsScanning, listed_on}
use Rattle.aft_audit.specs.Versions.{AreBefore, AreNamed, IsGetting, is_among_names, names_of, pair_names, texts_of}
use Rattle.aft_audit.proofs.Offending.{none_sound}
use Rattle.aft_audit.proofs.Gets.{before_from, is_version}

-- where nothing offends, the door may be opened
pub may_be_opened : (pairs : List Pair) (history : List DoorEntry) → HasShown pairs history → IsTrue (has_read_all history) → first_offender pairs ≡ None → IsTrue (may_open history (door_opened opening))
may_be_opened pairs history shows read none =
    and_from _ _ (and_from _ _ read (ap not shows.reading.works)) (subst (λ (ps : List Pair). IsTrue (is_sound ps)) (sym shows.shown) (sym (none_sound pairs) ∙ ap is_none none))

-- ---- the order of what was shown

ascending : (pairs : List Pair) → IsTrue (ascends pairs) → Ascends pairs
ascending [] up = tt
ascending (p ∷ []) up = tt
ascending (p ∷ q ∷ pairs) up = let parts = and_parts (name_lt p.name q.name) (ascends (q ∷ pairs)) up in (parts.0, ascending (q ∷ pairs) parts.1)

both_ascend : (xs ys : List Pair) → Ascends xs → Ascends ys → ((p : Pair) → In p xs → (q : Pair) → In q ys → IsTrue (name_lt p.name q.name)) → Ascends (xs ++ ys)
both_ascend [] ys up up' before = up'
both_ascend (p ∷ []) [] up up' before = tt
both_ascend (p ∷ []) (q ∷ ys) up up' before = (before p (inl refl) q (inl refl), up')
both_ascend (p ∷ q ∷ xs) ys up up' before = (up.0, both_ascend (q ∷ xs) ys up.1 up' (λ a i. before a (inr i)))

-- a name begins with a prefix of two letters
abbrev pub Begins : ℕ → List ℕ → Type 0
Begins letter name = (rest : List ℕ) × (name ≡ letter ∷ rest)

begins_with : (letter : ℕ) (name : List ℕ) → IsTrue (starts_with nat_eq name (letter ∷ 47 ∷ [])) → Begins letter name
begins_with letter [] starts = absurd (false≢true starts)
begins_with letter (a ∷ name) starts = (name, ap (λ (l : ℕ). l ∷ name) (sym (eqb-true letter a (and_parts (nat_eq letter a) (starts_with nat_eq name (47 ∷ [])) starts).0)))

-- what pages of a prefix list begins with it
listed_begin : (letter : ℕ) (pages : List ScanPage) → IsTrue (are_pages (letter ∷ 47 ∷ []) pages) → (p : Pair) → In p (listed_on pages) → Begins letter p.name
listed_begin letter pages answered p i =
    let on = in_flat_map (λ (page : ScanPage). page.listed) p pages i in
    let shape = all_at (λ (page : ScanPage). is_page (letter ∷ 47 ∷ []) page.after page_limit page.listed) on.0 pages on.1 answered in
    let scanned = (and_parts (list_all (λ (q : Pair). is_scanned (letter ∷ 47 ∷ []) on.0.after q.name) on.0.listed) _ (and_parts (list_all (λ (q : Pair). is_scanned (letter ∷ 47 ∷ []) on.0.after q.name) on.0.listed && ascends on.0.listed) _ shape).0).0 in
    begins_with letter p.name (and_parts (starts_with nat_eq p.name (letter ∷ 47 ∷ [])) (name_lt on.0.after p.name) (all_at (λ (q : Pair). is_scanned (letter ∷ 47 ∷ []) on.0.after q.name) p on.0.listed on.2 scanned)).0

records_first : (a b : List ℕ) → Begins 99 a → Begins 114 b → IsTrue (name_lt a b)
records_first a b c r = subst (λ (n : List ℕ). IsTrue (name_lt n b)) (sym c.1) (subst (λ (n : List ℕ). IsTrue (name_lt (99 ∷ c.0) n)) (sym r.1) refl)

before_versions : (a : List ℕ) (key : List ℕ) (id : _) → Begins 99 a ⊎ Begins 114 a → IsTrue (name_lt a (version_name key id))
before_versions a key id (inl c) = subst (λ (n : List ℕ). IsTrue (name_lt n (version_name key id))) (sym c.1) refl
before_versions a key id (inr r) = subst (λ (n : List ℕ). IsTrue (name_lt n (version_name key id))) (sym r.1) refl

-- what is no record's name has no record
none_recorded : (pairs : List Pair) → ((p : Pair) → In p pairs → Begins 114 p.name) → recorded pairs ≡ []
none_recorded [] begin = refl
none_recorded (p ∷ pairs) begin = ap (λ (cs : List Commit). cs ++ recorded pairs) (none_in p (begin p (inl refl))) ∙ none_recorded pairs (λ q i. begin q (inr i))
  where
    none_in : (p : Pair) → Begins 114 p.name → records_in p ≡ []
    none_in p r = subst (λ (n : List ℕ). read_under n (λ (c : Commit). record_name c.id.uuid) (commit_of p.bytes) ≡ []) (sym r.1) (cases (commit_of p.bytes))
      where
        cases : (read : Result Commit RecordFault) → read_under (114 ∷ r.0) (λ (c : Commit). record_name c.id.uuid) read ≡ []
        cases (Ok c) = refl
        cases (Err fault) = refl

-- ---- both scans

module _ (p1 p2 : List Pair) (h1 h2 : List DoorEntry) (first : IsScanning records_prefix None [] p1 [] h1) (second : IsScanning markers_prefix None p1 p2 h1 h2) (legal : Legal h2) where
  pub records_stay : record_pages h2 ≡ record_pages h1
  records_stay = second.others records_prefix refl

  records_whole : IsTrue (is_scan_run (record_pages h2))
  records_whole = subst (λ (pages : List ScanPage). IsTrue (is_scan_run pages)) (sym records_stay) (first.whole refl)

  records_answered : IsTrue (are_pages records_prefix (record_pages h2))
  records_answered = pages_answered the_office opening records_prefix h2 legal

  markers_answered : IsTrue (are_pages markers_prefix (marker_pages h2))
  markers_answered = pages_answered the_office opening markers_prefix h2 legal

  all_listed : p2 ≡ listed_on (record_pages h2) ++ listed_on (marker_pages h2)
  all_listed = second.added ∙ ap (λ (ps : List Pair). ps ++ listed_on (marker_pages h2)) (first.added ∙ ap listed_on (sym records_stay))

  up : Ascends p2
  up = subst (λ (ps : List Pair). Ascends ps) (sym all_listed) (both_ascend (listed_on (record_pages h2)) (listed_on (marker_pages h2))
      (ascending _ (lists_from records_prefix (record_pages h2) records_answered [] records_whole).up)
      (ascending _ (lists_from markers_prefix (marker_pages h2) markers_answered [] (second.whole refl)).up)
      (λ p i q j. records_first p.name q.name (listed_begin 99 (record_pages h2) records_answered p i) (listed_begin 114 (marker_pages h2) markers_answered q j)))

  begin : (p : Pair) → In p p2 → Begins 99 p.name ⊎ Begins 114 p.name
  begin p i = elim (in_append p (listed_on (record_pages h2)) (listed_on (marker_pages h2)) (subst (λ (ps : List Pair). In p ps) all_listed i)) [
    | inl c ↦ inl (listed_begin 99 (record_pages h2) records_answered p c)
    | inr r ↦ inr (listed_begin 114 (marker_pages h2) markers_answered p r)
  ]

  -- the records are on the pages of records
  pub all_recorded : recorded p2 ≡ commits_on (record_pages h2)
  all_recorded =
      ap recorded all_listed ∙ (flat_map-append records_in (listed_on (record_pages h2)) (listed_on (marker_pages h2))
      ∙ (ap (λ (cs : List Commit). recorded (listed_on (record_pages h2)) ++ cs) (none_recorded (listed_on (marker_pages h2)) (listed_begin 114 (marker_pages h2) markers_answered)) ∙ append-nil _))

  -- and the gets of the versions may begin
  pub begins_gets : {Z : Type 0} (names : List (String Z × Name)) → AreNamed names → ((name : List ℕ) → is_among_names name names ≡ list_any (bytes_eq name) (flat_map names_of (recorded p2))) → IsGetting names names p2 h2 h2
  begins_gets names named all = record {
    shows = second.shows;
    records = refl;
    markers = refl;
    scanned = and_from _ _ records_whole (second.whole refl);
    same = refl;
    wanted = λ name. all name ∙ ap (λ (ps : List Pair). list_any (bytes_eq name) (flat_map names_of (recorded ps))) (sym second.shows.shown);
    named = named;
    got = ap (λ (ns : List (List ℕ)). ns ++ texts_of names) none;
    up = up;
    behind_got = subst (λ (ns : List (List ℕ)). AreBefore ns (texts_of names)) (sym none) refl;
    behind_shown = before_from (pair_names p2) (texts_of names) before;
  }
    where
      none : got_names h2 ≡ []
      none = second.got ∙ first.got

      before : (name : List ℕ) → In name (pair_names p2) → (other : List ℕ) → In other (texts_of names) → IsTrue (name_lt name other)
      before name i other j =
          let at = in_map (λ (p : Pair). p.name) name p2 i in
          let version = is_version (recorded p2) other (sym (all other) ∙ any_from (bytes_eq other) other (texts_of names) j (bytes_eq-refl other)) in
          subst (λ (n : List ℕ). IsTrue (name_lt n other)) (sym at.2) (subst (λ (n : List ℕ). IsTrue (name_lt at.0.name n)) (sym version.2) (before_versions at.0.name version.0 version.1 (begin at.0 at.1)))

-- where few names were shown, that is so behind the gets
pub stays_few : (h1 h2 h3 : List DoorEntry) → record_pages h2 ≡ record_pages h1 → record_pages h3 ≡ record_pages h2 → marker_pages h3 ≡ marker_pages h2 → IsFalse (are_too_many (record_pages h1)) → IsFalse (are_too_many (marker_pages h2)) → IsFalse (shows_too_many h3)
stays_few h1 h2 h3 same records markers few few' =
    ap (λ (pages : List ScanPage). are_too_many pages || are_too_many (marker_pages h3)) (records ∙ same)
    ∙ (ap (λ t. t || are_too_many (marker_pages h3)) few ∙ (ap are_too_many markers ∙ few'))
