-- The names of versions by their texts, and the gets of the opening.
use Rattle.std.proofs.Common.{◌≡◌, ℕ, Bool, true, false, not, ◌&&◌, ◌||◌, List, [], ◌∷◌, ◌++◌, refl, sym, ap, subst, ◌∙◌, append_assoc, append-nil, inl, inr}
use Rattle.std.specs.Prelude.{Err, IsFalse, IsTrue, None, Ok, Option, Result, Some, if◌then◌else◌, ◌⊎◌}
use Rattle.std.specs.BTreeMap.{insert_entry}
use Rattle.std.specs.List.{AllByRecursion, flat_map, list_all, list_any}
use Rattle.std.specs.List.Sorted.{IsStrictlySortedBy}
use Rattle.std.specs.Map.{keys_of}
use Rattle.std.specs.Ordering.{match_ordering}
use Rattle.std.specs.Str.{bytes_eq}
use Rattle.std.specs.String.{string_bytes, string_cmp}
use Rattle.std.specs.declared.cmp.Ordering.{Ordering}
use Rattle.std.specs.declared.cmp.Ordering.TheVariants.{Equal, Greater, Less}
use Rattle.std.specs.declared.string.String.{String}
use Rattle.std.proofs.Math.Bool.{or-false, or_assoc}
use Rattle.std.proofs.lemmas.Bool.{and_from, and_parts, false_from_ne_true, true≢false}
use Rattle.std.proofs.lemmas.List.Concat.{flat_map-append}
use Rattle.std.proofs.lemmas.Map.Keys.{sorted_head}
use Rattle.std.proofs.lemmas.Map.Lookups.{exact_bytes}
use Rattle.aft_keeper.specs.Contents.{Ascends, name_lt}
use Rattle.aft_keeper.specs.declared.keeper.KeeperCall.TheVariants.{Get}
use Rattle.aft_keeper.specs.declared.keeper.KeeperCall.TheVariants as calls
use Rattle.aft_keeper.specs.declared.keeper.Pair.{Pair}
use Rattle.aft_keeper.proofs.Names.{Less-from_name_lt, bytes_eq-Greater, name_lt-from_Less}
use Rattle.aft_records.specs.declared.name.Name.{Name}
use Rattle.aft_records.specs.declared.stored.Commit.{Commit}
use Rattle.aft_records.specs.declared.fault.RecordFault.{RecordFault}
use Rattle.aft_records.specs.Names.{name_text}
use Rattle.aft_records.specs.Reading.{commit_of}
use Rattle.aft_id.specs.declared.txn_id.TxnId.{TxnId}
use Rattle.aft_model.specs.declared.door.DoorAct.{DoorAct}
use Rattle.aft_model.specs.declared.door.DoorAct.TheVariants.{Call, Claim, Fence, GiveUp, Opened, Release, Up}
use Rattle.aft_model.specs.declared.door.DoorEntry.{DoorEntry}
use Rattle.aft_model.specs.Evidence.{shown_pairs}
use Rattle.aft_model.specs.Membership.{the_office}
use Rattle.aft_model.specs.Opening.{all_scanned, all_shown, gets, has_got, is_failure, is_next_read, marker_pages, opening, record_pages, version_names}
use Rattle.aft_model.specs.Readings.{read_under, record_name, records_in, version_name}
use Rattle.aft_model.specs.ScanRun.{is_scan_run, page_in, same_line}
use Rattle.aft_model.specs.Sound.{markers_prefix, recorded, records_prefix}
use Rattle.aft_model.proofs.Histories.{In, all_at, any_found, any_from, in_append, in_back, in_flat_map}
use Rattle.aft_model.proofs.Lists.{all_from, in_map, map_in}
use Rattle.aft_model.proofs.Sights.{bytes_eq-refl, same_bytes}
use Rattle.aft_door.specs.Entries.{called}
use Rattle.aft_audit.specs.Audit.{got_in, got_names, has_read_all, names_ascend, opener}
use Rattle.aft_audit.specs.Scans.{pages_of}
use Rattle.aft_audit.specs.Versions.{AreBefore, AreNamed, IsGetting, found_answer, found_under, is_among_names, names_of, pair_names, texts_of, with_get}
use Rattle.aft_audit.proofs.Runs.{flat_map_more, got_more, shown_more, still_closed, still_works}

-- ---- the map of names

module _ {Z : Type 0} where
  -- a name more is among them
  pub name_added : (entries : List (String Z × Name)) (text : String Z) (name : Name) (other : List ℕ)
      → is_among_names other (insert_entry string_cmp entries text name) ≡ (is_among_names other entries || bytes_eq other (string_bytes text))
  name_added [] text name other = or-false (bytes_eq other (string_bytes text))
  name_added (e ∷ entries) text name other = cases (string_cmp text e.0) refl (name_added entries text name other)
    where
      last : (a b : Bool) → (a || b) ≡ (b || a)
      last true true = refl
      last true false = refl
      last false true = refl
      last false false = refl

      again : (a b : Bool) → (a || b) ≡ ((a || b) || a)
      again true true = refl
      again true false = refl
      again false true = refl
      again false false = refl

      cases : (o : Ordering) → string_cmp text e.0 ≡ o → is_among_names other (insert_entry string_cmp entries text name) ≡ (is_among_names other entries || bytes_eq other (string_bytes text))
          → is_among_names other (match_ordering o ((text, name) ∷ e ∷ entries) ((e.0, name) ∷ entries) (e ∷ insert_entry string_cmp entries text name))
          ≡ (is_among_names other (e ∷ entries) || bytes_eq other (string_bytes text))
      cases Less is rest = last (bytes_eq other (string_bytes text)) (is_among_names other (e ∷ entries))
      cases Equal is rest =
          again (bytes_eq other (string_bytes e.0)) (is_among_names other entries)
          ∙ ap (λ (n : List ℕ). (bytes_eq other (string_bytes e.0) || is_among_names other entries) || bytes_eq other n) (sym (exact_bytes (string_bytes text) (string_bytes e.0) is))
      cases Greater is rest =
          ap (λ t. bytes_eq other (string_bytes e.0) || t) rest
          ∙ sym (or_assoc (bytes_eq other (string_bytes e.0)) (is_among_names other entries) (bytes_eq other (string_bytes text)))

  -- each stands under its text
  pub named_added : (entries : List (String Z × Name)) (text : String Z) (name : Name) → string_bytes text ≡ name_text name → AreNamed entries → AreNamed (insert_entry string_cmp entries text name)
  named_added [] text name is named = and_from _ _ (own_text text name is) refl
    where
      own_text : (text : String Z) (name : Name) → string_bytes text ≡ name_text name → IsTrue (bytes_eq (string_bytes text) (name_text name))
      own_text text name is = subst (λ (n : List ℕ). IsTrue (bytes_eq (string_bytes text) n)) is (bytes_eq-refl (string_bytes text))
  named_added (e ∷ entries) text name is named = cases (string_cmp text e.0) refl (named_added entries text name is parts.1)
    where
      parts : IsTrue (bytes_eq (string_bytes e.0) (name_text e.1)) × AreNamed entries
      parts = and_parts (bytes_eq (string_bytes e.0) (name_text e.1)) (list_all (λ (d : String Z × Name). bytes_eq (string_bytes d.0) (name_text d.1)) entries) named

      own : IsTrue (bytes_eq (string_bytes text) (name_text name))
      own = subst (λ (n : List ℕ). IsTrue (bytes_eq (string_bytes text) n)) is (bytes_eq-refl (string_bytes text))

      cases : (o : Ordering) → string_cmp text e.0 ≡ o → AreNamed (insert_entry string_cmp entries text name) → AreNamed (match_ordering o ((text, name) ∷ e ∷ entries) ((e.0, name) ∷ entries) (e ∷ insert_entry string_cmp entries text name))
      cases Less at rest = and_from _ _ own named
      cases Equal at rest = and_from _ _ (subst (λ (n : List ℕ). IsTrue (bytes_eq n (name_text name))) (exact_bytes (string_bytes text) (string_bytes e.0) at) own) parts.1
      cases Greater at rest = and_from _ _ parts.0 rest

-- ---- names in order

pub before_at : (names others : List (List ℕ)) (name other : List ℕ) → AreBefore names others → In name names → In other others → IsTrue (name_lt name other)
before_at names others name other before i j = all_at (name_lt name) other others j (all_at (λ (n : List ℕ). list_all (name_lt n) others) name names i before)

pub before_from : (names others : List (List ℕ)) → ((name : List ℕ) → In name names → (other : List ℕ) → In other others → IsTrue (name_lt name other)) → AreBefore names others
before_from names others before = all_from (λ (n : List ℕ). list_all (name_lt n) others) names (λ name i. all_from (name_lt name) others (before name i))

-- names behind which another one comes
pub ascends_more : (names : List (List ℕ)) (name : List ℕ) → IsTrue (names_ascend names) → AreBefore names (name ∷ []) → IsTrue (names_ascend (names ++ name ∷ []))
ascends_more [] name up before = refl
ascends_more (a ∷ []) name up before = and_from _ _ (before_at (a ∷ []) (name ∷ []) a name before (inl refl) (inl refl)) refl
ascends_more (a ∷ b ∷ names) name up before =
    let parts = and_parts (name_lt a b) (names_ascend (b ∷ names)) up in
    and_from _ _ parts.0 (ascends_more (b ∷ names) name parts.1 (and_parts (list_all (name_lt a) (name ∷ [])) (list_all (λ (n : List ℕ). list_all (name_lt n) (name ∷ [])) (b ∷ names)) before).1)

-- and pairs
pub pairs_more : (pairs : List Pair) (p : Pair) → Ascends pairs → AreBefore (pair_names pairs) (p.name ∷ []) → Ascends (pairs ++ p ∷ [])
pairs_more [] p up before = tt
pairs_more (a ∷ []) p up before = (before_at (a.name ∷ []) (p.name ∷ []) a.name p.name before (inl refl) (inl refl), tt)
pairs_more (a ∷ b ∷ pairs) p up before = (up.0, pairs_more (b ∷ pairs) p up.1 (and_parts (list_all (name_lt a.name) (p.name ∷ [])) (list_all (λ (n : List ℕ). list_all (name_lt n) (p.name ∷ [])) (pair_names (b ∷ pairs))) before).1)

-- ---- what was got

-- whether a name was got is whether it is among those
got_by : (name : List ℕ) (act : DoorAct) → gets name act ≡ list_any (bytes_eq name) (got_in act)
got_by name (Call node inc (Get got) answer) = sym (or-false (bytes_eq name got))
got_by name (Call node inc (calls.Put other bytes) answer) = refl
got_by name (Call node inc (calls.Delete other) answer) = refl
got_by name (Call node inc (calls.Scan prefix after limit) answer) = refl
got_by name Opened = refl
got_by name (Up node inc) = refl
got_by name (Fence node inc) = refl
got_by name (Claim uuid node inc) = refl
got_by name (Release uuid node inc) = refl
got_by name (GiveUp node inc id) = refl

any_append : {A : Type 0} (test : A → Bool) (xs ys : List A) → list_any test (xs ++ ys) ≡ (list_any test xs || list_any test ys)
any_append test [] ys = refl
any_append test (x ∷ xs) ys = ap (λ t. test x || t) (any_append test xs ys) ∙ sym (or_assoc (test x) (list_any test xs) (list_any test ys))

pub has_got_named : (history : List DoorEntry) (name : List ℕ) → has_got history name ≡ list_any (bytes_eq name) (got_names history)
has_got_named [] name = refl
has_got_named (e ∷ history) name =
    ap (λ t. t || has_got history name) (got_by name e.act)
    ∙ (ap (λ t. list_any (bytes_eq name) (got_in e.act) || t) (has_got_named history name) ∙ sym (any_append (bytes_eq name) (got_in e.act) (got_names history)))

-- what stands behind names that were got wasn't got
pub not_got : (history : List DoorEntry) (name : List ℕ) → AreBefore (got_names history) (name ∷ []) → IsFalse (has_got history name)
not_got history name before = has_got_named history name ∙ false_from_ne_true _ (λ some.
    let found = any_found (bytes_eq name) (got_names history) some in
    true≢false (sym found.2 ∙ bytes_eq-Greater name found.0 (Less-from_name_lt found.0 name (before_at (got_names history) (name ∷ []) found.0 name before found.1 (inl refl)))))

-- ---- versions

-- a version's name is that of no record
no_record : (key : List ℕ) (id : TxnId) (bytes : List ℕ) → records_in (record { name = version_name key id; bytes = bytes }) ≡ []
no_record key id bytes = cases (commit_of bytes)
  where
    cases : (read : Result Commit RecordFault) → read_under (version_name key id) (λ (c : Commit). record_name c.id.uuid) read ≡ []
    cases (Ok c) = refl
    cases (Err fault) = refl

-- what stands among the names of versions is one
pub is_version : (commits : List Commit) (name : List ℕ) → IsTrue (list_any (bytes_eq name) (flat_map names_of commits)) → (key : List ℕ) × (id : TxnId) × (name ≡ version_name key id)
is_version commits name some =
    let found = any_found (bytes_eq name) (flat_map names_of commits) some in
    let of = in_flat_map names_of found.0 commits found.1 in
    let at = in_map (λ (key : List ℕ). version_name key of.0.id) found.0 of.0.keys of.2 in
    (at.0, of.0.id, same_bytes name found.0 found.2 ∙ at.2)

-- ---- a get

module _ {Z : Type 0} (e : String Z × Name) (rest names : List (String Z × Name)) (pairs : List Pair) (old now : List DoorEntry) (getting : IsGetting (e ∷ rest) names pairs old now) where
  abbrev It : List ℕ
  It = string_bytes e.0

  texts_is : It ≡ name_text e.1
  texts_is = same_bytes It (name_text e.1) (and_parts (bytes_eq It (name_text e.1)) (list_all (λ (d : String Z × Name). bytes_eq (string_bytes d.0) (name_text d.1)) rest) getting.named).0

  is_wanted : IsTrue (list_any (bytes_eq It) (version_names old))
  is_wanted =
      let among : IsTrue (list_any (bytes_eq It) (texts_of names)) = subst (λ (texts : List (List ℕ)). IsTrue (list_any (bytes_eq It) texts)) getting.got (any_from (bytes_eq It) It (got_names now ++ It ∷ texts_of rest) (in_back It (got_names now) (It ∷ texts_of rest) (inl refl)) (bytes_eq-refl It)) in
      sym (getting.wanted It) ∙ among

  in_one : (other : List ℕ) → In other (It ∷ []) → In other (It ∷ texts_of rest)
  in_one other (inl is) = inl is
  in_one other (inr more) = absurd more

  behind_all : AreBefore (got_names now) (It ∷ [])
  behind_all = before_from (got_names now) (It ∷ []) (λ name i other j. before_at (got_names now) (It ∷ texts_of rest) name other getting.behind_got i (in_one other j))

  -- the name is the next to be got
  pub may_get : IsTrue (is_next_read now (Get (name_text e.1)))
  may_get = subst (λ (name : List ℕ). IsTrue (is_next_read now (Get name))) texts_is
      (and_from _ _ (and_from _ _ scanned_now (subst (λ (all : List (List ℕ)). IsTrue (list_any (bytes_eq It) all)) (sym getting.same) is_wanted)) (ap not (not_got now It behind_all)))
    where
      scanned_now : IsTrue (all_scanned now)
      scanned_now = ap (λ (pages : List _). is_scan_run pages && is_scan_run (marker_pages now)) getting.records ∙ (ap (λ (pages : List _). is_scan_run (record_pages old) && is_scan_run pages) getting.markers ∙ getting.scanned)

  -- and comes behind those before
  pub gets_in_order : IsTrue (names_ascend (got_names now ++ name_text e.1 ∷ []))
  gets_in_order = subst (λ (name : List ℕ). IsTrue (names_ascend (got_names now ++ name ∷ []))) texts_is (ascends_more (got_names now) It getting.shows.reading.in_order behind_all)

  -- what it finds is added
  pub gets_on : (found : Option (List ℕ)) → IsStrictlySortedBy string_cmp (keys_of (e ∷ rest)) → IsGetting rest names (pairs ++ found_under It found) old (with_get now (name_text e.1) found)
  gets_on found sorted = subst (λ (name : List ℕ). IsGetting rest names (pairs ++ found_under It found) old (with_get now name found)) texts_is (record {
    shows = record {
      reading = record {
        closed = still_closed now (Get It) (found_answer found) getting.shows.reading.closed;
        works = still_works now (Get It) (found_answer found) getting.shows.reading.works (no_failure found);
        in_order = subst (λ (names : List (List ℕ)). IsTrue (names_ascend names)) (sym got_now) (ascends_more (got_names now) It getting.shows.reading.in_order behind_all);
      };
      shown = shown_now;
    };
    records = pages_now records_prefix ∙ getting.records;
    markers = pages_now markers_prefix ∙ getting.markers;
    scanned = getting.scanned;
    same =
        ap (λ (ps : List Pair). flat_map names_of (recorded ps)) (shown_more now entry ∙ ap (λ (ps : List Pair). all_shown now ++ ps) (shows_it found))
        ∙ (ap (λ (cs : List Commit). flat_map names_of cs) (flat_map-append records_in (all_shown now) (found_under It found) ∙ (ap (λ (cs : List Commit). recorded (all_shown now) ++ cs) (records_none found) ∙ append-nil (recorded (all_shown now)))) ∙ getting.same);
    wanted = getting.wanted;
    named = (and_parts (bytes_eq It (name_text e.1)) (list_all (λ (d : String Z × Name). bytes_eq (string_bytes d.0) (name_text d.1)) rest) getting.named).1;
    got = ap (λ (names : List (List ℕ)). names ++ texts_of rest) got_now ∙ (append_assoc (got_names now) (It ∷ []) (texts_of rest) ∙ getting.got);
    up = up_now found;
    behind_got = subst (λ (names : List (List ℕ)). AreBefore names (texts_of rest)) (sym got_now) (before_from (got_names now ++ It ∷ []) (texts_of rest) (λ name i other j. got_before name other j (in_append name (got_names now) (It ∷ []) i)));
    behind_shown = before_from (pair_names (pairs ++ found_under It found)) (texts_of rest) (λ name i other j. shown_before name other j (in_map (λ (p : Pair). p.name) name (pairs ++ found_under It found) i));
  })
    where
      entry : DoorEntry
      entry = called opener (Get It) (found_answer found)

      shows_it : (found : Option (List ℕ)) → shown_pairs (called opener (Get It) (found_answer found)) ≡ found_under It found
      shows_it None = refl
      shows_it (Some bytes) = refl

      shown_now : all_shown (now ++ called opener (Get It) (found_answer found) ∷ []) ≡ pairs ++ found_under It found
      shown_now = shown_more now (called opener (Get It) (found_answer found)) ∙ (ap (λ (ps : List Pair). all_shown now ++ ps) (shows_it found) ∙ ap (λ (ps : List Pair). ps ++ found_under It found) getting.shows.shown)

      pages_now : (prefix : List ℕ) → pages_of prefix (now ++ called opener (Get It) (found_answer found) ∷ []) ≡ pages_of prefix now
      pages_now prefix = flat_map_more (λ (x : DoorEntry). if same_line opening x.by then page_in the_office prefix x.act else []) now (called opener (Get It) (found_answer found)) ∙ append-nil (pages_of prefix now)

      records_none : (found : Option (List ℕ)) → recorded (found_under It found) ≡ []
      records_none None = refl
      records_none (Some bytes) =
          let version = is_version (recorded (all_shown old)) It is_wanted in
          subst (λ (name : List ℕ). records_in (record { name = name; bytes = bytes }) ++ [] ≡ []) (sym version.2) (append-nil _ ∙ no_record version.0 version.1 bytes)

      behind_it : AreBefore (pair_names pairs) (It ∷ [])
      behind_it = before_from (pair_names pairs) (It ∷ []) (λ name i other j. before_at (pair_names pairs) (It ∷ texts_of rest) name other getting.behind_shown i (in_one other j))

      up_now : (found : Option (List ℕ)) → Ascends (pairs ++ found_under It found)
      up_now None = subst (λ (ps : List Pair). Ascends ps) (sym (append-nil pairs)) getting.up
      up_now (Some bytes) = pairs_more pairs (record { name = It; bytes = bytes }) getting.up behind_it

      it_before : (other : List ℕ) → In other (texts_of rest) → IsTrue (name_lt It other)
      it_before other j = each rest (sorted_head string_cmp e.0 (keys_of rest) sorted) other j
        where
          each : (rest : List (String Z × Name)) → AllByRecursion (λ y. string_cmp e.0 y ≡ Less) (keys_of rest) → (other : List ℕ) → In other (texts_of rest) → IsTrue (name_lt It other)
          each [] all other more = absurd more
          each (d ∷ rest) all other (inl is) = subst (λ (n : List ℕ). IsTrue (name_lt It n)) (sym is) (name_lt-from_Less It (string_bytes d.0) all.0)
          each (d ∷ rest) all other (inr more) = each rest all.1 other more

      got_before : (name other : List ℕ) → In other (texts_of rest) → In name (got_names now) ⊎ In name (It ∷ []) → IsTrue (name_lt name other)
      got_before name other j (inl i) = before_at (got_names now) (It ∷ texts_of rest) name other getting.behind_got i (inr j)
      got_before name other j (inr (inl is)) = subst (λ (n : List ℕ). IsTrue (name_lt n other)) (sym is) (it_before other j)
      got_before name other j (inr (inr more)) = absurd more

      found_before : (found : Option (List ℕ)) (p : Pair) (other : List ℕ) → In other (texts_of rest) → In p (found_under It found) → IsTrue (name_lt p.name other)
      found_before None p other j more = absurd more
      found_before (Some bytes) p other j (inl is) = subst (λ (q : Pair). IsTrue (name_lt q.name other)) (sym is) (it_before other j)
      found_before (Some bytes) p other j (inr more) = absurd more

      shown_before : (name other : List ℕ) → In other (texts_of rest) → (p : Pair) × In p (pairs ++ found_under It found) × (name ≡ p.name) → IsTrue (name_lt name other)
      shown_before name other j at = subst (λ (n : List ℕ). IsTrue (name_lt n other)) (sym at.2) (elim (in_append at.0 pairs (found_under It found) at.1) [
        | inl i ↦ before_at (pair_names pairs) (It ∷ texts_of rest) at.0.name other getting.behind_shown (map_in (λ (p : Pair). p.name) at.0 pairs i) (inr j)
        | inr i ↦ found_before found at.0 other j i
      ])

      no_failure : (found : Option (List ℕ)) → IsFalse (is_failure (called opener (Get It) (found_answer found)).act)
      no_failure None = refl
      no_failure (Some bytes) = refl

      got_now : got_names (with_get now It found) ≡ got_names now ++ It ∷ []
      got_now = got_more now (called opener (Get It) (found_answer found))

-- ---- the end

-- where all names were got, all was read
pub has_all : {Z : Type 0} (names : List (String Z × Name)) (pairs : List Pair) (old now : List DoorEntry) → IsGetting [] names pairs old now → IsTrue (has_read_all now)
has_all names pairs old now getting = and_from _ _ scanned_now (all_from (has_got now) (version_names now) got_each)
  where
    scanned_now : IsTrue (all_scanned now)
    scanned_now = ap (λ (pages : List _). is_scan_run pages && is_scan_run (marker_pages now)) getting.records ∙ (ap (λ (pages : List _). is_scan_run (record_pages old) && is_scan_run pages) getting.markers ∙ getting.scanned)

    all_got : got_names now ≡ texts_of names
    all_got = sym (append-nil (got_names now)) ∙ getting.got

    got_each : (name : List ℕ) → In name (version_names now) → IsTrue (has_got now name)
    got_each name i =
        has_got_named now name ∙ (ap (λ (texts : List (List ℕ)). list_any (bytes_eq name) texts) all_got
        ∙ (getting.wanted name ∙ subst (λ (all : List (List ℕ)). IsTrue (list_any (bytes_eq name) all)) getting.same (any_from (bytes_eq name) name (version_names now) i (bytes_eq-refl name))))
