-- What a round of orphans knows wherever it may stand: behind its claim it found no record, and then no marker, of the id whose version it is to delete.
use Rattle.std.proofs.Common.{◌≡◌, ℕ, suc, Bool, true, false, ◌&&◌, ◌||◌, ◌<◌, eqb, not, List, [], ◌∷◌, ◌++◌, ◌+◌, drop, length, refl, sym, ap, subst, ◌∙◌, inl, inr, arith, length-append}
use Rattle.std.specs.Prelude.{Err, IsFalse, IsTrue, None, Ok, Option, Result, Some, if◌then◌else◌, is_some, map}
use Rattle.std.specs.List.{flat_map, list_any}
use Rattle.std.specs.Str.{bytes_eq}
use Rattle.std.proofs.lemmas.Bool.{and_from, and_parts, false≢true, or_cases, or_left, or_right, true≢false}
use Rattle.std.proofs.lemmas.List.{drop-append-le}
use Rattle.aft_id.specs.declared.txn_id.TxnId.{TxnId}
use Rattle.aft_keeper.specs.declared.keeper.KeeperAnswer.{KeeperAnswer}
use Rattle.aft_keeper.specs.declared.keeper.KeeperAnswer.TheVariants.{Absent, Failed, Found}
use Rattle.aft_keeper.specs.declared.keeper.KeeperCall.TheVariants as calls
use Rattle.aft_keeper.specs.declared.keeper.Pair.{Pair}
use Rattle.aft_records.specs.declared.fault.RecordFault.{RecordFault}
use Rattle.aft_records.specs.declared.name.Name.{Name}
use Rattle.aft_records.specs.declared.name.Name.TheVariants.{VersionOf}
use Rattle.aft_records.specs.declared.stored.Commit.{Commit}
use Rattle.aft_records.specs.declared.stored.Marker.{Marker}
use Rattle.aft_records.specs.declared.stored.Version.{Version}
use Rattle.aft_records.specs.Commits.{is_listed}
use Rattle.aft_records.specs.NameReading.{name_of}
use Rattle.aft_records.specs.Reading.{version_of}
use Rattle.aft_model.specs.declared.caller.By.{By}
use Rattle.aft_model.specs.declared.door.DoorAct.{DoorAct}
use Rattle.aft_model.specs.declared.door.DoorAct.TheVariants as doors
use Rattle.aft_model.specs.declared.door.DoorEntry.{DoorEntry}
use Rattle.aft_model.specs.declared.script.Command.TheVariants as commands
use Rattle.aft_model.specs.DoorKnowledge.{finds_other, ids_in, is_of_other, knows_orphan}
use Rattle.aft_model.specs.History.{first_of, followed}
use Rattle.aft_model.specs.LegalDoor.{is_answered}
use Rattle.aft_model.specs.Membership.{incarnation, same_incarnation, the_office}
use Rattle.aft_model.specs.Readings.{has_reading, id_of_marker, marker_name, markers_in, read_under, record_name, records_in, version_name, versions_in}
use Rattle.aft_model.proofs.Growth.{any_grows, orphan_grows}
use Rattle.aft_model.proofs.Histories.{In, any_from, in_back, in_flat_map}
use Rattle.aft_model.proofs.Sights.{no_version, same_bytes}
use Rattle.aft_lines.specs.Advance.{Scan, GoesOn, HasEnded, advance, advance_orphans, behind_desk_look, behind_orphan_page, deleted_at_desk, desk_behind, freed_at_desk, held_for, in_round, looked_at_desk, moved_at_desk, paged_by, scan_of, scanned_by, stands_if, told_at_desk}
use Rattle.aft_lines.specs.CourseWords.{Ends, found_pair}
use Rattle.aft_lines.specs.OrphanCourse.{VersionAt, found_by, found_on, versions_prefix}
use Rattle.aft_lines.specs.Progress.{AtDesk, HasLeft, Holding, Holds, InRound, IsOver, LookedOnce, LookedTwice, MustFree, MustTell, NotBegun, OrphanScan, Progress, Standing}
use Rattle.aft_lines.specs.ScanCourse.{versions_limit}
use Rattle.aft_lines.specs.Turns.{AtDoor, Turn}
use Rattle.law_claims.proofs.Parting.{either_way}
use Rattle.law_names.proofs.Differ.{spelled}

-- ---- what it knows

-- each of some versions is what its name is read as
abbrev pub IsNamed : VersionAt → Type 0
IsNamed one = name_of (version_name one.key one.id) ≡ Some (VersionOf one.key one.id)

abbrev pub AreNamed : List VersionAt → Type 0
AreNamed left = (one : VersionAt) → In one left → IsNamed one

-- a claim stands in a history, for a version that is named
abbrev pub IsHeld : List DoorEntry → AtDesk → Holding → Type 0
IsHeld door desk held = (desk.place < length door) × AreNamed (held.one ∷ held.rest)

-- behind a place the office found no record of an id
abbrev pub found_no_record : TxnId → ℕ → List DoorEntry → Bool
found_no_record id place door = list_any (λ (entry : DoorEntry). finds_other id (record_name id.uuid) entry.act) (drop (suc place) door)

-- what a round that holds this, or nothing, knows where it stands so
abbrev pub KnowsSo : List DoorEntry → Option AtDesk → Standing → Type 0
KnowsSo door None (HasLeft left) = AreNamed left
KnowsSo door None MustTell = Unit {0}
KnowsSo door (Some desk) (Holds held) = IsHeld door desk held
KnowsSo door (Some desk) (LookedOnce held) = IsHeld door desk held × IsTrue (found_no_record held.one.id desk.place door)
KnowsSo door (Some desk) (LookedTwice held) = IsHeld door desk held × IsTrue (knows_orphan held.one.id desk.place door)
KnowsSo door (Some desk) (MustFree goes_on held) = IsHeld door desk held
KnowsSo door desk standing = ⊥

abbrev pub Knows : List DoorEntry → Progress → Type 0
Knows door (InRound desk standings) = (x : Standing) → In x standings → KnowsSo door desk x
Knows door position = Unit {0}

abbrev KnowsIf : List DoorEntry → Option Progress → Type 0
KnowsIf door None = Unit {0}
KnowsIf door (Some position) = Knows door position

-- ---- with entries added

longer : (n : ℕ) (door more : List DoorEntry) → n < length door → n < length (door ++ more)
longer n door more lt = (let e = length-append door more in let l = lt in omega arith)

still_held : (door more : List DoorEntry) (desk : AtDesk) (held : Holding) → IsHeld door desk held → IsHeld (door ++ more) desk held
still_held door more desk held is = (longer desk.place door more is.0, is.1)

so_grows : (door more : List DoorEntry) (desk : Option AtDesk) (x : Standing) → KnowsSo door desk x → KnowsSo (door ++ more) desk x
so_grows door more None (HasLeft left) knows = knows
so_grows door more None MustTell knows = tt
so_grows door more (Some desk) (Holds held) knows = still_held door more desk held knows
so_grows door more (Some desk) (LookedOnce held) knows =
    (still_held door more desk held knows.0, subst (λ (l : List DoorEntry). IsTrue (list_any (λ (entry : DoorEntry). finds_other held.one.id (record_name held.one.id.uuid) entry.act) l)) (sym (drop-append-le (suc desk.place) door more knows.0.0)) (any_grows _ (drop (suc desk.place) door) more knows.1))
so_grows door more (Some desk) (LookedTwice held) knows = (still_held door more desk held knows.0, orphan_grows held.one.id desk.place door more knows.1)
so_grows door more (Some desk) (MustFree goes_on held) knows = still_held door more desk held knows
so_grows door more desk x knows = absurd knows

pub knows_grows : (door more : List DoorEntry) (position : Progress) → Knows door position → Knows (door ++ more) position
knows_grows door more (InRound desk standings) knows = λ x among. so_grows door more desk x (knows x among)
knows_grows door more position knows = tt

-- ---- a look that shows nothing of the id

abbrev some_read : List Commit → List Marker → List Version → Bool
some_read cs ms vs = not (eqb (length cs + length ms + length vs) 0)

nonempty : (cs : List Commit) (ms : List Marker) (vs : List Version) → vs ≡ [] → IsTrue (some_read cs ms vs) → IsTrue (is_some (first_of (map (λ (c : Commit). c.id) cs ++ map id_of_marker ms)))
nonempty [] [] vs none has = absurd (false≢true (subst (λ (l : List Version). IsTrue (some_read [] [] l)) none has))
nonempty [] (m ∷ ms) vs none has = refl
nonempty (c ∷ cs) ms vs none has = refl

-- each name that is of a record or of a marker holds no version
abbrev HoldsNoVersion : List ℕ → Type 0
HoldsNoVersion name = (bytes : List ℕ) → versions_in (record { name = name; bytes = bytes }) ≡ []

module _ (id : TxnId) (name : List ℕ) (node inc : ℕ) (office : IsTrue (same_incarnation the_office (incarnation node inc))) (plain : HoldsNoVersion name) where
  found_other : (bytes got : List ℕ) → IsTrue (bytes_eq name got) → IsFalse (list_any (λ (pair : Pair). is_listed id (ids_in pair)) (found_pair name (Found bytes))) → IsFalse (list_any (λ (pair : Pair). not (has_reading pair)) (found_pair name (Found bytes))) → IsTrue (finds_other id name (doors.Call node inc (calls.Get got) (Found bytes)))
  found_other bytes got same unlisted read =
      let pair : Pair = record { name = name; bytes = bytes } in
      let other : IsTrue (is_of_other id pair) = and_from (is_some (first_of (ids_in pair))) (not (is_listed id (ids_in pair)))
      (nonempty (records_in pair) (markers_in pair) (versions_in pair) (plain bytes) (has (has_reading pair) read)) (un (is_listed id (ids_in pair)) unlisted) in
      and_from (same_incarnation the_office (incarnation node inc) && bytes_eq name got) (is_of_other id (record { name = got; bytes = bytes })) (and_from (same_incarnation the_office (incarnation node inc)) (bytes_eq name got) office same)
      (subst (λ (n : List ℕ). IsTrue (is_of_other id (record { name = n; bytes = bytes }))) (same_bytes name got same) other)
    where
      has : (b : Bool) → IsFalse (not b || false) → IsTrue b
      has true so = refl
      has false so = absurd (true≢false so)

      un : (b : Bool) → IsFalse (b || false) → IsTrue (not b)
      un true so = absurd (true≢false so)
      un false so = refl

  absent_other : (got : List ℕ) → IsTrue (bytes_eq name got) → IsTrue (finds_other id name (doors.Call node inc (calls.Get got) Absent))
  absent_other got same = or_left (same_incarnation the_office (incarnation node inc) && bytes_eq name got) false (and_from (same_incarnation the_office (incarnation node inc)) (bytes_eq name got) office same)

-- behind a look the round must let go, or has found another id or none
module _ (P : Standing → Type 0) (held : Holding) (name : List ℕ) (node inc : ℕ) (office : IsTrue (same_incarnation the_office (incarnation node inc))) (plain : HoldsNoVersion name) (free : (goes_on : Bool) → P (MustFree goes_on held)) (next : Standing) (got : List ℕ) (same : IsTrue (bytes_eq name got)) where
  look_leads : (answer : KeeperAnswer) → IsTrue (is_answered (doors.Call node inc (calls.Get got) answer)) → (IsTrue (finds_other held.one.id name (doors.Call node inc (calls.Get got) answer)) → P next) → P (behind_desk_look held name next answer)
  look_leads Failed answered so = free true
  look_leads Absent answered so = so (absent_other held.one.id name node inc office plain got same)
  look_leads (Found bytes) answered so =
      either_way P (list_any (λ (pair : Pair). is_listed held.one.id (ids_in pair)) (found_pair name (Found bytes))) (MustFree true held)
      (if list_any (λ (pair : Pair). not (has_reading pair)) (found_pair name (Found bytes)) then MustFree false held else next) (λ listed. free true)
      (λ unlisted. either_way P (list_any (λ (pair : Pair). not (has_reading pair)) (found_pair name (Found bytes))) (MustFree false held) next (λ damaged. free false)
      (λ read. so (found_other held.one.id name node inc office plain bytes got same unlisted read)))
  look_leads answer answered so = absurd (false≢true answered)

-- ---- a turn at the door

-- one that is taken if a test is passed
pub taken_if : (passed : Bool) (standing x : Standing) → In x (stands_if passed standing) → IsTrue passed × (x ≡ standing)
taken_if true standing x (inl is) = (refl, is)
taken_if true standing x (inr none) = absurd none
taken_if false standing x none = absurd none

followed_snoc : {A : Type 0} (first second : A → Bool) (xs : List A) (x : A) → IsTrue (list_any first xs) → IsTrue (second x) → IsTrue (followed first (list_any second) (xs ++ x ∷ []))
followed_snoc first second [] x found passes = absurd (false≢true found)
followed_snoc first second (y ∷ ys) x found passes =
    elim (or_cases (first y) (list_any first ys) found) [
      | inl here ↦ or_left _ _ (and_from (first y) (list_any second (ys ++ x ∷ [])) here (any_from second x (ys ++ x ∷ []) (in_back x ys (x ∷ []) (inl refl)) passes))
      | inr later ↦ or_right (first y && list_any second (ys ++ x ∷ [])) _ (followed_snoc first second ys x later passes)
    ]

module _ (door : List DoorEntry) (by : By) where
  abbrev behind : DoorAct → List DoorEntry
  behind act = door ++ record { by = by; act = act } ∷ []

  abbrev turn_of : DoorAct → Turn
  turn_of act = AtDoor (length door) act

  dropped : (place : ℕ) (act : DoorAct) → place < length door → drop (suc place) (behind act) ≡ drop (suc place) door ++ record { by = by; act = act } ∷ []
  dropped place act lt = drop-append-le (suc place) door (record { by = by; act = act } ∷ []) lt

  claimed_here : (act : DoorAct) → length door < length (behind act)
  claimed_here act = (let e = length-append door (record { by = by; act = act } ∷ []) in omega arith)

  claimed_knows : (uuid : List ℕ) (act : DoorAct) (left : List VersionAt) (x : Standing) → AreNamed left → In x (held_for uuid left) → KnowsSo (behind act) (Some (record { uuid = uuid; place = length door })) x
  claimed_knows uuid act [] x named among = absurd among
  claimed_knows uuid act (one ∷ rest) x named among = cases (claimed_knows uuid act rest x (λ v there. named v (inr there))) (bytes_eq uuid one.id.uuid) among
    where
      place : AtDesk
      place = record { uuid = uuid; place = length door }

      cases : (In x (held_for uuid rest) → KnowsSo (behind act) (Some place) x) → (t : Bool) → In x (if t then Holds (record { one = one; rest = rest }) ∷ held_for uuid rest else held_for uuid rest) → KnowsSo (behind act) (Some place) x
      cases on true (inl is) = subst (λ (y : Standing). KnowsSo (behind act) (Some place) y) (sym is) (claimed_here act, named)
      cases on true (inr later) = on later
      cases on false later = on later

  left_knows : (left : List VersionAt) (act : DoorAct) (x : Standing) → AreNamed left → In x (moved_at_desk (turn_of act) (HasLeft left)) → KnowsSo (behind act) (desk_behind None (turn_of act)) x
  left_knows left (doors.Claim uuid node inc) x named among = cases (same_incarnation the_office (incarnation node inc)) among
    where
      cases : (t : Bool) → In x (if t then held_for uuid left else []) → KnowsSo (behind (doors.Claim uuid node inc)) (Some (record { uuid = uuid; place = length door })) x
      cases true is = claimed_knows uuid (doors.Claim uuid node inc) left x named is
      cases false none = absurd none
  left_knows left act x named among = absurd among

  module _ (desk : AtDesk) (held : Holding) (is : IsHeld door desk held) where
    abbrev So : DoorAct → Standing → Type 0
    So act x = KnowsSo (behind act) (desk_behind (Some desk) (turn_of act)) x

    is_still : (act : DoorAct) → IsHeld (behind act) desk held
    is_still act = still_held door (record { by = by; act = act } ∷ []) desk held is

    freed_knows : (goes_on : Bool) (act : DoorAct) (x : Standing) → In x (freed_at_desk goes_on held (turn_of act)) → So act x
    freed_knows goes_on (doors.Release uuid node inc) x among =
        subst (λ (y : Standing). KnowsSo (behind (doors.Release uuid node inc)) None y) (sym (taken_if (same_incarnation the_office (incarnation node inc) && bytes_eq held.one.id.uuid uuid) (if goes_on then HasLeft held.rest else MustTell) x among).1) (either goes_on)
      where
        either : (on : Bool) → KnowsSo (behind (doors.Release uuid node inc)) None (if on then HasLeft held.rest else MustTell)
        either true = λ v there. is.1 v (inr there)
        either false = tt
    freed_knows goes_on act x among = absurd among

    looked_knows : (name : List ℕ) (next : Standing) → HoldsNoVersion name → (act : DoorAct) (x : Standing) → IsTrue (is_answered act) → (IsTrue (finds_other held.one.id name act) → KnowsSo (behind act) (Some desk) next) → In x (looked_at_desk held name next (turn_of act)) → So act x
    looked_knows name next plain (doors.Call node inc (calls.Get got) answer) x answered so among =
        let one = taken_if (same_incarnation the_office (incarnation node inc) && bytes_eq name got) (behind_desk_look held name next answer) x among in
        let parts = and_parts (same_incarnation the_office (incarnation node inc)) (bytes_eq name got) one.0 in
        subst (λ (y : Standing). KnowsSo (behind (doors.Call node inc (calls.Get got) answer)) (Some desk) y) (sym one.1)
        (look_leads (λ (y : Standing). KnowsSo (behind (doors.Call node inc (calls.Get got) answer)) (Some desk) y) held name node inc parts.0 plain (λ goes_on. is_still (doors.Call node inc (calls.Get got) answer)) next got parts.1 answer answered so)
    looked_knows name next plain act x answered so among = freed_knows false act x among

    deleted_knows : (act : DoorAct) (x : Standing) → In x (deleted_at_desk held (turn_of act)) → So act x
    deleted_knows (doors.Call node inc (calls.Delete name) answer) x among =
        subst (λ (y : Standing). KnowsSo (behind (doors.Call node inc (calls.Delete name) answer)) (Some desk) y)
        (sym (taken_if (same_incarnation the_office (incarnation node inc) && bytes_eq (version_name held.one.key held.one.id) name) (MustFree true held) x among).1) (is_still (doors.Call node inc (calls.Delete name) answer))
    deleted_knows act x among = freed_knows false act x among

    -- the two looks
    no_record : (act : DoorAct) → IsTrue (finds_other held.one.id (record_name held.one.id.uuid) act) → KnowsSo (behind act) (Some desk) (LookedOnce held)
    no_record act finds_it = (
      is_still act,
      subst (λ (l : List DoorEntry). IsTrue (list_any (λ (e : DoorEntry). finds_other held.one.id (record_name held.one.id.uuid) e.act) l)) (sym (dropped desk.place act is.0))
          (any_from (λ (e : DoorEntry). finds_other held.one.id (record_name held.one.id.uuid) e.act) (record { by = by; act = act }) (drop (suc desk.place) door ++ record { by = by; act = act } ∷ []) (in_back (record { by = by; act = act }) (drop (suc desk.place) door) (record { by = by; act = act } ∷ []) (inl refl)) finds_it),
    )

    no_marker : IsTrue (found_no_record held.one.id desk.place door) → (act : DoorAct) → IsTrue (finds_other held.one.id (marker_name held.one.id.uuid) act) → KnowsSo (behind act) (Some desk) (LookedTwice held)
    no_marker found act finds_it =
        let first : DoorEntry → Bool = λ e. finds_other held.one.id (record_name held.one.id.uuid) e.act in
        let second : DoorEntry → Bool = λ e. finds_other held.one.id (marker_name held.one.id.uuid) e.act in
        (is_still act, subst (λ (l : List DoorEntry). IsTrue (followed first (list_any second) l)) (sym (dropped desk.place act is.0)) (followed_snoc first second (drop (suc desk.place) door) (record { by = by; act = act }) found finds_it))

  no_version_there : (uuid : List ℕ) → HoldsNoVersion (record_name uuid)
  no_version_there uuid bytes = no_version uuid (version_of bytes)

  no_version_marked : (uuid : List ℕ) → HoldsNoVersion (marker_name uuid)
  no_version_marked uuid bytes = none (version_of bytes)
    where
      none : (r : Result Version RecordFault) → read_under (marker_name uuid) (λ (v : Version). version_name v.key v.id) r ≡ []
      none (Ok v) = refl
      none (Err e) = refl

  moved_knows : (desk : Option AtDesk) (standing : Standing) → KnowsSo door desk standing → (act : DoorAct) → IsTrue (is_answered act) → (x : Standing) → In x (moved_at_desk (turn_of act) standing) → KnowsSo (behind act) (desk_behind desk (turn_of act)) x
  moved_knows None (HasLeft left) knows act answered x among = left_knows left act x knows among
  moved_knows None MustTell knows act answered x among = absurd among
  moved_knows (Some desk) (Holds held) knows act answered x among =
      looked_knows desk held knows (record_name held.one.id.uuid) (LookedOnce held) (no_version_there held.one.id.uuid) act x answered (no_record desk held knows act) among
  moved_knows (Some desk) (LookedOnce held) knows act answered x among =
      looked_knows desk held knows.0 (marker_name held.one.id.uuid) (LookedTwice held) (no_version_marked held.one.id.uuid) act x answered (no_marker desk held knows.0 knows.1 act) among
  moved_knows (Some desk) (LookedTwice held) knows act answered x among = deleted_knows desk held knows.0 act x among
  moved_knows (Some desk) (MustFree goes_on held) knows act answered x among = freed_knows desk held knows goes_on act x among
  moved_knows desk standing knows act answered x among = absurd knows

  -- ---- where it leads

  found_named : (pairs : List Pair) → AreNamed (found_on pairs)
  found_named pairs one among = (let found = in_flat_map (λ (pair : Pair). found_by (name_of pair.name)) one pairs among in by_name found.0.name (name_of found.0.name) refl found.2)
    where
      by_name : (name : List ℕ) (read : Option Name) → name_of name ≡ read → In one (found_by read) → IsNamed one
      by_name name (Some (VersionOf key id)) is (inl same) =
          subst IsNamed (sym same) (ap name_of (sym (spelled name (VersionOf key id) is).1) ∙ is)
      by_name name (Some (VersionOf key id)) is (inr none) = absurd none
      by_name name read is none = absurd none

  page_knows : (act : DoorAct) (scans : List Scan) (otherwise : Option Progress) → KnowsIf (behind act) otherwise → KnowsIf (behind act) (paged_by behind_orphan_page scans otherwise)
  page_knows act [] otherwise knows = knows
  page_knows act (GoesOn scan ∷ scans) otherwise knows = tt
  page_knows act (HasEnded true scan ∷ scans) otherwise knows = λ x among. elim among [ inl is ↦ subst (λ (y : Standing). KnowsSo (behind act) None y) (sym is) (found_named scan.listed) | inr none ↦ absurd none ]
  page_knows act (HasEnded false scan ∷ scans) otherwise knows = λ x among. elim among [ inl is ↦ subst (λ (y : Standing). KnowsSo (behind act) None y) (sym is) tt | inr none ↦ absurd none ]

  round_knows : (desk : Option AtDesk) (act : DoorAct) (xs : List Standing) → ((x : Standing) → In x xs → KnowsSo (behind act) desk x) → KnowsIf (behind act) (in_round desk xs)
  round_knows desk act [] each = tt
  round_knows desk act (x ∷ xs) each = each

  turn_knows : (key : List ℕ) (position : Progress) (act : DoorAct) → IsTrue (is_answered act) → Knows door position → KnowsIf (behind act) (advance_orphans key position (turn_of act))
  turn_knows key NotBegun act answered knows = page_knows act (scanned_by (scan_of versions_limit the_office (versions_prefix key)) (turn_of act)) None tt
  turn_knows key (OrphanScan scan) act answered knows = page_knows act (scanned_by scan (turn_of act)) None tt
  turn_knows key (InRound desk standings) act answered knows =
      either_way (KnowsIf (behind act)) (list_any (told_at_desk (turn_of act)) standings) (Some IsOver) (in_round (desk_behind desk (turn_of act)) (flat_map (moved_at_desk (turn_of act)) standings)) (λ told. tt)
      (λ untold. round_knows (desk_behind desk (turn_of act)) act (flat_map (moved_at_desk (turn_of act)) standings)
      (λ x among. (let found = in_flat_map (moved_at_desk (turn_of act)) x standings among in moved_knows desk found.0 (knows found.0 found.1) act answered x found.2)))
  turn_knows key position act answered knows = tt

  line_knows : (key nodes : List ℕ) (ends : Ends) (position : Progress) (act : DoorAct) → IsTrue (is_answered act) → Knows door position → KnowsIf (behind act) (advance (commands.Orphans key) nodes ends position (turn_of act))
  line_knows key nodes ends NotBegun act answered knows = turn_knows key NotBegun act answered knows
  line_knows key nodes ends position act answered knows = turn_knows key position act answered knows

  pub goes_knowing : (key nodes : List ℕ) (ends : Ends) (position next : Progress) (act : DoorAct) → IsTrue (is_answered act) → Knows door position → advance (commands.Orphans key) nodes ends position (turn_of act) ≡ Some next → Knows (behind act) next
  goes_knowing key nodes ends position next act answered knows goes = subst (KnowsIf (behind act)) goes (line_knows key nodes ends position act answered knows)
